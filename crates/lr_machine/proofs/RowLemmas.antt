-- Rows of tables in memory: what a state does at terminals, and behind them at nonterminals.
use Rattle.std.proofs.Common.{◌≡◌, ℕ, zero, suc, ◌+◌, ◌-◌, ◌<◌, ◌≤◌, List, [], ◌∷◌, ◌++◌, length, get_or, refl, ap, ◌∙◌, sym, arith, true, false}
use Rattle.std.specs.Prelude.{ltb}
use Rattle.std.proofs.lemmas.Bool.{ltb-true, ltb-false}
use Rattle.std.proofs.lemmas.List.{append-nil, get_or_default, get_or_append_left}
use Rattle.std.proofs.Math.ListN.{get_or-eq_default}
use Rattle.std.proofs.Math.Seq.{get_or-append_right}
use Rattle.lr_machine.specs.Shown.{gotos_of, rows_of}

pub found_is : {X : Type 0} (xs : List X) (i : ℕ) (x d : X) → true ≡ ltb i (length xs) → x ≡ get_or xs i x → x ≡ get_or xs i d
found_is xs i x d within is = is ∙ get_or_default xs i x d (ltb-true i (length xs) (sym within))

pub gotos_are : (gotos : List (List ℕ)) (places : List ℕ) (s : ℕ) → s < length places → gotos_of gotos places s ≡ get_or gotos (get_or places s 0) []
gotos_are gotos [] s l = absurd (omega arith)
gotos_are gotos (p ∷ places) zero l = refl
gotos_are gotos (p ∷ places) (suc s) l = gotos_are gotos places s (omega arith)

pub no_gotos : (gotos : List (List ℕ)) (places : List ℕ) (s : ℕ) → length places ≤ s → gotos_of gotos places s ≡ []
no_gotos gotos [] s l = refl
no_gotos gotos (p ∷ places) zero l = absurd (omega arith)
no_gotos gotos (p ∷ places) (suc s) l = no_gotos gotos places s (omega arith)

pub row_is : (rows gotos : List (List ℕ)) (places : List ℕ) (s : ℕ) → s < length rows → get_or (rows_of rows gotos places) s [] ≡ get_or rows s [] ++ gotos_of gotos places s
row_is [] gotos places s l = absurd (omega arith)
row_is (row ∷ rows) gotos [] zero l = sym (append-nil row)
row_is (row ∷ rows) gotos [] (suc s) l = row_is rows gotos [] s (omega arith)
row_is (row ∷ rows) gotos (p ∷ places) zero l = refl
row_is (row ∷ rows) gotos (p ∷ places) (suc s) l = row_is rows gotos places s (omega arith)

pub no_row : (rows gotos : List (List ℕ)) (places : List ℕ) (s : ℕ) → length rows ≤ s → get_or (rows_of rows gotos places) s [] ≡ []
no_row [] gotos places s l = refl
no_row (row ∷ rows) gotos places zero l = absurd (omega arith)
no_row (row ∷ rows) gotos [] (suc s) l = no_row rows gotos [] s (omega arith)
no_row (row ∷ rows) gotos (p ∷ places) (suc s) l = no_row rows gotos places s (omega arith)

module _ (rows gotos : List (List ℕ)) (places row : List ℕ) (s x : ℕ) where
  abbrev code : ℕ
  code = get_or (get_or (rows_of rows gotos places) s []) x 0

  is_row : true ≡ ltb s (length rows) → row ≡ get_or rows s row → get_or (rows_of rows gotos places) s [] ≡ row ++ gotos_of gotos places s
  is_row within is = row_is rows gotos places s (ltb-true s (length rows) (sym within)) ∙ ap (λ (ys : List ℕ). ys ++ gotos_of gotos places s) (sym (found_is rows s row [] within is))

  pub at_terminal : true ≡ ltb s (length rows) → row ≡ get_or rows s row → x < length row → get_or row x 0 ≡ code
  at_terminal within is l = sym (ap (λ (ys : List ℕ). get_or ys x 0) (is_row within is) ∙ get_or_append_left row (gotos_of gotos places s) 0 x l)

  pub at_nonterminal : true ≡ ltb s (length rows) → row ≡ get_or rows s row → length row ≤ x → get_or (gotos_of gotos places s) (x - length row) 0 ≡ code
  at_nonterminal within is l = sym (ap (λ (ys : List ℕ). get_or ys x 0) (is_row within is) ∙ get_or-append_right row (gotos_of gotos places s) x 0 l)

pub nowhere : (rows gotos : List (List ℕ)) (places : List ℕ) (s x : ℕ) → false ≡ ltb s (length rows) → 0 ≡ get_or (get_or (rows_of rows gotos places) s []) x 0
nowhere rows gotos places s x past = sym (ap (λ (ys : List ℕ). get_or ys x 0) (no_row rows gotos places s (ltb-false s (length rows) (sym past))))

pub gotos_found : (gotos : List (List ℕ)) (places row : List ℕ) (s p : ℕ) → true ≡ ltb s (length places) → p ≡ get_or places s p → true ≡ ltb p (length gotos) → row ≡ get_or gotos p row → row ≡ gotos_of gotos places s
gotos_found gotos places row s p within is there at = found_is gotos p row [] there at ∙ sym (gotos_are gotos places s (ltb-true s (length places) (sym within)) ∙ ap (λ (q : ℕ). get_or gotos q []) (sym (found_is places s p 0 within is)))

pub gotos_not_there : (gotos : List (List ℕ)) (places : List ℕ) (s p : ℕ) → true ≡ ltb s (length places) → p ≡ get_or places s p → false ≡ ltb p (length gotos) → [] ≡ gotos_of gotos places s
gotos_not_there gotos places s p within is past = sym (gotos_are gotos places s (ltb-true s (length places) (sym within)) ∙ ap (λ (q : ℕ). get_or gotos q []) (sym (found_is places s p 0 within is)) ∙ get_or-eq_default gotos [] (ltb-false p (length gotos) (sym past)))

pub gotos_past : (gotos : List (List ℕ)) (places : List ℕ) (s : ℕ) → false ≡ ltb s (length places) → [] ≡ gotos_of gotos places s
gotos_past gotos places s past = sym (no_gotos gotos places s (ltb-false s (length places) (sym past)))
