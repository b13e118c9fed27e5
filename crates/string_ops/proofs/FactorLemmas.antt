-- The machine of parts follows each part.
use Rattle.std.proofs.Common.{◌≡◌, ◌==◌, ℕ, ◌+◌, ◌-◌, ◌≤◌, ◌↔◌, ◌⊎◌, inl, inr, false, List, [], ◌∷◌, ◌++◌, length, cond, ltb, refl, sym, ◌∙◌, ap, subst, arith}
use Rattle.std.proofs.lemmas.Bool.{cases_eq, ne_eqb}
use Rattle.std.proofs.lemmas.List.{length-append}
use Rattle.std.proofs.lemmas.List.Elements.{All-append}
use Rattle.string_functions.specs.Cut.{IsFactor}
use Rattle.fst_core.specs.declared.out.Out.{Out}
use Rattle.fst_core.specs.declared.out.Out.TheVariants.{Same}
use Rattle.fst_core.specs.Choices.{choices, stops}
use Rattle.fst_core.specs.declared.moves.TableMove.{TableMove}
use Rattle.fst_core.specs.declared.moves.TableEnd.{TableEnd}
use Rattle.fst_core.specs.declared.table.Table.{Table}
use Rattle.string_ops.specs.Listed.{Follows, IsShort, AreSmall, IsListed, IsMachine}
use Rattle.string_ops.specs.Search.{AddsTurns, AddsStop}
use Rattle.string_ops.specs.Factor.{factor_rows, factor_lasts}
use Rattle.string_ops.proofs.ListedLemmas.{listed_machine}
use Rattle.string_ops.proofs.PieceLemmas.{follows_one, follows_two, ends_one, all_part, few_part, short_nothing, five_parts}

-- the text begins so
abbrev Begins : List ℕ → List ℕ → Type 0
Begins text out = (rest : List ℕ) × (text ≡ out ++ rest)

record FollowsParts (text : List ℕ) : Type 0 where
  before : (out : List ℕ) → Follows factor_rows factor_lasts 0 text out ↔ IsFactor text out
  inside : (out : List ℕ) → Follows factor_rows factor_lasts 1 text out ↔ Begins text out
  after : (out : List ℕ) → Follows factor_rows factor_lasts 2 text out ↔ (out ≡ [])

empty_left : (xs ys : List ℕ) → [] ≡ xs ++ ys → xs ≡ []
empty_left [] ys e = refl
empty_left (x ∷ xs) ys e = cc

empty_right : (xs ys : List ℕ) → [] ≡ xs ++ ys → ys ≡ []
empty_right [] ys e = sym e
empty_right (x ∷ xs) ys e = cc

factor_cases : (b : ℕ) (text out before after : List ℕ) → b ∷ text ≡ before ++ (out ++ after) → IsFactor text out ⊎ ((rest : List ℕ) × Begins text rest × (b ∷ rest ≡ out))
factor_cases b text [] [] after e = inl (record { before = []; after = text; whole = refl })
factor_cases b text (o ∷ out) [] after e =
    let h : b ≡ o = cc in
    let t : text ≡ out ++ after = cc in
    inr (out, (after, t), ap (λ (x : ℕ). x ∷ out) h)
factor_cases b text out (x ∷ before) after e =
    let t : text ≡ before ++ (out ++ after) = cc in
    inl (record { before = before; after = after; whole = t })

begins_cases : (b : ℕ) (text out rest : List ℕ) → b ∷ text ≡ out ++ rest → ((more : List ℕ) × Begins text more × (b ∷ more ≡ out)) ⊎ (out ≡ [])
begins_cases b text [] rest e = inr refl
begins_cases b text (o ∷ out) rest e =
    let h : b ≡ o = cc in
    let t : text ≡ out ++ rest = cc in
    inl (out, (rest, t), ap (λ (x : ℕ). x ∷ out) h)

parts_follow : (text : List ℕ) → FollowsParts text
parts_follow [] =
    record {
      before = λ out.
          let e = ends_one factor_rows factor_lasts 0 [] out refl in (
            λ f. record { before = []; after = []; whole = ap (λ (x : List ℕ). x ++ []) (e.0 f) },
            λ f. e.1 (sym (empty_left out f.after (sym (empty_right f.before (out ++ f.after) f.whole)))),
          );
      inside = λ out.
          let e = ends_one factor_rows factor_lasts 1 [] out refl in
          (λ f. ([], ap (λ (x : List ℕ). x ++ []) (e.0 f)), λ f. e.1 (sym (empty_left out f.0 f.1)));
      after = λ out.
          let e = ends_one factor_rows factor_lasts 2 [] out refl in
          (λ f. sym (e.0 f), λ f. e.1 (sym f));
    }
parts_follow (b ∷ text) =
    let ih = parts_follow text in
    record {
      before = λ out.
          let two = follows_two factor_rows factor_lasts 0 b (0, []) (1, Same ∷ []) text out refl in (
            λ f. elim (two.0 f) [
              | inl g ↦
                  let k = (ih.before g.0).0 g.1 in
                  record { before = b ∷ k.before; after = k.after; whole = ap (λ (x : List ℕ). b ∷ x) (k.whole ∙ ap (λ (x : List ℕ). k.before ++ (x ++ k.after)) g.2) }
              | inr g ↦
                  let k = (ih.inside g.0).0 g.1 in
                  record { before = []; after = k.0; whole = ap (λ (x : List ℕ). b ∷ x) k.1 ∙ ap (λ (x : List ℕ). x ++ k.0) g.2 }
            ],
            λ f. two.1 (elim (factor_cases b text out f.before f.after f.whole) [
              | inl k ↦ inl (out, (ih.before out).1 k, refl)
              | inr k ↦ inr (k.0, (ih.inside k.0).1 k.1, k.2)
            ]),
          );
      inside = λ out.
          let two = follows_two factor_rows factor_lasts 1 b (1, Same ∷ []) (2, []) text out refl in (
            λ f. elim (two.0 f) [
              | inl g ↦
                  let k = (ih.inside g.0).0 g.1 in
                  (k.0, ap (λ (x : List ℕ). b ∷ x) k.1 ∙ ap (λ (x : List ℕ). x ++ k.0) g.2)
              | inr g ↦
                  let k : out ≡ [] = sym g.2 ∙ (ih.after g.0).0 g.1 in
                  (b ∷ text, ap (λ (x : List ℕ). x ++ (b ∷ text)) (sym k))
            ],
            λ f. two.1 (elim (begins_cases b text out f.0 f.1) [
              | inl k ↦ inl (k.0, (ih.inside k.0).1 k.1, k.2)
              | inr k ↦ inr (out, (ih.after out).1 k, refl)
            ]),
          );
      after = λ out.
          let one = follows_one factor_rows factor_lasts 2 b (2, []) text out refl in
          (λ f. let g = one.0 f in sym g.2 ∙ (ih.after g.0).0 g.1, λ f. one.1 (out, (ih.after out).1 f, refl));
    }

short_same : (most : ℕ) → 1 ≤ most → IsShort most (Same ∷ [])
short_same most h = (refl, h)

factor_small : (most : ℕ) → 1 ≤ most → AreSmall factor_rows factor_lasts most
factor_small most h =
    let P : ℕ × List Out → Type 0 = λ q. IsShort most q.1 in
    record {
      few = λ s byte.
          let a : List (ℕ × List Out) = cond (0 == s) ((0, []) ∷ []) [] in
          let b : List (ℕ × List Out) = cond (0 == s) ((1, Same ∷ []) ∷ []) [] in
          let c : List (ℕ × List Out) = cond (1 == s) ((1, Same ∷ []) ∷ []) [] in
          let d : List (ℕ × List Out) = cond (1 == s) ((2, []) ∷ []) [] in
          let e : List (ℕ × List Out) = cond (2 == s) ((2, []) ∷ []) [] in
          elim (cases_eq 0 s) [
            | inl q ↦ subst (λ (n : ℕ). length (factor_rows n byte) ≤ 4) q (omega arith)
            | inr ne ↦
                let f : (0 == s) ≡ false = ne_eqb 0 s ne in
                let la : length a ≡ 0 = rw f refl in
                let lb : length b ≡ 0 = rw f refl in
                omega (arith, la, lb, few_part {X = ℕ × List Out} (1 == s) (1, Same ∷ []), few_part {X = ℕ × List Out} (1 == s) (2, []), few_part {X = ℕ × List Out} (2 == s) (2, []), length-append (((a ++ b) ++ c) ++ d) e, length-append ((a ++ b) ++ c) d, length-append (a ++ b) c, length-append a b)
          ];
      moves = λ s byte.
          All-append P (((cond (0 == s) ((0, []) ∷ []) [] ++ cond (0 == s) ((1, Same ∷ []) ∷ []) []) ++ cond (1 == s) ((1, Same ∷ []) ∷ []) []) ++ cond (1 == s) ((2, []) ∷ []) []) (cond (2 == s) ((2, []) ∷ []) [])
          (All-append P ((cond (0 == s) ((0, []) ∷ []) [] ++ cond (0 == s) ((1, Same ∷ []) ∷ []) []) ++ cond (1 == s) ((1, Same ∷ []) ∷ []) []) (cond (1 == s) ((2, []) ∷ []) [])
          (All-append P (cond (0 == s) ((0, []) ∷ []) [] ++ cond (0 == s) ((1, Same ∷ []) ∷ []) []) (cond (1 == s) ((1, Same ∷ []) ∷ []) [])
          (All-append P (cond (0 == s) ((0, []) ∷ []) []) (cond (0 == s) ((1, Same ∷ []) ∷ []) []) (all_part P (0 == s) (0, []) (λ q. short_nothing most)) (all_part P (0 == s) (1, Same ∷ []) (λ q. short_same most h)))
          (all_part P (1 == s) (1, Same ∷ []) (λ q. short_same most h)))
          (all_part P (1 == s) (2, []) (λ q. short_nothing most)))
          (all_part P (2 == s) (2, []) (λ q. short_nothing most));
      ends = λ s.
          All-append (IsShort most) (cond (0 == s) ([] ∷ []) [] ++ cond (1 == s) ([] ∷ []) []) (cond (2 == s) ([] ∷ []) [])
          (All-append (IsShort most) (cond (0 == s) ([] ∷ []) []) (cond (1 == s) ([] ∷ []) []) (all_part (IsShort most) (0 == s) [] (λ q. short_nothing most)) (all_part (IsShort most) (1 == s) [] (λ q. short_nothing most)))
          (all_part (IsShort most) (2 == s) [] (λ q. short_nothing most));
    }

pub factor_is_machine : (table : Table) → IsListed table 3 factor_rows factor_lasts → IsMachine table 0 (λ input output. IsFactor input output)
factor_is_machine table listed =
    listed_machine table 3 factor_rows factor_lasts 0 (λ input output. IsFactor input output) listed (factor_small 8 (omega arith)) (omega arith) (λ input output bytes. (parts_follow input).before output)

pub factor_listed : (table : Table) (t0 t1 t2 t3 t4 : List TableMove) (e0 e1 e2 : List TableEnd) → table.states ≡ 3 → table.start ≡ 0 → t0 ≡ [] → AddsTurns t0 t1 0 (λ byte. (0, [])) → AddsTurns t1 t2 0 (λ byte. (1, Same ∷ [])) → AddsTurns t2 t3 1 (λ byte. (1, Same ∷ [])) → AddsTurns t3 t4 1 (λ byte. (2, [])) → AddsTurns t4 table.moves.items 2 (λ byte. (2, [])) → e0 ≡ [] → AddsStop e0 e1 0 → AddsStop e1 e2 1 → AddsStop e2 table.ends.items 2 → IsListed table 3 factor_rows factor_lasts
factor_listed table t0 t1 t2 t3 t4 e0 e1 e2 states start z a b c d e y f g h =
    record {
      count = states;
      start = start;
      moves = λ s byte.
          let az : choices t0 s byte ≡ [] = ap (λ (x : List TableMove). choices x s byte) z in
          rw (e s byte, d s byte, c s byte, b s byte, a s byte, az) (five_parts (ltb byte 256) (0 == s) (0 == s) (1 == s) (1 == s) (2 == s) ((0, []) ∷ []) ((1, Same ∷ []) ∷ []) ((1, Same ∷ []) ∷ []) ((2, []) ∷ []) ((2, []) ∷ []));
      ends = λ s.
          let ez : stops e0 s ≡ [] = ap (λ (x : List TableEnd). stops x s) y in
          rw (h s, g s, f s, ez) refl;
    }
