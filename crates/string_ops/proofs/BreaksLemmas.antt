-- The machine of line breaks follows `nl2br`.
use Rattle.std.proofs.Common.{◌≡◌, ◌==◌, ◌&&◌, ℕ, ◌+◌, ◌<◌, false, List, [], ◌∷◌, ◌++◌, map, refl, sym, ◌∙◌, ap, subst, arith, inl, inr, if◌then◌else◌}
use Rattle.std.proofs.lemmas.Bool.{cases_eq, cond_both, ne_eqb, or_from, and_right}
use Rattle.std.proofs.lemmas.List.Elements.{All-cons, All-nil}
use Rattle.string_functions.specs.Breaks.{is_line_end, begins_pair, breaks_past, breaks_of}
use Rattle.fst_core.specs.declared.out.Out.{Out}
use Rattle.fst_core.specs.declared.out.Out.TheVariants.{Same}
use Rattle.fst_core.specs.declared.table.Table.{Table}
use Rattle.string_ops.specs.Listed.{IsShort, AreSmall, IsListed, IsMachine, byte_of}
use Rattle.string_ops.specs.Breaks.{is_second, breaks_next, breaks_put, breaks_row, breaks_last, breaks_rows, breaks_lasts}
use Rattle.string_ops.proofs.ListedLemmas.{IsFunction, follows_function, listed_machine}
use Rattle.string_ops.proofs.PlanFunctions.{below_small, below_function}

-- what is left to be put out from each state
abbrev breaks_from : ℕ → List ℕ → List ℕ
breaks_from s text = if s == 0 then breaks_past false text else (if s == 1 then breaks_past (begins_pair 13 text) text else breaks_past (begins_pair 10 text) text)

-- each state is one of three
at_state : (P : ℕ → Type 0) (s : ℕ) → s < 3 → P 0 → P 1 → P 2 → P s
at_state P s inside zero one two =
    elim (cases_eq s 0) [
      | inl e ↦ subst P (sym e) zero
      | inr n0 ↦ elim (cases_eq s 1) [
        | inl e ↦ subst P (sym e) one
        | inr n1 ↦ let e : 2 ≡ s = omega (arith, inside, n0, n1) in subst P e two
      ]
    ]

-- a byte is LF, CR or another
at_byte : (P : ℕ → Type 0) (b : ℕ) → P 10 → P 13 → ((b == 10) ≡ false → (b == 13) ≡ false → P b) → P b
at_byte P b lf cr other =
    elim (cases_eq b 10) [
      | inl e ↦ subst P (sym e) lf
      | inr n10 ↦ elim (cases_eq b 13) [
        | inl e ↦ subst P (sym e) cr
        | inr n13 ↦ other (ne_eqb b 10 n10) (ne_eqb b 13 n13)
      ]
    ]

Steps : ℕ → ℕ → Type 0
Steps s b = (text : List ℕ) → map (byte_of b) (breaks_put s b) ++ breaks_from (breaks_next s b) text ≡ breaks_from s (b ∷ text)

-- from each state a byte that ends no line is put out, and state 0 comes next
plain_from : (s b : ℕ) (text : List ℕ) → is_line_end b ≡ false → breaks_from s (b ∷ text) ≡ b ∷ breaks_past false text
plain_from s b text plain =
    let P : List ℕ → Type 0 = λ xs. xs ≡ b ∷ breaks_past false text in
    cond_both (s == 0) _ _ P (λ _. rw plain refl) (λ _. cond_both (s == 1) _ _ P (λ _. rw (plain, plain) refl) (λ _. rw (plain, plain) refl))

plain_step : (s b : ℕ) → (b == 10) ≡ false → (b == 13) ≡ false → Steps s b
unfolding Steps
plain_step s b lf cr text =
    let plain : is_line_end b ≡ false = or_from (b == 10) (b == 13) lf cr in
    let first : is_second s b ≡ false = or_from (s == 1 && b == 10) (s == 2 && b == 13) (and_right (s == 1) (b == 10) lf) (and_right (s == 2) (b == 13) cr) in
    let put : breaks_put s b ≡ Same ∷ [] = rw (first, plain) refl in
    let next : breaks_next s b ≡ 0 = rw (first, cr, lf) refl in
    ap (λ (out : List Out). map (byte_of b) out ++ breaks_from (breaks_next s b) text) put ∙ ap (λ (n : ℕ). b ∷ breaks_from n text) next ∙ sym (plain_from s b text plain)

breaks_step : (s b : ℕ) → s < 3 → Steps s b
unfolding Steps
breaks_step s b inside =
    at_state (λ n. Steps n b) s inside
    (at_byte (Steps 0) b (λ text. refl) (λ text. refl) (λ lf cr. plain_step 0 b lf cr))
    (at_byte (Steps 1) b (λ text. refl) (λ text. refl) (λ lf cr. plain_step 1 b lf cr))
    (at_byte (Steps 2) b (λ text. refl) (λ text. refl) (λ lf cr. plain_step 2 b lf cr))

-- what stays below three
breaks_inside : (s b : ℕ) → breaks_next s b < 3
breaks_inside s b = cond_both (is_second s b) _ _ (λ (n : ℕ). n < 3) (λ _. omega arith) (λ _. cond_both (b == 13) _ _ (λ (n : ℕ). n < 3) (λ _. omega arith) (λ _. cond_both (b == 10) _ _ (λ (n : ℕ). n < 3) (λ _. omega arith) (λ _. omega arith)))

breaks_function : IsFunction breaks_rows breaks_lasts (λ s. s < 3) breaks_from
unfolding Steps
breaks_function =
    below_function 3 breaks_next breaks_put breaks_from (λ s b inside below. breaks_inside s b) (λ s inside. at_state (λ n. [] ≡ breaks_from n []) s inside refl refl refl) (λ s b inside below. breaks_step s b inside)

short_put : (s b : ℕ) → IsShort 8 (breaks_put s b)
short_put s b = cond_both (is_second s b) _ _ (IsShort 8) (λ _. (refl, omega arith)) (λ _. cond_both (is_line_end b) _ _ (IsShort 8) (λ _. (refl, omega arith)) (λ _. (refl, omega arith)))

breaks_small : AreSmall breaks_rows breaks_lasts 8
breaks_small =
    below_small 3 breaks_row breaks_last 8 (record {
      few = λ s byte. omega arith;
      moves = λ s byte. All-cons (λ (p : ℕ × List Out). IsShort 8 p.1) (breaks_next s byte, breaks_put s byte) [] (short_put s byte) (All-nil (λ (p : ℕ × List Out). IsShort 8 p.1));
      ends = λ s. All-cons (IsShort 8) [] [] (refl, omega arith) (All-nil (IsShort 8));
    })

pub breaks_is_machine : (table : Table) → IsListed table 3 breaks_rows breaks_lasts → IsMachine table 0 (λ input output. output ≡ breaks_of input)
breaks_is_machine table listed =
    listed_machine table 3 breaks_rows breaks_lasts 0 (λ input output. output ≡ breaks_of input) listed breaks_small (omega arith)
    (λ input output bytes. follows_function breaks_rows breaks_lasts (λ s. s < 3) breaks_from breaks_function 0 (omega arith) input output bytes)
