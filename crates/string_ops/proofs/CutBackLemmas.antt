-- The machine of a cut from the end relates what `substr` does.
use Rattle.std.proofs.Common.{◌≡◌, ◌==◌, ◌&&◌, not, ℕ, zero, suc, ◌+◌, ◌-◌, ◌*◌, ◌<◌, ◌≤◌, Bool, true, false, ℤ, pos, negsuc, Option, None, Some, List, [], ◌∷◌, ◌++◌, length, take, drop, map, All, refl, sym, ◌∙◌, ap, subst, arith, cond, inl, inr, nat_lt, nat_le, if◌then◌else◌, append-nil}
use Rattle.std.specs.Prelude.{MatchBool, slice_get, option_to_list}
use Rattle.std.specs.List.{Contains}
use Rattle.std.proofs.lemmas.Bool.{cases_Bool, cases_eq, cases_lt, cond_both, false≢true, and_parts, lt-ltb, le-ltb, le-leb, eq-eqb, and_from, not-true, not_from_false, ltb-true, leb-true, eqb-true, ltb-false, ne_eqb, cond-true}
use Rattle.std.proofs.lemmas.List.Elements.{All-cons, All-nil, All-contains, All-weaker}
use Rattle.string_functions.specs.Cut.{start_in, end_in, part_of}
use Rattle.string_functions.proofs.Members.{Contains-nil, Contains-head, Contains-later, Contains-cons_cases}
use Rattle.op_system.specs.Size.{size_of_length}
use Rattle.fst_core.specs.declared.out.Out.{Out}
use Rattle.fst_core.specs.declared.out.Out.TheVariants.{Same}
use Rattle.fst_core.specs.declared.table.Table.{Table}
use Rattle.std.proofs.lemmas.Option.{slice_get_within, get_or_from_slice_get}
use Rattle.fst_core.specs.Choices.{choices, stops}
use Rattle.fst_core.specs.declared.moves.TableMove.{TableMove}
use Rattle.fst_core.specs.declared.moves.TableEnd.{TableEnd}
use Rattle.string_ops.specs.Plans.{AddsTurn, AddsState, rows_below, lasts_below}
use Rattle.string_ops.specs.Search.{AddsTurns, AddsStop}
use Rattle.string_ops.specs.Listed.{Rows, Lasts, IsShort, AreSmall, IsListed, IsMachine, byte_of}
use Rattle.string_ops.specs.CutBack.{state_of, phase_of, number_of, states_of, kept_of_last, is_counted, dropped_of, put_of, back_choices, back_ends, back_row, back_last, back_rows, back_lasts}
use Rattle.string_ops.proofs.ListedLemmas.{listed_machine}
use Rattle.string_ops.proofs.PlanFunctions.{below_small}
use Rattle.string_ops.proofs.Relations.{Simulates, follows_relation}
use Rattle.string_ops.proofs.TrimLemmas.{only, either}

-- a text of at least the last bytes, and one more byte in front
part_of-long : (below : ℕ) (len : Option ℤ) (b : ℕ) (text : List ℕ) → suc below ≤ length text → part_of (b ∷ text) (negsuc below) len ≡ take (kept_of_last (suc below) len (suc below)) (drop (length text - suc below) text)
part_of-long below None b text long =
    let from : suc (length text) - suc below ≡ suc (length text - suc below) = omega arith in
    let count : suc (length text) - (suc (length text) - suc below) ≡ suc below = omega arith in
    ap (λ n. take n (drop (suc (length text) - suc below) (b ∷ text))) count ∙ ap (λ n. take (suc below) (drop n (b ∷ text))) from
part_of-long below (Some (pos len)) b text long =
    let from : suc (length text) - suc below ≡ suc (length text - suc below) = omega arith in
    let count : (suc (length text) - suc below + len) - (suc (length text) - suc below) ≡ len - (suc below - suc below) = omega arith in
    ap (λ n. take n (drop (suc (length text) - suc below) (b ∷ text))) count ∙ ap (λ n. take (len - (suc below - suc below)) (drop n (b ∷ text))) from
part_of-long below (Some (negsuc end)) b text long =
    let from : suc (length text) - suc below ≡ suc (length text - suc below) = omega arith in
    let count : (suc (length text) - suc end) - (suc (length text) - suc below) ≡ suc below - suc end = omega arith in
    ap (λ n. take n (drop (suc (length text) - suc below) (b ∷ text))) count ∙ ap (λ n. take (suc below - suc end) (drop n (b ∷ text))) from

-- a shorter one, with all but some kept
part_of-short : (below : ℕ) (len : Option ℤ) (b : ℕ) (text : List ℕ) → length text < suc below → is_counted len ≡ false → part_of (b ∷ text) (negsuc below) len ≡ take (suc (length text) - dropped_of len) (b ∷ text)
part_of-short below None b text short counted =
    let from : suc (length text) - suc below ≡ 0 = omega arith in
    ap (λ n. take (suc (length text) - n) (drop n (b ∷ text))) from
part_of-short below (Some (pos len)) b text short counted = absurd (false≢true (sym counted))
part_of-short below (Some (negsuc end)) b text short counted =
    let from : suc (length text) - suc below ≡ 0 = omega arith in
    let less : (suc (length text) - suc end) - 0 ≡ suc (length text) - suc end = omega arith in
    ap (λ n. take ((suc (length text) - suc end) - n) (drop n (b ∷ text))) from ∙ ap (λ n. take n (b ∷ text)) less

-- a shorter one, with the kept bytes counted
part_of-counted : (below : ℕ) (len : Option ℤ) (b : ℕ) (text : List ℕ) → length text < suc below → is_counted len ≡ true → part_of (b ∷ text) (negsuc below) len ≡ take (kept_of_last (suc below) len (suc below)) (b ∷ text)
part_of-counted below None b text short counted = absurd (false≢true counted)
part_of-counted below (Some (pos len)) b text short counted =
    let from : suc (length text) - suc below ≡ 0 = omega arith in
    let count : (0 + len) - 0 ≡ len - (suc below - suc below) = omega arith in
    ap (λ n. take ((n + len) - n) (drop n (b ∷ text))) from ∙ ap (λ n. take n (b ∷ text)) count
part_of-counted below (Some (negsuc end)) b text short counted = absurd (false≢true counted)

-- of one byte less, one is kept less, or none
kept_of_last-suc : (last : ℕ) (len : Option ℤ) (k : ℕ) → k < last → kept_of_last last len (suc k) - 1 ≡ kept_of_last last len k
kept_of_last-suc last None k inside = omega arith
kept_of_last-suc last (Some (pos len)) k inside = omega arith
kept_of_last-suc last (Some (negsuc end)) k inside = omega arith

-- one byte of those that are kept
take_put : (n b : ℕ) (text : List ℕ) → take n (b ∷ text) ≡ map (byte_of b) (put_of n) ++ take (n - 1) text
take_put zero b text = refl
take_put (suc n) b text = rw (lt-ltb 0 (suc n) (omega arith)) (ap (λ k. b ∷ take k text) less)
  where
    less : n ≡ suc n - 1
    less = omega arith

-- a phase and a number have at most three choices by a byte
choices_three : (last : ℕ) (len : Option ℤ) (phase k : ℕ) → length (back_choices last len phase k) ≤ 3
choices_three last len phase k =
    let P : List (ℕ × List Out) → Type 0 = λ row. length row ≤ 3 in
    cond_both (phase == 0) _ _ P (λ _. cond_both (is_counted len) _ _ (λ (row : List (ℕ × List Out)). suc (length row) ≤ 3)
    (λ _. omega arith) (λ _. cond_both (nat_lt 0 (dropped_of len)) _ _ (λ (row : List (ℕ × List Out)). suc (suc (length row)) ≤ 3)
    (λ _. omega arith) (λ _. omega arith)))
    (λ _. cond_both (phase == 1) _ _ P (λ _. omega arith)
    (λ _. cond_both (phase == 2) _ _ P (λ _. cond_both (nat_lt 0 k && nat_lt k last) _ _ P (λ _. omega arith) (λ _. omega arith))
    (λ _. cond_both (phase == 3) _ _ P
    (λ _. cond_both (nat_lt 0 k && nat_lt k last) _ _ P
    (λ _. cond_both (nat_lt 0 (dropped_of len) && nat_le (dropped_of len) k) _ _ (λ (row : List (ℕ × List Out)). suc (length row) ≤ 3)
    (λ _. omega arith) (λ _. omega arith)) (λ _. omega arith))
    (λ _. cond_both (phase == 4) _ _ P (λ _. cond_both (nat_lt 0 k && nat_lt k last) _ _ P (λ _. omega arith) (λ _. omega arith))
    (λ _. cond_both (nat_lt 0 k) _ _ P (λ _. omega arith) (λ _. omega arith))))))

-- what may be put out from each phase
abbrev BackFrom : ℕ → Option ℤ → ℕ → ℕ → List ℕ → List ℕ → Type 0
BackFrom below len phase k text out =
    MatchBool (phase == 0) (out ≡ part_of text (negsuc below) len)
    (MatchBool (phase == 1) ((suc below ≤ length text) × (out ≡ take (kept_of_last (suc below) len (suc below)) (drop (length text - suc below) text)))
    (MatchBool (phase == 2) ((k < suc below) × (length text ≡ k) × (out ≡ take (kept_of_last (suc below) len k) text))
    (MatchBool (phase == 3) ((k < suc below) × (dropped_of len ≤ length text) × (length text ≤ k) × (is_counted len ≡ false) × (out ≡ take (length text - dropped_of len) text))
    (MatchBool (phase == 4) ((k < suc below) × (length text ≤ k) × (is_counted len ≡ true) × (out ≡ take (kept_of_last (suc below) len k) text))
    ((length text ≤ k) × (out ≡ []))))))

abbrev BackAt : ℕ → Option ℤ → ℕ → List ℕ → List ℕ → Type 0
BackAt below len s text out = BackFrom below len (phase_of (suc below) len s) (number_of (suc below) s) text out

-- each phase is one of six
at_phase : (P : ℕ → Type 0) (p : ℕ) → p < 6 → P 0 → P 1 → P 2 → P 3 → P 4 → P 5 → P p
at_phase P p inside p0 p1 p2 p3 p4 p5 =
    elim (cases_eq p 0) [
      | inl e ↦ subst P (sym e) p0
      | inr n0 ↦ elim (cases_eq p 1) [
        | inl e ↦ subst P (sym e) p1
        | inr n1 ↦ elim (cases_eq p 2) [
          | inl e ↦ subst P (sym e) p2
          | inr n2 ↦ elim (cases_eq p 3) [
            | inl e ↦ subst P (sym e) p3
            | inr n3 ↦ elim (cases_eq p 4) [ inl e ↦ subst P (sym e) p4 | inr n4 ↦ let e : 5 ≡ p = omega (arith, inside, n0, n1, n2, n3, n4) in subst P e p5 ]
          ]
        ]
      ]
    ]

-- the phase by the tests of a state
abbrev phase_from : Bool → Bool → Bool → Bool → Bool → ℕ
phase_from a b c d e = cond a 0 (cond b 1 (cond c 2 (cond d (cond e 4 3) 5)))

by_phase : (P : ℕ → Type 0) (a b c d e : Bool) → P 0 → P 1 → P 2 → P 3 → P 4 → P 5 → P (phase_from a b c d e)
by_phase P true b c d e p0 p1 p2 p3 p4 p5 = p0
by_phase P false true c d e p0 p1 p2 p3 p4 p5 = p1
by_phase P false false true d e p0 p1 p2 p3 p4 p5 = p2
by_phase P false false false true true p0 p1 p2 p3 p4 p5 = p4
by_phase P false false false true false p0 p1 p2 p3 p4 p5 = p3
by_phase P false false false false e p0 p1 p2 p3 p4 p5 = p5

phase_inside : (last : ℕ) (len : Option ℤ) (s : ℕ) → phase_of last len s < 6
phase_inside last len s =
    by_phase (λ p. p < 6) (s == 0) (s == 1) (nat_lt s (2 + last)) (nat_lt s (2 + last + last)) (is_counted len)
    (omega arith) (omega arith) (omega arith) (omega arith) (omega arith) (omega arith)

plain_of : (a b c d e : Bool) → phase_from a b c d e ≡ 3 → e ≡ false
plain_of true b c d e h = absurd (omega (arith, h))
plain_of false true c d e h = absurd (omega (arith, h))
plain_of false false true d e h = absurd (omega (arith, h))
plain_of false false false true true h = absurd (omega (arith, h))
plain_of false false false true false h = refl
plain_of false false false false e h = absurd (omega (arith, h))

counted_of : (a b c d e : Bool) → phase_from a b c d e ≡ 4 → e ≡ true
counted_of true b c d e h = absurd (omega (arith, h))
counted_of false true c d e h = absurd (omega (arith, h))
counted_of false false true d e h = absurd (omega (arith, h))
counted_of false false false true true h = refl
counted_of false false false true false h = absurd (omega (arith, h))
counted_of false false false false e h = absurd (omega (arith, h))

behind_of : (a b c d e : Bool) → phase_from a b c d e ≡ 5 → d ≡ false
behind_of true b c d e h = absurd (omega (arith, h))
behind_of false true c d e h = absurd (omega (arith, h))
behind_of false false true d e h = absurd (omega (arith, h))
behind_of false false false true true h = absurd (omega (arith, h))
behind_of false false false true false h = absurd (omega (arith, h))
behind_of false false false false e h = refl

-- in phase 3 the kept bytes are not counted, in phase 4 they are
phase_plain : (last : ℕ) (len : Option ℤ) (s : ℕ) → phase_of last len s ≡ 3 → is_counted len ≡ false
phase_plain last len s h = plain_of (s == 0) (s == 1) (nat_lt s (2 + last)) (nat_lt s (2 + last + last)) (is_counted len) h

phase_counted : (last : ℕ) (len : Option ℤ) (s : ℕ) → phase_of last len s ≡ 4 → is_counted len ≡ true
phase_counted last len s h = counted_of (s == 0) (s == 1) (nat_lt s (2 + last)) (nat_lt s (2 + last + last)) (is_counted len) h

-- the state of a phase and a number has them
record Stands (last : ℕ) (len : Option ℤ) (phase k : ℕ) : Type 0 where
  phase_is : phase_of last len (state_of last phase k) ≡ phase
  number_is : number_of last (state_of last phase k) ≡ k

second_part : (last : ℕ) (len : Option ℤ) (s : ℕ) → 2 ≤ s → s < 2 + last → (phase_of last len s ≡ 2) × (number_of last s ≡ s - 2)
second_part last len s some inside =
    (rw (ne_eqb s 0 (λ e. omega (arith, e, some)), ne_eqb s 1 (λ e. omega (arith, e, some)), lt-ltb s (2 + last) inside) refl, rw (lt-ltb s (2 + last) inside) refl)

third_part : (last : ℕ) (len : Option ℤ) (s : ℕ) → 2 + last ≤ s → s < 2 + last + last → (phase_of last len s ≡ cond (is_counted len) 4 3) × (number_of last s ≡ s - (2 + last))
third_part last len s some inside =
    (rw (ne_eqb s 0 (λ e. omega (arith, e, some)), ne_eqb s 1 (λ e. omega (arith, e, some)), le-ltb s (2 + last) some, lt-ltb s (2 + last + last) inside) refl, rw (le-ltb s (2 + last) some, lt-ltb s (2 + last + last) inside) refl)

fourth_part : (last : ℕ) (len : Option ℤ) (s : ℕ) → 2 + last + last ≤ s → (phase_of last len s ≡ 5) × (number_of last s ≡ s - (2 + last + last))
fourth_part last len s some =
    let over : 2 + last ≤ s = omega (arith, some) in
    (rw (ne_eqb s 0 (λ e. omega (arith, e, some)), ne_eqb s 1 (λ e. omega (arith, e, some)), le-ltb s (2 + last) over, le-ltb s (2 + last + last) some) refl, rw (le-ltb s (2 + last) over, le-ltb s (2 + last + last) some) refl)

stands_one : (last : ℕ) (len : Option ℤ) → Stands last len 1 0
stands_one last len = record { phase_is = refl; number_is = rw (lt-ltb 1 (2 + last) (omega arith)) refl }

stands_two : (last : ℕ) (len : Option ℤ) (k : ℕ) → k < last → Stands last len 2 k
stands_two last len k inside =
    let is = second_part last len (2 + k) (omega arith) (omega (arith, inside)) in
    let back : (2 + k) - 2 ≡ k = omega arith in
    record { phase_is = is.0; number_is = is.1 ∙ back }

stands_three : (last : ℕ) (len : Option ℤ) (k : ℕ) → k < last → is_counted len ≡ false → Stands last len 3 k
stands_three last len k inside plain =
    let is = third_part last len (2 + last + k) (omega arith) (omega (arith, inside)) in
    let back : (2 + last + k) - (2 + last) ≡ k = omega arith in
    let three : cond (is_counted len) 4 3 ≡ 3 = rw plain refl in
    record { phase_is = is.0 ∙ three; number_is = is.1 ∙ back }

stands_four : (last : ℕ) (len : Option ℤ) (k : ℕ) → k < last → is_counted len ≡ true → Stands last len 4 k
stands_four last len k inside counted =
    let is = third_part last len (2 + last + k) (omega arith) (omega (arith, inside)) in
    let back : (2 + last + k) - (2 + last) ≡ k = omega arith in
    let four : cond (is_counted len) 4 3 ≡ 4 = rw counted refl in
    record { phase_is = is.0 ∙ four; number_is = is.1 ∙ back }

stands_five : (last : ℕ) (len : Option ℤ) (k : ℕ) → Stands last len 5 k
stands_five last len k =
    let is = fourth_part last len (2 + last + last + k) (omega arith) in
    let back : (2 + last + last + k) - (2 + last + last) ≡ k = omega arith in
    record { phase_is = is.0; number_is = is.1 ∙ back }

at_from : (below : ℕ) (len : Option ℤ) (phase k : ℕ) (text out : List ℕ) → Stands (suc below) len phase k → BackAt below len (state_of (suc below) phase k) text out → BackFrom below len phase k text out
at_from below len phase k text out is h =
    subst (λ (p : ℕ). BackFrom below len p k text out) is.phase_is (subst (λ (n : ℕ). BackFrom below len (phase_of (suc below) len (state_of (suc below) phase k)) n text out) is.number_is h)

from_at : (below : ℕ) (len : Option ℤ) (phase k : ℕ) (text out : List ℕ) → Stands (suc below) len phase k → BackFrom below len phase k text out → BackAt below len (state_of (suc below) phase k) text out
from_at below len phase k text out is h =
    subst (λ (n : ℕ). BackFrom below len (phase_of (suc below) len (state_of (suc below) phase k)) n text out) (sym is.number_is) (subst (λ (p : ℕ). BackFrom below len p k text out) (sym is.phase_is) h)

-- one choice of a phase: what follows behind it
Goes : ℕ → Option ℤ → ℕ → ℕ → (ℕ × List Out) → Type 0
Goes below len phase k p = (b : ℕ) (text rest : List ℕ) → BackAt below len p.0 text rest → BackFrom below len phase k (b ∷ text) (map (byte_of b) p.1 ++ rest)

Comes : ℕ → Option ℤ → ℕ → ℕ → List (ℕ × List Out) → Type 0
Comes below len phase k row = (b : ℕ) (text out : List ℕ) → BackFrom below len phase k (b ∷ text) out → (p : ℕ × List Out) × Contains row p × (rest : List ℕ) × BackAt below len p.0 text rest × (map (byte_of b) p.1 ++ rest ≡ out)

-- the phases of single choices, by two facts of a choice: where it leads from, and that it comes
five_goes : (below : ℕ) (len : Option ℤ) (k : ℕ) (p : ℕ × List Out) → Contains (back_choices (suc below) len 5 k) p → Goes below len 5 k p
unfolding Goes
five_goes below len k p =
    cond_both (nat_lt 0 k) _ _ (λ (row : List (ℕ × List Out)). Contains row p → Goes below len 5 k p)
    (λ some among. only (Goes below len 5 k) (state_of (suc below) 5 (k - 1), []) p among (λ b text rest h.
    let r = at_from below len 5 (k - 1) text rest (stands_five (suc below) len (k - 1)) h in
    let positive : 0 < k = ltb-true 0 k some in
    (omega (arith, r.0, positive), r.1)))
    (λ _ among. Contains-nil p among)

five_comes : (below : ℕ) (len : Option ℤ) (k : ℕ) → Comes below len 5 k (back_choices (suc below) len 5 k)
unfolding Comes
five_comes below len k b text out h =
    let positive : 0 < k = omega (arith, h.0) in
    let there : back_choices (suc below) len 5 k ≡ (state_of (suc below) 5 (k - 1), []) ∷ [] = rw (lt-ltb 0 k positive) refl in
    ((state_of (suc below) 5 (k - 1), []), subst (λ (row : List (ℕ × List Out)). Contains row (state_of (suc below) 5 (k - 1), [])) (sym there) (Contains-head (state_of (suc below) 5 (k - 1), []) []), [], from_at below len 5 (k - 1) text [] (stands_five (suc below) len (k - 1)) (omega (arith, h.0, positive), refl), sym h.1)

kept_step : (last : ℕ) (len : Option ℤ) (k : ℕ) → 0 < k → k ≤ last → kept_of_last last len k - 1 ≡ kept_of_last last len (k - 1)
kept_step last None k some inside = omega arith
kept_step last (Some (pos len)) k some inside = omega arith
kept_step last (Some (negsuc end)) k some inside = omega arith

-- one byte of those that are kept, where the number falls by one
take_kept : (last : ℕ) (len : Option ℤ) (k b : ℕ) (text : List ℕ) → 0 < k → k ≤ last → map (byte_of b) (put_of (kept_of_last last len k)) ++ take (kept_of_last last len (k - 1)) text ≡ take (kept_of_last last len k) (b ∷ text)
take_kept last len k b text some inside =
    ap (λ (n : ℕ). map (byte_of b) (put_of (kept_of_last last len k)) ++ take n text) (sym (kept_step last len k some inside)) ∙ sym (take_put (kept_of_last last len k) b text)

guard : (k last : ℕ) → (nat_lt 0 k && nat_lt k last) ≡ true → (0 < k) × (k < last)
guard k last h = let both = and_parts (nat_lt 0 k) (nat_lt k last) h in (ltb-true 0 k both.0, ltb-true k last both.1)

guarded : (k last : ℕ) → 0 < k → k < last → (nat_lt 0 k && nat_lt k last) ≡ true
guarded k last some inside = rw (lt-ltb 0 k some, lt-ltb k last inside) refl

two_goes : (below : ℕ) (len : Option ℤ) (k : ℕ) (p : ℕ × List Out) → Contains (back_choices (suc below) len 2 k) p → Goes below len 2 k p
unfolding Goes
two_goes below len k p =
    cond_both (nat_lt 0 k && nat_lt k (suc below)) _ _ (λ (row : List (ℕ × List Out)). Contains row p → Goes below len 2 k p)
    (λ e among. only (Goes below len 2 k) (state_of (suc below) 2 (k - 1), put_of (kept_of_last (suc below) len k)) p among (λ b text rest h.
    let g = guard k (suc below) e in
    let r = at_from below len 2 (k - 1) text rest (stands_two (suc below) len (k - 1) (omega (arith, g.1))) h in
    (g.1, omega (arith, r.1, g.0), ap (λ (xs : List ℕ). map (byte_of b) (put_of (kept_of_last (suc below) len k)) ++ xs) r.2 ∙ take_kept (suc below) len k b text g.0 (omega (arith, g.1)))))
    (λ _ among. Contains-nil p among)

two_comes : (below : ℕ) (len : Option ℤ) (k : ℕ) → Comes below len 2 k (back_choices (suc below) len 2 k)
unfolding Comes
two_comes below len k b text out h =
    let some : 0 < k = omega (arith, h.1) in
    let choice : ℕ × List Out = (state_of (suc below) 2 (k - 1), put_of (kept_of_last (suc below) len k)) in
    let there : back_choices (suc below) len 2 k ≡ choice ∷ [] = rw (guarded k (suc below) some h.0) refl in
    (choice, subst (λ (row : List (ℕ × List Out)). Contains row choice) (sym there) (Contains-head choice []), take (kept_of_last (suc below) len (k - 1)) text, from_at below len 2 (k - 1) text (take (kept_of_last (suc below) len (k - 1)) text) (stands_two (suc below) len (k - 1) (omega (arith, h.0))) (omega (arith, h.0), omega (arith, h.1), refl), take_kept (suc below) len k b text some (omega (arith, h.0)) ∙ sym h.2)

four_goes : (below : ℕ) (len : Option ℤ) (k : ℕ) (p : ℕ × List Out) → is_counted len ≡ true → Contains (back_choices (suc below) len 4 k) p → Goes below len 4 k p
unfolding Goes
four_goes below len k p counted =
    cond_both (nat_lt 0 k && nat_lt k (suc below)) _ _ (λ (row : List (ℕ × List Out)). Contains row p → Goes below len 4 k p)
    (λ e among. only (Goes below len 4 k) (state_of (suc below) 4 (k - 1), put_of (kept_of_last (suc below) len k)) p among (λ b text rest h.
    let g = guard k (suc below) e in
    let r = at_from below len 4 (k - 1) text rest (stands_four (suc below) len (k - 1) (omega (arith, g.1)) counted) h in
    (g.1, omega (arith, r.1, g.0), r.2, ap (λ (xs : List ℕ). map (byte_of b) (put_of (kept_of_last (suc below) len k)) ++ xs) r.3 ∙ take_kept (suc below) len k b text g.0 (omega (arith, g.1)))))
    (λ _ among. Contains-nil p among)

four_comes : (below : ℕ) (len : Option ℤ) (k : ℕ) → Comes below len 4 k (back_choices (suc below) len 4 k)
unfolding Comes
four_comes below len k b text out h =
    let some : 0 < k = omega (arith, h.1) in
    let choice : ℕ × List Out = (state_of (suc below) 4 (k - 1), put_of (kept_of_last (suc below) len k)) in
    let there : back_choices (suc below) len 4 k ≡ choice ∷ [] = rw (guarded k (suc below) some h.0) refl in
    (choice, subst (λ (row : List (ℕ × List Out)). Contains row choice) (sym there) (Contains-head choice []), take (kept_of_last (suc below) len (k - 1)) text, from_at below len 4 (k - 1) text (take (kept_of_last (suc below) len (k - 1)) text) (stands_four (suc below) len (k - 1) (omega (arith, h.0)) h.2) (omega (arith, h.0), omega (arith, h.1, some), h.2, refl), take_kept (suc below) len k b text some (omega (arith, h.0)) ∙ sym h.3)

-- bytes are dropped at the end only where the kept ones are not counted
dropped_uncounted : (len : Option ℤ) → 0 < dropped_of len → is_counted len ≡ false
dropped_uncounted None some = refl
dropped_uncounted (Some (pos len)) some = absurd (omega (arith, some))
dropped_uncounted (Some (negsuc end)) some = refl

-- of no more than the bytes that are dropped none is kept
kept_of_dropped : (last : ℕ) (len : Option ℤ) (k : ℕ) → k ≤ dropped_of len → 0 < dropped_of len → kept_of_last last len k ≡ 0
kept_of_dropped last None k few some = absurd (omega (arith, some))
kept_of_dropped last (Some (pos len)) k few some = absurd (omega (arith, some))
kept_of_dropped last (Some (negsuc end)) k few some = omega (arith, few)

three_keep : (below : ℕ) (len : Option ℤ) (k : ℕ) → is_counted len ≡ false → 0 < k → k < suc below → Goes below len 3 k (state_of (suc below) 3 (k - 1), Same ∷ [])
unfolding Goes
three_keep below len k plain some inside b text rest h =
    let r = at_from below len 3 (k - 1) text rest (stands_three (suc below) len (k - 1) (omega (arith, inside)) plain) h in
    let count : suc (length text - dropped_of len) ≡ suc (length text) - dropped_of len = omega (arith, r.1) in
    (inside, omega (arith, r.1), omega (arith, r.2, some), r.3, ap (λ (xs : List ℕ). b ∷ xs) r.4 ∙ ap (λ (n : ℕ). take n (b ∷ text)) count)

three_drop : (below : ℕ) (len : Option ℤ) (k : ℕ) → k < suc below → 0 < dropped_of len → dropped_of len ≤ k → Goes below len 3 k (state_of (suc below) 2 (dropped_of len - 1), [])
unfolding Goes
three_drop below len k inside some few b text rest h =
    let r = at_from below len 2 (dropped_of len - 1) text rest (stands_two (suc below) len (dropped_of len - 1) (omega (arith, inside, few))) h in
    let none : kept_of_last (suc below) len (dropped_of len - 1) ≡ 0 = kept_of_dropped (suc below) len (dropped_of len - 1) (omega arith) some in
    let count : 0 ≡ suc (length text) - dropped_of len = omega (arith, r.1, some) in
    (inside, omega (arith, r.1, some), omega (arith, r.1, some, few), dropped_uncounted len some, r.2 ∙ ap (λ (n : ℕ). take n text) none ∙ ap (λ (n : ℕ). take n (b ∷ text)) count)

three_goes : (below : ℕ) (len : Option ℤ) (k : ℕ) (p : ℕ × List Out) → is_counted len ≡ false → Contains (back_choices (suc below) len 3 k) p → Goes below len 3 k p
three_goes below len k p plain =
    cond_both (nat_lt 0 k && nat_lt k (suc below)) _ _ (λ (row : List (ℕ × List Out)). Contains row p → Goes below len 3 k p)
    (λ e among.
    let g = guard k (suc below) e in
    elim (Contains-cons_cases (state_of (suc below) 3 (k - 1), Same ∷ []) (if nat_lt 0 (dropped_of len) && nat_le (dropped_of len) k then (state_of (suc below) 2 (dropped_of len - 1), []) ∷ [] else []) p among) [
      | inl is ↦ subst (Goes below len 3 k) is (three_keep below len k plain g.0 g.1)
      | inr later ↦ cond_both (nat_lt 0 (dropped_of len) && nat_le (dropped_of len) k) _ _ (λ (row : List (ℕ × List Out)). Contains row p → Goes below len 3 k p)
          (λ d among'. let both = and_parts (nat_lt 0 (dropped_of len)) (nat_le (dropped_of len) k) d in only (Goes below len 3 k) (state_of (suc below) 2 (dropped_of len - 1), []) p among' (three_drop below len k g.1 (ltb-true 0 (dropped_of len) both.0) (leb-true (dropped_of len) k both.1)))
          (λ _ among'. Contains-nil p among')
          later
    ])
    (λ _ among. Contains-nil p among)

three_comes : (below : ℕ) (len : Option ℤ) (k : ℕ) → Comes below len 3 k (back_choices (suc below) len 3 k)
unfolding Comes
three_comes below len k b text out h =
    let some : 0 < k = omega (arith, h.2) in
    let keep : ℕ × List Out = (state_of (suc below) 3 (k - 1), Same ∷ []) in
    let drops : ℕ × List Out = (state_of (suc below) 2 (dropped_of len - 1), []) in
    elim (cases_lt (length text) (dropped_of len)) [
      | inr enough ↦
          let there : back_choices (suc below) len 3 k ≡ keep ∷ (if nat_lt 0 (dropped_of len) && nat_le (dropped_of len) k then drops ∷ [] else []) = rw (guarded k (suc below) some h.0) refl in
          let count : suc (length text) - dropped_of len ≡ suc (length text - dropped_of len) = omega (arith, enough) in (
            keep,
            subst (λ (row : List (ℕ × List Out)). Contains row keep) (sym there) (Contains-head keep (if nat_lt 0 (dropped_of len) && nat_le (dropped_of len) k then drops ∷ [] else [])),
            take (length text - dropped_of len) text,
            from_at below len 3 (k - 1) text (take (length text - dropped_of len) text) (stands_three (suc below) len (k - 1) (omega (arith, h.0)) h.3) (omega (arith, h.0), enough, omega (arith, h.2, some), h.3, refl),
            sym (h.4 ∙ ap (λ (n : ℕ). take n (b ∷ text)) count),
          )
      | inl few ↦
          let dropping : 0 < dropped_of len = omega (arith, few) in
          let below_k : dropped_of len ≤ k = omega (arith, h.1, h.2, few) in
          let there : back_choices (suc below) len 3 k ≡ keep ∷ drops ∷ [] = rw (guarded k (suc below) some h.0, lt-ltb 0 (dropped_of len) dropping, le-leb (dropped_of len) k below_k) refl in
          let none : kept_of_last (suc below) len (dropped_of len - 1) ≡ 0 = kept_of_dropped (suc below) len (dropped_of len - 1) (omega arith) dropping in
          let count : suc (length text) - dropped_of len ≡ 0 = omega (arith, few) in (
            drops,
            subst (λ (row : List (ℕ × List Out)). Contains row drops) (sym there) (Contains-later keep (drops ∷ []) drops (Contains-head drops [])),
            [],
            from_at below len 2 (dropped_of len - 1) text [] (stands_two (suc below) len (dropped_of len - 1) (omega (arith, h.0, below_k))) (omega (arith, h.0, below_k), omega (arith, h.1, few), sym (ap (λ (n : ℕ). take n text) none)),
            sym (h.4 ∙ ap (λ (n : ℕ). take n (b ∷ text)) count),
          )
    ]

-- a text of at least the last bytes, and one byte in front that is passed over
pass_over : (below : ℕ) (b : ℕ) (text : List ℕ) → suc below ≤ length text → drop (suc (length text) - suc below) (b ∷ text) ≡ drop (length text - suc below) text
pass_over below b text long =
    let from : suc (length text) - suc below ≡ suc (length text - suc below) = omega (arith, long) in
    ap (λ (n : ℕ). drop n (b ∷ text)) from

one_goes : (below : ℕ) (len : Option ℤ) (k : ℕ) (p : ℕ × List Out) → Contains (back_choices (suc below) len 1 k) p → Goes below len 1 k p
unfolding Goes
one_goes below len k p among =
    either (Goes below len 1 k) (state_of (suc below) 1 0, []) (state_of (suc below) 2 (suc below - 1), put_of (kept_of_last (suc below) len (suc below))) p among
    (λ b text rest h.
    let r = at_from below len 1 0 text rest (stands_one (suc below) len) h in
    (omega (arith, r.0), r.1 ∙ ap (take (kept_of_last (suc below) len (suc below))) (sym (pass_over below b text r.0))))
    (λ b text rest h.
    let r = at_from below len 2 (suc below - 1) text rest (stands_two (suc below) len (suc below - 1) (omega arith)) h in
    let from : 0 ≡ suc (length text) - suc below = omega (arith, r.1) in
    (omega (arith, r.1), ap (λ (xs : List ℕ). map (byte_of b) (put_of (kept_of_last (suc below) len (suc below))) ++ xs) r.2 ∙ take_kept (suc below) len (suc below) b text (omega arith) (omega arith) ∙ ap (λ (n : ℕ). take (kept_of_last (suc below) len (suc below)) (drop n (b ∷ text))) from))

one_comes : (below : ℕ) (len : Option ℤ) (k : ℕ) → Comes below len 1 k (back_choices (suc below) len 1 k)
unfolding Comes
one_comes below len k b text out h =
    let passes : ℕ × List Out = (state_of (suc below) 1 0, []) in
    let begins : ℕ × List Out = (state_of (suc below) 2 (suc below - 1), put_of (kept_of_last (suc below) len (suc below))) in
    elim (cases_lt (length text) (suc below)) [
      | inr long ↦ (passes, Contains-head passes (begins ∷ []), out, from_at below len 1 0 text out (stands_one (suc below) len) (long, h.1 ∙ ap (take (kept_of_last (suc below) len (suc below))) (pass_over below b text long)), refl)
      | inl short ↦
          let from : suc (length text) - suc below ≡ 0 = omega (arith, h.0, short) in (
            begins,
            Contains-later passes (begins ∷ []) begins (Contains-head begins []),
            take (kept_of_last (suc below) len (suc below - 1)) text,
            from_at below len 2 (suc below - 1) text (take (kept_of_last (suc below) len (suc below - 1)) text) (stands_two (suc below) len (suc below - 1) (omega arith)) (omega arith, omega (arith, h.0, short), refl),
            take_kept (suc below) len (suc below) b text (omega arith) (omega arith) ∙ sym (h.1 ∙ ap (λ (n : ℕ). take (kept_of_last (suc below) len (suc below)) (drop n (b ∷ text))) from),
          )
    ]

-- the first byte
zero_pass : (below : ℕ) (len : Option ℤ) (k : ℕ) → Goes below len 0 k (state_of (suc below) 1 0, [])
unfolding Goes
zero_pass below len k b text rest h =
    let r = at_from below len 1 0 text rest (stands_one (suc below) len) h in r.1 ∙ sym (part_of-long below len b text r.0)

zero_counted : (below : ℕ) (len : Option ℤ) (k : ℕ) → is_counted len ≡ true → Goes below len 0 k (state_of (suc below) 4 (suc below - 1), put_of (kept_of_last (suc below) len (suc below)))
unfolding Goes
zero_counted below len k counted b text rest h =
    let r = at_from below len 4 (suc below - 1) text rest (stands_four (suc below) len (suc below - 1) (omega arith) counted) h in
    ap (λ (xs : List ℕ). map (byte_of b) (put_of (kept_of_last (suc below) len (suc below))) ++ xs) r.3 ∙ take_kept (suc below) len (suc below) b text (omega arith) (omega arith) ∙ sym (part_of-counted below len b text (omega (arith, r.1)) r.2)

zero_keep : (below : ℕ) (len : Option ℤ) (k : ℕ) → is_counted len ≡ false → Goes below len 0 k (state_of (suc below) 3 (suc below - 1), Same ∷ [])
unfolding Goes
zero_keep below len k plain b text rest h =
    let r = at_from below len 3 (suc below - 1) text rest (stands_three (suc below) len (suc below - 1) (omega arith) plain) h in
    let count : suc (length text - dropped_of len) ≡ suc (length text) - dropped_of len = omega (arith, r.1) in
    ap (λ (xs : List ℕ). b ∷ xs) r.4 ∙ ap (λ (n : ℕ). take n (b ∷ text)) count ∙ sym (part_of-short below len b text (omega (arith, r.2)) r.3)

zero_drop : (below : ℕ) (len : Option ℤ) (k : ℕ) → 0 < dropped_of len → Goes below len 0 k (state_of (suc below) 5 (dropped_of len - 1), [])
unfolding Goes
zero_drop below len k some b text rest h =
    let r = at_from below len 5 (dropped_of len - 1) text rest (stands_five (suc below) len (dropped_of len - 1)) h in
    elim (cases_lt (length text) (suc below)) [
      | inl short ↦
          let count : suc (length text) - dropped_of len ≡ 0 = omega (arith, r.0, some) in
          r.1 ∙ sym (part_of-short below len b text short (dropped_uncounted len some) ∙ ap (λ (n : ℕ). take n (b ∷ text)) count)
      | inr long ↦
          let none : kept_of_last (suc below) len (suc below) ≡ 0 = kept_of_dropped (suc below) len (suc below) (omega (arith, r.0, some, long)) some in
          r.1 ∙ sym (part_of-long below len b text long ∙ ap (λ (n : ℕ). take n (drop (length text - suc below) text)) none)
    ]

zero_goes : (below : ℕ) (len : Option ℤ) (k : ℕ) (p : ℕ × List Out) → Contains (back_choices (suc below) len 0 k) p → Goes below len 0 k p
zero_goes below len k p among =
    elim (Contains-cons_cases (state_of (suc below) 1 0, []) (if is_counted len then (state_of (suc below) 4 (suc below - 1), put_of (kept_of_last (suc below) len (suc below))) ∷ [] else (state_of (suc below) 3 (suc below - 1), Same ∷ []) ∷ (if nat_lt 0 (dropped_of len) then (state_of (suc below) 5 (dropped_of len - 1), []) ∷ [] else [])) p among) [
      | inl is ↦ subst (Goes below len 0 k) is (zero_pass below len k)
      | inr later ↦ cond_both (is_counted len) _ _ (λ (row : List (ℕ × List Out)). Contains row p → Goes below len 0 k p)
          (λ e among'. only (Goes below len 0 k) (state_of (suc below) 4 (suc below - 1), put_of (kept_of_last (suc below) len (suc below))) p among' (zero_counted below len k e))
          (λ e among'. elim (Contains-cons_cases (state_of (suc below) 3 (suc below - 1), Same ∷ []) (if nat_lt 0 (dropped_of len) then (state_of (suc below) 5 (dropped_of len - 1), []) ∷ [] else []) p among') [
            | inl is ↦ subst (Goes below len 0 k) is (zero_keep below len k e)
            | inr last ↦ cond_both (nat_lt 0 (dropped_of len)) _ _ (λ (row : List (ℕ × List Out)). Contains row p → Goes below len 0 k p)
                (λ d among''. only (Goes below len 0 k) (state_of (suc below) 5 (dropped_of len - 1), []) p among'' (zero_drop below len k (ltb-true 0 (dropped_of len) d)))
                (λ _ among''. Contains-nil p among'')
                last
          ])
          later
    ]

zero_comes : (below : ℕ) (len : Option ℤ) (k : ℕ) → Comes below len 0 k (back_choices (suc below) len 0 k)
unfolding Comes
zero_comes below len k b text out h =
    let passes : ℕ × List Out = (state_of (suc below) 1 0, []) in
    let counts : ℕ × List Out = (state_of (suc below) 4 (suc below - 1), put_of (kept_of_last (suc below) len (suc below))) in
    let keeps : ℕ × List Out = (state_of (suc below) 3 (suc below - 1), Same ∷ []) in
    let drops : ℕ × List Out = (state_of (suc below) 5 (dropped_of len - 1), []) in
    let others : List (ℕ × List Out) = (if is_counted len then counts ∷ [] else keeps ∷ (if nat_lt 0 (dropped_of len) then drops ∷ [] else [])) in
    elim (cases_lt (length text) (suc below)) [
      | inr long ↦ (passes, Contains-head passes others, out, from_at below len 1 0 text out (stands_one (suc below) len) (long, h ∙ part_of-long below len b text long), refl)
      | inl short ↦ elim (cases_Bool (is_counted len)) [
        | inl counted ↦
            let there : others ≡ counts ∷ [] = rw counted refl in (
              counts,
              Contains-later passes others counts (subst (λ (row : List (ℕ × List Out)). Contains row counts) (sym there) (Contains-head counts [])),
              take (kept_of_last (suc below) len (suc below - 1)) text,
              from_at below len 4 (suc below - 1) text (take (kept_of_last (suc below) len (suc below - 1)) text) (stands_four (suc below) len (suc below - 1) (omega arith) counted) (omega arith, omega (arith, short), counted, refl),
              take_kept (suc below) len (suc below) b text (omega arith) (omega arith) ∙ sym (h ∙ part_of-counted below len b text short counted),
            )
        | inr plain ↦ elim (cases_lt (length text) (dropped_of len)) [
          | inr enough ↦
              let there : others ≡ keeps ∷ (if nat_lt 0 (dropped_of len) then drops ∷ [] else []) = rw plain refl in
              let count : suc (length text) - dropped_of len ≡ suc (length text - dropped_of len) = omega (arith, enough) in (
                keeps,
                Contains-later passes others keeps (subst (λ (row : List (ℕ × List Out)). Contains row keeps) (sym there) (Contains-head keeps (if nat_lt 0 (dropped_of len) then drops ∷ [] else []))),
                take (length text - dropped_of len) text,
                from_at below len 3 (suc below - 1) text (take (length text - dropped_of len) text) (stands_three (suc below) len (suc below - 1) (omega arith) plain) (omega arith, enough, omega (arith, short), plain, refl),
                sym (h ∙ part_of-short below len b text short plain ∙ ap (λ (n : ℕ). take n (b ∷ text)) count),
              )
          | inl few ↦
              let dropping : 0 < dropped_of len = omega (arith, few) in
              let there : others ≡ keeps ∷ drops ∷ [] = rw (plain, lt-ltb 0 (dropped_of len) dropping) refl in
              let count : suc (length text) - dropped_of len ≡ 0 = omega (arith, few) in (
                drops,
                Contains-later passes others drops (subst (λ (row : List (ℕ × List Out)). Contains row drops) (sym there) (Contains-later keeps (drops ∷ []) drops (Contains-head drops []))),
                [],
                from_at below len 5 (dropped_of len - 1) text [] (stands_five (suc below) len (dropped_of len - 1)) (omega (arith, few), refl),
                sym (h ∙ part_of-short below len b text short plain ∙ ap (λ (n : ℕ). take n (b ∷ text)) count),
              )
        ]
      ]
    ]

take-nil : (n : ℕ) → take {A = ℕ} n [] ≡ []
take-nil zero = refl
take-nil (suc n) = refl

drop-nil : (n : ℕ) → drop {A = ℕ} n [] ≡ []
drop-nil zero = refl
drop-nil (suc n) = refl

part_of-nil : (below : ℕ) (len : Option ℤ) → [] ≡ part_of [] (negsuc below) len
part_of-nil below len =
    let from = start_in [] (negsuc below) in
    sym (ap (take (end_in [] from len - from)) (drop-nil from) ∙ take-nil (end_in [] from len - from))

Stops : ℕ → Option ℤ → ℕ → ℕ → Type 0
Stops below len k phase =
    ((own : List Out) → Contains (back_ends (suc below) len phase k) own → BackFrom below len phase k [] (map (byte_of 0) own)) × ((out : List ℕ) → BackFrom below len phase k [] out → (own : List Out) × Contains (back_ends (suc below) len phase k) own × (map (byte_of 0) own ≡ out))

-- one empty output under a test
end_under : (t : Bool) (P : List Out → Type 0) (own : List Out) → (t ≡ true → P []) → Contains (if t then [] ∷ [] else []) own → P own
end_under true P own here among = only P [] own among (here refl)
end_under false P own here among = Contains-nil own among

there_under : (t : Bool) → t ≡ true → Contains {X = List Out} (if t then [] ∷ [] else []) []
there_under t e = subst (λ (b : Bool). Contains {X = List Out} (if b then [] ∷ [] else []) []) (sym e) (Contains-head {X = List Out} [] [])

back_stops : (below : ℕ) (len : Option ℤ) (phase k : ℕ) → phase < 6 → Stops below len k phase
unfolding Stops
back_stops below len phase k inside =
    at_phase (Stops below len k) phase inside
    ((λ own among. only (λ (o : List Out). map (byte_of 0) o ≡ part_of [] (negsuc below) len) [] own among (part_of-nil below len)), (λ out h. ([], Contains-head [] [], part_of-nil below len ∙ sym h)))
    ((λ own among. Contains-nil own among), (λ out h. absurd (omega (arith, h.0)))) (
      (λ own among. end_under (k == 0) (λ (o : List Out). BackFrom below len 2 k [] (map (byte_of 0) o)) own (λ e. let is = eqb-true k 0 e in (omega (arith, is), sym is, sym (take-nil (kept_of_last (suc below) len k)))) among),
      (λ out h. ([], there_under (k == 0) (eq-eqb k 0 (sym h.1)), sym (h.2 ∙ take-nil (kept_of_last (suc below) len k)))),
    ) (
      (λ own among. end_under ((dropped_of len == 0 && nat_lt k (suc below)) && not (is_counted len)) (λ (o : List Out). BackFrom below len 3 k [] (map (byte_of 0) o)) own
          (λ e.
          let both = and_parts (dropped_of len == 0 && nat_lt k (suc below)) (not (is_counted len)) e in
          let more = and_parts (dropped_of len == 0) (nat_lt k (suc below)) both.0 in
          (ltb-true k (suc below) more.1, omega (arith, eqb-true (dropped_of len) 0 more.0), omega arith, not-true (is_counted len) both.1, sym (take-nil (0 - dropped_of len))))
          among),
      (λ out h. ([], there_under ((dropped_of len == 0 && nat_lt k (suc below)) && not (is_counted len)) (and_from (dropped_of len == 0 && nat_lt k (suc below)) (not (is_counted len)) (and_from (dropped_of len == 0) (nat_lt k (suc below)) (eq-eqb (dropped_of len) 0 (omega (arith, h.1))) (lt-ltb k (suc below) h.0)) (not_from_false (is_counted len) h.3)), sym (h.4 ∙ take-nil (0 - dropped_of len)))),
    ) (
      (λ own among. end_under (nat_lt k (suc below) && is_counted len) (λ (o : List Out). BackFrom below len 4 k [] (map (byte_of 0) o)) own
          (λ e. let both = and_parts (nat_lt k (suc below)) (is_counted len) e in (ltb-true k (suc below) both.0, omega arith, both.1, sym (take-nil (kept_of_last (suc below) len k))))
          among),
      (λ out h. ([], there_under (nat_lt k (suc below) && is_counted len) (and_from (nat_lt k (suc below)) (is_counted len) (lt-ltb k (suc below) h.0) h.2), sym (h.3 ∙ take-nil (kept_of_last (suc below) len k)))),
    )
    ((λ own among. only (λ (o : List Out). BackFrom below len 5 k [] (map (byte_of 0) o)) [] own among (omega arith, refl)), (λ out h. ([], Contains-head [] [], sym h.1)))

Steps : ℕ → Option ℤ → ℕ → ℕ → Type 0
Steps below len k phase = (phase ≡ 3 → is_counted len ≡ false) → (phase ≡ 4 → is_counted len ≡ true) → ((p : ℕ × List Out) → Contains (back_choices (suc below) len phase k) p → Goes below len phase k p) × Comes below len phase k (back_choices (suc below) len phase k)

back_steps : (below : ℕ) (len : Option ℤ) (phase k : ℕ) → phase < 6 → Steps below len k phase
unfolding Steps
back_steps below len phase k inside =
    at_phase (Steps below len k) phase inside
    (λ plain counted. (zero_goes below len k, zero_comes below len k)) (λ plain counted. (one_goes below len k, one_comes below len k))
    (λ plain counted. (two_goes below len k, two_comes below len k))
    (λ plain counted. ((λ p among. three_goes below len k p (plain refl) among), three_comes below len k))
    (λ plain counted. ((λ p among. four_goes below len k p (counted refl) among), four_comes below len k))
    (λ plain counted. (five_goes below len k, five_comes below len k))

-- each choice leads to one of the states, and is short
IsInner : ℕ → (ℕ × List Out) → Type 0
IsInner states p = (p.0 < states) × IsShort 8 p.1

put_short : (n : ℕ) → IsShort 8 (put_of n)
put_short n = cond_both (nat_lt 0 n) _ _ (IsShort 8) (λ _. (refl, omega arith)) (λ _. (refl, omega arith))

Inner : ℕ → ℕ → Option ℤ → ℕ → ℕ → Type 0
Inner states below len k phase = (phase ≡ 5 → 2 + suc below + suc below + k < states) → All (IsInner states) (back_choices (suc below) len phase k)

five_down : (states last k : ℕ) → 2 + last + last + k < states → 2 + last + last + (k - 1) < states
five_down states last k h = omega (arith, h)

-- a list of one under a test
inner_under : (states : ℕ) (t : Bool) (p : ℕ × List Out) → (t ≡ true → IsInner states p) → All (IsInner states) (if t then p ∷ [] else [])
inner_under states true p here = All-cons (IsInner states) p [] (here refl) (All-nil (IsInner states))
inner_under states false p here = All-nil (IsInner states)

back_inner : (states below : ℕ) (len : Option ℤ) (phase k : ℕ) → phase < 6 → states_of (suc below) len ≤ states → Inner states below len k phase
unfolding Inner IsInner
back_inner states below len phase k inside enough =
    let M = λ (p : ℕ × List Out). (p.0 < states) × IsShort 8 p.1 in
    let room : 2 + suc below + suc below + dropped_of len ≤ states = enough in
    let own : List Out = put_of (kept_of_last (suc below) len k) in
    let first : List Out = put_of (kept_of_last (suc below) len (suc below)) in
    let drops : List (ℕ × List Out) = (if nat_lt 0 (dropped_of len) then (state_of (suc below) 5 (dropped_of len - 1), []) ∷ [] else []) in
    let pass : 1 < states = omega (arith, room) in
    let two : 2 + (suc below - 1) < states = omega (arith, room) in
    let short : 2 + suc below + (suc below - 1) < states = omega (arith, room) in
    let drop_to : 0 < dropped_of len → 2 + suc below + suc below + (dropped_of len - 1) < states = λ some. omega (arith, room, some) in
    let two_down : k < suc below → 2 + (k - 1) < states = λ l. omega (arith, room, l) in
    let short_down : k < suc below → 2 + suc below + (k - 1) < states = λ l. omega (arith, room, l) in
    let two_drop : dropped_of len ≤ k → k < suc below → 2 + (dropped_of len - 1) < states = λ d l. omega (arith, room, d, l) in
    at_phase (Inner states below len k) phase inside
    (λ fits. All-cons M (state_of (suc below) 1 0, []) (if is_counted len then (state_of (suc below) 4 (suc below - 1), first) ∷ [] else (state_of (suc below) 3 (suc below - 1), Same ∷ []) ∷ drops) (pass, (refl, omega arith))
    (cond_both (is_counted len) _ _ (All M)
    (λ _. All-cons M (state_of (suc below) 4 (suc below - 1), first) [] (short, put_short (kept_of_last (suc below) len (suc below))) (All-nil M))
    (λ _. All-cons M (state_of (suc below) 3 (suc below - 1), Same ∷ []) drops (short, (refl, omega arith)) (inner_under states (nat_lt 0 (dropped_of len)) (state_of (suc below) 5 (dropped_of len - 1), []) (λ e. (drop_to (ltb-true 0 (dropped_of len) e), (refl, omega arith)))))))
    (λ fits. All-cons M (state_of (suc below) 1 0, []) ((state_of (suc below) 2 (suc below - 1), first) ∷ []) (pass, (refl, omega arith)) (All-cons M (state_of (suc below) 2 (suc below - 1), first) [] (two, put_short (kept_of_last (suc below) len (suc below))) (All-nil M)))
    (λ fits. inner_under states (nat_lt 0 k && nat_lt k (suc below)) (state_of (suc below) 2 (k - 1), own) (λ e. (two_down (guard k (suc below) e).1, put_short (kept_of_last (suc below) len k))))
    (λ fits. cond_both (nat_lt 0 k && nat_lt k (suc below)) _ _ (All M)
    (λ e. All-cons M (state_of (suc below) 3 (k - 1), Same ∷ []) (if nat_lt 0 (dropped_of len) && nat_le (dropped_of len) k then (state_of (suc below) 2 (dropped_of len - 1), []) ∷ [] else []) (short_down (guard k (suc below) e).1, (refl, omega arith)) (inner_under states (nat_lt 0 (dropped_of len) && nat_le (dropped_of len) k) (state_of (suc below) 2 (dropped_of len - 1), []) (λ d. (two_drop (leb-true (dropped_of len) k (and_parts (nat_lt 0 (dropped_of len)) (nat_le (dropped_of len) k) d).1) (guard k (suc below) e).1, (refl, omega arith)))))
    (λ _. All-nil M))
    (λ fits. inner_under states (nat_lt 0 k && nat_lt k (suc below)) (state_of (suc below) 4 (k - 1), own) (λ e. (short_down (guard k (suc below) e).1, put_short (kept_of_last (suc below) len k))))
    (λ fits. inner_under states (nat_lt 0 k) (state_of (suc below) 5 (k - 1), []) (λ e. (five_down states (suc below) k (fits refl), (refl, omega arith))))

-- the numbers of the last phase are those of the states that are left
number_fits : (last : ℕ) (len : Option ℤ) (states s : ℕ) → s < states → phase_of last len s ≡ 5 → 2 + last + last + number_of last s < states
number_fits last len states s inside h =
    let past : 2 + last + last ≤ s = ltb-false s (2 + last + last) (behind_of (s == 0) (s == 1) (nat_lt s (2 + last)) (nat_lt s (2 + last + last)) (is_counted len) h) in
    let is : number_of last s ≡ s - (2 + last + last) = (fourth_part last len s past).1 in
    omega (arith, is, past, inside)

back_simulates : (states below : ℕ) (len : Option ℤ) → states_of (suc below) len ≤ states → Simulates states (back_row (suc below) len) (back_last (suc below) len) (BackAt below len)
unfolding Steps Stops Goes Comes Inner IsInner
back_simulates states below len enough = record {
  within = λ s b p inside bytes among. (All-contains (λ (q : ℕ × List Out). (q.0 < states) × IsShort 8 q.1) (back_row (suc below) len s b) p (back_inner states below len (phase_of (suc below) len s) (number_of (suc below) s) (phase_inside (suc below) len s) enough (number_fits (suc below) len states s inside)) among).0;
  stop_to = λ s own inside among. (back_stops below len (phase_of (suc below) len s) (number_of (suc below) s) (phase_inside (suc below) len s)).0 own among;
  stop_from = λ s out inside h. (back_stops below len (phase_of (suc below) len s) (number_of (suc below) s) (phase_inside (suc below) len s)).1 out h;
  step_to = λ s b text rest p inside bytes among h. (back_steps below len (phase_of (suc below) len s) (number_of (suc below) s) (phase_inside (suc below) len s) (phase_plain (suc below) len s) (phase_counted (suc below) len s)).0 p among b text rest h;
  step_from = λ s b text out inside bytes h. (back_steps below len (phase_of (suc below) len s) (number_of (suc below) s) (phase_inside (suc below) len s) (phase_plain (suc below) len s) (phase_counted (suc below) len s)).1 b text out h;
}

ends_short : (below : ℕ) (len : Option ℤ) (phase k : ℕ) → All (IsShort 8) (back_ends (suc below) len phase k)
ends_short below len phase k =
    let none = All-nil (IsShort 8) in
    let one = All-cons (IsShort 8) [] [] (refl, omega arith) (All-nil (IsShort 8)) in
    let P = All (IsShort 8) in
    cond_both (phase == 0) _ _ P (λ _. one) (λ _. cond_both (phase == 1) _ _ P (λ _. none) (λ _. cond_both (phase == 2) _ _ P (λ _. cond_both (k == 0) _ _ P (λ _. one) (λ _. none)) (λ _. cond_both (phase == 3) _ _ P (λ _. cond_both ((dropped_of len == 0 && nat_lt k (suc below)) && not (is_counted len)) _ _ P (λ _. one) (λ _. none)) (λ _. cond_both (phase == 4) _ _ P (λ _. cond_both (nat_lt k (suc below) && is_counted len) _ _ P (λ _. one) (λ _. none)) (λ _. one)))))

most_enough : (last : ℕ) (len : Option ℤ) (k : ℕ) → states_of last len ≤ states_of last len + k + 1
most_enough last len k = omega arith

most_fits : (last : ℕ) (len : Option ℤ) (k : ℕ) → 2 + last + last + k < 2 + last + last + dropped_of len + k + 1
most_fits last len k = omega arith

back_small : (states below : ℕ) (len : Option ℤ) → AreSmall (back_rows states (suc below) len) (back_lasts states (suc below) len) 8
unfolding Inner IsInner
back_small states below len =
    below_small states (back_row (suc below) len) (back_last (suc below) len) 8 (record {
      few = λ s b. let h = choices_three (suc below) len (phase_of (suc below) len s) (number_of (suc below) s) in omega (arith, h);
      moves = λ s b.
          let most = states_of (suc below) len + number_of (suc below) s + 1 in
          All-weaker (λ (q : ℕ × List Out). (q.0 < most) × IsShort 8 q.1) (λ (p : ℕ × List Out). IsShort 8 p.1) (λ p h. h.1) (back_row (suc below) len s b) (back_inner most below len (phase_of (suc below) len s) (number_of (suc below) s) (phase_inside (suc below) len s) (most_enough (suc below) len (number_of (suc below) s)) (λ _. most_fits (suc below) len (number_of (suc below) s)));
      ends = λ s. ends_short below len (phase_of (suc below) len s) (number_of (suc below) s);
    })

-- what is small for eight is small for more
more_short : (size : ℕ) (out : List Out) → IsShort 8 out → IsShort (size + 8) out
more_short size out h = (h.0, omega (arith, h.1))

more_small : (states below : ℕ) (len : Option ℤ) (size : ℕ) → AreSmall (back_rows states (suc below) len) (back_lasts states (suc below) len) (size + 8)
more_small states below len size =
    let small = back_small states below len in
    record {
      few = small.few;
      moves = λ s b. All-weaker (λ (p : ℕ × List Out). IsShort 8 p.1) (λ (p : ℕ × List Out). IsShort (size + 8) p.1) (λ p h. more_short size p.1 h) (back_rows states (suc below) len s b) (small.moves s b);
      ends = λ s. All-weaker (IsShort 8) (IsShort (size + 8)) (λ own h. more_short size own h) (back_lasts states (suc below) len s) (small.ends s);
    }

some_state : (states last : ℕ) (len : Option ℤ) → 2 + last + last + dropped_of len ≤ states → 0 < states
some_state states last len enough = omega (arith, enough)

pub back_is_machine : (states below : ℕ) (len : Option ℤ) (size : ℕ) (table : Table) → states_of (suc below) len ≤ states → states ≤ 8 * (size + 8) → IsListed table states (back_rows states (suc below) len) (back_lasts states (suc below) len) → IsMachine table size (λ input output. output ≡ part_of input (negsuc below) len)
back_is_machine states below len size table enough most listed =
    listed_machine table states (back_rows states (suc below) len) (back_lasts states (suc below) len) size (λ input output. output ≡ part_of input (negsuc below) len) listed (more_small states below len size) most
    (λ input output bytes. follows_relation states (back_row (suc below) len) (back_last (suc below) len) (BackAt below len) (back_simulates states below len enough) 0 (some_state states (suc below) len enough) input output bytes)

pub dropped_of-le : (len : Option ℤ) → dropped_of len ≤ size_of_length len
dropped_of-le None = omega arith
dropped_of-le (Some (pos len)) = omega arith
dropped_of-le (Some (negsuc end)) = omega arith

-- the same, with the last bytes as a sum
pub back_is_machine_at : (below : ℕ) (len : Option ℤ) (states : ℕ) (table : Table) → states ≡ states_of (below + 1) len → IsListed table states (back_rows states (below + 1) len) (back_lasts states (below + 1) len) → IsMachine table (below + 1 + size_of_length len) (λ input output. output ≡ part_of input (negsuc below) len)
back_is_machine_at below len states table is listed =
    let more : below + 1 ≡ suc below = omega arith in
    let few = dropped_of-le len in
    let same : states ≡ 2 + (below + 1) + (below + 1) + dropped_of len = is in
    let enough : 2 + suc below + suc below + dropped_of len ≤ states = omega (arith, same) in
    back_is_machine states below len (below + 1 + size_of_length len) table enough (omega (arith, same, few)) (subst (λ (n : ℕ). IsListed table states (back_rows states n len) (back_lasts states n len)) more listed)

-- one turn of a state, with one choice by every byte or none
pub turn_some : (old new : List TableMove) (from : ℕ) (choice : ℕ × List Out) (row : Option (ℕ × List Out)) → Some choice ≡ row → AddsTurns old new from (λ byte. choice) → AddsTurn old new from (λ byte. row)
turn_some old new from choice row is adds s byte =
    adds s byte ∙ ap (λ (o : Option (ℕ × List Out)). choices old s byte ++ (if from == s && nat_lt byte 256 then option_to_list o else [])) is

nothing : {A : Type 0} (b : Bool) → cond {A = List A} b [] [] ≡ []
nothing true = refl
nothing false = refl

pub turn_none : (old : List TableMove) (from : ℕ) (row : Option (ℕ × List Out)) → None ≡ row → AddsTurn old old from (λ byte. row)
turn_none old from row is s byte =
    sym (append-nil (choices old s byte)) ∙ ap (λ (xs : List (ℕ × List Out)). choices old s byte ++ xs) (sym (nothing (from == s && nat_lt byte 256)))
    ∙ ap (λ (o : Option (ℕ × List Out)). choices old s byte ++ (if from == s && nat_lt byte 256 then option_to_list o else [])) is

-- where a choice leads is one of the states
pub leads_inside : (states last : ℕ) (len : Option ℤ) (s turn to : ℕ) (out : List Out) → 0 < last → states_of last len ≤ states → s < states → Some (to, out) ≡ slice_get (back_row last len s 0) turn → to < states
unfolding Inner IsInner
leads_inside states zero len s turn to out some enough inside is = absurd (omega (arith, some))
leads_inside states (suc below) len s turn to out some enough inside is =
    let all = back_inner states below len (phase_of (suc below) len s) (number_of (suc below) s) (phase_inside (suc below) len s) enough (number_fits (suc below) len states s inside) in
    let row = back_row (suc below) len s 0 in
    let found : slice_get row turn ≡ Some (to, out) = sym is in
    (All-contains (λ (q : ℕ × List Out). (q.0 < states) × IsShort 8 q.1) row (to, out) all (turn, slice_get_within row turn (to, out) found, get_or_from_slice_get row turn (to, out) (to, out) found)).0

pub row_few : (last : ℕ) (len : Option ℤ) (s byte : ℕ) → length (back_row last len s byte) ≤ 3
row_few last len s byte = choices_three last len (phase_of last len s) (number_of last s)

-- the ends of a state
pub ends_some : (old new : List TableEnd) (from : ℕ) (t : Bool) (lasts : List (List Out)) → t ≡ true → (if t then [] ∷ [] else []) ≡ lasts → AddsStop old new from → (s : ℕ) → stops new s ≡ stops old s ++ (if from == s then lasts else [])
ends_some old new from t lasts e is adds s =
    let one : [] ∷ [] ≡ lasts = sym (ap (λ (b : Bool). cond {A = List (List Out)} b ([] ∷ []) []) e) ∙ is in
    adds s ∙ ap (λ (xs : List (List Out)). stops old s ++ cond (from == s) xs []) one

pub ends_none : (old : List TableEnd) (from : ℕ) (t : Bool) (lasts : List (List Out)) → t ≡ false → (if t then [] ∷ [] else []) ≡ lasts → (s : ℕ) → stops old s ≡ stops old s ++ (if from == s then lasts else [])
ends_none old from t lasts e is s =
    let none : [] ≡ lasts = sym (ap (λ (b : Bool). cond {A = List (List Out)} b ([] ∷ []) []) e) ∙ is in
    sym (append-nil (stops old s)) ∙ ap (λ (xs : List (List Out)). stops old s ++ xs) (sym (nothing (from == s)))
    ∙ ap (λ (xs : List (List Out)). stops old s ++ cond (from == s) xs []) none

-- a state below the number is written as it stands among all
pub state_below : (old new : Table) (states i : ℕ) (row : Rows) (last : Lasts) → i < states → AddsState old new i (row i) (last i) → AddsState old new i (rows_below states row i) (lasts_below states last i)
state_below old new states i row last inside adds = record {
  all = adds.all;
  first = adds.first;
  moves = λ s byte. adds.moves s byte ∙ ap (λ (xs : List (ℕ × List Out)). choices old.moves.items s byte ++ cond (i == s && nat_lt byte 256) xs []) (sym (cond-true (nat_lt i states) (row i byte) [] (lt-ltb i states inside)));
  ends = λ s. adds.ends s ∙ ap (λ (xs : List (List Out)). stops old.ends.items s ++ cond (i == s) xs []) (sym (cond-true (nat_lt i states) (last i) [] (lt-ltb i states inside)));
}
