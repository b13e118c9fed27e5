-- Rows, side by side, and points that are not there.
use Rattle.std.proofs.Common.{◌≡◌, ◌≤◌, ◌<◌, ◌+◌, ◌-◌, ℕ, zero, suc, List, [], ◌∷◌, ◌++◌, length, map, Option, None, refl, sym, subst, ap, ◌∙◌, arith, append_assoc, slice_get}
use Rattle.std.proofs.lemmas.List.{append-nil, map-append, length-map}
use Rattle.std.proofs.lemmas.Option.{slice_get_past}
use Rattle.text_base.specs.declared.numbers.Slot.{Slot}
use Rattle.flow_code.specs.Points.{PlainPoint}
use Rattle.flow_code.specs.View.{slot_number}
use Rattle.flow_graph.specs.declared.rows.PointRow.{PointRow}
use Rattle.flow_graph.specs.Rows.{points_seen}
use Rattle.flow_graph.specs.Returned.{paired, return_slots, returned_from}
use Rattle.flow_graph.specs.Handed.{of_call}

pub ruleset ends = (append-nil, append_assoc, map-append)

-- behind all points nothing is returned
pub none_past : (points : List PlainPoint) (q n : ℕ) → length points ≤ q → returned_from points q n ≡ []
unfolding returned_from
none_past points q zero past = refl
none_past points q (suc n) past =
    let none : slice_get points q ≡ None = slice_get_past points q past in
    ap (λ (k : Option PlainPoint). paired q (return_slots k) ++ returned_from points (suc q) n) none ∙ none_past points (suc q) n (omega (arith, past))

-- one point more
pub one_more : (points : List PlainPoint) (first place count : ℕ) → place < count
    → returned_from points (first + place) (count - place) ≡ paired (first + place) (return_slots (slice_get points (first + place))) ++ returned_from points (first + (place + 1)) (count - (place + 1))
unfolding returned_from
one_more points first place count below =
    let longer : count - place ≡ suc (count - (place + 1)) = omega (arith, below) in
    let next : suc (first + place) ≡ first + (place + 1) = omega arith in
    ap (λ (n : ℕ). returned_from points (first + place) n) longer
    ∙ ap (λ (q : ℕ). paired (first + place) (return_slots (slice_get points (first + place))) ++ returned_from points q (count - (place + 1))) next

-- no argument is left
pub no_args : (q n : ℕ) (ys : List ℕ) (xs : List Slot) → length xs ≡ 0 → of_call q n ys (map slot_number xs) ≡ []
unfolding of_call
no_args q n [] xs none = refl
no_args q n (y ∷ ys) [] none = refl
no_args q n (y ∷ ys) (x ∷ xs) none = absurd (omega (arith, none))

pub none_past_row : (row : PointRow) (q n : ℕ) → length row.points.items ≤ q → returned_from (points_seen row) q n ≡ []
none_past_row row q n past = none_past (points_seen row) q n (subst (λ (m : ℕ). m ≤ q) (sym (length-map row.points.items _)) past)
