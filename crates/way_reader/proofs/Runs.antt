-- All bytes of a class lead to one state and put out the same.
use Rattle.std.proofs.Common.{◌≡◌, ◌≤◌, ℕ, List, [], ◌∷◌, ◌++◌, refl, sym, ◌∙◌, ap, subst, arith, length, drop}
use Rattle.std.proofs.lemmas.List.{drop_all}
use Rattle.std.specs.Prelude.{min}
use Rattle.text_base.specs.declared.page_token.PageToken.{PageToken}
use Rattle.derivatives.specs.Classes.{last_byte}
use Rattle.derivatives.specs.declared.arena.Arena.{Arena}
use Rattle.derivatives.proofs.NormalForms.{ap2}
use Rattle.echoing_machine.specs.Runs.{AreAlike}
use Rattle.page_model.specs.Places.{Place}
use Rattle.piece_steps.specs.Readers.{put_out, to_state}
use Rattle.partial_derivatives.specs.Classes.{last_in_turn}
use Rattle.partial_derivatives.specs.declared.part.Part.{Part}
use Rattle.partial_derivatives.proofs.Alike.{are_classes_in_turn}
use Rattle.way_reader.specs.Classes.{last_of}
use Rattle.way_reader.specs.Ways.{place_of, ways_by, ways_behind, ended, move_by, way_reader, coded, next_state, tokens_at}
use Rattle.way_reader.specs.declared.way.Spot.{Spot}
use Rattle.way_reader.specs.declared.way.Way.{Way}
use Rattle.way_reader.specs.declared.way.WayState.{WayState}
use Rattle.way_reader.specs.declared.way.WayState.TheVariants.{At, Inside}

below_left : (m n k : ℕ) → k ≤ min m n → k ≤ m
below_left m n k h = omega arith

below_right : (m n k : ℕ) → k ≤ min m n → k ≤ n
below_right m n k h = omega arith

below_both : (m n k : ℕ) → k ≤ m → k ≤ n → k ≤ min m n
below_both m n k h g = omega arith

-- the byte itself is of its class
pub own : (a : Arena) (b : ℕ) (ways : List Way) → b ≤ last_byte → b ≤ last_of a b ways
own a b [] h = h
own a b (way ∷ ways) h = below_both (last_in_turn a b way.parts) (last_of a b ways) b (are_classes_in_turn.own a b way.parts h) (own a b ways h)

-- and the others leave the same
pub alike : (a : Arena) (b c : ℕ) (ways : List Way) → b ≤ c → c ≤ last_of a b ways → ways_behind a c ways ≡ ways_behind a b ways
alike a b c [] h g = refl
alike a b c (way ∷ ways) h g =
    ap2 (λ (xs : List (List Part)) (ys : List Way). ways_by way xs ++ ys)
    (are_classes_in_turn.alike a b c way.parts h (below_left (last_in_turn a b way.parts) (last_of a b ways) c g))
    (alike a b c ways h (below_right (last_in_turn a b way.parts) (last_of a b ways) c g))

abbrev leads : Arena → (Place → List Way) → List Way → WayState
leads a starts ways = coded (to_state (way_reader a starts) (move_by ways (ended a ways)))

abbrev gives : Arena → (Place → List Way) → List Way → List PageToken
gives a starts ways = put_out (way_reader a starts) (move_by ways (ended a ways))

-- by the states in memory
pub from_spot : (a : Arena) (starts : Place → List Way) (s : WayState) (spot : Spot) (b last : ℕ) → s ≡ At spot → last ≡ last_of a b (starts (place_of spot)) → AreAlike (next_state a starts s) (tokens_at a starts s) b last
from_spot a starts s spot b last at is =
    subst (λ (t : WayState). AreAlike (next_state a starts t) (tokens_at a starts t) b last) (sym at)
    (λ c h g. let e = alike a b c (starts (place_of spot)) h (subst (λ (n : ℕ). c ≤ n) is g) in (ap (leads a starts) e, ap (gives a starts) e))

pub from_ways : (a : Arena) (starts : Place → List Way) (s : WayState) (ways : List Way) (b last : ℕ) → s ≡ Inside ways → last ≡ last_of a b ways → AreAlike (next_state a starts s) (tokens_at a starts s) b last
from_ways a starts s ways b last at is =
    subst (λ (t : WayState). AreAlike (next_state a starts t) (tokens_at a starts t) b last) (sym at)
    (λ c h g. let e = alike a b c ways h (subst (λ (n : ℕ). c ≤ n) is g) in (ap (leads a starts) e, ap (gives a starts) e))

most : (a : Arena) (b : ℕ) (ways : List Way) → last_of a b ways ≤ 255
most a b [] = omega arith
most a b (way ∷ ways) = let h = most a b ways in below_most (last_in_turn a b way.parts) (last_of a b ways) h
  where
    below_most : (m n : ℕ) → n ≤ 255 → min m n ≤ 255
    below_most m n h = omega arith

pub at_first : (a : Arena) (b : ℕ) (ways : List Way) → min 255 (last_of a b ways) ≡ last_of a b ways
at_first a b ways = let h = most a b ways in least (last_of a b ways) h
  where
    least : (n : ℕ) → n ≤ 255 → min 255 n ≡ n
    least n h = omega arith

pub at_last : (a : Arena) (b : ℕ) (ways : List Way) (last i : ℕ) → length ways ≤ i → min last (last_of a b (drop i ways)) ≡ last_of a b ways → last ≤ 255 → last ≡ last_of a b ways
at_last a b ways last i over h small = least last (last_of a b ways) (sym (ap (λ (ws : List Way). min last (last_of a b ws)) (drop_all i ways over)) ∙ h) small
  where
    least : (m n : ℕ) → min m 255 ≡ n → m ≤ 255 → m ≡ n
    least m n e h = omega arith
