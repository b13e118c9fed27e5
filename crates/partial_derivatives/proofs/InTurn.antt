-- What a byte leaves of parts in turn matches exactly what may follow it.
use Rattle.std.proofs.Common.{◌≡◌, ◌⊎◌, inl, inr, ℕ, Bool, true, false, List, [], ◌∷◌, refl}
use Rattle.std.specs.Prelude.{if◌then◌else◌}
use Rattle.std.proofs.lemmas.Bool.{and_parts, and_from}
use Rattle.derivatives.specs.Expressions.{at_once, on}
use Rattle.derivatives.specs.Derivatives.{may_end, after}
use Rattle.derivatives.specs.declared.arena.Arena.{Arena}
use Rattle.derivatives.proofs.After.{is_derivative}
use Rattle.derivatives.proofs.Ends.{empty_matched, ends_empty}
use Rattle.partial_derivatives.specs.declared.part.Part.{Part}
use Rattle.partial_derivatives.specs.Parts.{part_expr, InTurn, all_over, goes_on, all_end, behind_part, behind_parts}
use Rattle.partial_derivatives.specs.Laws.{OneMatches, EndInTurn, ByteInTurn}
use Rattle.partial_derivatives.proofs.Joined.{one_left, one_right, one_of}
use Rattle.partial_derivatives.proofs.Behind.{Splits, part_shown, part_made}

pub ends_shown : (a : Arena) (ps : List Part) → all_end a ps ≡ true → InTurn a ps []
ends_shown a [] h = all_over
ends_shown a (p ∷ ps) h = let t = and_parts (may_end (part_expr a p)) (all_end a ps) h in goes_on at_once (empty_matched (part_expr a p) t.0) (ends_shown a ps t.1)

pub ends_made : (a : Arena) (ps : List Part) → InTurn a ps [] → all_end a ps ≡ true
ends_made a [] d = refl
ends_made a (p ∷ ps) (goes_on at_once d t) = and_from (may_end (part_expr a p)) (all_end a ps) (ends_empty (part_expr a p) d) (ends_made a ps t)

pub turn_shown : (a : Arena) (b : ℕ) (ps : List Part) (w : List ℕ) → OneMatches a (behind_parts a b ps) w → InTurn a ps (b ∷ w)
turn_shown a b [] w k = absurd k
turn_shown a b (p ∷ ps) w k = at (λ r. turn_shown a b ps w r) (one_of a (behind_part a b p ps) (if may_end (part_expr a p) then behind_parts a b ps else []) w k)
  where
    first : Splits a (after b (part_expr a p)) ps w → InTurn a (p ∷ ps) (b ∷ w)
    first s = goes_on (on s.joins) ((is_derivative b (part_expr a p) s.u).0 s.is) s.others

    later : (t : Bool) → may_end (part_expr a p) ≡ t → (OneMatches a (behind_parts a b ps) w → InTurn a ps (b ∷ w)) → OneMatches a (if t then behind_parts a b ps else []) w → InTurn a (p ∷ ps) (b ∷ w)
    later true h f r = goes_on at_once (empty_matched (part_expr a p) h) (f r)
    later false h f r = absurd r

    at : (OneMatches a (behind_parts a b ps) w → InTurn a ps (b ∷ w)) → OneMatches a (behind_part a b p ps) w ⊎ OneMatches a (if may_end (part_expr a p) then behind_parts a b ps else []) w → InTurn a (p ∷ ps) (b ∷ w)
    at f (inl l) = first (part_shown a b p ps w l)
    at f (inr r) = later (may_end (part_expr a p)) refl f r

pub turn_made : (a : Arena) (b : ℕ) (ps : List Part) (w : List ℕ) → InTurn a ps (b ∷ w) → OneMatches a (behind_parts a b ps) w
turn_made a b [] w d = elim d [ ]
turn_made a b (p ∷ ps) w (goes_on {v = v} (on {u = u} j) d t) =
    one_left a (behind_part a b p ps) (if may_end (part_expr a p) then behind_parts a b ps else []) w
    (part_made a b p ps w (record { u = u; v = v; joins = j; is = (is_derivative b (part_expr a p) u).1 d; others = t }))
turn_made a b (p ∷ ps) w (goes_on at_once d t) =
    one_right a (behind_part a b p ps) (if may_end (part_expr a p) then behind_parts a b ps else []) w
    (at (may_end (part_expr a p)) (ends_empty (part_expr a p) d) (turn_made a b ps w t))
  where
    at : (e : Bool) → e ≡ true → OneMatches a (behind_parts a b ps) w → OneMatches a (if e then behind_parts a b ps else []) w
    at true h k = k
    at false h k = cc

pub end_in_turn : EndInTurn
end_in_turn a ps = (ends_shown a ps, ends_made a ps)

pub byte_in_turn : ByteInTurn
byte_in_turn a b ps w = (turn_shown a b ps w, turn_made a b ps w)
