-- Equality of states is exact.
use Rattle.std.specs.Prelude.{◌≡◌, ℕ, true, List}
use Rattle.std.proofs.Common.{ap, rules}
use Rattle.text_base.specs.Exactness.{IsExact, exact_bytes}
use Rattle.open_pieces.specs.Lists.{both}
use Rattle.open_pieces.specs.declared.open.OpenPiece.{OpenPiece}
use Rattle.open_pieces.specs.OpenExactness.{exact_piece}
use Rattle.open_pieces.specs.declared.state.PagePlace.{PagePlace}
use Rattle.open_pieces.specs.contracts.state.PagePlacePartialEq.TheImpl as places
use Rattle.open_pieces.specs.declared.state.PageState.{PageState}
use Rattle.open_pieces.specs.contracts.state.PageStatePartialEq.TheImpl as states
use Rattle.open_pieces.specs.declared.state.HeldState.{HeldState}
use Rattle.open_pieces.specs.contracts.state.HeldStatePartialEq.TheImpl as helds

exact_place : IsExact (places.ghosts).eq
exact_place = search rules

-- states of the reader by characters that are found equal are one
pub exact_state : (a b : PageState) → (states.ghosts).eq a b ≡ true → a ≡ b
exact_state a b e = ap (λ (z : PagePlace × OpenPiece). let s : PageState = record { place = z.0; inside = z.1 } in s)
    (both exact_place exact_piece a.place b.place a.inside b.inside e)

-- states of the reader by bytes that are found equal are one
pub exact_held : (a b : HeldState) → (helds.ghosts).eq a b ≡ true → a ≡ b
exact_held a b e = ap (λ (z : PageState × List ℕ). let h : HeldState = record { state = z.0; begun = z.1 } in h)
    (both exact_state exact_bytes a.state b.state a.begun b.begun e)
