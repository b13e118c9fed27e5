-- Equality of states is exact.
use Rattle.std.specs.Prelude.{◌≡◌, true, refl}
use Rattle.std.proofs.Common.{ap}
use Rattle.open_pieces.specs.declared.state.HeldState.{HeldState}
use Rattle.open_pieces.specs.StateExactness.{exact_held}
use Rattle.page_reader.specs.declared.state.ReaderState.{ReaderState}
use Rattle.page_reader.specs.declared.state.ReaderState.TheVariants.{Failed, Reading}
use Rattle.page_reader.specs.contracts.state.ReaderStatePartialEq.TheImpl as states

-- states that are found equal are one
pub exact_state : (a b : ReaderState) → (states.ghosts).eq a b ≡ true → a ≡ b
exact_state Failed Failed e = refl
exact_state Failed (Reading h) e = cc
exact_state (Reading h) Failed e = cc
exact_state (Reading h) (Reading g) e = ap (λ (x : HeldState). Reading x) (exact_held h g e)
