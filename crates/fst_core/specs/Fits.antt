-- What the type of a table keeps, as tests.
use Rattle.std.specs.Prelude.{ℕ, Bool, true, false, ◌&&◌, List, nat_lt}
use Rattle.std.specs.List.{list_all}
use Rattle.fst_core.specs.declared.out.Out.{Out}
use Rattle.fst_core.specs.declared.out.Out.TheVariants.{Same, Shift, Byte, Token}
use Rattle.fst_core.specs.declared.moves.TableMove.{TableMove}
use Rattle.fst_core.specs.declared.moves.TableEnd.{TableEnd}

-- it does not depend on a byte that is read
abbrev pub is_fixed : Out → Bool
is_fixed Same = false
is_fixed (Shift by) = false
is_fixed (Byte own) = true
is_fixed (Token token) = true

-- both states of each move are below the number of states
abbrev pub moves_fit : ℕ → List TableMove → Bool
moves_fit states moves = list_all (λ m. nat_lt m.from states && nat_lt m.to states) moves

-- the state of each end is below the number of states, and what it puts out depends on no byte
abbrev pub ends_fit : ℕ → List TableEnd → Bool
ends_fit states ends = list_all (λ e. nat_lt e.state states && list_all is_fixed e.out.items) ends
