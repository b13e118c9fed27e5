use Rattle.std.proofs.Common.{◌≡◌, length}
use Rattle.derivations.specs.Pieces.{ArePieces}
use Rattle.derivations.proofs.preparing.pieces_of.Given as goal

abbrev pub invariant-loop-node : goal.invariant-loop-node
invariant-loop-node l = record { pieces : ArePieces l.nodes l.forks.items l.pieces.items; all : length l.pieces.items ≡ l.node-index }
