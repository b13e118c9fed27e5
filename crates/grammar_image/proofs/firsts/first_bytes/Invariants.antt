use Rattle.std.proofs.Common.{◌≡◌, length}
use Rattle.grammar_image.specs.Firsts.{AreFirsts}
use Rattle.grammar_image.proofs.firsts.first_bytes.Given as goal

abbrev pub invariant-loop-node : goal.invariant-loop-node
invariant-loop-node l = record { firsts : AreFirsts l.nodes l.firsts.items; all : length l.firsts.items ≡ l.node-index }
