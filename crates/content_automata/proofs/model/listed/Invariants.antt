use Rattle.std.proofs.Common.{◌≡◌, false, drop}
use Rattle.std.specs.Prelude.{replicate}
use Rattle.content_automata.specs.Sets.{raised}
use Rattle.content_automata.proofs.model.listed.Given as goal

-- what is left decides
abbrev pub invariant-loop-number : goal.invariant-loop-number
invariant-loop-number l = raised l.flags.items (drop l.number-index l.numbers) ≡ raised (replicate l.count false) l.numbers
