use Rattle.std.proofs.Common.{◌≡◌, drop}
use Rattle.echoing_machine.specs.Runs as spec
use Rattle.echoing_machine.proofs.runs.last_in.Given as goal

abbrev pub invariant-loop-first : goal.invariant-loop-first
invariant-loop-first l = spec.last_in (drop l.first-index l.runs) l.byte ≡ spec.last_in l.runs l.byte
