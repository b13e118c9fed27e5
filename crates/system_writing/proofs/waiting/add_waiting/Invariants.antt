use Rattle.std.proofs.Common.{take}
use Rattle.system_writing.specs.Steps.{WritesWaiting}
use Rattle.system_writing.proofs.waiting.add_waiting.Given as goal

abbrev pub invariant-loop-text : goal.invariant-loop-text
invariant-loop-text l = WritesWaiting l.marks l.initial.lines l.lines (take l.text-index l.texts)
