use Rattle.std.proofs.Common.{◌≡◌, ◌++◌, ◌-◌, ◌≤◌}
use Rattle.script_maker.specs.Made.{lines_from}
use Rattle.script_maker.proofs.lines.put_callers.Given as goal

abbrev pub invariant-loop-called : goal.invariant-loop-called
invariant-loop-called l = record {
  within : l.called ≤ l.last;
  left : l.script.items ++ lines_from l.called (l.last - l.called) ≡ l.fn.script.items ++ lines_from 0 l.last;
}
