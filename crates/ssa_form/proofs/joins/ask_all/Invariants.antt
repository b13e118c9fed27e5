use Rattle.std.proofs.Common.{take}
use Rattle.ssa_form.specs.Views.{versions_seen}
use Rattle.ssa_form.specs.Joins.{AsksFor}
use Rattle.ssa_form.proofs.joins.ask_all.Given as goal

abbrev pub invariant-loop-version : goal.invariant-loop-version
invariant-loop-version l = AsksFor l.initial.asks.keys l.asks.keys (versions_seen (take l.version-index l.row))
