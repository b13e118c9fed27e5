use Rattle.std.proofs.Common.{◌≡◌, drop}
use Rattle.std.specs.List.{list_any}
use Rattle.state_testing.specs.Views.{begins_so}
use Rattle.state_testing.proofs.names.any_begins.Given as goal

abbrev pub invariant-loop-name : goal.invariant-loop-name
invariant-loop-name l = list_any (begins_so l.front) (drop l.name-index l.names.items) ≡ list_any (begins_so l.front) l.names.items
