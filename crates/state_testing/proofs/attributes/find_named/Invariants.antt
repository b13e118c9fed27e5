use Rattle.std.proofs.Common.{◌≡◌, drop, map}
use Rattle.dtd_model.specs.Table.{declared_of}
use Rattle.page_model.specs.Fronts.{find_declared}
use Rattle.state_testing.proofs.attributes.find_named.Given as goal

abbrev pub invariant-loop-rule : goal.invariant-loop-rule
invariant-loop-rule l = find_declared (map declared_of (drop l.rule-index l.rules.items)) l.name ≡ find_declared (map declared_of l.rules.items) l.name
