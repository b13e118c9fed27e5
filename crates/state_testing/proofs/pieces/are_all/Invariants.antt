use Rattle.std.proofs.Common.{◌≡◌, drop, map}
use Rattle.dtd_model.specs.Table.{declared_of}
use Rattle.page_steps.specs.TagSteps.{are_all}
use Rattle.state_testing.proofs.pieces.are_all.Given as goal

abbrev pub invariant-loop-rule : goal.invariant-loop-rule
invariant-loop-rule l = are_all l.name (map declared_of (drop l.rule-index l.rules.items)) l.names ≡ are_all l.name (map declared_of l.rules.items) l.names
