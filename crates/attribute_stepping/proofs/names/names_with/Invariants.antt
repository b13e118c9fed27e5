use Rattle.std.proofs.Common.{◌≡◌, ◌++◌, drop, map}
use Rattle.dtd_model.specs.Table.{declared_of}
use Rattle.page_steps.specs.TagSteps.{names_with}
use Rattle.attribute_stepping.proofs.names.names_with.Given as goal

abbrev pub invariant-loop-rule : goal.invariant-loop-rule
invariant-loop-rule l = l.more ++ names_with (map declared_of (drop l.rule-index l.rules.items)) l.names l.name ≡ names_with (map declared_of l.rules.items) l.names l.name
