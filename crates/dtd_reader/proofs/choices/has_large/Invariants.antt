use Rattle.std.proofs.Common.{◌≡◌, map, drop}
use Rattle.std.specs.List.{list_any}
use Rattle.dtd_model.specs.Table.{declared_of}
use Rattle.dtd_reader.specs.Choices.{is_large}
use Rattle.dtd_reader.proofs.choices.has_large.Given as goal

abbrev pub invariant-loop-rule : goal.invariant-loop-rule
invariant-loop-rule l = list_any is_large (map declared_of (drop l.rule-index l.rules)) ≡ list_any is_large (map declared_of l.rules)
