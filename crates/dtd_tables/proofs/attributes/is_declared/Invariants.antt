use Rattle.std.proofs.Common.{◌≡◌, map, drop}
use Rattle.dtd_model.specs.Table.{declared_of}
use Rattle.dtd_texts.specs.Tables as spec
use Rattle.dtd_tables.proofs.attributes.is_declared.Given as goal

abbrev pub invariant-loop-rule : goal.invariant-loop-rule
invariant-loop-rule l = spec.is_declared (map declared_of (drop l.rule-index l.rules)) l.name ≡ spec.is_declared (map declared_of l.rules) l.name
