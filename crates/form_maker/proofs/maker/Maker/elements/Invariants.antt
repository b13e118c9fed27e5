use Rattle.std.proofs.Common.{drop, map}
use Rattle.dtd_model.specs.Table.{rule_of}
use Rattle.dtd_model.specs.TableOf.{table_of}
use Rattle.form_maker.specs.Kept.{HasShared}
use Rattle.form_maker.specs.Making.{making_of}
use Rattle.form_maker.proofs.Attributes.{HasTags}
use Rattle.form_maker.proofs.maker.Maker.elements.Given as goal

-- with the elements that are left it is all of them
abbrev pub invariant-loop-rule : goal.invariant-loop-rule
invariant-loop-rule l =
    HasShared (table_of l.indexed.dtd.now).entities (making_of l.fn.self)
    → HasTags (table_of l.indexed.dtd.now).entities (map rule_of (drop l.rule-index l.indexed.dtd.now.elements.items)) (map rule_of l.indexed.dtd.now.elements.items) (making_of l.fn.self) (making_of l.self)
