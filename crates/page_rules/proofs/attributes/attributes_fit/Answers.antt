use Rattle.std.proofs.Common.{◌∙◌, map}
use Rattle.dtd_model.specs.Table.{declared_of}
use Rattle.page_rules.specs.Views.{attribute_of}
use Rattle.page_rules.proofs.Once.{four, once_by_rules}
use Rattle.page_rules.proofs.attributes.attributes_fit.Goals as goal

pub returns : goal.returns
returns c =
    c.all_three.ensures
    ∙ four _ _ _ _ _ c.all_known-known.result c.in_ok-declared.declared c.all_stand-stand.result c.all_known-known.ensures c.in_ok-declared.ensures c.all_stand-stand.ensures
    (once_by_rules (map declared_of c.args.rules.now.items) (map attribute_of c.args.attributes.now))
