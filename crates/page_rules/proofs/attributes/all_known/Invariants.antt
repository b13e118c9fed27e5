use Rattle.std.proofs.Common.{◌≡◌, drop, map}
use Rattle.std.specs.List.{list_all}
use Rattle.dtd_model.specs.References.{is_known}
use Rattle.dtd_model.specs.TableOf.{table_of}
use Rattle.page_model.specs.Parts.{Attribute, refers_by}
use Rattle.page_rules.specs.Views.{attribute_of}
use Rattle.page_rules.proofs.attributes.all_known.Given as goal

abbrev pub invariant-loop-attribute : goal.invariant-loop-attribute
invariant-loop-attribute l = list_all (λ (a : Attribute). refers_by (is_known (table_of l.fn.indexed.dtd.now).entities) a.value) (map attribute_of (drop l.attribute-index l.attributes)) ≡ list_all (λ (a : Attribute). refers_by (is_known (table_of l.fn.indexed.dtd.now).entities) a.value) (map attribute_of l.attributes)
