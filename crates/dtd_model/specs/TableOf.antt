-- The table of the code's document type definition.
use Rattle.std.specs.Prelude.{map}
use Rattle.dtd_model.specs.declared.definition.Dtd.{Dtd}
use Rattle.dtd_model.specs.Table.{Table, rule_of}

-- what the code's definition declares
abbrev pub table_of : Dtd → Table
table_of dtd = record { elements = map rule_of dtd.elements.items; entities = dtd.entities.items; doctype = dtd.doctype }
