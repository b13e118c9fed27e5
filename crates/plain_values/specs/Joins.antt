-- Joining values as texts (PHP manual, "String operators").
use Rattle.std.specs.Prelude.{List, ◌++◌, flat_map, Result}
use Rattle.plain_values.specs.Plain.{Plain}
use Rattle.plain_values.specs.Text.{text_of}
use Rattle.plain_values.specs.Members.{within_length}
use Rattle.plain_values.specs.declared.fault.Fault.{Fault}

-- `a . b . c`, and a text with values in it: the text forms in turn, where they are not too long together
abbrev pub join_of : List Plain → Result Plain Fault
join_of parts = within_length (flat_map text_of parts)

-- `a .= b`: the same of two
abbrev pub appended_to : Plain → Plain → Result Plain Fault
appended_to old more = within_length (text_of old ++ text_of more)
