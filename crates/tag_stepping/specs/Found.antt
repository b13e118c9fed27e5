-- The declared element of a tag.
use Rattle.std.specs.Prelude.{Option, Some, None}
use Rattle.dtd_model.specs.Table.{Rule, rule_of}
use Rattle.tag_stepping.specs.declared.element.TagElement.{TagElement}

-- its declaration, where there is one
abbrev pub plain_rule : Option TagElement → Option Rule
plain_rule None = None
plain_rule (Some found) = Some (rule_of found.rule.now)
