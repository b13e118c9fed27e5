-- The values of the definition that moves among attributes in memory stand for.
use Rattle.std.specs.Prelude.{map}
use Rattle.dtd_model.specs.Table.{declared_of}
use Rattle.dtd_model.specs.TableOf.{table_of}
use Rattle.page_steps.specs.AttributeSteps as steps
use Rattle.page_steps.specs.TagSteps.{of_element, of_declaration}
use Rattle.open_pieces.specs.Views.{plain_attribute}
use Rattle.attribute_stepping.specs.declared.outcome.AttributeMove.{AttributeMove}
use Rattle.attribute_stepping.specs.declared.outcome.AttributeMove.TheVariants.{Stays, EndsWith, Leaves, Stops}
use Rattle.attribute_stepping.specs.declared.allowed.Allowing.{Allowing}
use Rattle.attribute_stepping.specs.declared.allowed.Allowing.TheVariants.{Element, Declaration}

-- the plain form of a move among attributes
abbrev pub plain_move : AttributeMove → steps.AttributeMove
plain_move (Stays o) = steps.stays (plain_attribute o)
plain_move (EndsWith names) = steps.ends_with names
plain_move Leaves = steps.leaves
plain_move Stops = steps.stops

-- which attributes may stand
abbrev pub plain_allowing : Allowing → steps.Allowing
plain_allowing (Element indexed rules) = of_element (table_of indexed.now.dtd.now).entities (map declared_of rules.now.items)
plain_allowing Declaration = of_declaration
