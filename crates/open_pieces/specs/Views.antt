-- The value of the definition that each value in memory stands for.
use Rattle.std.specs.Prelude.{Some, None}
use Rattle.character_steps.specs.Encoded.{Held}
use Rattle.page_model.specs.Places.{Place, at_beginning, behind_mark, behind}
use Rattle.page_model.specs.Fronts as fronts
use Rattle.page_model.specs.OpenDoctypes as doctype
use Rattle.page_model.specs.OpenTags as attribute
use Rattle.page_model.specs.OpenValues as value
use Rattle.page_steps.specs.PageSteps as steps
use Rattle.open_pieces.specs.declared.value.OpenReference.{OpenReference}
use Rattle.open_pieces.specs.declared.value.OpenReference.TheVariants.{Entity, Number, Decimal, HexadecimalBegin, Hexadecimal}
use Rattle.open_pieces.specs.declared.value.OpenValue.{OpenValue}
use Rattle.open_pieces.specs.declared.value.OpenValue.TheVariants.{Text, Reference, Fixed, Choice, Words}
use Rattle.open_pieces.specs.declared.attribute.OpenAttribute.{OpenAttribute}
use Rattle.open_pieces.specs.declared.attribute.OpenAttribute.TheVariants as in_memory
use Rattle.open_pieces.specs.declared.doctype.DoctypeWord.{DoctypeWord}
use Rattle.open_pieces.specs.declared.doctype.DoctypeWord.TheVariants as word
use Rattle.open_pieces.specs.declared.doctype.OpenDoctype.{OpenDoctype}
use Rattle.open_pieces.specs.declared.doctype.OpenDoctype.TheVariants as type
use Rattle.open_pieces.specs.declared.open.OpenPiece.{OpenPiece}
use Rattle.open_pieces.specs.declared.open.OpenPiece.TheVariants as piece
use Rattle.open_pieces.specs.declared.state.PagePlace.{PagePlace}
use Rattle.open_pieces.specs.declared.state.PagePlace.TheVariants as place
use Rattle.open_pieces.specs.declared.state.PageState.{PageState}
use Rattle.open_pieces.specs.declared.state.HeldState.{HeldState}

-- the plain form of an open reference
abbrev pub plain_reference : OpenReference → value.OpenReference
plain_reference (Entity name) = value.in_entity name
plain_reference Number = value.at_number
plain_reference (Decimal n) = value.in_decimal n
plain_reference HexadecimalBegin = value.in_hexadecimal None
plain_reference (Hexadecimal n) = value.in_hexadecimal (Some n)

-- the plain form of an open value
abbrev pub plain_value : OpenValue → value.OpenValue
plain_value Text = value.in_text
plain_value (Reference r) = value.in_reference (plain_reference r)
plain_value (Fixed text) = value.in_fixed text
plain_value (Choice word spaced) = value.in_choice word spaced
plain_value (Words inside one) = value.in_words inside one

-- the plain form of an open attribute
abbrev pub plain_attribute : OpenAttribute → attribute.OpenAttribute
plain_attribute (in_memory.Between spaced) = attribute.between spaced
plain_attribute (in_memory.Name name) = attribute.in_attribute_name name
plain_attribute (in_memory.BehindName name) = attribute.behind_name name
plain_attribute (in_memory.BehindEquals name) = attribute.behind_equals name
plain_attribute (in_memory.Value name quote v) = attribute.in_value name quote (plain_value v)

-- the plain form of `SYSTEM` or `PUBLIC`
abbrev pub plain_word : DoctypeWord → doctype.Word
plain_word word.System = doctype.system_word
plain_word word.Public = doctype.public_word

-- the plain form of an open document type declaration
abbrev pub plain_doctype : OpenDoctype → doctype.OpenDoctype
plain_doctype (type.BeforeRoot spaced) = doctype.before_root spaced
plain_doctype (type.Root name) = doctype.in_root name
plain_doctype type.BehindRoot = doctype.behind_root
plain_doctype (type.Word word) = doctype.in_word word
plain_doctype (type.BehindWord word) = doctype.behind_word (plain_word word)
plain_doctype (type.FreePublic quote) = doctype.in_public quote None
plain_doctype (type.KeptPublic quote text) = doctype.in_public quote (Some text)
plain_doctype (type.BehindPublic spaced) = doctype.behind_public spaced
plain_doctype (type.System quote) = doctype.in_system quote
plain_doctype type.BehindSystem = doctype.behind_system

-- the plain form of an open piece
abbrev pub plain_open : OpenPiece → fronts.Open
plain_open piece.Nothing = fronts.nothing
plain_open (piece.Reference r) = fronts.in_reference (plain_reference r)
plain_open (piece.Opener begun) = fronts.in_opener begun
plain_open (piece.TagName name) = fronts.in_tag_name name
plain_open (piece.Tag name names o) = fronts.in_tag name names (plain_attribute o)
plain_open (piece.EmptyEnd name names) = fronts.at_empty_end name names
plain_open (piece.EndTag name spaced) = fronts.in_end_tag name spaced
plain_open (piece.Comment dashes) = fronts.in_comment dashes
plain_open (piece.Section brackets) = fronts.in_section brackets
plain_open (piece.Target target) = fronts.in_target (Some target)
plain_open piece.OtherTarget = fronts.in_target None
plain_open piece.BehindTarget = fronts.behind_target
plain_open (piece.Instruction asked) = fronts.in_instruction asked
plain_open (piece.Declaration names o) = fronts.in_declaration names (plain_attribute o)
plain_open piece.DeclarationEnd = fronts.at_declaration_end
plain_open (piece.Doctype o) = fronts.in_doctype (plain_doctype o)

-- the plain form of a place
abbrev pub plain_place : PagePlace → Place
plain_place place.AtBeginning = at_beginning
plain_place place.BehindMark = behind_mark
plain_place (place.Behind brackets) = behind brackets

-- the plain form of a state of the reader by characters
abbrev pub plain_state : PageState → steps.PageState
plain_state s = record { place = plain_place s.place; inside = plain_open s.inside }

-- the plain form of a state of the reader by bytes
abbrev pub plain_held : HeldState → Held steps.PageState
plain_held h = record { state = plain_state h.state; begun = h.begun }
