-- The value in memory that stands for each value of the definition.
use Rattle.std.specs.Prelude.{Some, None}
use Rattle.character_steps.specs.Encoded.{Held}
use Rattle.page_model.specs.Places.{Place, at_beginning, behind_mark, behind}
use Rattle.page_model.specs.Fronts as fronts
use Rattle.page_model.specs.OpenDoctypes as doctype
use Rattle.page_model.specs.OpenTags as attribute
use Rattle.page_model.specs.OpenValues as value
use Rattle.page_steps.specs.PageSteps as steps
use Rattle.open_pieces.specs.declared.value.OpenReference.{OpenReference}
use Rattle.open_pieces.specs.declared.value.OpenReference.TheVariants.{Entity, Number, Decimal, HexadecimalBegin, Hexadecimal}
use Rattle.open_pieces.specs.declared.value.OpenValue.{OpenValue}
use Rattle.open_pieces.specs.declared.value.OpenValue.TheVariants.{Text, Reference, Fixed, Choice, Words}
use Rattle.open_pieces.specs.declared.attribute.OpenAttribute.{OpenAttribute}
use Rattle.open_pieces.specs.declared.attribute.OpenAttribute.TheVariants as in_memory
use Rattle.open_pieces.specs.declared.doctype.DoctypeWord.{DoctypeWord}
use Rattle.open_pieces.specs.declared.doctype.DoctypeWord.TheVariants as word
use Rattle.open_pieces.specs.declared.doctype.OpenDoctype.{OpenDoctype}
use Rattle.open_pieces.specs.declared.doctype.OpenDoctype.TheVariants as type
use Rattle.open_pieces.specs.declared.open.OpenPiece.{OpenPiece}
use Rattle.open_pieces.specs.declared.open.OpenPiece.TheVariants as piece
use Rattle.open_pieces.specs.declared.state.PagePlace.{PagePlace}
use Rattle.open_pieces.specs.declared.state.PagePlace.TheVariants as place
use Rattle.open_pieces.specs.declared.state.PageState.{PageState}
use Rattle.open_pieces.specs.declared.state.HeldState.{HeldState}

-- an open reference in memory
abbrev pub coded_reference : value.OpenReference → OpenReference
coded_reference (value.in_entity name) = Entity name
coded_reference value.at_number = Number
coded_reference (value.in_decimal n) = Decimal n
coded_reference (value.in_hexadecimal None) = HexadecimalBegin
coded_reference (value.in_hexadecimal (Some n)) = Hexadecimal n

-- an open value in memory
abbrev pub coded_value : value.OpenValue → OpenValue
coded_value value.in_text = Text
coded_value (value.in_reference r) = Reference (coded_reference r)
coded_value (value.in_fixed text) = Fixed text
coded_value (value.in_choice word spaced) = Choice word spaced
coded_value (value.in_words inside one) = Words inside one

-- an open attribute in memory
abbrev pub coded_attribute : attribute.OpenAttribute → OpenAttribute
coded_attribute (attribute.between spaced) = in_memory.Between spaced
coded_attribute (attribute.in_attribute_name name) = in_memory.Name name
coded_attribute (attribute.behind_name name) = in_memory.BehindName name
coded_attribute (attribute.behind_equals name) = in_memory.BehindEquals name
coded_attribute (attribute.in_value name quote v) = in_memory.Value name quote (coded_value v)

-- `SYSTEM` or `PUBLIC` in memory
abbrev pub coded_word : doctype.Word → DoctypeWord
coded_word doctype.system_word = word.System
coded_word doctype.public_word = word.Public

-- an open document type declaration in memory
abbrev pub coded_doctype : doctype.OpenDoctype → OpenDoctype
coded_doctype (doctype.before_root spaced) = type.BeforeRoot spaced
coded_doctype (doctype.in_root name) = type.Root name
coded_doctype doctype.behind_root = type.BehindRoot
coded_doctype (doctype.in_word word) = type.Word word
coded_doctype (doctype.behind_word word) = type.BehindWord (coded_word word)
coded_doctype (doctype.in_public quote None) = type.FreePublic quote
coded_doctype (doctype.in_public quote (Some text)) = type.KeptPublic quote text
coded_doctype (doctype.behind_public spaced) = type.BehindPublic spaced
coded_doctype (doctype.in_system quote) = type.System quote
coded_doctype doctype.behind_system = type.BehindSystem

-- an open piece in memory
abbrev pub coded_open : fronts.Open → OpenPiece
coded_open fronts.nothing = piece.Nothing
coded_open (fronts.in_reference r) = piece.Reference (coded_reference r)
coded_open (fronts.in_opener begun) = piece.Opener begun
coded_open (fronts.in_tag_name name) = piece.TagName name
coded_open (fronts.in_tag name names o) = piece.Tag name names (coded_attribute o)
coded_open (fronts.at_empty_end name names) = piece.EmptyEnd name names
coded_open (fronts.in_end_tag name spaced) = piece.EndTag name spaced
coded_open (fronts.in_comment dashes) = piece.Comment dashes
coded_open (fronts.in_section brackets) = piece.Section brackets
coded_open (fronts.in_target None) = piece.OtherTarget
coded_open (fronts.in_target (Some target)) = piece.Target target
coded_open fronts.behind_target = piece.BehindTarget
coded_open (fronts.in_instruction asked) = piece.Instruction asked
coded_open (fronts.in_declaration names o) = piece.Declaration names (coded_attribute o)
coded_open fronts.at_declaration_end = piece.DeclarationEnd
coded_open (fronts.in_doctype o) = piece.Doctype (coded_doctype o)

-- a place in memory
abbrev pub coded_place : Place → PagePlace
coded_place at_beginning = place.AtBeginning
coded_place behind_mark = place.BehindMark
coded_place (behind brackets) = place.Behind brackets

-- a state of the reader by characters in memory
abbrev pub coded_state : steps.PageState → PageState
coded_state s = record { place = coded_place s.place; inside = coded_open s.inside }

-- a state of the reader by bytes in memory
abbrev pub coded_held : Held steps.PageState → HeldState
coded_held h = record { state = coded_state h.state; begun = h.begun }
