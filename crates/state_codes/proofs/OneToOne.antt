-- Values in memory and those of the definition stand for one another, one to one.
use Rattle.std.proofs.Common.{◌≡◌, ◌∙◌, refl, ap, Some, None}
use Rattle.character_steps.specs.Encoded.{Held}
use Rattle.page_model.specs.Places.{Place, at_beginning, behind_mark, behind}
use Rattle.page_model.specs.Fronts as fronts
use Rattle.page_model.specs.OpenDoctypes as doctype
use Rattle.page_model.specs.OpenTags as attribute
use Rattle.page_model.specs.OpenValues as value
use Rattle.page_steps.specs.PageSteps as steps
use Rattle.open_pieces.specs.declared.value.OpenReference.{OpenReference}
use Rattle.open_pieces.specs.declared.value.OpenReference.TheVariants.{Entity, Number, Decimal, HexadecimalBegin, Hexadecimal}
use Rattle.open_pieces.specs.declared.value.OpenValue.{OpenValue}
use Rattle.open_pieces.specs.declared.value.OpenValue.TheVariants.{Text, Reference, Fixed, Choice, Words}
use Rattle.open_pieces.specs.declared.attribute.OpenAttribute.{OpenAttribute}
use Rattle.open_pieces.specs.declared.attribute.OpenAttribute.TheVariants as in_memory
use Rattle.open_pieces.specs.declared.doctype.DoctypeWord.{DoctypeWord}
use Rattle.open_pieces.specs.declared.doctype.DoctypeWord.TheVariants as word
use Rattle.open_pieces.specs.declared.doctype.OpenDoctype.{OpenDoctype}
use Rattle.open_pieces.specs.declared.doctype.OpenDoctype.TheVariants as type
use Rattle.open_pieces.specs.declared.open.OpenPiece.{OpenPiece}
use Rattle.open_pieces.specs.declared.open.OpenPiece.TheVariants as piece
use Rattle.open_pieces.specs.declared.state.PagePlace.{PagePlace}
use Rattle.open_pieces.specs.declared.state.PagePlace.TheVariants as place
use Rattle.open_pieces.specs.declared.state.HeldState.{HeldState}
use Rattle.open_pieces.specs.Views.{plain_reference, plain_value, plain_attribute, plain_word, plain_doctype, plain_open, plain_place, plain_held}
use Rattle.state_codes.specs.Codes.{coded_reference, coded_value, coded_attribute, coded_word, coded_doctype, coded_open, coded_place, coded_held}

plain_coded_reference : (x : value.OpenReference) → plain_reference (coded_reference x) ≡ x
plain_coded_reference (value.in_entity name) = refl
plain_coded_reference value.at_number = refl
plain_coded_reference (value.in_decimal n) = refl
plain_coded_reference (value.in_hexadecimal None) = refl
plain_coded_reference (value.in_hexadecimal (Some n)) = refl

coded_plain_reference : (x : OpenReference) → coded_reference (plain_reference x) ≡ x
coded_plain_reference (Entity name) = refl
coded_plain_reference Number = refl
coded_plain_reference (Decimal n) = refl
coded_plain_reference HexadecimalBegin = refl
coded_plain_reference (Hexadecimal n) = refl

plain_coded_value : (x : value.OpenValue) → plain_value (coded_value x) ≡ x
plain_coded_value value.in_text = refl
plain_coded_value (value.in_reference r) = ap (λ (z : value.OpenReference). value.in_reference z) (plain_coded_reference r)
plain_coded_value (value.in_fixed text) = refl
plain_coded_value (value.in_choice word spaced) = refl
plain_coded_value (value.in_words inside one) = refl

coded_plain_value : (x : OpenValue) → coded_value (plain_value x) ≡ x
coded_plain_value Text = refl
coded_plain_value (Reference r) = ap (λ (z : OpenReference). Reference z) (coded_plain_reference r)
coded_plain_value (Fixed text) = refl
coded_plain_value (Choice word spaced) = refl
coded_plain_value (Words inside one) = refl

plain_coded_attribute : (x : attribute.OpenAttribute) → plain_attribute (coded_attribute x) ≡ x
plain_coded_attribute (attribute.between spaced) = refl
plain_coded_attribute (attribute.in_attribute_name name) = refl
plain_coded_attribute (attribute.behind_name name) = refl
plain_coded_attribute (attribute.behind_equals name) = refl
plain_coded_attribute (attribute.in_value name quote v) = ap (λ (z : value.OpenValue). attribute.in_value name quote z) (plain_coded_value v)

coded_plain_attribute : (x : OpenAttribute) → coded_attribute (plain_attribute x) ≡ x
coded_plain_attribute (in_memory.Between spaced) = refl
coded_plain_attribute (in_memory.Name name) = refl
coded_plain_attribute (in_memory.BehindName name) = refl
coded_plain_attribute (in_memory.BehindEquals name) = refl
coded_plain_attribute (in_memory.Value name quote v) = ap (λ (z : OpenValue). in_memory.Value name quote z) (coded_plain_value v)

plain_coded_word : (x : doctype.Word) → plain_word (coded_word x) ≡ x
plain_coded_word doctype.system_word = refl
plain_coded_word doctype.public_word = refl

coded_plain_word : (x : DoctypeWord) → coded_word (plain_word x) ≡ x
coded_plain_word word.System = refl
coded_plain_word word.Public = refl

plain_coded_doctype : (x : doctype.OpenDoctype) → plain_doctype (coded_doctype x) ≡ x
plain_coded_doctype (doctype.before_root spaced) = refl
plain_coded_doctype (doctype.in_root name) = refl
plain_coded_doctype doctype.behind_root = refl
plain_coded_doctype (doctype.in_word word) = refl
plain_coded_doctype (doctype.behind_word word) = ap (λ (z : doctype.Word). doctype.behind_word z) (plain_coded_word word)
plain_coded_doctype (doctype.in_public quote None) = refl
plain_coded_doctype (doctype.in_public quote (Some text)) = refl
plain_coded_doctype (doctype.behind_public spaced) = refl
plain_coded_doctype (doctype.in_system quote) = refl
plain_coded_doctype doctype.behind_system = refl

coded_plain_doctype : (x : OpenDoctype) → coded_doctype (plain_doctype x) ≡ x
coded_plain_doctype (type.BeforeRoot spaced) = refl
coded_plain_doctype (type.Root name) = refl
coded_plain_doctype type.BehindRoot = refl
coded_plain_doctype (type.Word word) = refl
coded_plain_doctype (type.BehindWord word) = ap (λ (z : DoctypeWord). type.BehindWord z) (coded_plain_word word)
coded_plain_doctype (type.FreePublic quote) = refl
coded_plain_doctype (type.KeptPublic quote text) = refl
coded_plain_doctype (type.BehindPublic spaced) = refl
coded_plain_doctype (type.System quote) = refl
coded_plain_doctype type.BehindSystem = refl

plain_coded_open : (x : fronts.Open) → plain_open (coded_open x) ≡ x
plain_coded_open fronts.nothing = refl
plain_coded_open (fronts.in_reference r) = ap (λ (z : value.OpenReference). fronts.in_reference z) (plain_coded_reference r)
plain_coded_open (fronts.in_opener begun) = refl
plain_coded_open (fronts.in_tag_name name) = refl
plain_coded_open (fronts.in_tag name names o) = ap (λ (z : attribute.OpenAttribute). fronts.in_tag name names z) (plain_coded_attribute o)
plain_coded_open (fronts.at_empty_end name names) = refl
plain_coded_open (fronts.in_end_tag name spaced) = refl
plain_coded_open (fronts.in_comment dashes) = refl
plain_coded_open (fronts.in_section brackets) = refl
plain_coded_open (fronts.in_target None) = refl
plain_coded_open (fronts.in_target (Some target)) = refl
plain_coded_open fronts.behind_target = refl
plain_coded_open (fronts.in_instruction asked) = refl
plain_coded_open (fronts.in_declaration names o) = ap (λ (z : attribute.OpenAttribute). fronts.in_declaration names z) (plain_coded_attribute o)
plain_coded_open fronts.at_declaration_end = refl
plain_coded_open (fronts.in_doctype o) = ap (λ (z : doctype.OpenDoctype). fronts.in_doctype z) (plain_coded_doctype o)

coded_plain_open : (x : OpenPiece) → coded_open (plain_open x) ≡ x
coded_plain_open piece.Nothing = refl
coded_plain_open (piece.Reference r) = ap (λ (z : OpenReference). piece.Reference z) (coded_plain_reference r)
coded_plain_open (piece.Opener begun) = refl
coded_plain_open (piece.TagName name) = refl
coded_plain_open (piece.Tag name names o) = ap (λ (z : OpenAttribute). piece.Tag name names z) (coded_plain_attribute o)
coded_plain_open (piece.EmptyEnd name names) = refl
coded_plain_open (piece.EndTag name spaced) = refl
coded_plain_open (piece.Comment dashes) = refl
coded_plain_open (piece.Section brackets) = refl
coded_plain_open piece.OtherTarget = refl
coded_plain_open (piece.Target target) = refl
coded_plain_open piece.BehindTarget = refl
coded_plain_open (piece.Instruction asked) = refl
coded_plain_open (piece.Declaration names o) = ap (λ (z : OpenAttribute). piece.Declaration names z) (coded_plain_attribute o)
coded_plain_open piece.DeclarationEnd = refl
coded_plain_open (piece.Doctype o) = ap (λ (z : OpenDoctype). piece.Doctype z) (coded_plain_doctype o)

plain_coded_place : (x : Place) → plain_place (coded_place x) ≡ x
plain_coded_place at_beginning = refl
plain_coded_place behind_mark = refl
plain_coded_place (behind brackets) = refl

coded_plain_place : (x : PagePlace) → coded_place (plain_place x) ≡ x
coded_plain_place place.AtBeginning = refl
coded_plain_place place.BehindMark = refl
coded_plain_place (place.Behind brackets) = refl

pub plain_coded_held : (h : Held steps.PageState) → plain_held (coded_held h) ≡ h
plain_coded_held h =
    let at : Place → fronts.Open → Held steps.PageState = λ p o. record { state = record { place = p; inside = o }; begun = h.begun } in
    ap (λ (p : Place). at p (plain_open (coded_open h.state.inside))) (plain_coded_place h.state.place)
    ∙ ap (λ (o : fronts.Open). at h.state.place o) (plain_coded_open h.state.inside)

pub coded_plain_held : (h : HeldState) → coded_held (plain_held h) ≡ h
coded_plain_held h =
    let at : PagePlace → OpenPiece → HeldState = λ p o. record { state = record { place = p; inside = o }; begun = h.begun } in
    ap (λ (p : PagePlace). at p (coded_open (plain_open h.state.inside))) (coded_plain_place h.state.place)
    ∙ ap (λ (o : OpenPiece). at h.state.place o) (coded_plain_open h.state.inside)
