-- The laws of the forms, as statements.
use Rattle.std.specs.Prelude.{◌≡◌, ◌↔◌, ℕ, true, false, List, [], ◌∷◌}
use Rattle.std.specs.List.{list_all}
use Rattle.xml_text.specs.Characters.{is_blank}
use Rattle.xml_text.specs.Names.{is_name}
use Rattle.text_base.specs.declared.page_token.PageToken.{PageToken}
use Rattle.dtd_model.specs.Lawful.{are_lawful_attributes, is_lawful}
use Rattle.dtd_model.specs.Table.{Rule, Table}
use Rattle.dtd_model.specs.References.{Reference, is_reference, is_known}
use Rattle.dtd_model.specs.declared.dtd.DoctypeRule.{DoctypeRule}
use Rattle.derivatives.specs.Expressions.{Expr, Matches, Joins}
use Rattle.derivatives.specs.Derivatives.{Normal}
use Rattle.page_model.specs.Attributes.{doctype_fits, attributes_fit}
use Rattle.page_model.specs.PageTokens.{piece_bytes, piece_tokens, IsLawful}
use Rattle.page_model.specs.Parts.{Tag, IsTag, character, reference, section, comment, instruction, IsSection, IsComment, IsInstruction, is_plain}
use Rattle.page_model.specs.Pieces.{Piece, mark, declaration, doctype, start_tag, empty_tag, end_tag, leaf, may_follow, IsPiece, after}
use Rattle.page_model.specs.Places.{Place}
use Rattle.page_model.specs.Prolog.{Declaration, IsDeclaration, Doctype, IsDoctype}
use Rattle.page_forms.specs.Declarations.{declaration_form}
use Rattle.page_forms.specs.Doctypes.{doctype_form}
use Rattle.page_forms.specs.Forms.{Form, forms, IsOfOne}
use Rattle.page_forms.specs.References.{reference_form}
use Rattle.page_forms.specs.Remarks.{comment_form, section_form, instruction_form}
use Rattle.page_forms.specs.Tags.{start_tag_form, empty_tag_form}
use Rattle.page_forms.specs.Simple.{blank_form, bracket_form, is_mark, text_form, mark_form, end_tag_form}

-- the expression matches exactly the bytes of these pieces
abbrev pub IsFormOf : Expr → (Piece → Type 0) → Type 0
IsFormOf e IsOne = (bytes : List ℕ) → Matches e bytes ↔ ((p : Piece) × IsOne p × (piece_bytes p ≡ bytes))

-- the comments (XML 1.0, 2.5)
abbrev pub CommentsAreSpelled : Type 0
CommentsAreSpelled = IsFormOf comment_form (λ p. (text : List ℕ) × (p ≡ leaf (comment text)) × IsComment text)

-- the CDATA sections (XML 1.0, 2.7)
abbrev pub SectionsAreSpelled : Type 0
SectionsAreSpelled = IsFormOf section_form (λ p. (text : List ℕ) × (p ≡ leaf (section text)) × IsSection text)

-- the instructions (XML 1.0, 2.6)
abbrev pub InstructionsAreSpelled : Type 0
InstructionsAreSpelled =
    IsFormOf instruction_form (λ p. (target : List ℕ) × (text : List ℕ) × (p ≡ leaf (instruction target text)) × IsInstruction target text)

-- the references to characters, to entities that need no declaration, and to these (XML 1.0, 4.1)
abbrev pub ReferencesAreSpelled : Type 0
ReferencesAreSpelled = (entities : List (List ℕ))
    → IsFormOf (reference_form entities) (λ p. (r : Reference) × (p ≡ leaf (reference r)) × (is_reference r ≡ true) × (is_known entities r ≡ true))

-- the document type declarations that a definition allows (XML 1.0, 2.8; XHTML 1.0, 3.1.1)
abbrev pub DoctypesAreSpelled : Type 0
DoctypesAreSpelled =
    (rule : DoctypeRule) → IsFormOf (doctype_form rule) (λ p. (d : Doctype) × (p ≡ doctype d) × IsDoctype d × (doctype_fits rule d ≡ true))

-- the XML declarations (XML 1.0, 2.8)
abbrev pub DeclarationsAreSpelled : Type 0
DeclarationsAreSpelled = IsFormOf declaration_form (λ p. (d : Declaration) × (p ≡ declaration d) × IsDeclaration d)

-- the characters of white space (XML 1.0, 2.3)
abbrev pub BlanksAreSpelled : Type 0
BlanksAreSpelled = IsFormOf blank_form (λ p. (c : ℕ) × (p ≡ leaf (character c)) × (is_blank c ≡ true))

-- the character `]`
abbrev pub BracketIsSpelled : Type 0
BracketIsSpelled = (bytes : List ℕ) → Matches bracket_form bytes ↔ ((p : Piece) × (p ≡ leaf (character 93)) × (piece_bytes p ≡ bytes))

-- the other characters of text that may stand at a place (XML 1.0, 2.4)
abbrev pub TextIsSpelled : Type 0
TextIsSpelled = (place : Place)
    → IsFormOf (text_form place)
    (λ p. (c : ℕ) × (p ≡ leaf (character c)) × (is_plain c ≡ true) × (is_mark c ≡ false) × (may_follow place (character c) ≡ true))

-- the byte order mark (XML 1.0, 4.3.3)
abbrev pub MarkIsSpelled : Type 0
MarkIsSpelled = (bytes : List ℕ) → Matches mark_form bytes ↔ ((p : Piece) × (p ≡ mark) × (piece_bytes p ≡ bytes))

-- the end tags of a name (XML 1.0, 3.1)
abbrev pub EndTagsAreSpelled : Type 0
EndTagsAreSpelled = (name : List ℕ) → is_name name ≡ true
    → IsFormOf (end_tag_form name) (λ p. (space : List ℕ) × (p ≡ end_tag name space) × (list_all is_blank space ≡ true))

-- the start tags of an element, by its declaration and by the entities that are declared (XML 1.0, 3.1 and 3.3)
abbrev pub StartTagsAreSpelled : Type 0
StartTagsAreSpelled = (entities : List (List ℕ)) (rule : Rule) → is_name rule.name ≡ true → are_lawful_attributes rule.attributes ≡ true
    → IsFormOf (start_tag_form entities rule)
    (λ p. (tag : Tag) × (p ≡ start_tag tag) × IsTag tag × (tag.name ≡ rule.name)
    × (attributes_fit entities rule.name rule.attributes tag.attributes ≡ true))

-- and the tags of empty elements
abbrev pub EmptyTagsAreSpelled : Type 0
EmptyTagsAreSpelled = (entities : List (List ℕ)) (rule : Rule) → is_name rule.name ≡ true → are_lawful_attributes rule.attributes ≡ true
    → IsFormOf (empty_tag_form entities rule)
    (λ p. (tag : Tag) × (p ≡ empty_tag tag) × IsTag tag × (tag.name ≡ rule.name)
    × (attributes_fit entities rule.name rule.attributes tag.attributes ≡ true))

-- each text of the expression is that of a piece that may stand at this place
abbrev pub AreOfPieces : Place → Expr → Type 0
AreOfPieces place e = (bytes : List ℕ) → Matches e bytes → (p : Piece) × IsPiece place p × (piece_bytes p ≡ bytes)

-- where a text of such an expression ends, no such expression goes on
abbrev pub NoneGoesOn : Type 0
NoneGoesOn = (place : Place) (e f : Expr) → AreOfPieces place e → AreOfPieces place f
    → (u v w : List ℕ) → Joins u v w → Matches e u → Matches f w → v ≡ []

-- by each lawful definition, the texts of the forms at a place are the lawful pieces there, with their tokens and the place behind them
abbrev pub PiecesAreSpelled : Type 0
PiecesAreSpelled = (table : Table) → is_lawful table.elements table.entities ≡ true
    → (place : Place) (bytes : List ℕ) (tokens : List PageToken) (to : Place)
    → IsOfOne (forms table place) bytes tokens to
    ↔ ((p : Piece) × IsLawful table place p × (piece_bytes p ≡ bytes) × (piece_tokens table p ≡ tokens) × (after place p ≡ to))

-- each of the forms is in normal form
abbrev pub AreNormal : List Form → Type 0
AreNormal [] = Unit {0}
AreNormal (f ∷ fs) = Normal f.expression × AreNormal fs

-- and so are all at a place, so that a text with which no piece begins leaves `nothing` of each
abbrev pub FormsAreNormal : Type 0
FormsAreNormal = (table : Table) (place : Place) → AreNormal (forms table place)
