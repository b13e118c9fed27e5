-- The plain form of what the code reads.
use Rattle.std.specs.Prelude.{ℕ, Bool, not, List, map, Option, Some, None}
use Rattle.std.specs.Borrow.{Bor}
use Rattle.xml_text.specs.Characters.{is_blank}
use Rattle.xml_text.specs.Names.{in_name}
use Rattle.page_model.specs.Parts as spec
use Rattle.page_model.specs.Prolog as prolog
use Rattle.page_model.specs.Pieces as pieces
use Rattle.page_model.specs.Places as places
use Rattle.dtd_model.specs.References as references
use Rattle.std.specs.declared.alloc.Global.{Global}
use Rattle.std.specs.declared.vec.Vec.{Vec}
use Rattle.page_model.specs.Scan.{is_other}
use Rattle.page_rules.specs.declared.classes.Class.{Class}
use Rattle.page_rules.specs.declared.classes.Class.TheVariants.{Blank, NotBlank, InName, Other}
use Rattle.page_rules.specs.declared.parts.Literal.{Literal}
use Rattle.page_rules.specs.declared.parts.Attribute.{Attribute}
use Rattle.page_rules.specs.declared.parts.Tag.{Tag}
use Rattle.page_rules.specs.declared.parts.Declaration.{Declaration}
use Rattle.page_rules.specs.declared.parts.Identifier.{Identifier}
use Rattle.page_rules.specs.declared.parts.Identifier.TheVariants as the_identifier
use Rattle.page_rules.specs.declared.parts.Doctype.{Doctype}
use Rattle.page_rules.specs.declared.parts.Reference.{Reference}
use Rattle.page_rules.specs.declared.parts.Reference.TheVariants as the_reference
use Rattle.page_rules.specs.declared.parts.Piece.{Piece}
use Rattle.page_rules.specs.declared.parts.Piece.TheVariants as the_piece
use Rattle.page_rules.specs.declared.parts.Place.{Place}
use Rattle.page_rules.specs.declared.parts.Place.TheVariants as the_place

-- whether a character is of the class
abbrev pub class_test : Class → ℕ → Bool
class_test Blank c = is_blank c
class_test NotBlank c = not (is_blank c)
class_test InName c = in_name c
class_test (Other end) c = is_other end c

-- the plain form of two runs of characters, if they were found
abbrev pub seen_pair : Option (Bor (List ℕ) × Bor (List ℕ)) → Option (List ℕ × List ℕ)
seen_pair None = None
seen_pair (Some z) = Some (z.0.now, z.1.now)

-- the plain form of a text in quotes
abbrev pub literal_of : Literal → prolog.Literal
literal_of l = record { quote = l.quote; text = l.text.now }

-- the plain form of a text in quotes and of what stands behind it, if it was found
abbrev pub seen_literal : Option (Literal × Bor (List ℕ)) → Option (prolog.Literal × List ℕ)
seen_literal None = None
seen_literal (Some z) = Some (literal_of z.0, z.1.now)

-- the plain form of an attribute
abbrev pub attribute_of : Attribute → spec.Attribute
attribute_of a = record {
  space = a.space.now;
  name = a.name.now;
  before_equals = a.before_equals.now;
  after_equals = a.after_equals.now;
  quote = a.value.quote;
  value = a.value.text.now;
}

-- the plain form of an attribute and of what stands behind it, if it was found
abbrev pub seen_attribute : Option (Attribute × Bor (List ℕ)) → Option (spec.Attribute × List ℕ)
seen_attribute None = None
seen_attribute (Some z) = Some (attribute_of z.0, z.1.now)

-- the plain form of a tag
abbrev pub tag_of : Tag → spec.Tag
tag_of t = record { name = t.name.now; attributes = map attribute_of t.attributes.items; space = t.space.now }

-- the plain form of an XML declaration
abbrev pub declaration_of : Declaration → prolog.Declaration
declaration_of d = record { attributes = map attribute_of d.attributes.items; space = d.space.now }

-- the plain form of the identifier of a document type
abbrev pub identifier_of : Identifier → prolog.Identifier
identifier_of the_identifier.None = prolog.no_identifier
identifier_of (the_identifier.System s t l) = prolog.system s.now t.now (literal_of l)
identifier_of (the_identifier.Public s t l u m) = prolog.public s.now t.now (literal_of l) u.now (literal_of m)

-- the plain form of a document type declaration
abbrev pub doctype_of : Doctype → prolog.Doctype
doctype_of d = record { space = d.space.now; identifier = identifier_of d.identifier; end_space = d.end_space.now }

-- the plain form of a reference
abbrev pub reference_of : Reference → references.Reference
reference_of (the_reference.Decimal digits) = references.decimal digits.now
reference_of (the_reference.Hexadecimal digits) = references.hexadecimal digits.now
reference_of (the_reference.Entity name) = references.entity name.now

-- the plain form of a piece
abbrev pub piece_of : Piece → pieces.Piece
piece_of the_piece.Mark = pieces.mark
piece_of (the_piece.Declaration d) = pieces.declaration (declaration_of d)
piece_of (the_piece.Doctype d) = pieces.doctype (doctype_of d)
piece_of (the_piece.Start tag) = pieces.start_tag (tag_of tag)
piece_of (the_piece.Empty tag) = pieces.empty_tag (tag_of tag)
piece_of (the_piece.End name space) = pieces.end_tag name.now space.now
piece_of (the_piece.Character c) = pieces.leaf (spec.character c)
piece_of (the_piece.Reference r) = pieces.leaf (spec.reference (reference_of r))
piece_of (the_piece.Section text) = pieces.leaf (spec.section text.now)
piece_of (the_piece.Comment text) = pieces.leaf (spec.comment text.now)
piece_of (the_piece.Instruction target text) = pieces.leaf (spec.instruction target.now text.now)

-- the plain form of a place
abbrev pub place_of : Place → places.Place
place_of the_place.Beginning = places.at_beginning
place_of the_place.BehindMark = places.behind_mark
place_of (the_place.Behind k) = places.behind k

-- a piece, and what stands behind it
abbrev pub seen_piece : Option (Piece × Bor (List ℕ)) → Option (pieces.Piece × List ℕ)
seen_piece None = None
seen_piece (Some z) = Some (piece_of z.0, z.1.now)

-- attributes, and what stands behind them
abbrev pub seen_attributes : Vec Attribute Global × Bor (List ℕ) → List spec.Attribute × List ℕ
seen_attributes z = (map attribute_of z.0.items, z.1.now)
