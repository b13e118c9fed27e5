-- How the piece at the head of characters is read, form by form. What is asked of its parts beyond their form stands in
-- specs/Right.antt. Nobody has to believe it: laws say that it reads exactly the pieces of page_model.
use Rattle.std.specs.Prelude.{ℕ, zero, suc, ◌==◌, if◌then◌else◌, List, [], ◌∷◌, length, codes, bytes_eq, Option, Some, None}
use Rattle.xml_text.specs.Characters.{is_blank}
use Rattle.xml_text.specs.Names.{begins_name, in_name}
use Rattle.page_model.specs.Parts.{Attribute, Tag, character, reference, section, comment, instruction, reference_of, is_quote}
use Rattle.page_model.specs.Prolog.{Literal, Identifier, no_identifier, system, public}
use Rattle.page_model.specs.Pieces.{Piece, mark, declaration, doctype, start_tag, empty_tag, end_tag, leaf}
use Rattle.page_model.specs.Places.{Place, at_beginning, behind_mark, behind}
use Rattle.page_model.specs.Scan.{front, beyond, strip, until, then_some, is_other}

-- a name, and what stands behind it
abbrev pub name_at : List ℕ → Option (List ℕ × List ℕ)
name_at [] = None
name_at (c ∷ cs) = if begins_name c then Some (c ∷ front in_name cs, beyond in_name cs) else None

-- a literal with this quote and text, where a character is left to be its closing quote, and what stands behind that
abbrev pub closed : ℕ → List ℕ → List ℕ → Option (Literal × List ℕ)
closed quote text [] = None
closed quote text (c ∷ cs) = Some (record { quote = quote; text = text }, cs)

-- a text in quotes
abbrev pub quoted_at : List ℕ → Option (Literal × List ℕ)
quoted_at [] = None
quoted_at (q ∷ cs) = if is_quote q then closed q (front (is_other q) cs) (beyond (is_other q) cs) else None

-- an attribute of its parts: the white space before it, its name, the white space round `=`, and its value in quotes
abbrev pub attribute_from : List ℕ → List ℕ → List ℕ → List ℕ → Literal → Attribute
attribute_from space name before_equals after_equals l =
    record { space = space; name = name; before_equals = before_equals; after_equals = after_equals; quote = l.quote; value = l.text }

-- behind `=`: maybe white space, and the value in quotes
abbrev pub value_at : List ℕ → List ℕ → List ℕ → List ℕ → Option (Attribute × List ℕ)
value_at space name before_equals cs =
    then_some (quoted_at (beyond is_blank cs)) (λ q. Some (attribute_from space name before_equals (front is_blank cs) q.0, q.1))

-- behind an attribute's name: maybe white space, `=`, and the value
abbrev pub equals_at : List ℕ → List ℕ → List ℕ → Option (Attribute × List ℕ)
equals_at space name cs = then_some (strip (codes "=") (beyond is_blank cs)) (λ rest. value_at space name (front is_blank cs) rest)

-- an attribute with the white space before it, which may be none here, and what stands behind it
unfoldable pub attribute_at : List ℕ → Option (Attribute × List ℕ)
attribute_at cs = then_some (name_at (beyond is_blank cs)) (λ n. equals_at (front is_blank cs) n.0 n.1)

-- the attribute that was found, and those that follow it; none, where none was found
abbrev pub attributes_by : Option (Attribute × List ℕ) → List ℕ → (List ℕ → List Attribute × List ℕ) → List Attribute × List ℕ
attributes_by None cs next = ([], cs)
attributes_by (Some found) cs next = (found.0 ∷ (next found.1).0, (next found.1).1)

-- attributes, at most so many
abbrev pub attributes_at : ℕ → List ℕ → List Attribute × List ℕ
attributes_at zero cs = ([], cs)
attributes_at (suc n) cs = attributes_by (attribute_at cs) cs (λ rest. attributes_at n rest)

-- and as many as there are
unfoldable pub all_attributes : List ℕ → List Attribute × List ℕ
all_attributes cs = attributes_at (length cs) cs

-- behind a tag
abbrev pub tag_end : Tag → List ℕ → Option (Piece × List ℕ)
tag_end tag [] = None
tag_end tag (c ∷ cs) = if c == 62 then Some (start_tag tag, cs) else (if c == 47
    then then_some (strip (codes ">") cs) (λ rest. Some (empty_tag tag, rest)) else None)

-- a tag with this name and these attributes, by what ends it
abbrev pub tag_with : List ℕ → List Attribute → List ℕ → Option (Piece × List ℕ)
tag_with name attributes cs = tag_end (record { name = name; attributes = attributes; space = front is_blank cs }) (beyond is_blank cs)

-- behind `<`, `</` and `&`
unfoldable pub open_at : List ℕ → Option (Piece × List ℕ)
open_at cs = then_some (name_at cs) (λ n. tag_with n.0 (all_attributes n.1).0 (all_attributes n.1).1)

-- behind `</`: a name, maybe white space, and `>`
unfoldable pub end_at : List ℕ → Option (Piece × List ℕ)
end_at cs = then_some (name_at cs)
    (λ n. then_some (strip (codes ">") (beyond is_blank n.1)) (λ rest. Some (end_tag n.0 (front is_blank n.1), rest)))

-- behind `&`: all up to the next `;`
unfoldable pub reference_at : List ℕ → Option (Piece × List ℕ)
reference_at cs = then_some (strip (codes ";") (beyond (is_other 59) cs))
    (λ rest. Some (leaf (reference (reference_of (front (is_other 59) cs))), rest))

-- behind `<!--` and `<![CDATA[`
unfoldable pub comment_at : List ℕ → Option (Piece × List ℕ)
comment_at cs = then_some (until (codes "--") cs) (λ s. then_some (strip (codes ">") s.1) (λ rest. Some (leaf (comment s.0), rest)))

-- behind `<![CDATA[`: all up to the first `]]>`
unfoldable pub section_at : List ℕ → Option (Piece × List ℕ)
section_at cs = then_some (until (codes "]]>") cs) (λ s. Some (leaf (section s.0), s.1))

-- behind `<?` and a name
unfoldable pub instruction_at : List ℕ → List ℕ → Option (Piece × List ℕ)
instruction_at target cs = then_some (until (codes "?>") cs) (λ s. Some (leaf (instruction target s.0), s.1))

-- the XML declaration with these attributes: maybe white space, and `?>`
abbrev pub declaration_with : List Attribute → List ℕ → Option (Piece × List ℕ)
declaration_with attributes cs =
    then_some (strip (codes "?>") (beyond is_blank cs))
    (λ rest. Some (declaration (record { attributes = attributes; space = front is_blank cs }), rest))

-- behind `<?xml`: attributes, as many as there are, and the end
unfoldable pub declaration_at : List ℕ → Option (Piece × List ℕ)
declaration_at cs = declaration_with (all_attributes cs).0 (all_attributes cs).1

-- behind `<?`: a name, and then the XML declaration where it is `xml`, and an instruction with this target elsewhere
unfoldable pub question_at : List ℕ → Option (Piece × List ℕ)
question_at cs = then_some (name_at cs) (λ n. if bytes_eq n.0 (codes "xml") then declaration_at n.1 else instruction_at n.0 n.1)

-- behind `<!DOCTYPE`
abbrev pub doctype_end : List ℕ → Identifier → List ℕ → Option (Piece × List ℕ)
doctype_end space identifier cs =
    then_some (strip (codes ">") (beyond is_blank cs))
    (λ rest. Some (doctype (record { space = space; identifier = identifier; end_space = front is_blank cs }), rest))

-- behind `SYSTEM`: maybe white space, and the literal; the white space before the root and before the word goes in
unfoldable pub system_at : List ℕ → List ℕ → List ℕ → Option (Piece × List ℕ)
system_at space s cs = then_some (quoted_at (beyond is_blank cs)) (λ q. doctype_end space (system s (front is_blank cs) q.0) q.1)

-- behind a public literal: maybe white space, and the system literal
abbrev pub second_at : List ℕ → List ℕ → List ℕ → Literal → List ℕ → Option (Piece × List ℕ)
second_at space s t l cs = then_some (quoted_at (beyond is_blank cs)) (λ q. doctype_end space (public s t l (front is_blank cs) q.0) q.1)

-- behind `PUBLIC`: maybe white space, the public literal, and the system literal
unfoldable pub public_at : List ℕ → List ℕ → List ℕ → Option (Piece × List ℕ)
public_at space s cs = then_some (quoted_at (beyond is_blank cs)) (λ q. second_at space s (front is_blank cs) q.0 q.1)

-- behind `html`: the identifier by how it begins
abbrev pub identifier_by : List ℕ → List ℕ → Option (List ℕ) → Option (List ℕ) → Option (Piece × List ℕ)
identifier_by space cs (Some rest) other = system_at space (front is_blank cs) rest
identifier_by space cs None (Some rest) = public_at space (front is_blank cs) rest
identifier_by space cs None None = doctype_end space no_identifier cs

-- behind the root's name: maybe white space, and `SYSTEM`, `PUBLIC` or no identifier
abbrev pub identifier_at : List ℕ → List ℕ → Option (Piece × List ℕ)
identifier_at space cs = identifier_by space cs (strip (codes "SYSTEM") (beyond is_blank cs)) (strip (codes "PUBLIC") (beyond is_blank cs))

-- behind `<!DOCTYPE`: maybe white space, and the root, which is `html`
unfoldable pub doctype_at : List ℕ → Option (Piece × List ℕ)
doctype_at cs = then_some (strip (codes "html") (beyond is_blank cs)) (λ rest. identifier_at (front is_blank cs) rest)

-- behind `<!`
abbrev pub bang_by : Option (List ℕ) → Option (List ℕ) → Option (List ℕ) → Option (Piece × List ℕ)
bang_by (Some rest) b c = comment_at rest
bang_by None (Some rest) c = section_at rest
bang_by None None (Some rest) = doctype_at rest
bang_by None None None = None

-- behind `<!`: `--`, `[CDATA[` or `DOCTYPE`
unfoldable pub bang_at : List ℕ → Option (Piece × List ℕ)
bang_at cs = bang_by (strip (codes "--") cs) (strip (codes "[CDATA[") cs) (strip (codes "DOCTYPE") cs)

-- behind `<`
unfoldable pub markup_at : List ℕ → Option (Piece × List ℕ)
markup_at [] = None
markup_at (c ∷ cs) = if c == 33 then bang_at cs else (if c == 63 then question_at cs else (if c == 47 then end_at cs else open_at (c ∷ cs)))

-- a character that stands for itself
abbrev pub single_at : Place → ℕ → Piece
single_at at_beginning c = if c == 0xFEFF then mark else leaf (character c)
single_at behind_mark c = leaf (character c)
single_at (behind k) c = leaf (character c)

-- the piece at the head, and what stands behind it
unfoldable pub piece_at : Place → List ℕ → Option (Piece × List ℕ)
piece_at place [] = None
piece_at place (c ∷ cs) = if c == 60 then markup_at cs else (if c == 38 then reference_at cs else Some (single_at place c, cs))
