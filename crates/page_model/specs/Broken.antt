-- Pages that break whatever is declared of attributes: they can not be cut into pieces even where less is asked of a tag
-- and of a number. A weaker form of XML 1.0, 2.3 (AttValue), 3.1 (STag, EmptyElemTag, Attribute) and 4.1 (CharRef, EntityRef).
use Rattle.std.specs.Prelude.{◌≡◌, ℕ, Bool, true, not, ◌==◌, ◌&&◌, ◌||◌, List, [], ◌∷◌, ◌++◌}
use Rattle.std.specs.Char.{is_ascii_digit, is_ascii_hexdigit}
use Rattle.std.specs.List.{list_all}
use Rattle.xml_text.specs.Characters.{is_blank}
use Rattle.xml_text.specs.Names.{is_name}
use Rattle.dtd_model.specs.References.{Reference, decimal, hexadecimal, entity, is_known, is_some}
use Rattle.dtd_model.specs.Table.{Table}
use Rattle.page_model.specs.Attributes.{find_rule, is_some_rule}
use Rattle.page_model.specs.Parts.{Attribute, Tag, reference, is_quote}
use Rattle.page_model.specs.PageTokens.{piece_bytes, IsLawful}
use Rattle.page_model.specs.Pieces.{Piece, start_tag, empty_tag, leaf, piece_then, after}
use Rattle.page_model.specs.Places.{Place, at_beginning}

-- an attribute with any name, whose quoted value holds any bytes but `<` and its quote
pub record IsLooseAttribute (a : Attribute) : Type 0 where
  pub some_space : a.space ≡ [] → ⊥
  pub blank_space : list_all is_blank a.space ≡ true
  pub named : is_name a.name ≡ true
  pub blank_before : list_all is_blank a.before_equals ≡ true
  pub blank_after : list_all is_blank a.after_equals ≡ true
  pub quoted : is_quote a.quote ≡ true
  pub value : list_all (λ c. not (c == 60 || c == a.quote)) a.value ≡ true

-- each of the attributes is such: any name, and in its quotes any bytes but `<` and the quote
abbrev pub AreLooseAttributes : List Attribute → Type 0
AreLooseAttributes [] = Unit {0}
AreLooseAttributes (a ∷ more) = IsLooseAttribute a × AreLooseAttributes more

-- a tag of a declared element, with any attributes
pub record IsLooseTag (table : Table) (tag : Tag) : Type 0 where
  pub named : is_name tag.name ≡ true
  pub declared : is_some_rule (find_rule table.elements tag.name) ≡ true
  pub attributes : AreLooseAttributes tag.attributes
  pub blank_space : list_all is_blank tag.space ≡ true

-- a number of any digits, at least one, which are those of ASCII; or an entity that is known
abbrev pub is_loose_reference : Table → Reference → Bool
is_loose_reference table (decimal digits) = is_some digits && list_all is_ascii_digit digits
is_loose_reference table (hexadecimal digits) = is_some digits && list_all is_ascii_hexdigit digits
is_loose_reference table (entity name) = is_name name && is_known table.entities (entity name)

-- the piece is lawful at this place, where less is asked of the attributes of a tag and of the number of a character
abbrev pub IsLoose : Table → Place → Piece → Type 0
IsLoose table place (start_tag tag) = IsLooseTag table tag
IsLoose table place (empty_tag tag) = IsLooseTag table tag
IsLoose table place (leaf (reference r)) = is_loose_reference table r ≡ true
IsLoose table place p = IsLawful table place p

-- the pieces are such in turn, each behind those before it
abbrev pub AreLoose : Table → Place → List Piece → Type 0
AreLoose table place [] = Unit {0}
AreLoose table place (p ∷ ps) = IsLoose table place p × AreLoose table (after place p) ps

-- the bytes of a piece; the values of attributes are taken as bytes and not as characters
abbrev pub loose_bytes : Piece → List ℕ
loose_bytes (start_tag tag) = piece_then (start_tag tag) []
loose_bytes (empty_tag tag) = piece_then (empty_tag tag) []
loose_bytes p = piece_bytes p

-- the bytes of the pieces in turn
abbrev pub loose_then : List Piece → List ℕ
loose_then [] = []
loose_then (p ∷ ps) = loose_bytes p ++ loose_then ps

-- the bytes are no such pieces in turn
abbrev pub Broken : Table → List ℕ → Type 0
Broken table bytes = (ps : List Piece) → AreLoose table at_beginning ps → loose_then ps ≡ bytes → ⊥
