-- The front of a page that is cut at any byte: what stands open at its end, and nothing else.
use Rattle.std.specs.Prelude.{◌≡◌, ◌≢◌, ◌⊎◌, ℕ, suc, Bool, true, false, ◌==◌, ◌&&◌, if◌then◌else◌, List, [], ◌∷◌, ◌++◌, map, length, take, min, nat_le, nat_lt, bytes_eq, codes, Option, None, Some}
use Rattle.std.specs.List.{list_all}
use Rattle.std.specs.Char.{encode_utf8}
use Rattle.std.specs.Str.{encode_utf8_all, str_eq_ignore_ascii_case}
use Rattle.xml_text.specs.Characters.{is_blank, is_character}
use Rattle.xml_text.specs.Names.{in_name, is_name}
use Rattle.dtd_model.specs.Table.{Declared, Rule, Table}
use Rattle.page_model.specs.Attributes.{find_rule, stands}
use Rattle.page_model.specs.PageTokens.{IsLawful, AreLawful, NoPiece, piece_bytes, bytes_then}
use Rattle.page_model.specs.Parts.{Attribute, attributes_then, AreAttributes}
use Rattle.page_model.specs.Pieces.{Piece, after_all}
use Rattle.page_model.specs.Places.{Place, at_beginning, behind_mark, behind}
use Rattle.page_model.specs.OpenDoctypes.{OpenDoctype, DoctypeStands}
use Rattle.page_model.specs.OpenTags.{OpenAttribute, AttributeStands, is_some_space}
use Rattle.page_model.specs.OpenValues.{OpenReference, ReferenceStands, OpenValue, in_fixed, ValueStands}

-- the piece that is open, by what is reached of its form
pub data Open : Type 0 where
  nothing : Open
  -- `&`, and so much of a reference
  in_reference : OpenReference → Open
  -- so much of `<!--`, `<![CDATA[` or `<!DOCTYPE`, at least `<`
  in_opener : List ℕ → Open
  -- `<`, and so much of a name, at least one character
  in_tag_name : List ℕ → Open
  -- in a tag of this element, with attributes of these names
  in_tag : List ℕ → List (List ℕ) → OpenAttribute → Open
  -- and behind the `/` of an empty tag
  at_empty_end : List ℕ → List (List ℕ) → Open
  -- `</`, so much of a name, and maybe white space (true)
  in_end_tag : List ℕ → Bool → Open
  -- how many `-` are the last characters of a comment, and `]` of a section, two standing for all above
  in_comment : ℕ → Open
  in_section : ℕ → Open
  -- `<?`, and a target so far: what it is where it may still become `xml`
  in_target : Option (List ℕ) → Open
  -- `?` directly behind a target
  behind_target : Open
  -- in an instruction behind its target; whether its last character is `?`
  in_instruction : Bool → Open
  -- in the XML declaration, with attributes of these names, or behind its last `?`
  in_declaration : List (List ℕ) → OpenAttribute → Open
  at_declaration_end : Open
  in_doctype : OpenDoctype → Open

-- how many of the last characters are this one, at most two
abbrev pub last_from : ℕ → ℕ → List ℕ → ℕ
last_from c n [] = n
last_from c n (d ∷ ds) = last_from c (if d == c then min 2 (suc n) else 0) ds

-- how many of the last characters are this one, at most two, from nothing on
abbrev pub last : ℕ → List ℕ → ℕ
last c cs = last_from c 0 cs

-- some of it, but not all
abbrev pub IsFrontOf : List ℕ → List ℕ → Type 0
IsFrontOf whole cs = (more : List ℕ) × (more ≢ []) × (whole ≡ cs ++ more)

-- the target, where it is a front of `xml` in any case
abbrev pub reserved : List ℕ → Option (List ℕ)
reserved target = if nat_le (length target) 3 && str_eq_ignore_ascii_case target (take (length target) (codes "xml")) then Some target
    else None

-- the declaration of the attribute
abbrev pub find_declared : List Declared → List ℕ → Option Declared
find_declared [] name = None
find_declared (d ∷ ds) name = if bytes_eq d.name name then Some d else find_declared ds name

-- the declared names that stand among the attributes, in the order of their declaration
abbrev pub standing : List Declared → List Attribute → List (List ℕ)
standing [] attributes = []
standing (d ∷ ds) attributes = if stands attributes d.name then d.name ∷ standing ds attributes else standing ds attributes

-- so much of a value, as the attribute is declared
abbrev pub DeclaredStands : List Declared → List ℕ → OpenValue → List ℕ → Type 0
DeclaredStands rules name v value = (d : Declared) × (find_declared rules name ≡ Some d) × ValueStands d v value

-- so much of a value in the XML declaration, which is kept
abbrev pub WordStands : List ℕ → OpenValue → List ℕ → Type 0
WordStands name v value = v ≡ in_fixed value

-- `<`, a declared name, whole attributes, and then these
pub record BehindAttributes (table : Table) (name : List ℕ) (names : List (List ℕ)) (cs rest : List ℕ) : Type 0 where
  pub rule : Rule
  pub attributes : List Attribute
  pub declared : find_rule table.elements name ≡ Some rule
  pub are : AreAttributes attributes
  pub is : cs ≡ 60 ∷ (name ++ attributes_then attributes rest)
  pub names_are : names ≡ standing rule.attributes attributes
  -- so that more than a name stands
  pub some : (attributes ≢ []) ⊎ (rest ≢ [])

-- `<?xml`, whole attributes, and then these
pub record BehindWords (names : List (List ℕ)) (cs rest : List ℕ) : Type 0 where
  pub attributes : List Attribute
  pub are : AreAttributes attributes
  pub is : cs ≡ codes "<?xml" ++ attributes_then attributes rest
  pub names_are : names ≡ map (λ (a : Attribute). a.name) attributes
  pub some : (attributes ≢ []) ⊎ (rest ≢ [])

-- `<?`, a target, white space and more
pub record InInstruction (asked : Bool) (cs : List ℕ) : Type 0 where
  pub target : List ℕ
  pub blank : ℕ
  pub text : List ℕ
  pub is : cs ≡ codes "<?" ++ (target ++ blank ∷ text)
  pub named : is_name target ≡ true
  pub not_reserved : str_eq_ignore_ascii_case target (codes "xml") ≡ false
  pub apart : is_blank blank ≡ true
  pub asked_is : asked ≡ nat_lt 0 (last 63 text)

-- the characters are so much of such a piece
abbrev pub OpenStands : Table → Open → List ℕ → Type 0
OpenStands table nothing cs = cs ≡ []
OpenStands table (in_reference r) cs = (behind : List ℕ) × (cs ≡ 38 ∷ behind) × ReferenceStands r behind
OpenStands table (in_opener begun) cs = (cs ≡ begun) × (cs ≢ [])
    × (IsFrontOf (codes "<!--") cs ⊎ (IsFrontOf (codes "<![CDATA[") cs ⊎ IsFrontOf (codes "<!DOCTYPE") cs))
OpenStands table (in_tag_name name) cs = (cs ≡ 60 ∷ name) × (name ≢ []) × (list_all in_name name ≡ true)
OpenStands table (in_tag name names o) cs =
    (rule : Rule) × (rest : List ℕ) × (find_rule table.elements name ≡ Some rule) × BehindAttributes table name names cs rest
    × AttributeStands (DeclaredStands rule.attributes) o rest
OpenStands table (at_empty_end name names) cs =
    (space : List ℕ) × BehindAttributes table name names cs (space ++ codes "/") × (list_all is_blank space ≡ true)
OpenStands table (in_end_tag name spaced) cs =
    (space : List ℕ) × (cs ≡ codes "</" ++ (name ++ space)) × (list_all in_name name ≡ true) × (list_all is_blank space ≡ true)
    × (spaced ≡ is_some_space space)
OpenStands table (in_comment dashes) cs = (text : List ℕ) × (cs ≡ codes "<!--" ++ text) × (dashes ≡ last 45 text)
OpenStands table (in_section brackets) cs = (text : List ℕ) × (cs ≡ codes "<![CDATA[" ++ text) × (brackets ≡ last 93 text)
OpenStands table (in_target o) cs =
    (target : List ℕ) × (cs ≡ codes "<?" ++ target) × (list_all in_name target ≡ true) × (o ≡ reserved target)
OpenStands table behind_target cs = (target : List ℕ) × (cs ≡ codes "<?" ++ (target ++ codes "?")) × (is_name target ≡ true)
OpenStands table (in_instruction asked) cs = InInstruction asked cs
OpenStands table (in_declaration names o) cs = (rest : List ℕ) × BehindWords names cs rest × AttributeStands WordStands o rest
OpenStands table at_declaration_end cs =
    (names : List (List ℕ)) × (space : List ℕ) × BehindWords names cs (space ++ codes "?") × (list_all is_blank space ≡ true)
OpenStands table (in_doctype o) cs = (inside : List ℕ) × (cs ≡ codes "<!DOCTYPE" ++ inside) × DoctypeStands table.doctype o inside

-- what is kept of the place: the brackets before it only where nothing is open, not even a character
abbrev pub kept_place : Open → List ℕ → Place → Place
kept_place o begun at_beginning = at_beginning
kept_place o begun behind_mark = behind_mark
kept_place nothing [] (behind k) = behind k
kept_place o begun (behind k) = behind 0

-- the front of a page: the place, what is open there, and the first bytes of an open character; or bad, where no piece can
-- become lawful any more
pub data Front : Type 0 where
  bad : Front
  front : Place → Open → List ℕ → Front

-- the first bytes of a character, but not all, and maybe none
abbrev pub IsBegun : List ℕ → Type 0
IsBegun bytes = (c : ℕ) × (is_character c ≡ true) × IsFrontOf (encode_utf8 c) bytes

-- with more bytes behind them, a lawful piece stands at the head
abbrev pub CanGoOn : Table → Place → List ℕ → Type 0
CanGoOn table place bytes =
    (more : List ℕ) × (p : Piece) × (behind : List ℕ) × IsLawful table place p × (piece_bytes p ++ behind ≡ bytes ++ more)

-- the front of bytes that begin no lawful piece: bad where no bytes behind them make one, and else what is open at their end
abbrev pub FrontStands : Table → Place → List ℕ → Front → Type 0
FrontStands table place bytes bad = CanGoOn table place bytes → ⊥
FrontStands table place bytes (front seen o begun) = CanGoOn table place bytes
    × ((cs : List ℕ) × (encode_utf8_all cs ++ begun ≡ bytes) × IsBegun begun × OpenStands table o cs × (seen ≡ kept_place o begun place))

-- the bytes are lawful pieces in turn and a rest that none begins, of which this is the front
pub record HasFront (table : Table) (bytes : List ℕ) (f : Front) : Type 0 where
  pub pieces : List Piece
  pub rest : List ℕ
  pub lawful : AreLawful table at_beginning pieces
  pub spelled : bytes_then pieces rest ≡ bytes
  pub none : NoPiece table (after_all at_beginning pieces) rest
  pub stands : FrontStands table (after_all at_beginning pieces) rest f
