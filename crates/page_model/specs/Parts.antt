-- What a page is made of besides its prolog: attributes, tags, and what stands in and between elements (XML 1.0, 2.4 to
-- 2.7, 3.1 and 4.1). All of it is lists of characters; the bytes of a page are their
-- UTF-8 (specs/Nodes.antt, specs/PageTokens.antt).
use Rattle.std.specs.Prelude.{◌≡◌, ◌≢◌, ℕ, Bool, true, false, not, ◌==◌, ◌&&◌, ◌||◌, if◌then◌else◌, List, [], ◌∷◌, ◌++◌, codes}
use Rattle.std.specs.List.{list_all}
use Rattle.std.specs.Str.{str_eq_ignore_ascii_case}
use Rattle.xml_text.specs.Characters.{is_blank, is_character}
use Rattle.xml_text.specs.Names.{is_name}
use Rattle.xml_text.specs.Texts.{holds}
use Rattle.dtd_model.specs.References.{Reference, decimal, hexadecimal, entity, reference_then, is_reference}

-- an attribute in a tag: white space, its name, `=` with white space round it, and its value in quotes
pub record Attribute : Type 0 where
  pub space : List ℕ
  pub name : List ℕ
  pub before_equals : List ℕ
  pub after_equals : List ℕ
  pub quote : ℕ
  pub value : List ℕ

-- the inside of a start tag or of the tag of an empty element: a name, attributes, and white space
pub record Tag : Type 0 where
  pub name : List ℕ
  pub attributes : List Attribute
  pub space : List ℕ

-- what may stand in an element besides elements
pub data Leaf : Type 0 where
  character : ℕ → Leaf
  reference : Reference → Leaf
  -- a CDATA section with its text
  section : List ℕ → Leaf
  comment : List ℕ → Leaf
  -- an instruction with its target, and what stands between that and its end
  instruction : List ℕ → List ℕ → Leaf

-- The characters are given together with what stands behind them.

-- 61 is `=`
abbrev pub attribute_then : Attribute → List ℕ → List ℕ
attribute_then a rest = a.space ++ (a.name ++ (a.before_equals ++ 61 ∷ (a.after_equals ++ a.quote ∷ (a.value ++ a.quote ∷ rest))))

-- the characters of the attributes in turn, and those behind them
abbrev pub attributes_then : List Attribute → List ℕ → List ℕ
attributes_then [] rest = rest
attributes_then (a ∷ more) rest = attribute_then a (attributes_then more rest)

-- the characters of the inside of a tag: its name, its attributes and white space, and those behind them
abbrev pub tag_then : Tag → List ℕ → List ℕ
tag_then tag rest = tag.name ++ attributes_then tag.attributes (tag.space ++ rest)

-- `<![CDATA[` text `]]>`; `<!--` text `-->`; `<?` target .. `?>`
abbrev pub leaf_then : Leaf → List ℕ → List ℕ
leaf_then (character c) rest = c ∷ rest
leaf_then (reference r) rest = reference_then r rest
leaf_then (section text) rest = codes "<![CDATA[" ++ (text ++ (codes "]]>" ++ rest))
leaf_then (comment text) rest = codes "<!--" ++ (text ++ (codes "-->" ++ rest))
leaf_then (instruction target text) rest = codes "<?" ++ (target ++ (text ++ (codes "?>" ++ rest)))

-- What XML asks of each.

-- what stands up to the first `;`, if there is one
abbrev pub up_to_semicolon : List ℕ → List ℕ
up_to_semicolon [] = []
up_to_semicolon (c ∷ cs) = if c == 59 then [] else c ∷ up_to_semicolon cs

-- whether a `;` is among the characters
abbrev pub has_semicolon : List ℕ → Bool
has_semicolon [] = false
has_semicolon (c ∷ cs) = c == 59 || has_semicolon cs

-- the reference whose characters between `&#` and `;` are these: hexadecimal digits behind `x`, and else decimal ones
abbrev pub numbered : List ℕ → Reference
numbered [] = decimal []
numbered (c ∷ cs) = if c == 120 then hexadecimal cs else decimal (c ∷ cs)

-- the reference that these characters are between `&` and `;`: a number behind `#`, and else the name of an entity
abbrev pub reference_of : List ℕ → Reference
reference_of [] = entity []
reference_of (c ∷ cs) = if c == 35 then numbered cs else entity (c ∷ cs)

-- each `&` begins a reference that passes the test (XML 1.0, 2.3, AttValue)
abbrev pub refers_by : (Reference → Bool) → List ℕ → Bool
refers_by test [] = true
refers_by test (c ∷ cs) = (if c == 38 then has_semicolon cs && test (reference_of (up_to_semicolon cs)) else true) && refers_by test cs

-- in quotes: no `<`, and the quote ends the value (XML 1.0, 2.3, AttValue)
abbrev pub may_be_quoted : ℕ → ℕ → Bool
may_be_quoted quote c = is_character c && not (c == 60 || c == quote)

-- whether the character is `"` or `'`
abbrev pub is_quote : ℕ → Bool
is_quote c = c == 34 || c == 39

-- white space between attributes, names, white space round `=`, and a value (XML 1.0, 3.1)
pub record IsAttribute (a : Attribute) : Type 0 where
  pub some_space : a.space ≢ []
  pub blank_space : list_all is_blank a.space ≡ true
  pub named : is_name a.name ≡ true
  pub blank_before : list_all is_blank a.before_equals ≡ true
  pub blank_after : list_all is_blank a.after_equals ≡ true
  pub quoted : is_quote a.quote ≡ true
  pub characters : list_all (may_be_quoted a.quote) a.value ≡ true
  pub references : refers_by is_reference a.value ≡ true

-- each of the attributes is written as XML asks
abbrev pub AreAttributes : List Attribute → Type 0
AreAttributes [] = Unit {0}
AreAttributes (a ∷ more) = IsAttribute a × AreAttributes more

-- the inside of a tag is written as XML asks: a name, attributes, and white space or none (XML 1.0, 3.1)
pub record IsTag (tag : Tag) : Type 0 where
  pub named : is_name tag.name ≡ true
  pub attributes : AreAttributes tag.attributes
  pub blank_space : list_all is_blank tag.space ≡ true

-- a character of text stands for itself: it is no `<` and no `&` (XML 1.0, 2.4)
abbrev pub is_plain : ℕ → Bool
is_plain c = is_character c && not (c == 60 || c == 38)

-- characters of a section, which ends at the first `]]>` (XML 1.0, 2.7)
pub record IsSection (text : List ℕ) : Type 0 where
  pub characters : list_all is_character text ≡ true
  pub no_end : holds (codes "]]>") text ≡ false

-- characters of a comment, which hold no `--` and do not end in `-` (XML 1.0, 2.5)
pub record IsComment (text : List ℕ) : Type 0 where
  pub characters : list_all is_character text ≡ true
  pub no_end : holds (codes "--") (text ++ codes "-") ≡ false

-- whether the characters begin with white space, or there are none
abbrev pub begins_blank : List ℕ → Bool
begins_blank [] = true
begins_blank (c ∷ cs) = is_blank c

-- the target of an instruction is a name, but not `xml` in any case; behind it stands nothing, or white space and more;
-- it ends at the first `?>` (XML 1.0, 2.6)
pub record IsInstruction (target text : List ℕ) : Type 0 where
  pub named : is_name target ≡ true
  pub not_reserved : str_eq_ignore_ascii_case target (codes "xml") ≡ false
  pub apart : begins_blank text ≡ true
  pub characters : list_all is_character text ≡ true
  pub no_end : holds (codes "?>") text ≡ false

-- the leaf is written as XML asks; whether a character may stand behind those before it is asked elsewhere (specs/Pieces.antt)
abbrev pub IsLeaf : Leaf → Type 0
IsLeaf (character c) = is_plain c ≡ true
IsLeaf (reference r) = is_reference r ≡ true
IsLeaf (section text) = IsSection text
IsLeaf (comment text) = IsComment text
IsLeaf (instruction target text) = IsInstruction target text
