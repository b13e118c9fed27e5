-- What may stand before the root: the XML declaration and the document type declaration (XML 1.0, 2.8, 2.9 and 4.3.3;
-- XHTML 1.0, 3.1.1).
use Rattle.std.specs.Prelude.{◌≡◌, ◌≢◌, ℕ, Bool, true, false, not, ◌==◌, ◌&&◌, ◌||◌, List, [], ◌∷◌, ◌++◌, codes, bytes_eq}
use Rattle.std.specs.List.{list_all}
use Rattle.std.specs.Str.{str_eq_ignore_ascii_case}
use Rattle.xml_text.specs.Characters.{is_blank, is_character}
use Rattle.xml_text.specs.Names.{in_public_identifier}
use Rattle.page_model.specs.Parts.{Attribute, attributes_then, AreAttributes, is_quote}

-- The XML declaration: `<?xml`, the version, maybe the encoding and whether it stands alone, as attributes in this order.

-- the XML declaration: what stands behind `<?xml` in the form of attributes, and the white space before `?>`
pub record Declaration : Type 0 where
  pub attributes : List Attribute
  pub space : List ℕ

-- the characters of the XML declaration, from `<?xml` to `?>`, and those behind them
abbrev pub declaration_then : Declaration → List ℕ → List ℕ
declaration_then d rest = codes "<?xml" ++ attributes_then d.attributes (d.space ++ (codes "?>" ++ rest))

-- `version` with the value `1.0` (XML 1.0, 2.8, VersionInfo)
abbrev pub is_version : Attribute → Bool
is_version a = bytes_eq a.name (codes "version") && bytes_eq a.value (codes "1.0")

-- `encoding` with the value `UTF-8` in letters of any case (XML 1.0, 4.3.3, EncodingDecl)
abbrev pub is_encoding : Attribute → Bool
is_encoding a = bytes_eq a.name (codes "encoding") && str_eq_ignore_ascii_case a.value (codes "UTF-8")

-- `standalone` with the value `yes` or `no` (XML 1.0, 2.9, SDDecl)
abbrev pub is_standalone : Attribute → Bool
is_standalone a = bytes_eq a.name (codes "standalone") && (bytes_eq a.value (codes "yes") || bytes_eq a.value (codes "no"))

-- what may stand behind the version: nothing, the encoding, whether the page stands alone, or both in this order
abbrev pub may_follow_version : List Attribute → Bool
may_follow_version [] = true
may_follow_version (a ∷ []) = is_encoding a || is_standalone a
may_follow_version (a ∷ b ∷ []) = is_encoding a && is_standalone b
may_follow_version (a ∷ b ∷ c ∷ more) = false

-- the version comes first, and behind it stands what may (XML 1.0, 2.8, XMLDecl)
abbrev pub is_in_order : List Attribute → Bool
is_in_order [] = false
is_in_order (a ∷ more) = is_version a && may_follow_version more

-- the XML declaration is written as XML asks, with its parts in the form of attributes (XML 1.0, 2.8, XMLDecl)
pub record IsDeclaration (d : Declaration) : Type 0 where
  pub attributes : AreAttributes d.attributes
  pub in_order : is_in_order d.attributes ≡ true
  pub blank_space : list_all is_blank d.space ≡ true

-- The document type declaration: `<!DOCTYPE`, white space, `html`, maybe an external identifier, maybe white space, `>`.

-- a text in quotes
pub record Literal : Type 0 where
  pub quote : ℕ
  pub text : List ℕ

-- the characters of a literal, with its quotes, and those behind them
abbrev pub literal_then : Literal → List ℕ → List ℕ
literal_then l rest = l.quote ∷ (l.text ++ l.quote ∷ rest)

-- the quote is `"` or `'`, and each character between the quotes passes the test and is not that quote
pub record IsLiteral (test : ℕ → Bool) (l : Literal) : Type 0 where
  pub quoted : is_quote l.quote ≡ true
  pub pass : list_all (λ c. test c && not (c == l.quote)) l.text ≡ true

-- an external identifier with the white space before it, or none (XML 1.0, 4.2.2, ExternalID)
pub data Identifier : Type 0 where
  no_identifier : Identifier
  -- white space, `SYSTEM`, white space, a literal
  system : List ℕ → List ℕ → Literal → Identifier
  -- white space, `PUBLIC`, white space, a literal, white space, a literal
  public : List ℕ → List ℕ → Literal → List ℕ → Literal → Identifier

-- the characters of an external identifier, with the white space before it, and those behind them
abbrev pub identifier_then : Identifier → List ℕ → List ℕ
identifier_then no_identifier rest = rest
identifier_then (system s t l) rest = s ++ (codes "SYSTEM" ++ (t ++ literal_then l rest))
identifier_then (public s t l u m) rest = s ++ (codes "PUBLIC" ++ (t ++ literal_then l (u ++ literal_then m rest)))

-- some white space
pub record IsSpace (space : List ℕ) : Type 0 where
  pub some : space ≢ []
  pub blank : list_all is_blank space ≡ true

-- the literals are a system identifier, of any characters, and a public one (XML 1.0, 4.2.2 and 2.3)
abbrev pub IsIdentifier : Identifier → Type 0
IsIdentifier no_identifier = Unit {0}
IsIdentifier (system s t l) = IsSpace s × IsSpace t × IsLiteral is_character l
IsIdentifier (public s t l u m) = IsSpace s × IsSpace t × IsLiteral in_public_identifier l × IsSpace u × IsLiteral is_character m

-- the document type declaration: the white space before `html`, an external identifier or none, and the white space before `>`
pub record Doctype : Type 0 where
  pub space : List ℕ
  pub identifier : Identifier
  pub end_space : List ℕ

-- the characters of the document type declaration, from `<!DOCTYPE` to `>`, and those behind them
abbrev pub doctype_then : Doctype → List ℕ → List ℕ
doctype_then d rest = codes "<!DOCTYPE" ++ (d.space ++ (codes "html" ++ identifier_then d.identifier (d.end_space ++ 62 ∷ rest)))

-- the document type declaration is written as XML asks; it has no internal subset (XML 1.0, 2.8, doctypedecl)
pub record IsDoctype (d : Doctype) : Type 0 where
  pub apart : IsSpace d.space
  pub identifier : IsIdentifier d.identifier
  pub blank_space : list_all is_blank d.end_space ≡ true

-- the public identifier of XHTML 1.0 Strict (XHTML 1.0, 3.1.1), byte for byte and not normalised (own)
abbrev pub is_strict : Identifier → Bool
is_strict no_identifier = false
is_strict (system s t l) = false
is_strict (public s t l u m) = bytes_eq l.text (codes "-//W3C//DTD XHTML 1.0 Strict//EN")
