-- What is open in a document type declaration, by the characters behind `<!DOCTYPE` (XML 1.0, 2.8; XHTML 1.0, 3.1.1).
use Rattle.std.specs.Prelude.{◌≡◌, ◌≢◌, ℕ, Bool, true, not, ◌==◌, List, [], ◌∷◌, ◌++◌, codes, Option, None, Some}
use Rattle.std.specs.List.{list_all}
use Rattle.xml_text.specs.Characters.{is_blank}
use Rattle.dtd_model.specs.declared.dtd.DoctypeRule.{DoctypeRule}
use Rattle.dtd_model.specs.declared.dtd.DoctypeRule.TheVariants.{Strict, Free}
use Rattle.page_model.specs.Parts.{is_quote}
use Rattle.page_model.specs.OpenTags.{IsGap, is_some_space}

-- `SYSTEM` or `PUBLIC`
pub data Word : Type 0 where
  system_word : Word
  public_word : Word

-- the letters of the word
abbrev pub letters : Word → List ℕ
letters system_word = codes "SYSTEM"
letters public_word = codes "PUBLIC"

-- what is open, by what is reached of the declaration
pub data OpenDoctype : Type 0 where
  -- nothing, or white space (true)
  before_root : Bool → OpenDoctype
  -- so much of `html`, at least one character
  in_root : List ℕ → OpenDoctype
  -- white space behind `html`
  behind_root : OpenDoctype
  -- so much of `SYSTEM` or `PUBLIC`, at least one character
  in_word : List ℕ → OpenDoctype
  -- white space behind the word
  behind_word : Word → OpenDoctype
  -- in the public literal, with its quote; where the definition names it, so much of it
  in_public : ℕ → Option (List ℕ) → OpenDoctype
  -- nothing, or white space (true), behind the public literal
  behind_public : Bool → OpenDoctype
  -- in the system literal, with its quote
  in_system : ℕ → OpenDoctype
  -- behind the system literal
  behind_system : OpenDoctype

-- white space, `html`, white space, and then these
abbrev pub BehindRoot : List ℕ → List ℕ → Type 0
BehindRoot cs behind = (gap : List ℕ) × (more : List ℕ) × (cs ≡ gap ++ (codes "html" ++ (more ++ behind))) × IsGap gap × IsGap more

-- and the word and white space behind it
abbrev pub BehindWord : Word → List ℕ → List ℕ → Type 0
BehindWord word cs behind = (inside : List ℕ) × BehindRoot cs inside ×
    ((gap : List ℕ) × (inside ≡ letters word ++ (gap ++ behind)) × IsGap gap)

-- a quote, and characters without it
abbrev pub InLiteral : ℕ → List ℕ → List ℕ → Type 0
InLiteral quote text cs = (cs ≡ quote ∷ text) × (is_quote quote ≡ true) × (list_all (λ c. not (c == quote)) text ≡ true)

-- a whole literal, and then these
abbrev pub IsLiteralThen : List ℕ → List ℕ → Type 0
IsLiteralThen cs behind =
    (quote : ℕ) × (text : List ℕ) × (cs ≡ quote ∷ (text ++ quote ∷ behind)) × (is_quote quote ≡ true)
    × (list_all (λ c. not (c == quote)) text ≡ true)

-- a whole public literal, and then these
abbrev pub BehindPublic : List ℕ → List ℕ → Type 0
BehindPublic cs behind = (inside : List ℕ) × BehindWord public_word cs inside × IsLiteralThen inside behind

-- what stands before a system literal: the word, and behind `PUBLIC` a literal and white space
abbrev pub BehindFirst : Word → List ℕ → List ℕ → Type 0
BehindFirst system_word cs behind = BehindWord system_word cs behind
BehindFirst public_word cs behind = (inside : List ℕ) × (gap : List ℕ) × BehindPublic cs inside × IsGap gap × (inside ≡ gap ++ behind)

-- how much of the public literal is kept: all where the definition names it
abbrev pub kept : DoctypeRule → List ℕ → Option (List ℕ)
kept Strict text = Some text
kept Free text = None

-- the characters behind `<!DOCTYPE` are so much of a declaration, by what is open
abbrev pub DoctypeStands : DoctypeRule → OpenDoctype → List ℕ → Type 0
DoctypeStands rule (before_root spaced) cs = (list_all is_blank cs ≡ true) × (spaced ≡ is_some_space cs)
DoctypeStands rule (in_root name) cs =
    (gap : List ℕ) × (cs ≡ gap ++ name) × IsGap gap × (name ≢ []) × ((more : List ℕ) × (codes "html" ≡ name ++ more))
DoctypeStands rule behind_root cs = BehindRoot cs []
DoctypeStands rule (in_word word) cs =
    BehindRoot cs word × (word ≢ []) × ((whole : Word) × (more : List ℕ) × (letters whole ≡ word ++ more))
DoctypeStands rule (behind_word word) cs = BehindWord word cs []
DoctypeStands rule (in_public quote o) cs =
    (inside : List ℕ) × (text : List ℕ) × BehindWord public_word cs inside × InLiteral quote text inside × (o ≡ kept rule text)
DoctypeStands rule (behind_public spaced) cs =
    (space : List ℕ) × BehindPublic cs space × (list_all is_blank space ≡ true) × (spaced ≡ is_some_space space)
DoctypeStands rule (in_system quote) cs =
    (word : Word) × (inside : List ℕ) × (text : List ℕ) × BehindFirst word cs inside × InLiteral quote text inside
DoctypeStands rule behind_system cs =
    (word : Word) × (inside : List ℕ) × BehindFirst word cs inside
    × ((space : List ℕ) × IsLiteralThen inside space × (list_all is_blank space ≡ true))
