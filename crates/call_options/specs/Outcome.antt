-- What the bytes of a file of options come to, and the cause of each refusal; this project's own.
use Rattle.std.specs.Prelude.{◌≡◌, ◌==◌, ◌+◌, ◌≤◌, ◌∷◌, [], ⊤, ℕ, List, length, take, Option, Some, None, if◌then◌else◌}
use Rattle.std.specs.Str.{is_utf8}
use Rattle.toml.specs.Data.{Members}
use Rattle.toml.specs.Parse.{parse_document}
use Rattle.call_options.specs.Members.{Setting, first_refused, settings_in}
use Rattle.call_options.specs.declared.refusal.OptionsRefusal.{OptionsRefusal}
use Rattle.call_options.specs.declared.refusal.OptionsRefusal.TheVariants.{NotToml, Member, Memory}

-- no TOML; the first member, in byte order of the names, that says no option; the options that the members say, in this order
pub data Outcome : Type 0 where
  not_toml : Outcome
  refused : List ℕ → Outcome
  gives : List Setting → Outcome

-- the table of a file of TOML, which is UTF-8
abbrev pub parsed : List ℕ → Option Members
parsed file = if is_utf8 file then parse_document file else None

-- options, where no member is refused
abbrev pub options_or : Option (List ℕ) → List Setting → Outcome
options_or None settings = gives settings
options_or (Some name) settings = refused name

-- a table by its members
abbrev pub outcome_of : Option Members → Outcome
outcome_of None = not_toml
outcome_of (Some members) = options_or (first_refused members) (settings_in members)

-- what the bytes of a file of options come to
abbrev pub outcome : List ℕ → Outcome
outcome file = outcome_of (parsed file)

-- how many line feeds (10) there are
abbrev pub line_feeds : List ℕ → ℕ
line_feeds [] = 0
line_feeds (byte ∷ bytes) = if byte == 10 then 1 + line_feeds bytes else line_feeds bytes

-- the line of a place, from 1
abbrev pub line_at : List ℕ → ℕ → ℕ
line_at file place = 1 + line_feeds (take place file)

-- a line of the file, that of some place in it or of its end
pub record IsLineOf (file : List ℕ) (line : ℕ) : Type 0 where
  pub place : ℕ
  pub within : place ≤ length file
  pub is : line ≡ line_at file place

-- the file gives no options for this cause; want of memory needs none
abbrev pub IsCause : List ℕ → OptionsRefusal → Type 0
IsCause file (NotToml line) = (outcome file ≡ not_toml) × IsLineOf file line
IsCause file (Member name) = outcome file ≡ refused name
IsCause file Memory = ⊤

-- the file is no TOML, by one of its lines; or memory was wanting
abbrev pub IsUnparsed : List ℕ → OptionsRefusal → Type 0
IsUnparsed file (NotToml line) = (parsed file ≡ None) × IsLineOf file line
IsUnparsed file (Member name) = ⊥
IsUnparsed file Memory = ⊤
