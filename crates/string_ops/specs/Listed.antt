-- Tables whose moves and ends are listed by functions, and what such a list relates.
use Rattle.std.specs.Prelude.{◌≡◌, ◌==◌, ◌↔◌, ℕ, ◌+◌, ◌*◌, ◌%◌, ◌<◌, ◌≤◌, Bool, true, false, List, [], ◌∷◌, ◌++◌, map, length, count_by, All, Contains, IsTrue, nat_lt, if◌then◌else◌}
use Rattle.std.specs.List.{list_all}
use Rattle.text_base.specs.declared.letter.Letter.TheVariants.{OfByte}
use Rattle.fst_core.specs.Choices.{choices, stops}
use Rattle.fst_core.specs.Tables.{TableRelates}
use Rattle.fst_core.specs.declared.out.Out.{Out}
use Rattle.fst_core.specs.declared.out.Out.TheVariants.{Same, Shift, Byte, Token}
use Rattle.fst_core.specs.declared.table.Table.{Table}

-- what a state does by a byte, in turn: where each move leads, and what it puts out
abbrev pub Rows : Type 0
Rows = ℕ → ℕ → List (ℕ × List Out)

-- what may be put out where the text ends in a state, in turn
abbrev pub Lasts : Type 0
Lasts = ℕ → List (List Out)

-- the table begins in state 0, and has just these moves and ends
pub record IsListed (table : Table) (states : ℕ) (rows : Rows) (lasts : Lasts) : Type 0 where
  pub count : table.states ≡ states
  pub start : table.start ≡ 0
  pub moves : (s byte : ℕ) → choices table.moves.items s byte ≡ (if nat_lt byte 256 then rows s byte else [])
  pub ends : (s : ℕ) → stops table.ends.items s ≡ lasts s

-- it is no page token
abbrev pub is_plain : Out → Bool
is_plain Same = true
is_plain (Shift by) = true
is_plain (Byte own) = true
is_plain (Token token) = false

-- the byte that is put out as a byte is read; a page token is none, and 0 stands there
abbrev pub byte_of : ℕ → Out → ℕ
byte_of byte Same = byte
byte_of byte (Shift by) = (byte + by) % 256
byte_of byte (Byte own) = own
byte_of byte (Token token) = 0

-- from the state over the text to an end, with these bytes put out
abbrev pub Follows : Rows → Lasts → ℕ → List ℕ → List ℕ → Type 0
Follows rows lasts s [] out = (last : List Out) × Contains (lasts s) last × (map (byte_of 0) last ≡ out)
Follows rows lasts s (byte ∷ text) out =
    (p : ℕ × List Out) × Contains (rows s byte) p × (rest : List ℕ) × Follows rows lasts p.0 text rest
    × (map (byte_of byte) p.1 ++ rest ≡ out)

-- it puts out bytes alone, and at most so many
abbrev pub IsShort : ℕ → List Out → Type 0
IsShort most out = IsTrue (list_all is_plain out) × (length out ≤ most)

-- no page token is put out, there are at most four moves from a state by a byte, and no output is longer than `most`
pub record AreSmall (rows : Rows) (lasts : Lasts) (most : ℕ) : Type 0 where
  pub few : (s byte : ℕ) → length (rows s byte) ≤ 4
  pub moves : (s byte : ℕ) → All (λ p. IsShort most p.1) (rows s byte)
  pub ends : (s : ℕ) → All (IsShort most) (lasts s)

-- the bytes of a text
abbrev pub AreBytes : List ℕ → Type 0
AreBytes text = All (λ byte. byte < 256) text

-- the table relates just these texts, and is small for an operation of this size: no page token in it, at most 8 * (size + 8) states, at
-- most four moves from one state to another by a byte, no output longer than size + 8
pub record IsMachine (table : Table) (size : ℕ) (relates : List ℕ → List ℕ → Type 0) : Type 0 where
  pub exact : (input output : List ℕ) → AreBytes input → TableRelates table input (map OfByte output) ↔ relates input output
  pub states : table.states ≤ 8 * (size + 8)
  pub few : (s t byte : ℕ) → count_by (λ p. p.0 == t) (choices table.moves.items s byte) ≤ 4
  pub moves : All (λ m. IsShort (size + 8) m.out.items) table.moves.items
  pub ends : All (λ e. IsShort (size + 8) e.out.items) table.ends.items
