-- A language of characters and a reader of it, by bytes.
use Rattle.std.specs.Prelude.{◌≡◌, ℕ, ◌≤◌, Bool, true, false, ◌||◌, if◌then◌else◌, List, [], ◌∷◌, ◌++◌, Option, Some, None}
use Rattle.std.specs.Str.{encode_utf8_all}
use Rattle.xml_text.specs.Characters.{is_character}
use Rattle.piece_steps.specs.Languages.{Language}
use Rattle.piece_steps.specs.Readers.{Move, go, done, fail, Reader}
use Rattle.character_steps.specs.Bytes.{decoded, is_begun}

-- the same pieces, spelled by the UTF-8 of their characters
abbrev pub encoded_language : {P Q T : Type 0} → Language P Q T → Language P Q T
encoded_language l = record { Lawful = l.Lawful; spell = λ p. encode_utf8_all (l.spell p); after = l.after; tokens = l.tokens }

-- a state of the reader of characters, and the first bytes of an open character
pub record Held (S : Type 0) : Type 0 where
  pub state : S
  pub begun : List ℕ

-- the state with no character open
abbrev pub at_state : {S : Type 0} → S → Held S
at_state s = record { state = s; begun = [] }

-- a move of the reader of characters, with no character open behind it
abbrev pub lifted : {P T S : Type 0} → Move P T S → Move P T (Held S)
lifted (go s) = go (at_state s)
lifted (done place tokens) = done place tokens
lifted fail = fail

-- what of a state is kept while a character of several bytes is open, is said by `hold`
abbrev pub by_character : {P T S : Type 0} → Reader P T S → (S → S) → S → List ℕ → Option ℕ → Move P T (Held S)
by_character r hold s bytes (Some c) = lifted (r.step s c)
by_character r hold s bytes None = if is_begun bytes then go (record { state = hold s; begun = bytes }) else fail

-- one byte more: behind a whole character the move by it, and inside one the bytes so far are held
abbrev pub byte_step : {P T S : Type 0} → Reader P T S → (S → S) → Held S → ℕ → Move P T (Held S)
byte_step r hold h b = by_character r hold h.state (h.begun ++ b ∷ []) (decoded (h.begun ++ b ∷ []))

-- whether there is any byte
abbrev pub is_some_byte : List ℕ → Bool
is_some_byte [] = false
is_some_byte (b ∷ bytes) = true

-- the reader by bytes
abbrev pub encoded : {P T S : Type 0} → Reader P T S → (S → S) → Reader P T (Held S)
encoded r hold = record {
  first = λ place. at_state (r.first place);
  step = byte_step r hold;
  is_open = λ h. is_some_byte h.begun || r.is_open h.state;
  bad = r.bad;
}

-- what is asked of the reader of characters
pub record ByCharacters {P T S : Type 0} (r : Reader P T S) (hold : S → S) : Type 0 where
  -- it fails at what is no character of XML
  pub strict : (s : S) (c : ℕ) → is_character c ≡ false → r.step s c ≡ fail
  -- what is not kept makes no difference to a character of several bytes
  pub holds : (s : S) (c : ℕ) → 128 ≤ c → r.step (hold s) c ≡ r.step s c
