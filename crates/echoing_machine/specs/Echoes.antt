-- What the machine of a reader puts out.
use Rattle.std.specs.Prelude.{◌≡◌, ◌↔◌, ℕ, List, [], ◌∷◌, ◌++◌, map}
use Rattle.text_base.specs.declared.letter.Letter.{Letter}
use Rattle.text_base.specs.declared.letter.Letter.TheVariants.{OfToken}
use Rattle.text_base.specs.declared.page_token.PageToken.{PageToken}
use Rattle.fst_core.specs.Runs.{Relates}
use Rattle.derivations.specs.Bytes.{bytes_in}
use Rattle.summary_decision.specs.Pairs.{tokens_in}
use Rattle.byte_readers.specs.Reading.{tokens_over}
use Rattle.echoing_machine.specs.Groups.{echo_letters}

module _ {S : Type 0} (next : S → ℕ → S) (puts : S → ℕ → List PageToken) (lasts : S → List PageToken) where
  -- by a byte to the one state behind it, with its tokens and the byte
  abbrev pub EchoStep : S → ℕ → S → List Letter → Type 0
  EchoStep s byte t letters = (t ≡ next s byte) × (letters ≡ echo_letters (puts s byte) byte)

  -- at the end of the text in a state, with the tokens that are put out there
  abbrev pub EchoEnd : S → List Letter → Type 0
  EchoEnd s letters = letters ≡ map OfToken (lasts s)

  -- the text with the tokens between its bytes
  abbrev pub echo_of : S → List ℕ → List Letter
  echo_of s [] = map OfToken (lasts s)
  echo_of s (b ∷ bs) = echo_letters (puts s b) b ++ echo_of (next s b) bs

  -- over each text this is what is put out, and nothing else; its bytes are the text, and its tokens those of the reader; a step puts out
  -- its own byte, and an end none
  pub record IsEcho (first : S) : Type 0 where
    pub copies : (s t : S) (byte : ℕ) (letters : List Letter) → EchoStep s byte t letters → bytes_in letters ≡ byte ∷ []
    pub adds_none : (s : S) (letters : List Letter) → EchoEnd s letters → bytes_in letters ≡ []
    pub only : (text : List ℕ) (letters : List Letter) → Relates first EchoStep EchoEnd text letters ↔ (letters ≡ echo_of first text)
    pub bytes : (text : List ℕ) → bytes_in (echo_of first text) ≡ text
    pub tokens : (text : List ℕ) → tokens_in (echo_of first text) ≡ tokens_over next puts lasts first text
