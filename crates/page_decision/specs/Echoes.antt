-- Machines that copy a text and put page tokens between its bytes.
use Rattle.std.specs.Prelude.{◌≡◌, ◌↔◌, ℕ, ◌<◌, List, [], ◌∷◌, length, All}
use Rattle.text_base.specs.declared.letter.Letter.{Letter}
use Rattle.text_base.specs.declared.page_token.PageToken.{PageToken}
use Rattle.text_base.specs.declared.numbers.Nt as nt
use Rattle.cfg_grammar.specs.declared.symbol.Symbol.TheVariants.{Nt}
use Rattle.cfg_grammar.specs.declared.production.Production.{Production}
use Rattle.cfg_grammar.specs.declared.grammar.Grammar.{Grammar}
use Rattle.cfg_grammar.specs.Derives.{Derives}
use Rattle.fst_core.specs.Runs.{Relates}
use Rattle.fst_core.specs.Outputs.{Outputs}
use Rattle.fst_core.specs.Weight.{IsSmall}
use Rattle.derivations.specs.Bytes.{bytes_in}
use Rattle.summary_decision.specs.Pairs.{tokens_in}

module _ {S : Type 0} (first : S) (steps : S → ℕ → S → List Letter → Type 0) (ends : S → List Letter → Type 0) where
  -- each step puts out the byte that it reads and no other, the ends put out none, and over each text of bytes there is something to put
  -- out
  pub record IsEchoing : Type 0 where
    pub copies : (s t : S) (byte : ℕ) (letters : List Letter) → steps s byte t letters → bytes_in letters ≡ byte ∷ []
    pub adds_none : (s : S) (letters : List Letter) → ends s letters → bytes_in letters ≡ []
    pub total : (text : List ℕ) → All (λ byte. byte < 256) text → (letters : List Letter) × Relates first steps ends text letters

  -- over the text the machine may put out these tokens
  abbrev pub PutsTokens : List ℕ → List PageToken → Type 0
  PutsTokens text tokens = (letters : List Letter) × Relates first steps ends text letters × (tokens_in letters ≡ tokens)

-- the productions derive texts with their tokens: the bytes of each sentence are a text, its tokens are tokens of that text, and each text
-- has a sentence
pub record EchoTexts (IsText : List ℕ → Type 0) (HasTokens : List ℕ → List PageToken → Type 0) (productions : List Production)
    (start : nt.Nt) : Type 0 where
  pub texts : (letters : List Letter) → Derives productions (Nt start) letters → IsText (bytes_in letters)
  pub tokens : (letters : List Letter) → Derives productions (Nt start) letters → HasTokens (bytes_in letters) (tokens_in letters)
  pub sentences : (text : List ℕ) → IsText text
      → (letters : List Letter) × Derives productions (Nt start) letters × (bytes_in letters ≡ text)

-- the grammar is an image of the source under the machine: it derives exactly what the machine puts out over the texts of the source, and
-- has few nonterminals and productions, by the weight of the source under the machine
pub record IsMachineImage {S : Type 0} (source : Grammar) (first : S) (steps : S → ℕ → S → List Letter → Type 0)
    (ends : S → List Letter → Type 0) (image : Grammar) : Type 0 where
  pub sentences : (letters : List Letter) → Derives image.productions.items (Nt image.start) letters
      ↔ Outputs source.productions.items (Nt source.start) first steps ends letters
  pub small : IsSmall source.productions.items steps ends source.start first image.count (length image.productions.items)
