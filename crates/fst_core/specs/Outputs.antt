-- What a machine puts out over the sentences of a symbol: the image of a context-free language under a finite-state
-- transduction (Hopcroft and Ullman, Introduction to Automata Theory, 11.2).
use Rattle.std.specs.Prelude.{ℕ, List, map}
use Rattle.text_base.specs.declared.letter.Letter.{Letter}
use Rattle.text_base.specs.declared.letter.Letter.TheVariants.{OfByte}
use Rattle.cfg_grammar.specs.declared.symbol.Symbol.{Symbol}
use Rattle.cfg_grammar.specs.declared.production.Production.{Production}
use Rattle.cfg_grammar.specs.Derives.{Derives}
use Rattle.fst_core.specs.Runs.{Runs, Relates}

-- the symbol derives the text of bytes
abbrev pub DerivesText : List Production → Symbol → List ℕ → Type 0
DerivesText productions symbol text = Derives productions symbol (map OfByte text)

-- over some text that the symbol derives, the machine that begins in `first` may put out the letters
abbrev pub Outputs : {S : Type 0} → List Production → Symbol → S → (S → ℕ → S → List Letter → Type 0) → (S → List Letter → Type 0)
    → List Letter → Type 0
Outputs {S} productions symbol first steps ends letters =
    (text : List ℕ) × DerivesText productions symbol text × Relates first steps ends text letters

-- over some text that the symbol derives, the machine may go from the one state to the other
abbrev pub Leads : {S : Type 0} → List Production → (S → ℕ → S → List Letter → Type 0) → S → Symbol → S → Type 0
Leads {S} productions steps s symbol t =
    (text : List ℕ) × (letters : List Letter) × DerivesText productions symbol text × Runs steps s text t letters
