-- Lists of symbols that are numbered front by front.
use Rattle.std.specs.Prelude.{◌≡◌, ◌+◌, ◌<◌, ◌⊎◌, ℕ, suc, List, [], ◌∷◌, ◌++◌, length, take, Some, slice_get}
use Rattle.cfg_grammar.specs.declared.symbol.Symbol.{Symbol}
use Rattle.chart_grammar.specs.declared.fronts.Front.{Front}

-- with the front n as the nonterminal base + n: 0 stands for no symbols, and a front's nonterminal for the symbols up
-- to its last
pub data StandsFor (base : ℕ) (fronts : List Front) : ℕ → List Symbol → Type 0 where
  nothing : StandsFor base fronts 0 []
  longer : (n before : ℕ) (last : Symbol) (symbols : List Symbol) → slice_get fronts n ≡ Some (record { before = before; last = last })
      → StandsFor base fronts before symbols → StandsFor base fronts (base + n) (symbols ++ last ∷ [])

-- the front n stands for some of the symbols, from the first on
abbrev pub IsFrontOf : ℕ → List Front → ℕ → List Symbol → Type 0
IsFrontOf base fronts n symbols = (place : ℕ) × (place < length symbols) × StandsFor base fronts (base + n) (take (suc place) symbols)

-- each new front is one of the symbols
abbrev pub AddsFronts : ℕ → List Front → List Front → List Symbol → Type 0
AddsFronts base old new symbols = (n : ℕ) → n < length new → (n < length old) ⊎ IsFrontOf base new n symbols
