-- Which nonterminals a grammar speaks of: those below a count.
use Rattle.std.specs.Prelude.{ℕ, Bool, true, ◌&&◌, nat_lt, List, [], ◌∷◌, IsTrue}
use Rattle.std.specs.List.{list_all}
use Rattle.cfg_grammar.specs.declared.symbol.Symbol.{Symbol}
use Rattle.cfg_grammar.specs.declared.symbol.Symbol.TheVariants.{Range, Token, Nt}
use Rattle.cfg_grammar.specs.declared.production.Right.{Right}
use Rattle.cfg_grammar.specs.declared.production.Right.TheVariants.{Empty, One, Two}
use Rattle.cfg_grammar.specs.declared.production.Production.{Production}

-- the symbols of a right side, in order
abbrev pub symbols_of : Right → List Symbol
symbols_of Empty = []
symbols_of (One a) = a ∷ []
symbols_of (Two a b) = a ∷ b ∷ []

-- the symbol is no nonterminal, or one below the count
abbrev pub symbol_below : ℕ → Symbol → Bool
symbol_below count (Range range) = true
symbol_below count (Token token) = true
symbol_below count (Nt a) = nat_lt a.0 count

-- so is each nonterminal of the production
abbrev pub production_below : ℕ → Production → Bool
production_below count p = nat_lt p.left.0 count && list_all (symbol_below count) (symbols_of p.right)

-- each nonterminal of the productions is below the count
abbrev pub AreBelow : ℕ → List Production → Type 0
AreBelow count productions = IsTrue (list_all (production_below count) productions)
