-- Productions whose nonterminals are numbered behind others.
use Rattle.std.specs.Prelude.{ℕ, ◌+◌}
use Rattle.cfg_grammar.specs.declared.symbol.Symbol.{Symbol}
use Rattle.cfg_grammar.specs.declared.symbol.Symbol.TheVariants.{Range, Token, Nt}
use Rattle.cfg_grammar.specs.declared.production.Right.{Right}
use Rattle.cfg_grammar.specs.declared.production.Right.TheVariants.{Empty, One, Two}
use Rattle.cfg_grammar.specs.declared.production.Production.{Production}

-- the symbol, where it is a nonterminal with a number so much higher
abbrev pub moved_symbol : ℕ → Symbol → Symbol
moved_symbol base (Range range) = Range range
moved_symbol base (Token token) = Token token
moved_symbol base (Nt a) = Nt (record { 0 = base + a.0 })

-- the right side with each nonterminal's number so much higher
abbrev pub moved_right : ℕ → Right → Right
moved_right base Empty = Empty
moved_right base (One a) = One (moved_symbol base a)
moved_right base (Two a b) = Two (moved_symbol base a) (moved_symbol base b)

-- the production with each nonterminal's number so much higher
abbrev pub moved_production : ℕ → Production → Production
moved_production base p = record { left = record { 0 = base + p.left.0 }; right = moved_right base p.right }
