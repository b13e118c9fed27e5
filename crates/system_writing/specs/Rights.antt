-- The right sides of a text, and of a text before a set.
use Rattle.std.specs.Prelude.{ℕ, Option, None, Some}
use Rattle.cfg_grammar.specs.declared.symbol.Symbol.{Symbol}
use Rattle.cfg_grammar.specs.declared.symbol.Symbol.TheVariants.{Nt}
use Rattle.cfg_grammar.specs.declared.production.Right.{Right}
use Rattle.cfg_grammar.specs.declared.production.Right.TheVariants.{Empty, One, Two}

-- the right side of a text by the symbol that stands for it; the empty text has none
abbrev pub text_right : Option Symbol → Right
text_right None = Empty
text_right (Some s) = One s

-- the right side of such a text before a set
abbrev pub before_right : Option Symbol → ℕ → Right
before_right None set = One (Nt (record { 0 = set }))
before_right (Some s) set = Two s (Nt (record { 0 = set }))

-- each text of another nonterminal
abbrev pub same_right : ℕ → Right
same_right other = One (Nt (record { 0 = other }))
