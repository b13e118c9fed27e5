-- Which nonterminals of a grammar stand in some derivation from its start (Hopcroft and Ullman, Introduction to Automata
-- Theory, 4.4).
use Rattle.std.specs.Prelude.{List, Contains}
use Rattle.text_base.specs.declared.letter.Letter.{Letter}
use Rattle.text_base.specs.declared.numbers.Nt as nt
use Rattle.cfg_grammar.specs.declared.symbol.Symbol.{Symbol}
use Rattle.cfg_grammar.specs.declared.symbol.Symbol.TheVariants.{Nt}
use Rattle.cfg_grammar.specs.declared.production.Right.TheVariants.{One, Two}
use Rattle.cfg_grammar.specs.declared.production.Production.{Production}
use Rattle.cfg_grammar.specs.Derives.{Derives}

-- some sentence is derived
abbrev pub IsProductive : List Production → nt.Nt → Type 0
IsProductive productions a = (w : List Letter) × Derives productions (Nt a) w

-- the nonterminal derives something, and it is the start or stands in a production of a useful one whose other symbol
-- derives something too
pub data IsUseful (productions : List Production) (start : nt.Nt) : nt.Nt → Type 0 where
  at_start : (w : List Letter) → Derives productions (Nt start) w → IsUseful productions start start
  alone : (left a : nt.Nt) (w : List Letter) → IsUseful productions start left
      → Contains productions (record { left = left; right = One (Nt a) }) → Derives productions (Nt a) w → IsUseful productions start a
  as_first : (left a : nt.Nt) (b : Symbol) (v w : List Letter) → IsUseful productions start left
      → Contains productions (record { left = left; right = Two (Nt a) b }) → Derives productions (Nt a) v → Derives productions b w
      → IsUseful productions start a
  as_second : (left a : nt.Nt) (b : Symbol) (v w : List Letter) → IsUseful productions start left
      → Contains productions (record { left = left; right = Two b (Nt a) }) → Derives productions b v → Derives productions (Nt a) w
      → IsUseful productions start a
