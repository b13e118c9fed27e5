-- For each nonterminal of a system one that stands for it, and what the system's rows are by these.
use Rattle.std.specs.Prelude.{List, slice_index_or}
use Rattle.text_base.specs.declared.numbers.Nt as nt
use Rattle.cfg_grammar.specs.declared.symbol.Symbol.{Symbol}
use Rattle.cfg_grammar.specs.declared.symbol.Symbol.TheVariants.{Range, Token, Nt}
use Rattle.cfg_grammar.specs.declared.production.Right.{Right}
use Rattle.cfg_grammar.specs.declared.production.Right.TheVariants.{Empty, One, Two}
use Rattle.cfg_grammar.specs.declared.production.Production.{Production}
use Rattle.op_system.specs.declared.system.OpRule.{OpRule}

-- what stands for a nonterminal: the one that is listed at its number, or itself behind the list
abbrev pub set_of : List nt.Nt → nt.Nt → nt.Nt
set_of sets a = slice_index_or sets a.0 a

-- what stands for a symbol
abbrev pub symbol_of : List nt.Nt → Symbol → Symbol
symbol_of sets (Range range) = Range range
symbol_of sets (Token token) = Token token
symbol_of sets (Nt a) = Nt (set_of sets a)

-- a right side by what stands for its symbols
abbrev pub right_of : List nt.Nt → Right → Right
right_of sets Empty = Empty
right_of sets (One a) = One (symbol_of sets a)
right_of sets (Two a b) = Two (symbol_of sets a) (symbol_of sets b)

-- so is a production
abbrev pub production_of : List nt.Nt → Production → Production
production_of sets p = record { left = set_of sets p.left; right = right_of sets p.right }

-- and a rule
abbrev pub rule_of : List nt.Nt → OpRule → OpRule
rule_of sets r = record { left = set_of sets r.left; op = r.op; operand = set_of sets r.operand }
