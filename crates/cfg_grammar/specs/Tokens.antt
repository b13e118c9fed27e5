-- Grammars in which no page token stands.
use Rattle.std.specs.Prelude.{Bool, true, false, List, IsTrue}
use Rattle.std.specs.List.{list_all}
use Rattle.cfg_grammar.specs.declared.symbol.Symbol.{Symbol}
use Rattle.cfg_grammar.specs.declared.symbol.Symbol.TheVariants.{Range, Token, Nt}
use Rattle.cfg_grammar.specs.declared.production.Production.{Production}
use Rattle.cfg_grammar.specs.Below.{symbols_of}

-- whether the symbol is a range of bytes or a nonterminal, and no page token
abbrev pub is_no_token : Symbol → Bool
is_no_token (Range range) = true
is_no_token (Token token) = false
is_no_token (Nt a) = true

-- no page token stands on the right of the production
abbrev pub production_without_token : Production → Bool
production_without_token p = list_all is_no_token (symbols_of p.right)

-- no page token stands in the productions
abbrev pub HaveNoToken : List Production → Type 0
HaveNoToken productions = IsTrue (list_all production_without_token productions)
