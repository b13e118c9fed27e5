-- The text of a grammar: a line for each production, as `n3 = n4 61-7a`; this project's own.
use Rattle.std.specs.Prelude.{ℕ, List, [], ◌∷◌, ◌++◌, codes, decimal, nat_eq, if◌then◌else◌}
use Rattle.hex.specs.Hex.{encode_lower}
use Rattle.cfg_grammar.specs.declared.symbol.Symbol.{Symbol}
use Rattle.cfg_grammar.specs.declared.symbol.Symbol.TheVariants.{Range, Token, Nt}
use Rattle.cfg_grammar.specs.declared.production.Right.{Right}
use Rattle.cfg_grammar.specs.declared.production.Right.TheVariants.{Empty, One, Two}
use Rattle.cfg_grammar.specs.declared.production.Production.{Production}

-- the start is written as 0, and the nonterminal 0 with the number of the start
abbrev pub written_number : ℕ → ℕ → ℕ
written_number start n = if nat_eq n start then 0 else (if nat_eq n 0 then start else n)

-- `n` and the written number in decimal
abbrev pub nonterminal_text : ℕ → ℕ → List ℕ
nonterminal_text start n = codes "n" ++ decimal (written_number start n)

-- the first byte and the last, each as two lower-case hexadecimal digits
abbrev pub range_text : ℕ → ℕ → List ℕ
range_text lo hi = encode_lower (lo ∷ []) ++ (codes "-" ++ encode_lower (hi ∷ []))

-- a page token is left out
abbrev pub symbol_text : ℕ → Symbol → List ℕ
symbol_text start (Range r) = codes " " ++ range_text r.lo r.hi
symbol_text start (Token t) = []
symbol_text start (Nt a) = codes " " ++ nonterminal_text start a.0

-- the symbols of a right side, each behind a space
abbrev pub right_text : ℕ → Right → List ℕ
right_text start Empty = []
right_text start (One a) = symbol_text start a
right_text start (Two a b) = symbol_text start a ++ symbol_text start b

-- the line of a production, ended by LF: left side, ` =`, right side
abbrev pub line_text : ℕ → Production → List ℕ
line_text start p = nonterminal_text start p.left.0 ++ (codes " =" ++ (right_text start p.right ++ codes "\n"))

-- a line for each production in their order
abbrev pub grammar_text : ℕ → List Production → List ℕ
grammar_text start [] = []
grammar_text start (p ∷ ps) = line_text start p ++ grammar_text start ps
