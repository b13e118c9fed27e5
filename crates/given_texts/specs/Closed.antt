-- A closed grammar has the texts of the request, and those of integers.
use Rattle.std.specs.Prelude.{◌↔◌, ℕ, List, map, Contains}
use Rattle.text_base.specs.declared.numbers.Nt as nt
use Rattle.text_base.specs.declared.letter.Letter.TheVariants.{OfByte}
use Rattle.cfg_grammar.specs.declared.symbol.Symbol.{Symbol}
use Rattle.cfg_grammar.specs.declared.symbol.Symbol.TheVariants.{Nt}
use Rattle.cfg_grammar.specs.declared.production.Right.{Right}
use Rattle.cfg_grammar.specs.declared.production.Production.{Production}
use Rattle.cfg_grammar.specs.Below.{symbols_of}
use Rattle.cfg_grammar.specs.Derives.{Derives}
use Rattle.least_sets.specs.Integers.{IsInteger}

-- productions, with the nonterminals for the texts of the request and of integers
pub record Closed : Type 0 where
  pub productions : List Production
  pub request : ℕ
  pub integer : ℕ

-- the productions lead from the symbol to the text
abbrev pub HasText : List Production → Symbol → List ℕ → Type 0
HasText productions s w = Derives productions s (map OfByte w)

-- exactly these texts, and from each symbol on a right side some text
pub record IsClosed (closed : Closed) (request : List ℕ → Type 0) : Type 0 where
  pub asked : (w : List ℕ) → request w ↔ HasText closed.productions (Nt (record { 0 = closed.request })) w
  pub integers : (w : List ℕ) → IsInteger w ↔ HasText closed.productions (Nt (record { 0 = closed.integer })) w
  pub live : (left : nt.Nt) (right : Right) → Contains closed.productions (record { left = left; right = right })
      → (s : Symbol) → Contains (symbols_of right) s → (w : List ℕ) × HasText closed.productions s w
