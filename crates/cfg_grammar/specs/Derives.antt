-- What a grammar derives: trees of productions with one byte or token chosen for each symbol that is no nonterminal (Hopcroft and Ullman,
-- Introduction to Automata Theory, 4.3).
use Rattle.std.specs.Prelude.{◌≡◌, ℕ, suc, ◌≤◌, List, [], ◌∷◌, ◌++◌, max, Contains}
use Rattle.text_base.specs.declared.byte_range.ByteRange.{ByteRange}
use Rattle.text_base.specs.declared.page_token.PageToken.{PageToken}
use Rattle.text_base.specs.declared.numbers.Nt as nt
use Rattle.text_base.specs.ByteRange.{InRange}
use Rattle.cfg_grammar.specs.declared.symbol.Symbol.{Symbol}
use Rattle.cfg_grammar.specs.declared.symbol.Symbol.TheVariants.{Range, Token, Nt}
use Rattle.text_base.specs.declared.letter.Letter.{Letter}
use Rattle.text_base.specs.declared.letter.Letter.TheVariants.{OfByte, OfToken}
use Rattle.cfg_grammar.specs.declared.production.Right.{Right}
use Rattle.cfg_grammar.specs.declared.production.Right.TheVariants.{Empty, One, Two}
use Rattle.cfg_grammar.specs.declared.production.Production.{Production}

-- the productions lead from the symbol to the sentence
pub data Derives (productions : List Production) : Symbol → List Letter → Type 0 where
  by_range : (range : ByteRange) (byte : ℕ) → InRange range byte → Derives productions (Range range) (OfByte byte ∷ [])
  by_token : (token : PageToken) → Derives productions (Token token) (OfToken token ∷ [])
  by_empty : (left : nt.Nt) → Contains productions (record { left = left; right = Empty }) → Derives productions (Nt left) []
  by_one : (left : nt.Nt) (a : Symbol) (w : List Letter) → Contains productions (record { left = left; right = One a })
      → Derives productions a w → Derives productions (Nt left) w
  by_two : (left : nt.Nt) (a b : Symbol) (v w : List Letter) → Contains productions (record { left = left; right = Two a b })
      → Derives productions a v → Derives productions b w → Derives productions (Nt left) (v ++ w)

-- the same by a derivation of a height, which is 1 without nonterminals on the right, and else one more than its highest part
pub data DerivesIn (productions : List Production) : Symbol → List Letter → ℕ → Type 0 where
  by_range : (range : ByteRange) (byte : ℕ) → InRange range byte → DerivesIn productions (Range range) (OfByte byte ∷ []) 0
  by_token : (token : PageToken) → DerivesIn productions (Token token) (OfToken token ∷ []) 0
  by_empty : (left : nt.Nt) → Contains productions (record { left = left; right = Empty }) → DerivesIn productions (Nt left) [] 1
  by_one : (left : nt.Nt) (a : Symbol) (w : List Letter) (h : ℕ) → Contains productions (record { left = left; right = One a })
      → DerivesIn productions a w h → DerivesIn productions (Nt left) w (suc h)
  by_two : (left : nt.Nt) (a b : Symbol) (v w : List Letter) (h k : ℕ) → Contains productions (record { left = left; right = Two a b })
      → DerivesIn productions a v h → DerivesIn productions b w k → DerivesIn productions (Nt left) (v ++ w) (suc (max h k))
