-- What a list of pairs, in the order in which they are found, knows of the sentences of a grammar.
use Rattle.std.specs.Prelude.{◌≡◌, ℕ, ◌+◌, ◌<◌, ◌≤◌, List, [], ◌∷◌, Some, slice_get, Contains, length}
use Rattle.text_base.specs.declared.letter.Letter.{Letter}
use Rattle.text_base.specs.declared.page_token.PageToken.{PageToken}
use Rattle.text_base.specs.declared.numbers.Nt as nt
use Rattle.cfg_grammar.specs.declared.symbol.Symbol.{Symbol}
use Rattle.cfg_grammar.specs.declared.symbol.Symbol.TheVariants.{Range, Token, Nt}
use Rattle.cfg_grammar.specs.declared.production.Right.TheVariants.{Empty, One, Two}
use Rattle.cfg_grammar.specs.declared.production.Production.{Production}
use Rattle.cfg_grammar.specs.Derives.{Derives, DerivesIn}
use Rattle.useful_nonterminals.specs.Useful.{IsUseful}
use Rattle.summary_decision.specs.Pairs.{tokens_in}

-- the number of a nonterminal, and a sum
abbrev pub Pair : Type 0 → Type 0
Pair S = ℕ × S

module _ {S : Type 0} (sum_of : List PageToken → S) (composed : S → S → S) where
  -- the sum is one of the symbol's: that of the letter that it is, or of a pair among the first so many
  abbrev pub HasSum : List (Pair S) → ℕ → Symbol → S → Type 0
  HasSum known n (Range range) s = sum_of [] ≡ s
  HasSum known n (Token token) s = sum_of (token ∷ []) ≡ s
  HasSum known n (Nt a) s = (j : ℕ) × (j < n) × (slice_get known j ≡ Some (a.0, s))

  -- what the productions make of the first so many pairs is there
  pub record IsClosed (productions : List Production) (start : nt.Nt) (known : List (Pair S)) (n : ℕ) : Type 0 where
    pub empties : (left : nt.Nt) → Contains productions (record { left = left; right = Empty }) → IsUseful productions start left
        → Contains known (left.0, sum_of [])
    pub ones : (left : nt.Nt) (a : Symbol) (s : S) → Contains productions (record { left = left; right = One a })
        → IsUseful productions start left → HasSum known n a s → Contains known (left.0, s)
    pub twos : (left : nt.Nt) (a b : Symbol) (s t : S) → Contains productions (record { left = left; right = Two a b })
        → IsUseful productions start left → HasSum known n a s → HasSum known n b t → Contains known (left.0, composed s t)

  -- what the productions make of the pair at a place and those before it is there
  pub record IsTaken (productions : List Production) (start : nt.Nt) (known : List (Pair S)) (n : ℕ) (a : nt.Nt) (s : S) : Type 0 where
    pub ones : (left : nt.Nt) → Contains productions (record { left = left; right = One (Nt a) }) → IsUseful productions start left
        → Contains known (left.0, s)
    pub firsts : (left : nt.Nt) (b : Symbol) (t : S) → Contains productions (record { left = left; right = Two (Nt a) b })
        → IsUseful productions start left → HasSum known (n + 1) b t → Contains known (left.0, composed s t)
    pub seconds : (left : nt.Nt) (b : Symbol) (t : S) → Contains productions (record { left = left; right = Two b (Nt a) })
        → IsUseful productions start left → HasSum known n b t → Contains known (left.0, composed t s)

  -- each sentence of a useful nonterminal with a derivation of at most a height has its pair among the first so many
  abbrev pub IsComplete : List Production → nt.Nt → List (Pair S) → ℕ → ℕ → Type 0
  IsComplete productions start known n k = (a : nt.Nt) (w : List Letter) (h : ℕ) → h ≤ k → IsUseful productions start a
      → DerivesIn productions (Nt a) w h → HasSum known n (Nt a) (sum_of (tokens_in w))

  -- one pair more is taken
  abbrev pub TakesOne : Type 0
  TakesOne = (productions : List Production) (start : nt.Nt) (known : List (Pair S)) (n : ℕ) (a : nt.Nt) (s : S)
      → slice_get known n ≡ Some (a.0, s) → IsClosed productions start known n → IsTaken productions start known n a s
      → IsClosed productions start known (n + 1)

  -- what is closed over the pairs of one height is complete for the next
  abbrev pub ClosedIsComplete : Type 0
  ClosedIsComplete = (productions : List Production) (start : nt.Nt) (known : List (Pair S)) (n k : ℕ) → IsClosed productions start known n
      → IsComplete productions start known n k → IsComplete productions start known (length known) (k + 1)

  -- what is closed over itself has the pair of each sentence
  abbrev pub ClosedHasAll : Type 0
  ClosedHasAll = (productions : List Production) (start : nt.Nt) (known : List (Pair S)) → IsClosed productions start known (length known)
      → (a : nt.Nt) (w : List Letter) → IsUseful productions start a → Derives productions (Nt a) w
      → Contains known (a.0, sum_of (tokens_in w))
