-- What pairs that are taken up know of the sentences of a grammar, once what productions make of them is found.
use Rattle.std.specs.Prelude.{◌≡◌, ℕ, ◌+◌, ◌<◌, ◌≤◌, List, [], ◌∷◌, Some, slice_get, Contains}
use Rattle.text_base.specs.declared.letter.Letter.{Letter}
use Rattle.text_base.specs.declared.page_token.PageToken.{PageToken}
use Rattle.text_base.specs.declared.numbers.Nt as nt
use Rattle.cfg_grammar.specs.declared.symbol.Symbol.{Symbol}
use Rattle.cfg_grammar.specs.declared.symbol.Symbol.TheVariants.{Range, Token, Nt}
use Rattle.cfg_grammar.specs.declared.production.Right.TheVariants.{Empty, One, Two}
use Rattle.cfg_grammar.specs.declared.production.Production.{Production}
use Rattle.cfg_grammar.specs.Derives.{Derives}
use Rattle.derivations.specs.declared.node.Part.TheVariants.{Inner}
use Rattle.derivations.specs.declared.node.Node.{Node}
use Rattle.derivations.specs.Nodes.{part_length}
use Rattle.derivations.specs.Lawful.{byte_count}
use Rattle.useful_nonterminals.specs.Useful.{IsUseful}
use Rattle.summary_decision.specs.Pairs.{tokens_in}
use Rattle.summary_decision.specs.Closed.{Pair}

module _ {S : Type 0} (sum_of : List PageToken → S) (composed : S → S → S) where
  -- the sum is one of the symbol's, by so many bytes: that of the letter that it is, or of a pair among the first so many
  abbrev pub HasSum : List (Pair S) → List Node → ℕ → Symbol → S → ℕ → Type 0
  HasSum pairs nodes n (Range range) s l = (sum_of [] ≡ s) × (l ≡ 1)
  HasSum pairs nodes n (Token token) s l = (sum_of (token ∷ []) ≡ s) × (l ≡ 0)
  HasSum pairs nodes n (Nt a) s l = (j : ℕ) × (j < n) × (slice_get pairs j ≡ Some (a.0, s)) × (part_length nodes (Inner j) ≡ l)

  -- what the productions make of the first so many pairs is found, by the sum of lengths
  pub record IsClosed (Found : Pair S → ℕ → Type 0) (productions : List Production) (start : nt.Nt) (pairs : List (Pair S))
      (nodes : List Node) (n : ℕ) : Type 0 where
    pub empties : (left : nt.Nt) → Contains productions (record { left = left; right = Empty }) → IsUseful productions start left
        → Found (left.0, sum_of []) 0
    pub ones : (left : nt.Nt) (a : Symbol) (s : S) (l : ℕ) → Contains productions (record { left = left; right = One a })
        → IsUseful productions start left → HasSum pairs nodes n a s l → Found (left.0, s) l
    pub twos : (left : nt.Nt) (a b : Symbol) (s t : S) (l m : ℕ) → Contains productions (record { left = left; right = Two a b })
        → IsUseful productions start left → HasSum pairs nodes n a s l → HasSum pairs nodes n b t m → Found (left.0, composed s t) (l + m)

  -- what the productions make of the pair at a place and those before it is found
  pub record IsTaken (Found : Pair S → ℕ → Type 0) (productions : List Production) (start : nt.Nt) (pairs : List (Pair S))
      (nodes : List Node) (n : ℕ) (a : nt.Nt) (s : S) (own : ℕ) : Type 0 where
    pub ones : (left : nt.Nt) → Contains productions (record { left = left; right = One (Nt a) }) → IsUseful productions start left
        → Found (left.0, s) own
    pub firsts : (left : nt.Nt) (b : Symbol) (t : S) (m : ℕ) → Contains productions (record { left = left; right = Two (Nt a) b })
        → IsUseful productions start left → HasSum pairs nodes (n + 1) b t m → Found (left.0, composed s t) (own + m)
    pub seconds : (left : nt.Nt) (b : Symbol) (t : S) (m : ℕ) → Contains productions (record { left = left; right = Two b (Nt a) })
        → IsUseful productions start left → HasSum pairs nodes n b t m → Found (left.0, composed t s) (own + m)

  -- each sentence of a useful nonterminal of fewer bytes has its pair, by no more bytes
  abbrev pub IsCompleteBelow : List Production → nt.Nt → List (Pair S) → List Node → ℕ → Type 0
  IsCompleteBelow productions start pairs nodes l = (a : nt.Nt) (w : List Letter) → byte_count w < l → IsUseful productions start a
      → Derives productions (Nt a) w
      → (j : ℕ) × (slice_get pairs j ≡ Some (a.0, sum_of (tokens_in w))) × (part_length nodes (Inner j) ≤ byte_count w)
