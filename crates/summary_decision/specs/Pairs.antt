-- Pairs of a nonterminal and the sum of one of its sentences.
use Rattle.std.specs.Prelude.{◌≡◌, ◌≢◌, ℕ, ◌<◌, ◌≤◌, Bool, true, List, [], ◌∷◌, length, Contains}
use Rattle.std.specs.List.{AllPairs}
use Rattle.text_base.specs.declared.letter.Letter.{Letter}
use Rattle.text_base.specs.declared.letter.Letter.TheVariants.{OfByte, OfToken}
use Rattle.text_base.specs.declared.page_token.PageToken.{PageToken}
use Rattle.text_base.specs.declared.numbers.Nt as nt
use Rattle.cfg_grammar.specs.declared.symbol.Symbol.TheVariants.{Nt}
use Rattle.cfg_grammar.specs.declared.production.Production.{Production}
use Rattle.cfg_grammar.specs.Derives.{Derives, DerivesIn}
use Rattle.useful_nonterminals.specs.Useful.{IsUseful}

-- the page tokens of a sentence; a byte is none
abbrev pub tokens_in : List Letter → List PageToken
tokens_in [] = []
tokens_in (OfByte b ∷ w) = tokens_in w
tokens_in (OfToken t ∷ w) = t ∷ tokens_in w

-- a sentence of the nonterminal by a derivation of at most a height
abbrev pub IsSentenceWithin : List Production → nt.Nt → List Letter → ℕ → Type 0
IsSentenceWithin productions a w k = (h : ℕ) × (h ≤ k) × DerivesIn productions (Nt a) w h

module _ {S : Type 0} (sum_of : List PageToken → S) where
  -- the sum is that of a sentence of the nonterminal, which is useful, by a derivation of at most a height
  pub record IsPair (productions : List Production) (start : nt.Nt) (k : ℕ) (a : nt.Nt) (sum : S) : Type 0 where
    pub useful : IsUseful productions start a
    pub sentence : List Letter
    pub derived : IsSentenceWithin productions a sentence k
    pub same : sum_of (tokens_in sentence) ≡ sum

  -- one nonterminal has at least so many pairs
  abbrev pub HasPairs : List Production → nt.Nt → ℕ → ℕ → Type 0
  HasPairs productions start k count =
      (a : nt.Nt) × (sums : List S) × (length sums ≡ count) × AllPairs (λ x y. x ≢ y) sums
      × ((s : S) → Contains sums s → IsPair productions start k a s)

  -- each sentence of the start of a smaller height is whole
  abbrev pub AreWholeBelow : (S → Bool) → List Production → nt.Nt → ℕ → Type 0
  AreWholeBelow whole productions start k = (w : List Letter) (h : ℕ) → h < k → DerivesIn productions (Nt start) w h
      → whole (sum_of (tokens_in w)) ≡ true

  -- each sentence of the start is whole
  abbrev pub AreWhole : (S → Bool) → List Production → nt.Nt → Type 0
  AreWhole whole productions start = (w : List Letter) → Derives productions (Nt start) w → whole (sum_of (tokens_in w)) ≡ true
