-- Pairs of a nonterminal and the sum of one of its short sentences. The length of a sentence is the number of its bytes.
use Rattle.std.specs.Prelude.{◌≡◌, ◌≢◌, ◌⊎◌, ℕ, ◌<◌, ◌≤◌, Bool, true, List, length, Contains}
use Rattle.std.specs.List.{AllPairs}
use Rattle.text_base.specs.declared.letter.Letter.{Letter}
use Rattle.text_base.specs.declared.page_token.PageToken.{PageToken}
use Rattle.text_base.specs.declared.numbers.Nt as nt
use Rattle.cfg_grammar.specs.declared.symbol.Symbol.TheVariants.{Nt}
use Rattle.cfg_grammar.specs.declared.production.Production.{Production}
use Rattle.cfg_grammar.specs.Derives.{Derives}
use Rattle.derivations.specs.Nodes.{most}
use Rattle.derivations.specs.Lawful.{byte_count}
use Rattle.useful_nonterminals.specs.Useful.{IsUseful}
use Rattle.summary_decision.specs.Pairs.{tokens_in}

-- the sentence has at most so many bytes; where that is the largest u64, it may have any number
abbrev pub IsWithin : List Letter → ℕ → Type 0
IsWithin w l = (byte_count w ≤ l) ⊎ (l ≡ most)

module _ {S : Type 0} (sum_of : List PageToken → S) where
  -- the sum is that of the tokens of a sentence of the nonterminal, which is useful, within a length
  pub record IsShortPair (productions : List Production) (start : nt.Nt) (l : ℕ) (a : nt.Nt) (sum : S) : Type 0 where
    pub useful : IsUseful productions start a
    pub sentence : List Letter
    pub derived : Derives productions (Nt a) sentence
    pub short : IsWithin sentence l
    pub same : sum_of (tokens_in sentence) ≡ sum

  -- one nonterminal has at least so many such pairs
  abbrev pub HasShortPairs : List Production → nt.Nt → ℕ → ℕ → Type 0
  HasShortPairs productions start l count =
      (a : nt.Nt) × (sums : List S) × (length sums ≡ count) × AllPairs (λ x y. x ≢ y) sums
      × ((s : S) → Contains sums s → IsShortPair productions start l a s)

  -- each sentence of the start of fewer bytes is whole
  abbrev pub AreShorterWhole : (S → Bool) → List Production → nt.Nt → ℕ → Type 0
  AreShorterWhole whole productions start l = (w : List Letter) → byte_count w < l → Derives productions (Nt start) w
      → whole (sum_of (tokens_in w)) ≡ true
