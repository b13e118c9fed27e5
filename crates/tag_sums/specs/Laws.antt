-- The laws of sums.
use Rattle.std.specs.Prelude.{◌≡◌, ◌↔◌, List, [], ◌∷◌, ◌++◌}
use Rattle.text_base.specs.declared.page_token.PageToken.{PageToken}
use Rattle.tag_sums.specs.Automaton.{Automaton, IsAutomaton}
use Rattle.tag_sums.specs.Trees.{IsPage}
use Rattle.tag_sums.specs.Sum.{Sum, compose, sum_of, of_token, IsWhole}
use Rattle.tag_sums.specs.Nesting.{nest, join, nest_of, IsNested}

-- the sum of a concatenation is the composition of the sums
abbrev pub SumsCompose : Type 0
SumsCompose = (a : Automaton) → IsAutomaton a → (u v : List PageToken) → sum_of a (u ++ v) ≡ compose (sum_of a u) (sum_of a v)

-- composition is associative
abbrev pub IsAssociative : Type 0
IsAssociative = (s t r : Sum) → compose (compose s t) r ≡ compose s (compose t r)

-- the sum of one token is the sum of the list that holds it alone
abbrev pub OneToken : Type 0
OneToken = (a : Automaton) → IsAutomaton a → (t : PageToken) → sum_of a (t ∷ []) ≡ of_token a t

-- a sum is whole exactly where the tokens are those of a page
abbrev pub WholeIsPage : Type 0
WholeIsPage = (a : Automaton) → IsAutomaton a → (ts : List PageToken) → IsWhole a (sum_of a ts) ↔ IsPage a ts

-- the sum of nesting of a concatenation is the composition of the sums
abbrev pub NestsCompose : Type 0
NestsCompose = (u v : List PageToken) → nest_of (u ++ v) ≡ join (nest_of u) (nest_of v)

-- nothing is unmatched exactly where the tokens are those of a tree
abbrev pub BalancedIsNested : Type 0
BalancedIsNested = (ts : List PageToken) → (nest_of ts ≡ nest [] []) ↔ IsNested ts
