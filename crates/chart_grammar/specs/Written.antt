-- Productions that are written, for one thing or for the first of some.
use Rattle.std.specs.Prelude.{◌≡◌, ◌<◌, ◌⊎◌, ℕ, List, length, take, Some, slice_get, Contains, All}
use Rattle.cfg_grammar.specs.declared.production.Production.{Production}
use Rattle.numbered_sets.specs.Numbers.{Keeps}

-- the old ones stay at their places, and each one behind them is so
pub record WritesBehind (P : Production → Type 0) (old new : List Production) : Type 0 where
  pub keeps : Keeps old new
  pub only : (k : ℕ) (p : Production) → slice_get new k ≡ Some p → (k < length old) ⊎ P p

module _ {A X : Type 0} (Made : List X → A → Production → Type 0) (Has : List X → A → List Production → Type 0) where
  -- those of one thing are there, and nothing else is written behind the old ones; what they speak of may grow
  pub record WritesOne (a : A) (w v : List X) (old new : List Production) : Type 0 where
    pub grows : Keeps w v
    pub puts : WritesBehind (λ (p : Production). Made v a p) old new
    pub has : Has v a new

  -- those of the first n things are there, and nothing but those of the things is written behind the old ones
  pub record WritesFirst (xs : List A) (n : ℕ) (w v : List X) (old new : List Production) : Type 0 where
    pub grows : Keeps w v
    pub puts : WritesBehind (λ (p : Production). (a : A) × Contains xs a × Made v a p) old new
    pub has : All (λ (a : A). Has v a new) (take n xs)

  -- those of all things are there, and nothing else is written behind the old ones
  pub record WritesAll (xs : List A) (w v : List X) (old new : List Production) : Type 0 where
    pub grows : Keeps w v
    pub puts : WritesBehind (λ (p : Production). (a : A) × Contains xs a × Made v a p) old new
    pub has : All (λ (a : A). Has v a new) xs
