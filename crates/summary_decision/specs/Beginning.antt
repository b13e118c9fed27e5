-- Pairs of productions in which no nonterminal stands on the right.
use Rattle.std.specs.Prelude.{◌≡◌, ℕ, Bool, List, [], Option, None, Some, slice_get, Contains}
use Rattle.text_base.specs.declared.page_token.PageToken.{PageToken}
use Rattle.text_base.specs.declared.numbers.Nt as nt
use Rattle.cfg_grammar.specs.declared.production.Right.{Right}
use Rattle.cfg_grammar.specs.declared.production.Right.TheVariants.{Empty, One, Two}
use Rattle.cfg_grammar.specs.declared.production.Production.{Production}
use Rattle.derivations.specs.declared.node.Parts.{Parts}
use Rattle.derivations.specs.declared.node.Node.{Node}
use Rattle.useful_nonterminals.specs.Useful.{IsUseful}
use Rattle.summary_decision.specs.declared.table.Table.{Table}
use Rattle.summary_decision.specs.Closed.{Pair, HasSum}
use Rattle.summary_decision.specs.Tables.{known, Makes, GoesOn}

-- the production at a place has a useful left side, and this right side
pub record StandsAt (productions : List Production) (start : nt.Nt) (place : ℕ) (r : Right) : Type 0 where
  pub left : nt.Nt
  pub at : slice_get productions place ≡ Some (record { left = left; right = r })
  pub useful : IsUseful productions start left

module _ {S : Type 0} (sum_of : List PageToken → S) (composed : S → S → S) where
  -- what the letters on the right make is there
  abbrev pub IsBegun : List (Pair S) → ℕ → Right → Type 0
  IsBegun pairs left Empty = Contains pairs (left, sum_of [])
  IsBegun pairs left (One a) = (s : S) → HasSum sum_of composed [] 0 a s → Contains pairs (left, s)
  IsBegun pairs left (Two a b) = (s t : S) → HasSum sum_of composed [] 0 a s → HasSum sum_of composed [] 0 b t
      → Contains pairs (left, composed s t)

  -- the parts derive what stands on the right, with the sum, and no other sum is made of letters there
  pub record AreMadeOf (whole : S → Bool) (productions : List Production) (start : nt.Nt) (r : Right) (made : Parts × S) : Type 0 where
    pub makes : (nodes : List Node) (height : ℕ) → Makes sum_of composed whole productions start nodes height r made.0 made.1
    pub alone : (pairs : List (Pair S)) (left : ℕ) → Contains pairs (left, made.1) → IsBegun pairs left r

  -- such parts with their sum; none where letters on the right make no sum
  abbrev pub IsMadeOf : (S → Bool) → List Production → nt.Nt → Right → Option (Parts × S) → Type 0
  IsMadeOf whole productions start r None = (pairs : List (Pair S)) (left : ℕ) → IsBegun pairs left r
  IsMadeOf whole productions start r (Some made) = AreMadeOf whole productions start r made

  -- of the productions at some places with useful left sides
  pub record Begins (whole : S → Bool) (productions : List Production) (start : nt.Nt) (count : ℕ) (old new : Table S)
      (Asked : ℕ → Type 0) : Type 0 where
    pub goes : GoesOn sum_of composed whole productions start count old new
    pub begun : (place : ℕ) (p : Production) → Asked place → slice_get productions place ≡ Some p → IsUseful productions start p.left
        → IsBegun (known new) p.left.0 p.right
