-- Pairs of productions in which no nonterminal stands on the right.
use Rattle.std.specs.Prelude.{◌≡◌, ℕ, ◌+◌, Bool, List, [], Option, None, Some, slice_get}
use Rattle.text_base.specs.declared.page_token.PageToken.{PageToken}
use Rattle.text_base.specs.declared.numbers.Nt as nt
use Rattle.cfg_grammar.specs.declared.production.Right.{Right}
use Rattle.cfg_grammar.specs.declared.production.Right.TheVariants.{Empty, One, Two}
use Rattle.cfg_grammar.specs.declared.production.Production.{Production}
use Rattle.derivations.specs.declared.node.Parts.{Parts}
use Rattle.derivations.specs.declared.node.Node.{Node}
use Rattle.derivations.specs.Nodes.{parts_length}
use Rattle.useful_nonterminals.specs.Useful.{IsUseful}
use Rattle.summary_decision.specs.Closed.{Pair}
use Rattle.short_sentences.specs.declared.table.Table.{Table}
use Rattle.short_sentences.specs.declared.taken.Taken.{Taken}
use Rattle.short_sentences.specs.Closed.{HasSum}
use Rattle.short_sentences.specs.Tables.{IsReached, Makes, GoesOn}

module _ {S : Type 0} (sum_of : List PageToken → S) (composed : S → S → S) where
  -- what the letters on the right make is found
  abbrev pub IsBegun : (Pair S → ℕ → Type 0) → ℕ → Right → Type 0
  IsBegun Found left Empty = Found (left, sum_of []) 0
  IsBegun Found left (One a) = (s : S) (l : ℕ) → HasSum sum_of composed [] [] 0 a s l → Found (left, s) l
  IsBegun Found left (Two a b) = (s t : S) (l m : ℕ) → HasSum sum_of composed [] [] 0 a s l → HasSum sum_of composed [] [] 0 b t m
      → Found (left, composed s t) (l + m)

  -- the parts derive what stands on the right, with the sum, and no other sum is made of letters there
  pub record AreMadeOf (whole : S → Bool) (productions : List Production) (start : nt.Nt) (r : Right) (made : Parts × S) : Type 0 where
    pub makes : (nodes : List Node) → Makes sum_of composed whole productions start nodes r made.0 made.1
    pub alone : (t : Table S) (nodes : List Node) (left : ℕ) → IsReached t (left, made.1) (parts_length nodes made.0)
        → IsBegun (IsReached t) left r

  -- such parts with their sum; none where letters on the right make no sum
  abbrev pub IsMadeOf : (S → Bool) → List Production → nt.Nt → Right → Option (Parts × S) → Type 0
  IsMadeOf whole productions start r None = (t : Table S) (left : ℕ) → IsBegun (IsReached t) left r
  IsMadeOf whole productions start r (Some made) = AreMadeOf whole productions start r made

  -- of the productions at some places with useful left sides
  pub record Begins (whole : S → Bool) (productions : List Production) (start : nt.Nt) (count : ℕ) (taken : Taken) (old new : Table S)
      (Asked : ℕ → Type 0) : Type 0 where
    pub goes : GoesOn sum_of composed whole productions start count taken old new
    pub begun : (place : ℕ) (p : Production) → Asked place → slice_get productions place ≡ Some p → IsUseful productions start p.left
        → IsBegun (IsReached new) p.left.0 p.right
