-- Taking up a pair.
use Rattle.std.specs.Prelude.{◌≡◌, ◌+◌, ◌≤◌, ℕ, Bool, List, length}
use Rattle.text_base.specs.declared.page_token.PageToken.{PageToken}
use Rattle.text_base.specs.declared.numbers.Nt as nt
use Rattle.cfg_grammar.specs.declared.production.Production.{Production}
use Rattle.summary_decision.specs.declared.table.Table.{Table}
use Rattle.summary_decision.specs.declared.table.Taken.{Taken}
use Rattle.summary_decision.specs.Closed.{IsClosed}
use Rattle.summary_decision.specs.Tables.{known, IsTable, GoesOn}
use Rattle.summary_decision.specs.Joints.{taken_count, AreTaken}

module _ {S : Type 0} (sum_of : List PageToken → S) (composed : S → S → S) (whole : S → Bool) (productions : List Production)
    (start : nt.Nt) where
  -- the first pairs are taken up
  pub record AreUp (count : ℕ) (t : Table S) (taken : Taken) : Type 0 where
    pub table : IsTable sum_of composed whole productions start count t
    pub chains : AreTaken (known t) taken
    pub spread : length taken.chains.last.items ≡ count
    pub within : taken_count taken ≤ t.bound
    pub closed : IsClosed sum_of composed productions start (known t) (taken_count taken)

  -- one more is taken up
  pub record Takes (count : ℕ) (old new : Table S) (before after : Taken) : Type 0 where
    pub goes : GoesOn sum_of composed whole productions start count old new
    pub up : AreUp count new after
    pub one : taken_count after ≡ taken_count before + 1
