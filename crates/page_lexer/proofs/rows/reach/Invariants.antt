use Rattle.std.proofs.Common.{ℕ, ◌+◌, ◌-◌, vec_len}
use Rattle.page_lexer.specs.Numbered.{IsKnown, KeepsKnown}
use Rattle.page_lexer.specs.declared.rows.NumberedStep as steps
use Rattle.page_lexer.proofs.rows.reach.Given as goal

abbrev pub invariant-loop-state : goal.invariant-loop-state
invariant-loop-state l = record {
  known : (n b : ℕ) (s : steps.NumberedStep) → IsKnown l.rows.items n b s → IsKnown l.initial.rows.items n b s;
  keeps : KeepsKnown l.initial.rows.items l.rows.items;
}

abbrev pub decreases-loop-state : goal.decreases-loop-state
decreases-loop-state l = (l.fn.state.0 + 1) - vec_len l.rows
