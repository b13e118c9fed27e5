use Rattle.std.proofs.Common.{◌≡◌, true, ◌+◌, ◌*◌, max, drop, List}
use Rattle.php_syntax.specs.Trees.{plain_stmt, stmts_of, arms_of}
use Rattle.php_syntax.specs.Height.{stmt_height, stmts_height, arms_height}
use Rattle.flow_code.specs.Statements.{block, arms_block}
use Rattle.flow_lowering.specs.View.{progress}
use Rattle.flow_lowering.specs.Emits.{Progress}
use Rattle.flow_lowering.specs.ScopeView.{scope_in}
use Rattle.flow_lowering.specs.declared.exits.Exit.{Exit}
use Rattle.flow_lowering.specs.Blocks.{Drafts}
use Rattle.program_lowering.specs.Arms.{led}
use Rattle.program_lowering.proofs.RowBlocks.{SoFar, ArmsSoFar}
use Rattle.program_lowering.proofs.statements.+statements.Given as goal

abbrev pub decreases-lower_stmt : goal.decreases-lower_stmt
decreases-lower_stmt l = 8 * stmt_height (plain_stmt l.stmt.now)

abbrev pub decreases-lower_stmts : goal.decreases-lower_stmts
decreases-lower_stmts l = 8 * stmts_height (stmts_of l.stmts.now) + 1

abbrev pub decreases-lower_arm : goal.decreases-lower_arm
decreases-lower_arm l = 8 * stmts_height (stmts_of l.body.now) + 2

abbrev pub decreases-lower_turns : goal.decreases-lower_turns
decreases-lower_turns l = 8 * stmts_height (stmts_of l.body.now) + 2

abbrev pub decreases-lower_while : goal.decreases-lower_while
decreases-lower_while l = 8 * stmts_height (stmts_of l.body.now) + 3

abbrev pub decreases-lower_for : goal.decreases-lower_for
decreases-lower_for l = 8 * stmts_height (stmts_of l.body.now) + 3

abbrev pub decreases-lower_do : goal.decreases-lower_do
decreases-lower_do l = 8 * stmts_height (stmts_of l.body.now) + 2

abbrev pub decreases-lower_each : goal.decreases-lower_each
decreases-lower_each l = 8 * stmts_height (stmts_of l.body.now) + 2

abbrev pub decreases-lower_if : goal.decreases-lower_if
decreases-lower_if l = 8 * max (arms_height (arms_of l.arms.now)) (stmts_height (stmts_of l.otherwise.now)) + 3

-- what is put for the rest is put for all, and a run may go on behind all so far
abbrev pub invariant-lower_stmts-loop-stmt : goal.invariant-lower_stmts-loop-stmt
invariant-lower_stmts-loop-stmt l = record {
  on : l.ways.completes ≡ true;
  ways : SoFar l.ways.jumps_out l.stmts l.stmt-index;
  points : (s : Progress) (last : List Exit) → Drafts (progress l.points) s l.exits.items last (block (scope_in l.scope) (stmts_of (drop l.stmt-index l.stmts)))
      → Drafts (progress l.initial.points) s l.initial.exits.items last (block (scope_in l.scope) (stmts_of l.stmts));
}

-- .. once the jumps so far lead to the end
abbrev pub invariant-lower_if-loop-arm : goal.invariant-lower_if-loop-arm
invariant-lower_if-loop-arm l = record {
  ways : ArmsSoFar l.ways.completes l.ways.jumps_out l.arms l.otherwise l.arm-index;
  points : (s : Progress) (last : List Exit)
      → Drafts (progress l.points) s l.exits.items last (arms_block (scope_in l.scope) (arms_of (drop l.arm-index l.arms)) (block (scope_in l.scope) (stmts_of l.otherwise)))
      → Drafts (progress l.initial.points) (led s l.jumps.items) l.initial.exits.items last (arms_block (scope_in l.scope) (arms_of l.arms) (block (scope_in l.scope) (stmts_of l.otherwise)));
}
