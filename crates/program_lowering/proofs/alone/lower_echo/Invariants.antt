use Rattle.std.proofs.Common.{drop}
use Rattle.php_syntax.specs.Trees.{exprs_of}
use Rattle.flow_code.specs.Statements.{echo_block}
use Rattle.flow_lowering.specs.View.{progress}
use Rattle.flow_lowering.specs.Emits.{Progress}
use Rattle.flow_lowering.specs.ScopeView.{scope_in}
use Rattle.flow_lowering.specs.Blocks.{Lays}
use Rattle.program_lowering.proofs.alone.lower_echo.Given as goal

-- what is put for the rest is put for all
abbrev pub invariant-loop-expr : goal.invariant-loop-expr
invariant-loop-expr l = (s : Progress) → Lays (progress l.points) s (echo_block (scope_in l.scope) (exprs_of (drop l.expr-index l.exprs)))
    → Lays (progress l.initial.points) s (echo_block (scope_in l.scope) (exprs_of l.exprs))
