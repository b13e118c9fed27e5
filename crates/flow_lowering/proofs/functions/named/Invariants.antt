use Rattle.std.proofs.Common.{◌≡◌, ◌+◌, length}
use Rattle.php_syntax.specs.Trees.{functions_of_list}
use Rattle.flow_code.specs.Expressions.{function_in}
use Rattle.flow_lowering.proofs.functions.named.Given as goal

-- no function before those that are left has the name
abbrev pub invariant-loop-first : goal.invariant-loop-first
invariant-loop-first l = record {
  same : function_in 1 (functions_of_list l.functions) l.name ≡ function_in l.number (functions_of_list l.rest) l.name;
  within : l.number + length l.rest ≡ 1 + length l.functions;
}

abbrev pub decreases-loop-first : goal.decreases-loop-first
decreases-loop-first l = length l.rest
