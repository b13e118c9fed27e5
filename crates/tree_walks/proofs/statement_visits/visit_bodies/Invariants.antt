use Rattle.std.proofs.Common.{◌≡◌, drop}
use Rattle.std.specs.List.{fold}
use Rattle.php_syntax.specs.Trees.{functions_of_list}
use Rattle.program_expressions.specs.Collected.{itself, bodies_collected}
use Rattle.tree_walks.proofs.statement_visits.visit_bodies.Given as goal

-- what is left to visit from here, and all from where the loop began
abbrev pub invariant-loop-function : goal.invariant-loop-function
invariant-loop-function g l = fold g.V.Visitor.next (g.V.Visitor.state l.visitor) (bodies_collected itself (functions_of_list (drop l.function-index l.functions))) ≡ fold g.V.Visitor.next (g.V.Visitor.state l.initial.visitor) (bodies_collected itself (functions_of_list l.functions))
