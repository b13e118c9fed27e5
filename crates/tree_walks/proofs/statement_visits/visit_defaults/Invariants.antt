use Rattle.std.proofs.Common.{◌≡◌, drop}
use Rattle.std.specs.List.{fold}
use Rattle.php_syntax.specs.Trees.{params_of_list}
use Rattle.program_expressions.specs.Collected.{itself, defaults_collected}
use Rattle.tree_walks.proofs.statement_visits.visit_defaults.Given as goal

-- what is left to visit from here, and all from where the loop began
abbrev pub invariant-loop-param : goal.invariant-loop-param
invariant-loop-param g l = fold g.V.Visitor.next (g.V.Visitor.state l.visitor) (defaults_collected itself (params_of_list (drop l.param-index l.params))) ≡ fold g.V.Visitor.next (g.V.Visitor.state l.initial.visitor) (defaults_collected itself (params_of_list l.params))
