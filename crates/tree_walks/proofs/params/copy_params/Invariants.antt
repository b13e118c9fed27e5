use Rattle.std.proofs.Common.{◌≡◌, drop}
use Rattle.php_syntax.specs.Trees.{params_of_list}
use Rattle.tree_walks.proofs.CopyLemmas.{params_then}
use Rattle.tree_walks.proofs.params.copy_params.Given as goal

-- what is copied, before what is left to copy
abbrev pub invariant-loop-param : goal.invariant-loop-param
invariant-loop-param l = params_then l.copies.items (params_of_list (drop l.param-index l.params)) ≡ params_of_list l.params
