use Rattle.expr_laws.proofs.TreeForms.{expr_made}
use Rattle.expr_laws.proofs.tree_laws.actions_make_trees.Goals as goal

pub returns : goal.returns
returns c = λ e acts vs. (expr_made e acts vs).is
