use Rattle.php_trees.proofs.OneTree.{one_tree}
use Rattle.php_trees.proofs.laws.tokens_have_one_tree.Goals as goal

pub returns : goal.returns
returns c = one_tree
