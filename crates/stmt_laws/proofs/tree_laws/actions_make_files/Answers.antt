use Rattle.stmt_laws.proofs.TreeFiles.{files_made}
use Rattle.stmt_laws.proofs.tree_laws.actions_make_files.Goals as goal

pub returns : goal.returns
returns c = files_made c.actions_make_trees.ensures
