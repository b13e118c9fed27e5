use Rattle.php_parser.proofs.Spelled.{only_one_tree}
use Rattle.php_parser.proofs.laws.one_tree.Goals as goal

pub returns : goal.returns
returns c = only_one_tree c.files_are_read.ensures c.actions_make_files.ensures
