use Rattle.php_syntax.specs.Trees.{plain_file}
use Rattle.php_writer.proofs.FileLemmas.{well_formed_is}
use Rattle.php_writer.proofs.file_tests.well_formed.Goals as goal

pub returns : goal.returns
returns c = well_formed_is (plain_file c.args.tree.now) c.is_good_file.result c.is_good_file.ensures
