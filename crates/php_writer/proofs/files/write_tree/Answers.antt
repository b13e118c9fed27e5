use Rattle.php_syntax.specs.Trees.{plain_file}
use Rattle.php_writer.proofs.FileLemmas.{written_spells}
use Rattle.php_writer.proofs.files.write_tree.Goals as goal

pub returns-clause-spells : goal.returns-clause-spells
returns-clause-spells c = written_spells (plain_file c.args.tree.now) c.file_bytes.result c.file_bytes.ensures

pub returns-clause-exact : goal.returns-clause-exact
returns-clause-exact c = c.file_bytes.ensures
