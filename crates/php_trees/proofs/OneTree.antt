-- Tokens are read as one tree at most.
use Rattle.std.proofs.Common.{◌≡◌}
use Rattle.lr_tables.proofs.Making.{have_one_value}
use Rattle.lr_tables.proofs.Complete.{tables_of}
use Rattle.php_syntax.specs.Trees.{PlainFile}
use Rattle.php_grammar.specs.Certificate.{certificate}
use Rattle.php_grammar.specs.Php.{php}
use Rattle.php_grammar.proofs.AreGood.{are_good}
use Rattle.php_trees.specs.Values.{file}
use Rattle.php_trees.specs.Reads.{language, parts, HaveOneTree}

same_file : {f g : PlainFile} → file f ≡ file g → f ≡ g
same_file e = cc

pub one_tree : HaveOneTree
one_tree tokens one other a b = same_file (have_one_value php certificate (tables_of php certificate are_good) language (parts tokens) (file one) (file other) a.derived b.derived)
