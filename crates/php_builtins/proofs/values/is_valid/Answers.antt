use Rattle.php_builtins.proofs.CountLemmas.{decides_utf8}
use Rattle.php_builtins.proofs.values.is_valid.Goals as goal

pub returns : goal.returns
returns c = decides_utf8 c.is_utf8.result c.args.text.now c.is_utf8.ensures
