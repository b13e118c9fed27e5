use Rattle.php_values.specs.View.{plain_of}
use Rattle.php_values.proofs.WriteLemmas.{same_fit}
use Rattle.php_values.proofs.paths.fits_below.Goals as goal

pub returns : goal.returns
returns c = same_fit c.args.path.now (plain_of c.args.value.now) c.depth.result c.depth.ensures.depth c.depth.ensures.small
