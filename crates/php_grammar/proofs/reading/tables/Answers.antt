use Rattle.std.proofs.Common.{refl}
use Rattle.php_grammar.specs.Php.{php}
use Rattle.php_grammar.proofs.reading.tables.Goals as goal

pub returns : goal.returns
unfolding php
returns c = refl
