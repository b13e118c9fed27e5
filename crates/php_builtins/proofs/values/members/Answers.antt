use Rattle.std.proofs.Common.{length, sym, ◌∙◌, ap}
use Rattle.plain_values.specs.Plain.{Pairs, keys}
use Rattle.php_values.proofs.Places.{length-keys}
use Rattle.php_builtins.proofs.values.members.Goals as goal

pub returns : goal.returns
returns c = sym (length-keys c.pairs.result.now) ∙ ap (λ (ps : Pairs). length (keys ps)) c.pairs.ensures.pairs
