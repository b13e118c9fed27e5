use Rattle.std.proofs.Common.{ℕ, drop, ◌∙◌, ap}
use Rattle.php_builtins.proofs.IntvalLemmas.{digits_behind}
use Rattle.php_builtins.proofs.intval.behind_digits.Goals as goal

pub returns : goal.returns
returns c = c.behind.ensures ∙ ap (λ (n : ℕ). drop n c.args.text.now) c.digits_at.ensures.count ∙ digits_behind c.args.text.now
