use Rattle.std.proofs.Common.{◌+◌, ℕ, nat_lt, ◌∙◌, ap}
use Rattle.std.specs.Char.{is_ascii_digit}
use Rattle.std.specs.List.{prefix_len}
use Rattle.plain_values.specs.Intval.{behind_dot, behind_digits}
use Rattle.php_builtins.proofs.IntvalLemmas.{sum_length}
use Rattle.php_builtins.proofs.intval.has_digit.Goals as goal

pub returns : goal.returns
returns c =
    let fraction = c.behind_dot-fraction.ensures ∙ ap behind_dot c.behind_digits.ensures in
    ap (λ (n : ℕ). nat_lt 0 (n + c.digits_at-part.result)) c.digits_at-whole.ensures.count
    ∙ ap (λ (n : ℕ). nat_lt 0 (prefix_len is_ascii_digit c.args.unsigned.now + n)) (c.digits_at-part.ensures.count ∙ ap (prefix_len is_ascii_digit) fraction)
    ∙ ap (nat_lt 0) (sum_length c.args.unsigned.now (behind_dot (behind_digits c.args.unsigned.now)))
