use Rattle.std.proofs.Common.{◌≡◌, ◌+◌, ℕ, length, take, sym, ◌∙◌, ap}
use Rattle.std.specs.Char.{is_ascii_digit}
use Rattle.std.specs.List.{prefix_len}
use Rattle.std.specs.Str.Parse.{without_leading_sign}
use Rattle.plain_values.specs.Numeric.{numeric}
use Rattle.plain_values.specs.Intval.{leading_sign}
use Rattle.php_builtins.specs.Front.{outcome}
use Rattle.php_builtins.proofs.IntvalLemmas.{front_is, front_number, no_digit}
use Rattle.php_builtins.proofs.intval.number_in_front.Goals as goal

pub returns-then-digits-eq0 : goal.returns-then-digits-eq0
returns-then-digits-eq0 c =
    let count : c.digits_at-digits.result ≡ prefix_len is_ascii_digit (without_leading_sign c.args.body.now) = c.digits_at-digits.ensures.count ∙ ap (prefix_len is_ascii_digit) c.without_sign.ensures in
    no_digit c.args.body.now (sym count ∙ c.if-digits-eq0.true)

pub returns : goal.returns
returns c =
    let count : c.digits_at-digits.result ≡ prefix_len is_ascii_digit (without_leading_sign c.args.body.now) = c.digits_at-digits.ensures.count ∙ ap (prefix_len is_ascii_digit) c.without_sign.ensures in
    c.outcome.ensures
    ∙ ap outcome
    (c.numeric_of.ensures
    ∙ ap numeric
    (c.front-text.ensures
    ∙ ap (λ (n : ℕ). take (n + c.digits_at-digits.result) c.args.body.now) c.sign_length.ensures.value
    ∙ ap (λ (n : ℕ). take (length (leading_sign c.args.body.now) + n) c.args.body.now) count
    ∙ front_is c.args.body.now))
    ∙ front_number c.args.body.now (λ z. c.if-digits-eq0.false (count ∙ z))
