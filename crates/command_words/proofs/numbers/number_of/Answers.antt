use Rattle.std.proofs.Common.{◌≡◌, ◌≤◌, true, length, rules}
use Rattle.std.specs.List.{list_all}
use Rattle.command_words.specs.Asked as spec
use Rattle.command_words.proofs.Digits.{none_read}
use Rattle.command_words.proofs.numbers.number_of.Goals as goal

pub returns-in-Err : goal.returns-in-Err
returns-in-Err c =
    let few : length c.args.text.now ≤ 8 = search rules in
    let digits : list_all spec.is_digit c.args.text.now ≡ true = search rules in
    none_read c.args.text.now few digits c.in-Err.ensures.value.0
