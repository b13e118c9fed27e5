use Rattle.std.proofs.Common.{◌≡◌, ◌<◌, ◌*◌, List, ℕ, inr, true, Ok, length, sym, ◌∙◌, subst, arith}
use Rattle.std.specs.Prelude.{IfOk}
use Rattle.std.proofs.lemmas.Bool.{ltb-true}
use Rattle.plain_values.specs.Plain.{text}
use Rattle.plain_values.specs.Members.{within_length}
use Rattle.string_functions.specs.Copies.{copies_of}
use Rattle.string_functions.proofs.BytewiseLaws.{length-copies_of}
use Rattle.value_operations.proofs.JoinLemmas.{too_long}
use Rattle.php_builtins.proofs.CopiesLemmas.{copies_of_empty}
use Rattle.php_builtins.proofs.copying.repeat_known.Goals as goal

pub returns-then-is_empty-clause-ok : goal.returns-then-is_empty-clause-ok
returns-then-is_empty-clause-ok c =
    subst (λ (bs : List ℕ). IfOk c.new.result (λ t. within_length bs ≡ Ok (text t))) (sym (copies_of_empty c.args.count c.args.text.now (sym c.is_empty.ensures ∙ c.if-is_empty.true))) c.new.ensures.ok

pub returns-then-is_too_long-clause-err : goal.returns-then-is_too_long-clause-err
returns-then-is_too_long-clause-err c =
    let long : 16777216 < c.args.count * length c.args.text.now = ltb-true 16777216 (c.args.count * length c.args.text.now) (sym c.is_too_long.ensures ∙ c.if-is_too_long.true) in
    let count = length-copies_of c.args.count c.args.text.now in
    inr (too_long (copies_of c.args.count c.args.text.now) (omega (arith, long, count)))
