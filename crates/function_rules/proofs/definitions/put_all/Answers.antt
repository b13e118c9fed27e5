use Rattle.std.proofs.Common.{◌≡◌, ◌<◌, ◌+◌, ◌++◌, List, Err, IfErr, drop, length, sym, subst, rules, arith}
use Rattle.php_syntax.specs.Trees.{PlainFunction, functions_of_list}
use Rattle.program_files.specs.declared.refusal.LoadRefusal.{LoadRefusal}
use Rattle.function_rules.specs.Causes.{IsDoubleCause}
use Rattle.function_rules.specs.Table.{HasPut}
use Rattle.function_rules.proofs.TableLemmas.{left_step}
use Rattle.function_rules.proofs.definitions.put_all.Goals as goal

pub returns-in_err-put-clause-err : goal.returns-in_err-put-clause-err
returns-in_err-put-clause-err c =
    let lt : c.loop-function.function-index < length c.args.functions.now = (let h = c.loop-function-test.true in omega arith) in
    let is : c.from_residual.result ≡ Err c.in_err-put.field-0.0 = search rules in
    let So : LoadRefusal → Type 0 = λ refusal. (rest all : List PlainFunction) → HasPut c.args.table.now.rows (functions_of_list c.args.functions.now ++ rest) all → IsDoubleCause all refusal in
    subst (λ r. IfErr r So) (sym is)
    (λ rest all has. c.in_err-put.ensures.err (functions_of_list (drop (c.loop-function.function-index + 1) c.args.functions.now) ++ rest) all
    (left_step c.loop-function.table.rows c.args.functions.now c.loop-function.function-index c.function-item.result rest all lt c.function-item.is (c.loop-function.invariant rest all has)))
