use Rattle.std.proofs.Common.{◌≡◌, ◌<◌, false, length, arith}
use Rattle.program_rules.specs.Rules.{serves_call}
use Rattle.tree_walks.specs.Seen.{plain_call, calls_seen}
use Rattle.function_rules.specs.Causes.{is_misused}
use Rattle.function_rules.proofs.CallLemmas.{stops, first_named, not_known}
use Rattle.function_rules.proofs.calls.check_arguments.Goals as goal

pub returns-then-not-serves-clause-err : goal.returns-then-not-serves-clause-err
returns-then-not-serves-clause-err c functions table =
    let call = c.call-item.result in
    let fails : false ≡ serves_call functions (plain_call call) = (let h = c.if-not-serves.true in let k = c.serves.ensures functions table in cc) in
    let lt : c.loop-call.call-index < length c.args.calls.now = (let h = c.loop-call-test.true in omega arith) in
    first_named (is_misused functions) (calls_seen c.args.calls.now) call c.in_ok-name.name
    (stops (is_misused functions) c.args.calls.now c.loop-call.call-index call (calls_seen c.args.calls.now) lt c.call-item.is (not_known (serves_call functions (plain_call call)) fails) (c.loop-call.invariant functions table)) c.in_ok-name.ensures
