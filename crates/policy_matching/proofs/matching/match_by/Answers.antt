use Rattle.std.proofs.Common.{arith}
use Rattle.policy_matching.proofs.AnswerLemmas.{echoing, some_miss, none_missed, large_items}
use Rattle.policy_matching.proofs.matching.match_by.Goals as goal

pub find_wrong-requires : goal.find_wrong-requires
find_wrong-requires c = echoing c.args.outside.rows.items

pub returns-in-Ok-Some : goal.returns-in-Ok-Some
returns-in-Ok-Some c e is =
    some_miss c.args.outside.rows.items e is c.args.grammar.now c.texts_fit.ensures c.in-Ok-Some.field-0 c.in-Ok-Some.derivation c.in-Ok-Some.field-0-is
    c.in-Ok-Some.ensures.found

pub returns-in-Ok-None : goal.returns-in-Ok-None
returns-in-Ok-None c e is =
    none_missed c.args.outside.rows.items e is c.args.grammar.now c.texts_fit.ensures c.in-Ok-None.field-0 c.in-Ok-None.field-0-is _ 2 (omega arith)
    c.in-Ok-None.ensures.none

pub returns-in-Err-Large : goal.returns-in-Err-Large
returns-in-Err-Large c e is =
    large_items c.args.outside.rows.items e is c.args.grammar.now c.texts_fit.ensures c.in-Err-Large.field-0 c.args.items c.in-Err-Large.items c.in-Err-Large.field-0-is
    c.in-Err-Large.ensures.cause
