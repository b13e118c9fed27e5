use Rattle.function_rules.proofs.TableLemmas.{take_more, yielded_more}
use Rattle.function_rules.proofs.stubs.take_stubs.Goals as goal

pub loop-function-preserved : goal.loop-function-preserved
loop-function-preserved c =
    let at = c.loop-function in (
      yielded_more c.args.functions.items at.yielded c.in-Some.function _ _ at.invariant.0 c.in-Some.ensures.steps.0,
      λ own table. take_more own at.yielded at.stubs.items c.take.new.stubs.items c.in-Some.function (at.invariant.1 own table) (c.in_ok-take.ensures own table),
    )
