use Rattle.expr_evaluator.proofs.TreeLemmas.{empty_of}
use Rattle.script_runs.proofs.BindLemmas.{argument_put, argument_left}
use Rattle.script_runs.proofs.binding.put_argument.Goals as goal

pub returns-in-None : goal.returns-in-None
returns-in-None c = λ args. argument_left c.args.made.now.items c.args.arg c.args.params.now args (empty_of _ c.in-None.ensures.cases)

pub returns-in_ok-push-in-Some : goal.returns-in_ok-push-in-Some
returns-in_ok-push-in-Some c = λ args. argument_put c.args.made.now.items c.push.new.self.items c.as_slice.result c.args.arg c.in-Some.param.now c.args.params.now c.in-Some.others.now args
    c.in-Some.ensures.cases.0 c.in_ok-push-in-Some.ensures.items c.as_slice.ensures
