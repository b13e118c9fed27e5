use Rattle.expr_evaluator.proofs.TreeLemmas.{empty_of}
use Rattle.script_runs.proofs.BindLemmas.{default_put, defaults_done}
use Rattle.script_runs.proofs.binding.put_defaults.Goals as goal

pub loop-param-preserved : goal.loop-param-preserved
loop-param-preserved c =
    default_put c.loop-param.made.items c.push.new.self.items c.as_slice.result c.in_ok-value.value c.in-Some.param.now c.loop-param.rest.now c.in-Some.others.now _
    c.in-Some.ensures.cases.0 c.in_ok-push.ensures.items c.as_slice.ensures c.in_ok-value.ensures c.loop-param.invariant

pub returns : goal.returns
returns c = defaults_done c.loop-param.made.items c.loop-param.rest.now _ (empty_of _ c.in_default.ensures.cases) c.loop-param.invariant
