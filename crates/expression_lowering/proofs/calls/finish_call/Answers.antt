use Rattle.std.proofs.Common.{◌∙◌, ap}
use Rattle.builtin_meaning.specs.Names.{builtin_named}
use Rattle.flow_code.specs.View.{plain_source}
use Rattle.flow_code.specs.Expressions.{function_in}
use Rattle.flow_lowering.specs.ScopeView.{scope_in}
use Rattle.expression_lowering.proofs.CallLemmas.{call_none, call_some}
use Rattle.expression_lowering.proofs.calls.finish_call.Goals as goal

pub returns-in_ok-slot-in-Some : goal.returns-in_ok-slot-in-Some
returns-in_ok-slot-in-Some c =
    call_some (builtin_named c.args.name.now) c.in-Some.builtin (function_in 1 (scope_in c.args.scope.now).functions c.args.name.now) c.args.arguments.now (plain_source c.in_ok-source-in-Some.source)
    (c.in-Some.ensures ∙ ap builtin_named c.as_slice.ensures) c.in_ok-source-in-Some.ensures c.in_ok-slot-in-Some.ensures

pub returns-in_ok-slot-in-None : goal.returns-in_ok-slot-in-None
returns-in_ok-slot-in-None c start args e =
    call_none (builtin_named c.args.name.now) (function_in 1 (scope_in c.args.scope.now).functions c.args.name.now) c.args.arguments.now args
    (c.in-None.ensures ∙ ap builtin_named c.as_slice.ensures) (c.in_ok-slot-in-None.ensures start args e)
