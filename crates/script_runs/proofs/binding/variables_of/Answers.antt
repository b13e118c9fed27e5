use Rattle.std.proofs.Common.{arith, ◌≡◌, [], sym, ap, ◌∙◌, ◌++◌}
use Rattle.std.specs.Vec.Iter.{into_iter_items}
use Rattle.php_syntax.specs.Trees.{params_of_list}
use Rattle.php_values.specs.View.{plain_list}
use Rattle.script_meaning.specs.Programs.{arguments_of}
use Rattle.expr_evaluator.specs.VariablesView.{plain_variables}
use Rattle.script_runs.proofs.BindLemmas.{arguments_done, no_items}
use Rattle.script_runs.proofs.binding.variables_of.Goals as goal

pub loop-arg-init : goal.loop-arg-init
loop-arg-init c = rw c.new-made.ensures.items (ap (λ vs. arguments_of (params_of_list c.args.params.now) (plain_list vs)) c.into_iter-arg-iterator.ensures.into_iter_gives.0)

pub loop-arg-preserved : goal.loop-arg-preserved
loop-arg-preserved c =
    c.in_ok-rest.ensures (into_iter_items c.next.new.self)
    ∙ ap (λ vs. plain_variables c.loop-arg.made.items ++ arguments_of (params_of_list c.loop-arg.rest.now) (plain_list vs)) (sym c.in-Some.ensures.steps.0) ∙ c.loop-arg.invariant

pub returns : goal.returns
returns c =
    let v = c.loop-arg.arg-iterator.rest in
    let none : into_iter_items c.loop-arg.arg-iterator ≡ [] = no_items v.items (grind (arith, v.ok, c.in-None.ensures.steps.0)) in
    c.of.ensures ∙ arguments_done c.loop-arg.made.items c.put_defaults.new.made.items c.loop-arg.rest.now _ _ none c.in_ok-put_defaults.ensures c.loop-arg.invariant
