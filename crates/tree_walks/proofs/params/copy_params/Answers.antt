use Rattle.php_syntax.specs.declared.tree.Param.{Param}
use Rattle.tree_walks.proofs.CopyLemmas.{params_step, params_end, same_param}
use Rattle.tree_walks.proofs.params.copy_params.Goals as goal

pub loop-param-preserved : goal.loop-param-preserved
loop-param-preserved c =
    let copy : Param = record { name = c.in_ok-name.name; default = c.in_ok-default.default } in
    params_step c.args.params.now c.loop-param.copies.items c.push.new.self.items c.loop-param.param-index c.param-item.result copy c.loop-param-test.true c.param-item.is
    (same_param copy c.param-item.result c.in_ok-name.ensures c.in_ok-default.ensures) c.in_ok-push.ensures.items c.loop-param.invariant

pub returns : goal.returns
returns c = params_end c.args.params.now c.loop-param.copies.items c.loop-param.param-index c.loop-param-test.false c.loop-param.invariant
