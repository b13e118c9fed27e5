use Rattle.std.proofs.Common.{List}
use Rattle.php_syntax.specs.declared.tree.Param.{Param}
use Rattle.php_syntax.specs.Trees.{maybe_of, params_of_list}
use Rattle.program_sizes.specs.Sizes as sizes
use Rattle.program_sizes.proofs.LoopLemmas.{begin_at, go_on, finish, params_left, no_params_left}
use Rattle.program_sizes.proofs.statements.size_of_params.Goals as goal

pub loop-param-init : goal.loop-param-init
loop-param-init c = begin_at (λ (xs : List Param). sizes.of_params (params_of_list xs)) c.args.params.now c.none-size.result c.none-size.ensures

pub loop-param-preserved : goal.loop-param-preserved
loop-param-preserved c =
    go_on c.loop-param.size c.size_over_maybe.result c.beside-size.result (sizes.above (sizes.of_maybe (maybe_of c.param-item.result.default))) _ _ _ c.loop-param.invariant
    (params_left c.args.params.now c.loop-param.param-index c.param-item.result c.loop-param-test.true c.param-item.is) c.size_over_maybe.ensures c.beside-size.ensures

pub returns : goal.returns
returns c = finish c.loop-param.size _ _ c.loop-param.invariant (no_params_left c.args.params.now c.loop-param.param-index c.loop-param-test.false)
