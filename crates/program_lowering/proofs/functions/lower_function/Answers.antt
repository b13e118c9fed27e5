use Rattle.std.proofs.Common.{ap, arith}
use Rattle.php_syntax.specs.Trees.{functions_of_list}
use Rattle.flow_lowering.specs.Emits.{Progress}
use Rattle.program_lowering.proofs.FunctionLemmas.{function_is}
use Rattle.program_lowering.proofs.functions.lower_function.Goals as goal

pub returns : goal.returns
returns c = λ name.
    let last = ap (λ (s : Progress). s.slot) c.in_ok-points.ensures in
    let free = c.in_ok-free.ensures.is in
    function_is (functions_of_list c.args.functions.now) name c.args.params.now c.args.body.now c.args.point c.args.slot c.in_ok-names.ensures c.count.ensures.length free c.in_ok-params.ensures c.in_ok-points.ensures
    (omega (arith, last, free)) c.into_points.ensures
