use Rattle.std.proofs.Common.{◌∙◌, ◌++◌, List, [], ◌∷◌, map, ap, arith}
use Rattle.php_syntax.specs.Trees.{functions_of_list}
use Rattle.flow_code.specs.Flat.{flat_function, flat_functions}
use Rattle.flow_code.specs.View.{plain_flow_function}
use Rattle.flow_code.specs.declared.program.FlowFunction.{FlowFunction}
use Rattle.program_lowering.specs.Bodies.{function_with}
use Rattle.program_lowering.proofs.FunctionLemmas.{row_further, functions_further, functions_end}
use Rattle.program_lowering.proofs.functions.lower_functions.Goals as goal

pub loop-function-init : goal.loop-function-init
loop-function-init c =
    let table = functions_of_list c.args.functions.now in
    let main = function_with [] [] c.args.main.now in
    let first = c.in_ok-first.ensures [] in (
      row_further 0 0 table c.new-made.result.items c.push.new.self.items c.in_ok-first.first main table first (omega (arith, c.in_ok-point.ensures.is, c.len.ensures, c.in_ok-first.first.points.ok.0)) c.in_ok-slot.ensures.is c.in_ok-push.ensures.items
          (ap (λ (l : List FlowFunction). map plain_flow_function l ++ flat_functions table (main ∷ table) 0 0) c.new-made.ensures.items),
      (c.in_ok-point.ensures.within, c.in_ok-slot.ensures.within),
    )

pub loop-function-preserved : goal.loop-function-preserved
loop-function-preserved c =
    let table = functions_of_list c.args.functions.now in
    let f = c.function-item.result in
    let next = c.in_ok-next.ensures f.name
    ∙ (λ i. flat_function table (function_with f.name (c.as_slice-params.ensures.value i) (c.as_slice-body.ensures.value i)) c.loop-function.point c.loop-function.slot) in (
      functions_further c.loop-function.point c.loop-function.slot table c.args.functions.now c.loop-function.made.items c.push-in-loop-function.new.self.items c.in_ok-next.next c.loop-function.function-index f
          c.loop-function-test.true c.function-item.is next (omega (arith, c.in_ok-point-2.ensures.is, c.len-in-loop-function.ensures, c.in_ok-next.next.points.ok.0)) c.in_ok-slot-2.ensures.is c.in_ok-push-2.ensures.items c.loop-function.invariant.0,
      (c.in_ok-point-2.ensures.within, c.in_ok-slot-2.ensures.within),
    )

pub returns : goal.returns
returns c = functions_end c.loop-function.point c.loop-function.slot (functions_of_list c.args.functions.now) c.args.functions.now c.loop-function.made.items c.loop-function.function-index c.loop-function-test.false c.loop-function.invariant.0
