use Rattle.std.proofs.Common.{◌∙◌, refl, sym, arith}
use Rattle.php_syntax.specs.declared.tree.FunctionDef.{FunctionDef}
use Rattle.program_files.specs.Steps.{placed_include}
use Rattle.program_files.proofs.Visits.{no_function_visited, all_functions_visited, next_function_visited, function_replaced, same_size}
use Rattle.program_files.proofs.naming.name_in_functions.Goals as goal

pub loop-place-init : goal.loop-place-init
loop-place-init c = (no_function_visited (placed_include c.args.naming.now.names.now.keys c.args.naming.now.main.now c.args.naming.now.file.now) c.args.functions.now.items, refl)

pub loop-place-preserved : goal.loop-place-preserved
loop-place-preserved c =
    let f = placed_include c.args.naming.now.names.now.keys c.args.naming.now.main.now c.args.naming.now.file.now in
    let x = c.index_mut.result.now in
    let y : FunctionDef = record { name = x.name; params = x.params; body = c.name_in.new.stmts } in
    let i = c.loop-place.invariant in (
      next_function_visited f c.loop-place.place c.loop-place.functions.items x y (omega (arith, c.loop-place-test.true, i.1, c.len-place-end.ensures)) c.index_mut.ensures.value (function_replaced f x c.name_in.new.stmts c.in_ok-name_in.ensures) ∙ i.0,
      same_size c.loop-place.functions.items c.loop-place.place y ∙ i.1,
    )

pub returns : goal.returns
returns c =
    let f = placed_include c.args.naming.now.names.now.keys c.args.naming.now.main.now c.args.naming.now.file.now in
    sym (all_functions_visited f c.loop-place.place c.loop-place.functions.items (omega (arith, c.loop-place-test.false, c.loop-place.invariant.1, c.len-place-end.ensures))) ∙ c.loop-place.invariant.0
