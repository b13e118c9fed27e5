use Rattle.std.proofs.Common.{List}
use Rattle.php_syntax.specs.declared.tree.FunctionDef.{FunctionDef}
use Rattle.php_syntax.specs.Trees.{params_of_list, stmts_of, functions_of_list}
use Rattle.program_files.specs.View.{files_of}
use Rattle.program_sizes.specs.Sizes as sizes
use Rattle.program_sizes.proofs.LoopLemmas.{begin_at, go_on, finish, functions_left, no_functions_left}
use Rattle.program_sizes.proofs.statements.size_of_functions.Goals as goal

pub loop-function-init : goal.loop-function-init
loop-function-init c = begin_at (λ (xs : List FunctionDef). sizes.of_functions (sizes.size_at (files_of c.args.files.now) c.args.table.now) (functions_of_list xs)) c.args.functions.now c.none-size.result c.none-size.ensures

pub loop-function-preserved : goal.loop-function-preserved
loop-function-preserved c =
    let params = sizes.of_params (params_of_list c.function-item.result.params.items) in
    let body = sizes.of_stmts (sizes.size_at (files_of c.args.files.now) c.args.table.now) (stmts_of c.function-item.result.body.items) in
    let own = rw c.as_slice.ensures.value at c.size_of_params-params.ensures in
    let inner = rw c.as_slice-in-loop-function.ensures.value at c.size_of_stmts-body.ensures in
    go_on c.loop-function.size c.above.result c.beside-size.result (sizes.above (sizes.beside params body)) _ _ _ c.loop-function.invariant
    (functions_left (sizes.size_at (files_of c.args.files.now) c.args.table.now) c.args.functions.now c.loop-function.function-index c.function-item.result c.loop-function-test.true c.function-item.is)
    (c.above.ensures (sizes.beside params body) (c.beside.ensures params body own inner)) c.beside-size.ensures

pub returns : goal.returns
returns c = finish c.loop-function.size _ _ c.loop-function.invariant (no_functions_left (sizes.size_at (files_of c.args.files.now) c.args.table.now) c.args.functions.now c.loop-function.function-index c.loop-function-test.false)
