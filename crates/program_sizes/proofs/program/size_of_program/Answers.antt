use Rattle.std.proofs.Common.{◌∙◌, ap, sym}
use Rattle.php_syntax.specs.Trees.{stmts_of, functions_of_list}
use Rattle.program_rules.specs.Programs.{functions_in}
use Rattle.program_files.specs.View.{files_of}
use Rattle.program_sizes.specs.Sizes as sizes
use Rattle.program_sizes.proofs.BodyLemmas.{functions_append}
use Rattle.program_sizes.proofs.program.size_of_program.Goals as goal

pub returns : goal.returns
returns c =
    let files = files_of c.args.files.now in
    let table = sizes.size_at files c.args.table.now in
    let body = sizes.of_stmts table (stmts_of c.args.main.now.body.items) in
    let own = sizes.of_functions table (functions_in files) in
    let stubs = sizes.of_functions table (functions_of_list c.args.stubs.now) in
    let functions = c.beside-functions.ensures own stubs c.size_of_all-own.ensures c.size_of_functions.ensures in
    c.above.ensures (sizes.beside body (sizes.beside own stubs)) (c.beside.ensures body (sizes.beside own stubs) (rw c.as_slice.ensures.value at c.size_of_stmts-body.ensures) functions)
    ∙ ap (λ f. sizes.capped (sizes.above (sizes.beside body f))) (sym (functions_append table (functions_in files) (functions_of_list c.args.stubs.now)))
