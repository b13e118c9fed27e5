use Rattle.std.proofs.Common.{arith}
use Rattle.php_syntax.specs.Trees.{functions_of_list}
use Rattle.program_files.specs.View.{files_of}
use Rattle.program_sizes.specs.Sizes as sizes
use Rattle.program_sizes.proofs.LoopLemmas.{go_on, finish}
use Rattle.program_sizes.proofs.TableLemmas.{files_left, no_files_left}
use Rattle.program_sizes.proofs.program.size_of_all.Goals as goal

pub loop-place-preserved : goal.loop-place-preserved
loop-place-preserved c =
    go_on c.loop-place.size c.size_of_functions.result c.beside-size.result (sizes.of_functions (sizes.size_at (files_of c.args.files.now) c.args.table.now) (functions_of_list c.as_slice.result.now)) _ _ _ c.loop-place.invariant
    (files_left (sizes.size_at (files_of c.args.files.now) c.args.table.now) (files_of c.args.files.now) c.loop-place.place c.in-Some.tree.now c.as_slice.result.now c.in-Some.ensures c.as_slice.ensures.value) c.size_of_functions.ensures c.beside-size.ensures

pub returns : goal.returns
returns c = finish c.loop-place.size _ _ c.loop-place.invariant (no_files_left (sizes.size_at (files_of c.args.files.now) c.args.table.now) (files_of c.args.files.now) c.loop-place.place (omega arith))
