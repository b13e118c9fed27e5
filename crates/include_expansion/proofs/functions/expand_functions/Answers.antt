use Rattle.php_syntax.specs.Trees.{plain_file, functions_of_list}
use Rattle.program_files.specs.View.{files_of}
use Rattle.program_rules.specs.Bodies.{with_body}
use Rattle.include_expansion.specs.Within.{bodies_within}
use Rattle.include_expansion.proofs.FileLemmas.{files_step}
use Rattle.include_expansion.proofs.functions.expand_functions.Goals as goal

pub loop-place-preserved : goal.loop-place-preserved
loop-place-preserved c =
    files_step (with_body (bodies_within (files_of c.args.files.now) c.args.nesting)) (files_of c.args.files.now) c.loop-place.place (plain_file c.in-Some.tree.now) (functions_of_list c.loop-place.copies.items) (functions_of_list c.expand_all.new.copies.items) _
    c.in-Some.ensures (rw c.as_slice.ensures.value at c.in_ok-expand_all-in-Some.ensures) c.loop-place.invariant
