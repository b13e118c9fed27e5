use Rattle.std.proofs.Common.{ap}
use Rattle.php_syntax.specs.Trees.{stmts_of, functions_of_list}
use Rattle.program_lowering.proofs.ShortLemmas.{looked}
use Rattle.program_lowering.proofs.program_literals.look.Goals as goal

pub returns : goal.returns
returns c = looked c.args.texts.now.short c.visit_stmts.new.visitor.short c.visit_functions.new.visitor.short _ _ _ _
    (ap stmts_of c.as_slice.ensures.value) (ap functions_of_list c.as_slice-2.ensures.value) c.in_ok-visit_stmts.ensures c.in_ok-visit_functions.ensures
