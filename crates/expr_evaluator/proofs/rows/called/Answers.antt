use Rattle.std.proofs.Common.{ap, sym, ◌∙◌}
use Rattle.builtin_meaning.specs.Names.{builtin_named}
use Rattle.php_syntax.specs.Trees.{functions_of_list}
use Rattle.script_meaning.specs.Programs.{function_named}
use Rattle.expr_evaluator.proofs.RowMoves.{builtin_finishes, missing_finishes, call_finishes, told_as}
use Rattle.expr_evaluator.proofs.rows.called.Goals as goal

pub returns-in-Some : goal.returns-in-Some
returns-in-Some c = builtin_finishes _ _ _ c.in-Some.builtin _ (ap builtin_named (sym c.as_slice.ensures) ∙ sym c.of.ensures ∙ c.in-Some.is) (told_as c.in-Some.builtin c.deref.result.now c.args.args.items _ c.in_ok-next-in-Some.ensures c.deref.ensures.value)

pub returns-in-None-named : goal.returns-in-None-named
returns-in-None-named c = missing_finishes _ _ _ (ap builtin_named (sym c.as_slice.ensures) ∙ sym c.of.ensures ∙ c.in-None.is) (ap (function_named (functions_of_list c.args.functions.now.all.now)) (sym c.as_slice-in-None.ensures) ∙ c.in-None-named.ensures)

pub returns : goal.returns
returns c = call_finishes _ _ _ _ (ap builtin_named (sym c.as_slice.ensures) ∙ sym c.of.ensures ∙ c.in-None.is) (ap (function_named (functions_of_list c.args.functions.now.all.now)) (sym c.as_slice-in-None.ensures) ∙ c.in-Some-named.ensures)
