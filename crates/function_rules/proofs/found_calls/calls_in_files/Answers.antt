use Rattle.std.proofs.Common.{◌≡◌, ◌∙◌, ◌++◌, List, ap, arith}
use Rattle.php_syntax.specs.declared.tree.Stmt.{Stmt}
use Rattle.php_syntax.specs.declared.tree.FunctionDef.{FunctionDef}
use Rattle.php_syntax.specs.Trees.{stmts_of, functions_of_list}
use Rattle.program_rules.specs.Calls.{statement_calls, function_calls}
use Rattle.program_files.specs.View.{files_of}
use Rattle.tree_walks.specs.Seen.{calls_seen}
use Rattle.function_rules.proofs.ArgumentLemmas.{calls_step, calls_end}
use Rattle.function_rules.proofs.found_calls.calls_in_files.Goals as goal

pub loop-place-preserved : goal.loop-place-preserved
loop-place-preserved c =
    let old = calls_seen c.loop-place.calls.items in
    let tree = c.in-Some.tree.now in
    let pushed : calls_seen c.find_calls.new.found.items ≡ old ++ (statement_calls (stmts_of tree.body.items) ++ function_calls (functions_of_list tree.functions.items)) =
    c.in_ok-find_calls-in-Some.ensures ∙ ap (λ (ss : List Stmt). old ++ (statement_calls (stmts_of ss) ++ function_calls (functions_of_list c.as_slice-in-Some.result.now))) c.as_slice.ensures.value
    ∙ ap (λ (fs : List FunctionDef). old ++ (statement_calls (stmts_of tree.body.items) ++ function_calls (functions_of_list fs))) c.as_slice-in-Some.ensures.value in
    calls_step (files_of c.args.files.now) c.loop-place.place tree old (calls_seen c.find_calls.new.found.items) _ c.in-Some.ensures pushed c.loop-place.invariant

pub returns : goal.returns
returns c = calls_end (files_of c.args.files.now) c.loop-place.place (calls_seen c.loop-place.calls.items) _ (omega arith) c.loop-place.invariant
