use Rattle.std.proofs.Common.{◌≡◌, ◌∙◌, List, [], Err, ap, rules}
use Rattle.tree_walks.specs.declared.call.Call.{Call}
use Rattle.tree_walks.specs.Seen.{calls_seen}
use Rattle.php_syntax.specs.Trees.{functions_of_list}
use Rattle.program_rules.specs.Programs.{functions_in}
use Rattle.program_files.specs.View.{files_of}
use Rattle.program_sizes.specs.FileRules.{all_functions, all_calls}
use Rattle.function_rules.proofs.TableLemmas.{table_of_all, once_all, put_behind}
use Rattle.function_rules.proofs.CallLemmas.{all_known, all_served, unknown_so, arity_so, double_so, handed_on}
use Rattle.function_rules.proofs.rules.check_rules.Goals as goal

pub returns-in_err-put_all-clause-err : goal.returns-in_err-put_all-clause-err
returns-in_err-put_all-clause-err c =
    let files = files_of c.args.files.now in
    let stubs = functions_of_list c.args.stubs.now in
    let is : c.from_residual.result ≡ Err c.in_err-put_all.field-0.0 = search rules in
    handed_on files stubs _ _ is (double_so files stubs _ (c.in_err-put_all.ensures.err [] (all_functions files stubs) (put_behind c.args.table.now.rows (functions_in files) stubs c.requires)))

pub returns-in_err-check_known-clause-err : goal.returns-in_err-check_known-clause-err
returns-in_err-check_known-clause-err c =
    let files = files_of c.args.files.now in
    let stubs = functions_of_list c.args.stubs.now in
    let all = all_functions files stubs in
    let put = c.in_ok-put_all.ensures.ok [] all (put_behind c.args.table.now.rows (functions_in files) stubs c.requires) in
    let same : calls_seen c.as_slice.result.now ≡ all_calls files stubs = ap (λ (cs : List Call). calls_seen cs) c.as_slice.ensures.value ∙ c.in_ok-calls.ensures in
    let is : c.from_residual-in_err-check_known.result ≡ Err c.in_err-check_known.field-0.0 = search rules in
    handed_on files stubs _ _ is (unknown_so files stubs (calls_seen c.as_slice.result.now) same (once_all _ all put) _ (c.in_err-check_known.ensures.err all (table_of_all _ all put)))

pub returns-in_err-check_arguments-clause-err : goal.returns-in_err-check_arguments-clause-err
returns-in_err-check_arguments-clause-err c =
    let files = files_of c.args.files.now in
    let stubs = functions_of_list c.args.stubs.now in
    let all = all_functions files stubs in
    let put = c.in_ok-put_all.ensures.ok [] all (put_behind c.args.table.now.rows (functions_in files) stubs c.requires) in
    let table = table_of_all _ all put in
    let first : calls_seen c.as_slice.result.now ≡ all_calls files stubs = ap (λ (cs : List Call). calls_seen cs) c.as_slice.ensures.value ∙ c.in_ok-calls.ensures in
    let same : calls_seen c.as_slice-2.result.now ≡ all_calls files stubs = ap (λ (cs : List Call). calls_seen cs) c.as_slice-2.ensures.value ∙ c.in_ok-calls.ensures in
    let known = all_known files stubs (calls_seen c.as_slice.result.now) first (c.in_ok-check_known.ensures.ok all table) in
    let is : c.from_residual-in_err-check_arguments.result ≡ Err c.in_err-check_arguments.field-0.0 = search rules in
    handed_on files stubs _ _ is (arity_so files stubs (calls_seen c.as_slice-2.result.now) same (once_all _ all put) known _ (c.in_err-check_arguments.ensures.err all table))

pub returns-clause-ok : goal.returns-clause-ok
returns-clause-ok c =
    let files = files_of c.args.files.now in
    let stubs = functions_of_list c.args.stubs.now in
    let all = all_functions files stubs in
    let put = c.in_ok-put_all.ensures.ok [] all (put_behind c.args.table.now.rows (functions_in files) stubs c.requires) in
    let table = table_of_all _ all put in
    let first : calls_seen c.as_slice.result.now ≡ all_calls files stubs = ap (λ (cs : List Call). calls_seen cs) c.as_slice.ensures.value ∙ c.in_ok-calls.ensures in
    let same : calls_seen c.as_slice-2.result.now ≡ all_calls files stubs = ap (λ (cs : List Call). calls_seen cs) c.as_slice-2.ensures.value ∙ c.in_ok-calls.ensures in
    record {
      once = once_all _ all put;
      known = all_known files stubs (calls_seen c.as_slice.result.now) first (c.in_ok-check_known.ensures.ok all table);
      served = all_served files stubs (calls_seen c.as_slice-2.result.now) same (c.in_ok-check_arguments.ensures.ok all table);
    }
