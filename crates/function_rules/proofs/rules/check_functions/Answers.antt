use Rattle.std.proofs.Common.{◌≡◌, ◌∙◌, List, Err, ap, subst, rules}
use Rattle.php_syntax.specs.declared.tree.FunctionDef.{FunctionDef}
use Rattle.php_syntax.specs.Trees.{PlainFunction, functions_of_list}
use Rattle.program_rules.specs.Programs.{functions_in, taken}
use Rattle.program_files.specs.View.{files_of}
use Rattle.program_sizes.specs.FileRules.{KeepFunctionRules}
use Rattle.function_rules.specs.Causes.{IsFunctionCause}
use Rattle.function_rules.proofs.TableLemmas.{table_of_all}
use Rattle.function_rules.proofs.CallLemmas.{double_so, double_later, handed_on}
use Rattle.function_rules.proofs.rules.check_functions.Goals as goal

pub returns-in_err-table-clause-err : goal.returns-in_err-table-clause-err
returns-in_err-table-clause-err c =
    let files = files_of c.args.files.now in
    let own = functions_in files in
    let stubs = taken own (functions_of_list c.args.functions.items) in
    let is : c.from_residual.result ≡ Err c.in_err-table.field-0.0 = search rules in
    handed_on files stubs _ _ is (double_so files stubs _ (double_later own stubs _ c.in_err-table.ensures.err))

pub returns-in_err-check_rules-clause-err : goal.returns-in_err-check_rules-clause-err
returns-in_err-check_rules-clause-err c =
    let files = files_of c.args.files.now in
    let own = functions_in files in
    let stubs = taken own (functions_of_list c.args.functions.items) in
    let same : functions_of_list c.as_slice.result.now ≡ stubs = ap (λ (fs : List FunctionDef). functions_of_list fs) c.as_slice.ensures.value ∙ c.in_ok-stubs.ensures own (table_of_all _ own c.in_ok-table.ensures.ok) in
    let is : c.from_residual-in_err-check_rules.result ≡ Err c.in_err-check_rules.field-0.0 = search rules in
    handed_on files stubs _ _ is (subst (λ (fs : List PlainFunction). IsFunctionCause files fs c.in_err-check_rules.field-0.0) same c.in_err-check_rules.ensures.err)

pub returns-clause-taken : goal.returns-clause-taken
returns-clause-taken c = let own = functions_in (files_of c.args.files.now) in c.in_ok-stubs.ensures own (table_of_all _ own c.in_ok-table.ensures.ok)

pub returns-clause-ok : goal.returns-clause-ok
returns-clause-ok c = subst (λ (fs : List FunctionDef). KeepFunctionRules (files_of c.args.files.now) (functions_of_list fs)) c.as_slice.ensures.value c.in_ok-check_rules.ensures.ok
