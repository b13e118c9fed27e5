use Rattle.std.proofs.Common.{◌≡◌, ◌∙◌, List, length, sym, ap, subst, arith}
use Rattle.php_syntax.specs.declared.tree.FunctionDef.{FunctionDef}
use Rattle.php_syntax.specs.Trees.{plain_file, functions_of_list}
use Rattle.program_rules.specs.Limits.{IsWithin}
use Rattle.program_rules.specs.Programs.{functions_in}
use Rattle.program_files.specs.View.{files_of}
use Rattle.include_expansion.specs.Within.{program_within}
use Rattle.program_sizes.specs.Limits.{program_places}
use Rattle.program_sizes.specs.Loaded.{AreStubs, with_stubs}
use Rattle.program_sizes.proofs.StubLemmas.{taken_are_stubs}
use Rattle.program_loader.proofs.MakeLemmas.{are_checked}
use Rattle.program_loader.proofs.making.make_program.Goals as goal

pub check_sizes-requires-clause-stubs : goal.check_sizes-requires-clause-stubs
check_sizes-requires-clause-stubs c =
    let is = ap (λ (fs : List FunctionDef). functions_of_list fs) c.as_slice-in-Some.ensures.value ∙ c.in_ok-stubs.ensures.taken in
    subst AreStubs (sym is) (taken_are_stubs (functions_in (files_of c.args.files.now)) (functions_of_list c.args.functions.items) c.requires.stubs)

pub expand-requires : goal.expand-requires
expand-requires c =
    let files = files_of c.args.files.now in
    let stubs = functions_of_list c.in_ok-stubs.stubs.items in
    let tree = plain_file c.in-Some.tree.now in
    let are = subst AreStubs (sym c.in_ok-stubs.ensures.taken) (taken_are_stubs (functions_in files) (functions_of_list c.args.functions.items) c.requires.stubs) in
    let n = length c.as_slice.result.now in
    let within : IsWithin (program_places files n tree) (with_stubs stubs (program_within files n tree)) =
    subst (λ (fs : List FunctionDef). IsWithin (program_places files n tree) (with_stubs (functions_of_list fs) (program_within files n tree))) c.as_slice-in-Some.ensures.value c.in_ok-check_sizes-in-Some.ensures.ok in
    let size : c.len.result ≡ length c.in_ok-order.order.items = omega (arith, c.len.ensures, c.in_ok-order.order.ok.0) in
    are_checked files stubs c.args.name.now c.in_ok-order.order.items c.as_slice.result.now c.len.result tree c.requires.ready are c.in_ok-order.ensures.order c.as_slice.ensures.value size c.in-Some.ensures.0 c.in_ok-stubs.ensures.ok within
