use Rattle.std.proofs.Common.{◌≡◌, ◌<◌, ◌≤◌, ◌+◌, length, drop, Err, IfErr, sym, subst, rules, arith}
use Rattle.program_rules.specs.Programs.{functions_in}
use Rattle.program_files.specs.View.{files_of}
use Rattle.function_rules.specs.Causes.{IsDoubleCause}
use Rattle.function_rules.proofs.TableLemmas.{put_none, table_step, table_end, tree_there}
use Rattle.function_rules.proofs.definitions.table_of.Goals as goal

pub loop-place-init : goal.loop-place-init
loop-place-init c = put_none c.new-table.result.rows (functions_in (files_of c.args.files.now)) c.new-table.ensures

pub unreachable-requires : goal.unreachable-requires
unreachable-requires c =
    let lt : c.loop-place.place < length (files_of c.args.files.now) = (let h = c.loop-place-test.true in let n = c.len-place-end.ensures in omega arith) in
    tree_there (files_of c.args.files.now) c.loop-place.place lt c.in-None.ensures

pub returns-in_err-put_all-in-Some-clause-err : goal.returns-in_err-put_all-in-Some-clause-err
returns-in_err-put_all-in-Some-clause-err c =
    let files = files_of c.args.files.now in
    let is : c.from_residual.result ≡ Err c.in_err-put_all-in-Some.field-0.0 = search rules in
    subst (λ r. IfErr r (IsDoubleCause (functions_in files))) (sym is)
    (c.in_err-put_all-in-Some.ensures.err (functions_in (drop (c.loop-place.place + 1) files)) (functions_in files)
    (table_step c.loop-place.table.rows files c.loop-place.place c.in-Some.tree.now c.as_slice.result.now (functions_in files) c.as_slice.ensures.value c.in-Some.ensures c.loop-place.invariant))

pub loop-place-preserved : goal.loop-place-preserved
loop-place-preserved c =
    let files = files_of c.args.files.now in
    c.in_ok-put_all-in-Some.ensures.ok (functions_in (drop (c.loop-place.place + 1) files)) (functions_in files)
    (table_step c.loop-place.table.rows files c.loop-place.place c.in-Some.tree.now c.as_slice.result.now (functions_in files) c.as_slice.ensures.value c.in-Some.ensures c.loop-place.invariant)

pub returns-clause-ok : goal.returns-clause-ok
returns-clause-ok c =
    let files = files_of c.args.files.now in
    let le : length files ≤ c.loop-place.place = (let n = c.len-place-end.ensures in omega arith) in
    table_end c.loop-place.table.rows files c.loop-place.place (functions_in files) le c.loop-place.invariant
