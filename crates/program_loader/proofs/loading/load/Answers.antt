use Rattle.std.proofs.Common.{◌≡◌, List, ℕ, Option, Err, option_map, inl, sym, subst, rules}
use Rattle.std.specs.Borrow.{Bor}
use Rattle.php_syntax.specs.Trees.{functions_of_list}
use Rattle.program_rules.specs.View.{program_of}
use Rattle.program_files.specs.View.{files_of}
use Rattle.program_files.specs.declared.refusal.LoadRefusal.TheVariants.{Memory}
use Rattle.program_files.specs.Source.{source_call}
use Rattle.program_loader.specs.Making.{AreReady, Make, IsMakeCause, ReadBoth, ReadFirst}
use Rattle.program_loader.proofs.LoadLemmas.{stubs_read, failed}
use Rattle.program_loader.proofs.loading.load.Goals as goal

pub returns-in_err-files-clause-err : goal.returns-in_err-files-clause-err
returns-in_err-files-clause-err g c =
    let call =
    source_call (g.F.Files.content c.read_files.new.source) (g.F.Files.faults c.args.source.now) (g.F.Files.faults c.read_files.new.source) (g.F.Files.misses c.args.source.now) (g.F.Files.misses c.read_files.new.source) (g.F.Files.reads c.args.source.now) (g.F.Files.reads c.read_files.new.source) in
    let stubs : Option (List ℕ) = option_map (λ (text : Bor (List ℕ)). text.now) c.args.stubs in
    let is : c.from_residual.result ≡ Err c.in_err-files.field-0.0 = search rules in
    failed call c.args.root.now c.args.name.now stubs _ c.in_err-files.field-0.0 is (c.what_is_made_is_loaded.ensures.unread call c.args.root.now c.args.name.now stubs c.in_err-files.field-0.0 c.in_err-files.ensures.err)

pub returns-in_err-functions-clause-err : goal.returns-in_err-functions-clause-err
returns-in_err-functions-clause-err g c =
    let call =
    source_call (g.F.Files.content c.read_stubs.new.source) (g.F.Files.faults c.args.source.now) (g.F.Files.faults c.read_stubs.new.source) (g.F.Files.misses c.args.source.now) (g.F.Files.misses c.read_stubs.new.source) (g.F.Files.reads c.args.source.now) (g.F.Files.reads c.read_stubs.new.source) in
    let stubs : Option (List ℕ) = option_map (λ (text : Bor (List ℕ)). text.now) c.args.stubs in
    let is : c.from_residual-in_err-functions.result ≡ Err c.in_err-functions.field-0.0 = search rules in
    let first : ReadFirst call c.args.root.now c.args.name.now stubs c.in_err-functions.field-0.0 = record {
      files = files_of c.in_ok-files.files;
      faults = g.F.Files.faults c.read_files.new.source;
      misses = g.F.Files.misses c.read_files.new.source;
      reads = g.F.Files.reads c.read_files.new.source;
      all = c.in_ok-files.ensures.ok (g.F.Files.content c.read_stubs.new.source) c.in_err-functions.ensures.stays;
      cause = c.in_err-functions.ensures.err;
    } in
    failed call c.args.root.now c.args.name.now stubs _ c.in_err-functions.field-0.0 is (c.what_is_made_is_loaded.ensures.unstubbed call c.args.root.now c.args.name.now stubs c.in_err-functions.field-0.0 first)

pub returns-in_err-main-clause-err : goal.returns-in_err-main-clause-err
returns-in_err-main-clause-err g c =
    let call =
    source_call (g.F.Files.content c.read_stubs.new.source) (g.F.Files.faults c.args.source.now) (g.F.Files.faults c.read_stubs.new.source) (g.F.Files.misses c.args.source.now) (g.F.Files.misses c.read_stubs.new.source) (g.F.Files.reads c.args.source.now) (g.F.Files.reads c.read_stubs.new.source) in
    let stubs : Option (List ℕ) = option_map (λ (text : Bor (List ℕ)). text.now) c.args.stubs in
    let files = files_of c.in_ok-files.files in
    let functions = functions_of_list c.in_ok-functions.functions.items in
    let both : ReadBoth call c.args.root.now c.args.name.now stubs files functions = record {
      faults = g.F.Files.faults c.read_files.new.source;
      misses = g.F.Files.misses c.read_files.new.source;
      reads = g.F.Files.reads c.read_files.new.source;
      all = c.in_ok-files.ensures.ok (g.F.Files.content c.read_stubs.new.source) c.in_ok-functions.ensures.stays;
      then_stubs = c.in_ok-functions.ensures.ok;
    } in
    let is : c.from_residual-in_err-main.result ≡ Err Memory = search rules in
    failed call c.args.root.now c.args.name.now stubs _ Memory is (c.what_is_made_is_loaded.ensures.err call c.args.root.now c.args.name.now stubs files functions Memory both (inl tt))

pub make_program-requires-clause-ready : goal.make_program-requires-clause-ready
make_program-requires-clause-ready g c =
    subst (AreReady (files_of c.in_ok-files.files)) (sym c.in_ok-main.ensures)
    (c.what_is_made_is_loaded.ensures.ready _ c.args.root.now c.args.name.now (files_of c.in_ok-files.files) (c.in_ok-files.ensures.ok (g.F.Files.content c.read_stubs.new.source) c.in_ok-functions.ensures.stays))

pub make_program-requires-clause-stubs : goal.make_program-requires-clause-stubs
make_program-requires-clause-stubs g c = stubs_read _ _ _ c.in_ok-functions.ensures.ok

pub returns-in_err-program-clause-err : goal.returns-in_err-program-clause-err
returns-in_err-program-clause-err g c =
    let call =
    source_call (g.F.Files.content c.read_stubs.new.source) (g.F.Files.faults c.args.source.now) (g.F.Files.faults c.read_stubs.new.source) (g.F.Files.misses c.args.source.now) (g.F.Files.misses c.read_stubs.new.source) (g.F.Files.reads c.args.source.now) (g.F.Files.reads c.read_stubs.new.source) in
    let stubs : Option (List ℕ) = option_map (λ (text : Bor (List ℕ)). text.now) c.args.stubs in
    let files = files_of c.in_ok-files.files in
    let functions = functions_of_list c.in_ok-functions.functions.items in
    let both : ReadBoth call c.args.root.now c.args.name.now stubs files functions = record {
      faults = g.F.Files.faults c.read_files.new.source;
      misses = g.F.Files.misses c.read_files.new.source;
      reads = g.F.Files.reads c.read_files.new.source;
      all = c.in_ok-files.ensures.ok (g.F.Files.content c.read_stubs.new.source) c.in_ok-functions.ensures.stays;
      then_stubs = c.in_ok-functions.ensures.ok;
    } in
    let is : c.from_residual-in_err-program.result ≡ Err c.in_err-program.field-0.0 = search rules in
    let cause = subst (λ (x : List ℕ). IsMakeCause files functions x c.in_err-program.field-0.0) c.in_ok-main.ensures c.in_err-program.ensures.err in
    failed call c.args.root.now c.args.name.now stubs _ c.in_err-program.field-0.0 is (c.what_is_made_is_loaded.ensures.err call c.args.root.now c.args.name.now stubs files functions c.in_err-program.field-0.0 both cause)

pub returns-clause-ok : goal.returns-clause-ok
returns-clause-ok g c =
    let call =
    source_call (g.F.Files.content c.read_stubs.new.source) (g.F.Files.faults c.args.source.now) (g.F.Files.faults c.read_stubs.new.source) (g.F.Files.misses c.args.source.now) (g.F.Files.misses c.read_stubs.new.source) (g.F.Files.reads c.args.source.now) (g.F.Files.reads c.read_stubs.new.source) in
    let stubs : Option (List ℕ) = option_map (λ (text : Bor (List ℕ)). text.now) c.args.stubs in
    let files = files_of c.in_ok-files.files in
    let functions = functions_of_list c.in_ok-functions.functions.items in
    let both : ReadBoth call c.args.root.now c.args.name.now stubs files functions = record {
      faults = g.F.Files.faults c.read_files.new.source;
      misses = g.F.Files.misses c.read_files.new.source;
      reads = g.F.Files.reads c.read_files.new.source;
      all = c.in_ok-files.ensures.ok (g.F.Files.content c.read_stubs.new.source) c.in_ok-functions.ensures.stays;
      then_stubs = c.in_ok-functions.ensures.ok;
    } in
    let made = subst (λ (x : List ℕ). Make files functions x (program_of c.in_ok-program.program)) c.in_ok-main.ensures c.in_ok-program.ensures.ok in
    c.what_is_made_is_loaded.ensures.ok call c.args.root.now c.args.name.now stubs files functions (program_of c.in_ok-program.program) both made
