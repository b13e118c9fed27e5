use Rattle.std.proofs.Common.{rules, ◌≡◌, ◌∙◌, ℕ, List, IfOk, IfErr, sym, subst}
use Rattle.std.specs.Prelude.{Err}
use Rattle.program_rules.specs.View.{program_of}
use Rattle.program_files.specs.Source.{source_call}
use Rattle.program_files.specs.declared.refusal.LoadRefusal.TheVariants.{Memory}
use Rattle.program_files.proofs.Refusals.{no_memory_first}
use Rattle.program_loader.specs.Causes.{Loads, IsLoadCause}
use Rattle.phpsa_tasks.specs.Tasks.{root_of}
use Rattle.phpsa_tasks.specs.Views.{script_file_as}
use Rattle.phpsa_main.proofs.loading.load_script.Goals as goal

pub returns-in_err-root-clause-err : goal.returns-in_err-root-clause-err
returns-in_err-root-clause-err g c =
    let files =
    source_call (g.F.Files.content c.args.files.now) (g.F.Files.faults c.args.files.now) (g.F.Files.faults c.args.files.now) (g.F.Files.misses c.args.files.now) (g.F.Files.misses c.args.files.now) (g.F.Files.reads c.args.files.now) (g.F.Files.reads c.args.files.now) in
    let is : c.from_residual.result ≡ Err Memory = search rules in
    subst (λ r. IfErr r (IsLoadCause files (root_of (script_file_as c.args.file)) c.args.file.name.now (script_file_as c.args.file).stubs)) (sym is)
    (no_memory_first (g.F.Files.content c.args.files.now) (g.F.Files.faults c.args.files.now) (g.F.Files.misses c.args.files.now) (g.F.Files.reads c.args.files.now) (g.F.Files.reads c.args.files.now)
    (root_of (script_file_as c.args.file)) c.args.file.name.now)

pub returns-clause-ok : goal.returns-clause-ok
returns-clause-ok g c =
    let files =
    source_call (g.F.Files.content c.load.new.source) (g.F.Files.faults c.args.files.now) (g.F.Files.faults c.load.new.source) (g.F.Files.misses c.args.files.now) (g.F.Files.misses c.load.new.source) (g.F.Files.reads c.args.files.now) (g.F.Files.reads c.load.new.source) in
    subst (λ (root : List ℕ). IfOk c.load.result (λ program. Loads files root c.args.file.name.now (script_file_as c.args.file).stubs (program_of program))) (c.as_str.ensures.value ∙ c.in_ok-root.ensures) c.load.ensures.ok

pub returns-clause-err : goal.returns-clause-err
returns-clause-err g c =
    let files =
    source_call (g.F.Files.content c.load.new.source) (g.F.Files.faults c.args.files.now) (g.F.Files.faults c.load.new.source) (g.F.Files.misses c.args.files.now) (g.F.Files.misses c.load.new.source) (g.F.Files.reads c.args.files.now) (g.F.Files.reads c.load.new.source) in
    subst (λ (root : List ℕ). IfErr c.load.result (IsLoadCause files root c.args.file.name.now (script_file_as c.args.file).stubs)) (c.as_str.ensures.value ∙ c.in_ok-root.ensures) c.load.ensures.err
