use Rattle.std.proofs.Common.{inl, refl}
use Rattle.io_edge.proofs.Staying.{stays_same}
use Rattle.dtd_model.specs.TableOf.{table_of}
use Rattle.program_rules.specs.View.{program_of}
use Rattle.program_files.specs.Source.{source_call}
use Rattle.phpsa_tasks.specs.Tasks.{root_of}
use Rattle.phpsa_tasks.specs.Views.{script_file_as}
use Rattle.phpsa_main.proofs.ListParts.{unloaded_by, decided_by, cause_grows, names_grow}
use Rattle.phpsa_main.proofs.ScriptParts.{misses_its_names, loaded_inside}
use Rattle.phpsa_main.proofs.deciding.decide_by.Goals as goal

pub returns-in-Err-clause-decides : goal.returns-in-Err-clause-decides
returns-in-Err-clause-decides g c =
    unloaded_by
    (source_call (g.F.Files.content c.load_script.new.files) (g.F.Files.faults c.args.files.now) (g.F.Files.faults c.load_script.new.files) (g.F.Files.misses c.args.files.now) (g.F.Files.misses c.load_script.new.files) (g.F.Files.reads c.args.files.now) (g.F.Files.reads c.load_script.new.files))
    (script_file_as c.args.file) (table_of c.args.dtd.now) c.args.goal c.args.limit c.in-Err.refusal c.load_refusal.result c.in-Err.ensures.err c.load_refusal.ensures

pub returns-in-Err-clause-leads : goal.returns-in-Err-clause-leads
returns-in-Err-clause-leads g c =
    let counts = cause_grows
    (source_call (g.F.Files.content c.load_script.new.files) (g.F.Files.faults c.args.files.now) (g.F.Files.faults c.load_script.new.files) (g.F.Files.misses c.args.files.now) (g.F.Files.misses c.load_script.new.files) (g.F.Files.reads c.args.files.now) (g.F.Files.reads c.load_script.new.files))
    (root_of (script_file_as c.args.file)) c.args.file.name.now (script_file_as c.args.file).stubs c.in-Err.refusal c.in-Err.ensures.err in
    record { stays = c.load_script.ensures.stays; faults = counts.0; misses = counts.1 }

pub returns-clause-decides : goal.returns-clause-decides
returns-clause-decides g c =
    let files =
    source_call (g.F.Files.content c.load_script.new.files) (g.F.Files.faults c.args.files.now) (g.F.Files.faults c.load_script.new.files) (g.F.Files.misses c.args.files.now) (g.F.Files.misses c.load_script.new.files) (g.F.Files.reads c.args.files.now) (g.F.Files.reads c.load_script.new.files) in
    decided_by files (script_file_as c.args.file) (table_of c.args.dtd.now) c.args.goal c.args.limit (program_of c.in-Ok.program) c.decided.result
    (loaded_inside files (g.F.Files.content c.load_script.new.files) (script_file_as c.args.file) (program_of c.in-Ok.program)
    (stays_same (g.F.Files.content c.load_script.new.files) (g.F.Files.content c.load_script.new.files) refl) c.in-Ok.ensures.ok)
    (misses_its_names files (g.F.Files.content c.load_script.new.files) (g.F.Files.faults c.load_script.new.files) (g.F.Files.misses c.load_script.new.files) (g.F.Files.reads c.load_script.new.files) (root_of (script_file_as c.args.file)) c.args.file.name.now (script_file_as c.args.file).stubs
    (program_of c.in-Ok.program) (stays_same (g.F.Files.content c.load_script.new.files) (g.F.Files.content c.load_script.new.files) refl) c.in-Ok.ensures.ok)
    c.in-Ok.ensures.ok.source.unfailed c.decided.ensures

pub returns-clause-leads : goal.returns-clause-leads
returns-clause-leads g c = record { stays = c.load_script.ensures.stays; faults = inl c.in-Ok.ensures.ok.source.unfailed; misses = names_grow c.in-Ok.ensures.ok.source.missed _ _ c.in-Ok.ensures.ok.source.misses }
