use Rattle.std.proofs.Common.{◌∙◌, refl}
use Rattle.io_edge.proofs.Staying.{stays_on}
use Rattle.program_rules.specs.View.{program_of}
use Rattle.program_files.specs.Source.{source_call}
use Rattle.document_types.specs.DocumentTypes.{type_of}
use Rattle.phpsa_tasks.proofs.Defining.{definition_cause}
use Rattle.phpsa_tasks.specs.Tasks.{root_of}
use Rattle.phpsa_tasks.specs.Counted.{from_misses}
use Rattle.phpsa_tasks.specs.Views.{script_file_as}
use Rattle.phpsa_main.proofs.ScriptParts.{load_refused, definition_refused, reads_its_files, misses_its_names, loaded_inside}
use Rattle.phpsa_main.proofs.loading.read_script.Goals as goal

pub returns-in-Err-clause-reads : goal.returns-in-Err-clause-reads
returns-in-Err-clause-reads g c =
    load_refused
    (source_call (g.F.Files.content c.load_script.new.files) (g.F.Files.faults c.args.files.now) (g.F.Files.faults c.load_script.new.files) (g.F.Files.misses c.args.files.now) (g.F.Files.misses c.load_script.new.files) (g.F.Files.reads c.args.files.now) (g.F.Files.reads c.load_script.new.files))
    (script_file_as c.args.file) (type_of c.args.document_type) c.in-Err.refusal c.load_refusal.result c.in-Err.ensures.err c.load_refusal.ensures

pub returns-in-Ok-definition-clause-reads : goal.returns-in-Ok-definition-clause-reads
returns-in-Ok-definition-clause-reads g c =
    let loaded = c.in-Ok.ensures.ok in
    record {
      loaded = loaded_inside
          (source_call (g.F.Files.content c.load_script.new.files) (g.F.Files.faults c.args.files.now) (g.F.Files.faults c.load_script.new.files) (g.F.Files.misses c.args.files.now) (g.F.Files.misses c.load_script.new.files) (g.F.Files.reads c.args.files.now) (g.F.Files.reads c.load_script.new.files))
          (g.F.Files.content c.definition.new.files) (script_file_as c.args.file) (program_of c.in-Ok.program) c.definition.ensures.stays loaded;
      has = c.in-Ok-definition.ensures.ok;
      misses = g.F.Files.misses c.load_script.new.files;
      behind = misses_its_names
          (source_call (g.F.Files.content c.load_script.new.files) (g.F.Files.faults c.args.files.now) (g.F.Files.faults c.load_script.new.files) (g.F.Files.misses c.args.files.now) (g.F.Files.misses c.load_script.new.files) (g.F.Files.reads c.args.files.now) (g.F.Files.reads c.load_script.new.files))
          (g.F.Files.content c.definition.new.files) (g.F.Files.faults c.definition.new.files) (g.F.Files.misses c.definition.new.files) (g.F.Files.reads c.definition.new.files) (root_of (script_file_as c.args.file)) c.args.file.name.now (script_file_as c.args.file).stubs (program_of c.in-Ok.program) c.definition.ensures.stays loaded;
      read = λ built_in. reads_its_files
          (source_call (g.F.Files.content c.load_script.new.files) (g.F.Files.faults c.args.files.now) (g.F.Files.faults c.load_script.new.files) (g.F.Files.misses c.args.files.now) (g.F.Files.misses c.load_script.new.files) (g.F.Files.reads c.args.files.now) (g.F.Files.reads c.load_script.new.files))
          (g.F.Files.content c.definition.new.files) (g.F.Files.faults c.definition.new.files) (g.F.Files.misses c.definition.new.files) (g.F.Files.reads c.definition.new.files) (root_of (script_file_as c.args.file)) (script_file_as c.args.file) (program_of c.in-Ok.program) c.definition.ensures.stays loaded
          (c.definition.ensures.reads built_in);
      calm = c.in-Ok-definition.ensures.calm.0 ∙ loaded.source.unfailed;
    }

pub returns-in-Err-definition-clause-reads : goal.returns-in-Err-definition-clause-reads
returns-in-Err-definition-clause-reads g c =
    let files =
    source_call (g.F.Files.content c.definition.new.files) (g.F.Files.faults c.args.files.now) (g.F.Files.faults c.definition.new.files) (g.F.Files.misses c.args.files.now) (g.F.Files.misses c.definition.new.files) (g.F.Files.reads c.args.files.now) (g.F.Files.reads c.definition.new.files) in
    let loaded = c.in-Ok.ensures.ok in
    definition_refused files (script_file_as c.args.file) (type_of c.args.document_type) c.in-Err-definition.refusal c.definition_refusal.result (program_of c.in-Ok.program)
    (g.F.Files.misses c.load_script.new.files)
    (loaded_inside
    (source_call (g.F.Files.content c.load_script.new.files) (g.F.Files.faults c.args.files.now) (g.F.Files.faults c.load_script.new.files) (g.F.Files.misses c.args.files.now) (g.F.Files.misses c.load_script.new.files) (g.F.Files.reads c.args.files.now) (g.F.Files.reads c.load_script.new.files))
    (g.F.Files.content c.definition.new.files) (script_file_as c.args.file) (program_of c.in-Ok.program) c.definition.ensures.stays loaded)
    (misses_its_names
    (source_call (g.F.Files.content c.load_script.new.files) (g.F.Files.faults c.args.files.now) (g.F.Files.faults c.load_script.new.files) (g.F.Files.misses c.args.files.now) (g.F.Files.misses c.load_script.new.files) (g.F.Files.reads c.args.files.now) (g.F.Files.reads c.load_script.new.files))
    (g.F.Files.content c.definition.new.files) (g.F.Files.faults c.definition.new.files) (g.F.Files.misses c.definition.new.files) (g.F.Files.reads c.definition.new.files) (root_of (script_file_as c.args.file)) c.args.file.name.now (script_file_as c.args.file).stubs (program_of c.in-Ok.program) c.definition.ensures.stays loaded)
    (definition_cause (from_misses (g.F.Files.misses c.load_script.new.files) files) (type_of c.args.document_type) (g.F.Files.faults c.load_script.new.files) (g.F.Files.misses c.load_script.new.files)
    c.in-Err-definition.refusal loaded.source.unfailed refl c.in-Err-definition.ensures.err)
    (λ built_in. reads_its_files
    (source_call (g.F.Files.content c.load_script.new.files) (g.F.Files.faults c.args.files.now) (g.F.Files.faults c.load_script.new.files) (g.F.Files.misses c.args.files.now) (g.F.Files.misses c.load_script.new.files) (g.F.Files.reads c.args.files.now) (g.F.Files.reads c.load_script.new.files))
    (g.F.Files.content c.definition.new.files) (g.F.Files.faults c.definition.new.files) (g.F.Files.misses c.definition.new.files) (g.F.Files.reads c.definition.new.files) (root_of (script_file_as c.args.file)) (script_file_as c.args.file) (program_of c.in-Ok.program) c.definition.ensures.stays loaded
    (c.definition.ensures.reads built_in))
    c.definition_refusal.ensures

pub returns-in-Ok-definition-clause-stays : goal.returns-in-Ok-definition-clause-stays
returns-in-Ok-definition-clause-stays g c = stays_on _ _ _ c.load_script.ensures.stays c.definition.ensures.stays

pub returns-in-Err-definition-clause-stays : goal.returns-in-Err-definition-clause-stays
returns-in-Err-definition-clause-stays g c = stays_on _ _ _ c.load_script.ensures.stays c.definition.ensures.stays
