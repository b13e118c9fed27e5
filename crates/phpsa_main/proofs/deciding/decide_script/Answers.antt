use Rattle.dtd_model.specs.TableOf.{table_of}
use Rattle.program_rules.specs.View.{program_of}
use Rattle.program_files.specs.Source.{source_call}
use Rattle.document_types.specs.DocumentTypes.{type_of}
use Rattle.phpsa_tasks.specs.Views.{script_file_as}
use Rattle.phpsa_main.proofs.ScriptParts.{unread_decides, program_decides}
use Rattle.phpsa_main.proofs.deciding.decide_script.Goals as goal

pub returns-in-Err-clause-decides : goal.returns-in-Err-clause-decides
returns-in-Err-clause-decides g c =
    unread_decides
    (source_call (g.F.Files.content c.read_script.new.files) (g.F.Files.faults c.args.files.now) (g.F.Files.faults c.read_script.new.files) (g.F.Files.misses c.args.files.now) (g.F.Files.misses c.read_script.new.files) (g.F.Files.reads c.args.files.now) (g.F.Files.reads c.read_script.new.files))
    (script_file_as c.args.file) (type_of c.args.document_type) c.args.goal c.args.limit c.in-Err.refusal c.in-Err.ensures.reads

pub returns-clause-decides : goal.returns-clause-decides
returns-clause-decides g c =
    program_decides
    (source_call (g.F.Files.content c.read_script.new.files) (g.F.Files.faults c.args.files.now) (g.F.Files.faults c.read_script.new.files) (g.F.Files.misses c.args.files.now) (g.F.Files.misses c.read_script.new.files) (g.F.Files.reads c.args.files.now) (g.F.Files.reads c.read_script.new.files))
    (script_file_as c.args.file) (type_of c.args.document_type) c.args.goal c.args.limit (table_of c.in-Ok.script.dtd) (program_of c.in-Ok.script.program) c.decided.result c.in-Ok.ensures.reads c.decided.ensures
