use Rattle.program_files.specs.Source.{source_call}
use Rattle.document_types.specs.DocumentTypes.{type_of}
use Rattle.phpsa_tasks.specs.declared.choice.PageChoice.{PageChoice}
use Rattle.phpsa_tasks.specs.Views.{script_file_as}
use Rattle.phpsa_main.proofs.ScriptParts.{refused_does, answered_does, wanting_does}
use Rattle.phpsa_main.proofs.script.check_script.Goals as goal

pub returns-in-Err : goal.returns-in-Err
returns-in-Err g c =
    refused_does
    (source_call (g.F.Files.content c.decide_script.new.files) (g.F.Files.faults c.args.files.now) (g.F.Files.faults c.decide_script.new.files) (g.F.Files.misses c.args.files.now) (g.F.Files.misses c.decide_script.new.files) (g.F.Files.reads c.args.files.now) (g.F.Files.reads c.decide_script.new.files))
    (script_file_as c.args.file) (type_of c.args.document_type) c.args.goal c.args.limit c.args.form c.in-Err.refusal c.in-Err.ensures.decides

pub returns-in-Ok-answer_message : goal.returns-in-Ok-answer_message
returns-in-Ok-answer_message g c =
    answered_does
    (source_call (g.F.Files.content c.decide_script.new.files) (g.F.Files.faults c.args.files.now) (g.F.Files.faults c.decide_script.new.files) (g.F.Files.misses c.args.files.now) (g.F.Files.misses c.decide_script.new.files) (g.F.Files.reads c.args.files.now) (g.F.Files.reads c.decide_script.new.files))
    (script_file_as c.args.file) (type_of c.args.document_type) c.args.goal c.args.limit c.args.form c.in-Ok.answer c.in-Ok-answer_message.message c.in-Ok.ensures.decides c.in-Ok-answer_message.ensures

pub returns : goal.returns
returns g c =
    wanting_does
    (source_call (g.F.Files.content c.decide_script.new.files) (g.F.Files.faults c.args.files.now) (g.F.Files.faults c.decide_script.new.files) (g.F.Files.misses c.args.files.now) (g.F.Files.misses c.decide_script.new.files) (g.F.Files.reads c.args.files.now) (g.F.Files.reads c.decide_script.new.files))
    (script_file_as c.args.file) (type_of c.args.document_type) c.args.goal c.args.limit c.args.form PageChoice.First
