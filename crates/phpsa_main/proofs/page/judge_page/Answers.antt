use Rattle.std.proofs.Common.{◌∙◌, Some}
use Rattle.io_edge.proofs.Staying.{tells_stay}
use Rattle.dtd_model.specs.TableOf.{table_of}
use Rattle.program_files.specs.Source.{source_call}
use Rattle.document_types.specs.DocumentTypes.{type_of}
use Rattle.phpsa_tasks.proofs.Defining.{definition_cause}
use Rattle.phpsa_main.proofs.PageParts.{ok_faults, ok_misses, file_does, file_faults, definition_does, judged_does, one_read}
use Rattle.phpsa_main.proofs.page.judge_page.Goals as goal

pub returns-in-Err : goal.returns-in-Err
returns-in-Err g c =
    file_does
    (source_call (g.F.Files.content c.read.new.self) (g.F.Files.faults c.args.files.now) (g.F.Files.faults c.read.new.self) (g.F.Files.misses c.args.files.now) (g.F.Files.misses c.read.new.self) (g.F.Files.reads c.args.files.now) (g.F.Files.reads c.read.new.self))
    c.args.file.now (type_of c.args.document_type) c.in-Err.fault c.file_refusal.result c.in-Err.ensures.reason
    (file_faults c.read.result c.in-Err.fault _ _ c.in-Err.is c.read.ensures.unfailed)
    (λ built_in. c.read.ensures.asked) (rw c.as_bytes.ensures.value at c.file_refusal.ensures)

pub returns-in-Err-definition : goal.returns-in-Err-definition
returns-in-Err-definition g c =
    let files =
    source_call (g.F.Files.content c.definition.new.files) (g.F.Files.faults c.args.files.now) (g.F.Files.faults c.definition.new.files) (g.F.Files.misses c.args.files.now) (g.F.Files.misses c.definition.new.files) (g.F.Files.reads c.args.files.now) (g.F.Files.reads c.definition.new.files) in
    definition_does files c.args.file.now (type_of c.args.document_type) c.in-Err-definition.refusal c.definition_refusal.result c.in-Ok.page
    (tells_stay (g.F.Files.content c.read.new.self) (g.F.Files.content c.definition.new.files) c.args.file.now (Some c.in-Ok.page) c.definition.ensures.stays c.in-Ok.ensures.content)
    (definition_cause files (type_of c.args.document_type) (g.F.Files.faults c.read.new.self) (g.F.Files.misses c.read.new.self) c.in-Err-definition.refusal
    (ok_faults c.read.result _ _ _ c.in-Ok.is c.read.ensures.unfailed) (ok_misses c.read.result _ _ _ c.in-Ok.is c.read.ensures.unmissed) c.in-Err-definition.ensures.err)
    (λ built_in. one_read _ _ _ (c.definition.ensures.reads built_in) c.read.ensures.asked) c.definition_refusal.ensures

pub returns : goal.returns
returns g c =
    let files =
    source_call (g.F.Files.content c.definition.new.files) (g.F.Files.faults c.args.files.now) (g.F.Files.faults c.definition.new.files) (g.F.Files.misses c.args.files.now) (g.F.Files.misses c.definition.new.files) (g.F.Files.reads c.args.files.now) (g.F.Files.reads c.definition.new.files) in
    judged_does files c.args.file.now (type_of c.args.document_type) (table_of c.in-Ok-definition.dtd) c.in-Ok.page c.judged.result
    c.in-Ok-definition.ensures.ok
    (tells_stay (g.F.Files.content c.read.new.self) (g.F.Files.content c.definition.new.files) c.args.file.now (Some c.in-Ok.page) c.definition.ensures.stays c.in-Ok.ensures.content) (λ built_in. one_read _ _ _ (c.definition.ensures.reads built_in) c.read.ensures.asked)
    (c.in-Ok-definition.ensures.calm.0 ∙ ok_faults c.read.result _ _ _ c.in-Ok.is c.read.ensures.unfailed) (rw c.as_slice.ensures at c.judged.ensures)
