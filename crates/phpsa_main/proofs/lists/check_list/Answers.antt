use Rattle.std.proofs.Common.{◌≡◌, ◌∙◌, ℕ, List, Some, ap, map, string_bytes, subst}
use Rattle.io_edge.proofs.Staying.{tells_stay}
use Rattle.dtd_model.specs.TableOf.{table_of}
use Rattle.program_files.specs.Source.{source_call}
use Rattle.document_types.specs.DocumentTypes.{type_of}
use Rattle.document_types.proofs.TableStays.{table_stays}
use Rattle.site_check.specs.Listed.{names_in, IsList}
use Rattle.phpsa_tasks.proofs.Defining.{definition_cause}
use Rattle.phpsa_tasks.specs.Views.{script_file_as}
use Rattle.phpsa_main.proofs.PageParts.{ok_faults, ok_misses, file_faults}
use Rattle.phpsa_main.proofs.ListParts.{unread_list, refused_list, undefined_list, reported_list}
use Rattle.phpsa_main.proofs.lists.check_list.Goals as goal

pub returns-in-Err : goal.returns-in-Err
returns-in-Err g c =
    unread_list
    (source_call (g.F.Files.content c.read.new.self) (g.F.Files.faults c.args.files.now) (g.F.Files.faults c.read.new.self) (g.F.Files.misses c.args.files.now) (g.F.Files.misses c.read.new.self) (g.F.Files.reads c.args.files.now) (g.F.Files.reads c.read.new.self))
    (script_file_as c.args.file) (type_of c.args.document_type) c.args.goal c.args.limit c.in-Err.fault c.file_refusal.result c.in-Err.ensures.reason
    (file_faults c.read.result c.in-Err.fault _ _ c.in-Err.is c.read.ensures.unfailed) (rw c.as_bytes.ensures.value at c.file_refusal.ensures)

pub returns-in-Err-read_list : goal.returns-in-Err-read_list
returns-in-Err-read_list g c =
    refused_list
    (source_call (g.F.Files.content c.read.new.self) (g.F.Files.faults c.args.files.now) (g.F.Files.faults c.read.new.self) (g.F.Files.misses c.args.files.now) (g.F.Files.misses c.read.new.self) (g.F.Files.reads c.args.files.now) (g.F.Files.reads c.read.new.self))
    (script_file_as c.args.file) (type_of c.args.document_type) c.args.goal c.args.limit c.in-Ok.list c.in-Err-read_list.refusal c.list_refusal.result c.in-Ok.ensures.content
    (rw c.as_slice.ensures at c.in-Err-read_list.ensures.err) (ok_faults c.read.result _ _ _ c.in-Ok.is c.read.ensures.unfailed) c.list_refusal.ensures

pub returns-in-Err-definition : goal.returns-in-Err-definition
returns-in-Err-definition g c =
    let files =
    source_call (g.F.Files.content c.definition.new.files) (g.F.Files.faults c.args.files.now) (g.F.Files.faults c.definition.new.files) (g.F.Files.misses c.args.files.now) (g.F.Files.misses c.definition.new.files) (g.F.Files.reads c.args.files.now) (g.F.Files.reads c.definition.new.files) in
    undefined_list files (script_file_as c.args.file) (type_of c.args.document_type) c.args.goal c.args.limit c.in-Ok.list c.in-Err-definition.refusal c.definition_refusal.result
    (tells_stay (g.F.Files.content c.read.new.self) (g.F.Files.content c.definition.new.files) c.args.file.name.now (Some c.in-Ok.list) c.definition.ensures.stays c.in-Ok.ensures.content)
    (subst IsList c.as_slice.ensures c.in-Ok-read_list.ensures.ok.1)
    (definition_cause files (type_of c.args.document_type) (g.F.Files.faults c.read.new.self) (g.F.Files.misses c.read.new.self) c.in-Err-definition.refusal
    (ok_faults c.read.result _ _ _ c.in-Ok.is c.read.ensures.unfailed) (ok_misses c.read.result _ _ _ c.in-Ok.is c.read.ensures.unmissed) c.in-Err-definition.ensures.err)
    c.definition_refusal.ensures

pub returns : goal.returns
returns g c =
    let files =
    source_call (g.F.Files.content c.report_on.new.files) (g.F.Files.faults c.args.files.now) (g.F.Files.faults c.report_on.new.files) (g.F.Files.misses c.args.files.now) (g.F.Files.misses c.report_on.new.files) (g.F.Files.reads c.args.files.now) (g.F.Files.reads c.report_on.new.files) in
    reported_list files (script_file_as c.args.file) (type_of c.args.document_type) c.args.goal c.args.limit (g.F.Files.content c.definition.new.files) (g.F.Files.faults c.definition.new.files)
    (g.F.Files.misses c.definition.new.files) c.in-Ok.list (table_of c.in-Ok-definition.dtd) (map string_bytes c.as_slice-2.result.now) c.report_on.result
    (tells_stay (g.F.Files.content c.definition.new.files) (g.F.Files.content c.report_on.new.files) c.args.file.name.now (Some c.in-Ok.list) c.report_on.ensures.stays
    (tells_stay (g.F.Files.content c.read.new.self) (g.F.Files.content c.definition.new.files) c.args.file.name.now (Some c.in-Ok.list) c.definition.ensures.stays c.in-Ok.ensures.content))
    (table_stays (g.F.Files.content c.definition.new.files) (g.F.Files.content c.report_on.new.files) c.report_on.ensures.stays (type_of c.args.document_type) (table_of c.in-Ok-definition.dtd)
    c.in-Ok-definition.ensures.ok)
    (subst IsList c.as_slice.ensures c.in-Ok-read_list.ensures.ok.1)
    (ap (map string_bytes) c.as_slice-2.ensures.value ∙ subst (λ (text : List ℕ). map string_bytes c.in-Ok-read_list.names.items ≡ names_in text) c.as_slice.ensures c.in-Ok-read_list.ensures.ok.0)
    (c.in-Ok-definition.ensures.calm.0 ∙ ok_faults c.read.result _ _ _ c.in-Ok.is c.read.ensures.unfailed)
    (c.in-Ok-definition.ensures.calm.1 ∙ ok_misses c.read.result _ _ _ c.in-Ok.is c.read.ensures.unmissed) c.report_on.ensures.report
