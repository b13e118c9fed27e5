use Rattle.std.proofs.Common.{◌∙◌, sym, ap, subst}
use Rattle.std.specs.Prelude.{option_map}
use Rattle.io_edge.specs.Names.{normal, root_for}
use Rattle.dtd_model.specs.TableOf.{table_of}
use Rattle.dtd_texts.specs.Spells.{DtdSpells}
use Rattle.dtd_reader.specs.Source.{SourceCall, source_call}
use Rattle.dtd_reader.specs.Refusals.{IsCause}
use Rattle.document_types.specs.DocumentTypes.{HasTable, type_of}
use Rattle.document_types.proofs.document_type.DocumentType.definition.Goals as goal

pub returns-clause-err : goal.returns-clause-err
returns-clause-err g c =
    let call : SourceCall = source_call (g.F.Files.content c.read_dtd.new.files) (g.F.Files.faults c.args.files.now) (g.F.Files.faults c.read_dtd.new.files) (g.F.Files.misses c.args.files.now) (g.F.Files.misses c.read_dtd.new.files) in
    let name = normal c.in-File.name.now in
    let root = root_for (option_map (λ folder. folder.now) c.in-File.folder) name in
    let named = c.as_str-in-File-2.ensures.value ∙ c.in_ok-name-in-File.ensures in
    let rooted = c.as_str-in-File.ensures.value ∙ c.in_ok-root-in-File.ensures ∙ ap (root_for (option_map (λ folder. folder.now) c.in-File.folder)) (c.as_str.ensures.value ∙ c.in_ok-name-in-File.ensures) in (
      name,
      (
        root,
        ap type_of c.in-File.is,
        subst (λ r. IsCause call r name c.in-Err-read_dtd.refusal) rooted (subst (λ n. IsCause call c.as_str-in-File.result.now n c.in-Err-read_dtd.refusal) named c.in-Err-read_dtd.ensures.refused),
      ),
    )

pub returns-in-Ok-read_dtd-clause-ok : goal.returns-in-Ok-read_dtd-clause-ok
returns-in-Ok-read_dtd-clause-ok g c =
    let content = g.F.Files.content c.read_dtd.new.files in
    let name = normal c.in-File.name.now in
    let table = table_of c.in-Ok-read_dtd.dtd in
    let named = c.as_str-in-File-2.ensures.value ∙ c.in_ok-name-in-File.ensures in
    let rooted = c.as_str-in-File.ensures.value ∙ c.in_ok-root-in-File.ensures ∙ ap (root_for (option_map (λ folder. folder.now) c.in-File.folder)) (c.as_str.ensures.value ∙ c.in_ok-name-in-File.ensures) in
    subst (λ t. HasTable content t table) (sym (ap type_of c.in-File.is))
    (subst (λ r. DtdSpells content r name table) rooted (subst (λ n. DtdSpells content c.as_str-in-File.result.now n table) named c.in-Ok-read_dtd.ensures.spelled))
