use Rattle.std.proofs.Common.{rules, ◌≡◌, IfErr, refl, sym, subst}
use Rattle.std.specs.Prelude.{Err}
use Rattle.dtd_model.specs.TableOf.{table_of}
use Rattle.dtd_texts.specs.Spells.{DtdSpells}
use Rattle.dtd_reader.specs.Source.{source_call}
use Rattle.dtd_reader.specs.Refusals.{IsCause}
use Rattle.document_types.specs.Strict.{file_name, file_root, IsRefused}
use Rattle.document_types.proofs.Alone.{alone_stays}
use Rattle.document_types.proofs.built_in.read_strict.Goals as goal

pub returns-in_err-dtd-clause-refused : goal.returns-in_err-dtd-clause-refused
returns-in_err-dtd-clause-refused c =
    let is : c.from_residual.result ≡ Err c.in_err-dtd.field-0.0 = search rules in
    let same = alone_stays file_name c.args.text _ c.in_err-dtd.ensures.stays in
    subst (λ r. IfErr r (IsRefused c.args.text)) (sym is)
    (c.read_dtd.new.files.misses, subst (λ k. IsCause (source_call k 0 0 0 c.read_dtd.new.files.misses) file_root file_name c.in_err-dtd.field-0.0) same c.in_err-dtd.ensures.refused)

pub returns-clause-strict : goal.returns-clause-strict
returns-clause-strict c =
    let same = alone_stays file_name c.args.text _ c.in_ok-dtd.ensures.stays in
    let p = subst (λ k. DtdSpells k file_root file_name (table_of c.in_ok-dtd.dtd)) same c.in_ok-dtd.ensures.spelled in
    record {
      spelled = record { file = p.file; held = p.held; last = p.last; read = p.read; says = p.says; said = p.said; elements = p.elements; entities = p.entities; doctype = refl };
      doctype = refl;
    }
