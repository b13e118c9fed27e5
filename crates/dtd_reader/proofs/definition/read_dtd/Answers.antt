use Rattle.std.proofs.Common.{rules, ◌≡◌, ◌∙◌, map, sym, ap, subst, IfErr}
use Rattle.std.specs.Prelude.{Err}
use Rattle.dtd_model.specs.Table.{rule_of}
use Rattle.dtd_model.specs.TableOf.{table_of}
use Rattle.dtd_entities.specs.Positions.{state_of, written_of}
use Rattle.dtd_tables.specs.Spelled.{IsTable}
use Rattle.dtd_tables.specs.Causes.{IsTableCause}
use Rattle.dtd_reader.specs.Source.{SourceCall, source_call}
use Rattle.dtd_reader.specs.Choices.{have_large}
use Rattle.dtd_reader.specs.Refusals.{IsCause}
use Rattle.dtd_reader.proofs.Definitions.{general_names, spells, read_cause, table_cause, large_cause}
use Rattle.dtd_reader.proofs.definition.read_dtd.Goals as goal

pub table_of-requires : goal.table_of-requires
table_of-requires g c = general_names _ _ _ (state_of c.in_ok-reading.reading) c.in_ok-reading.ensures.answer.0

pub returns-in_err-reading-clause-refused : goal.returns-in_err-reading-clause-refused
returns-in_err-reading-clause-refused g c =
    let call : SourceCall = source_call (g.F.Files.content c.read_text.new.files) (g.F.Files.faults c.args.files.now) (g.F.Files.faults c.read_text.new.files) (g.F.Files.misses c.args.files.now) (g.F.Files.misses c.read_text.new.files) in
    let is : c.from_residual.result ≡ Err c.in_err-reading.field-0.0 = search rules in
    subst (λ r. IfErr r (IsCause call c.args.root.now c.args.name.now)) (sym is) (read_cause call c.args.root.now c.args.name.now c.in_err-reading.field-0.0 c.in_err-reading.ensures.answer)

pub returns-in-Ok-clause-spelled : goal.returns-in-Ok-clause-spelled
returns-in-Ok-clause-spelled g c =
    spells (g.F.Files.content c.read_text.new.files) c.args.root.now c.args.name.now (state_of c.in_ok-reading.reading) (table_of c.in-Ok.dtd) c.in_ok-reading.ensures.answer.0
    (subst (λ ws. IsTable (map written_of ws) c.in_ok-reading.reading.generals.keys (table_of c.in-Ok.dtd)) c.as_slice.ensures.value c.in-Ok.ensures.table)

pub returns-then-large-clause-refused : goal.returns-then-large-clause-refused
returns-then-large-clause-refused g c =
    let call : SourceCall = source_call (g.F.Files.content c.read_text.new.files) (g.F.Files.faults c.args.files.now) (g.F.Files.faults c.read_text.new.files) (g.F.Files.misses c.args.files.now) (g.F.Files.misses c.read_text.new.files) in
    large_cause call c.args.root.now c.args.name.now (state_of c.in_ok-reading.reading) (table_of c.in-Ok.dtd) c.have_large_choice-large.result c.in_ok-reading.ensures.answer.0 c.in_ok-reading.ensures.answer.1
    (subst (λ ws. IsTable (map written_of ws) c.in_ok-reading.reading.generals.keys (table_of c.in-Ok.dtd)) c.as_slice.ensures.value c.in-Ok.ensures.table)
    (c.have_large_choice-large.ensures ∙ ap (λ es. have_large (map rule_of es)) c.as_slice-in-Ok.ensures.value) c.if-large.true

pub returns-clause-refused : goal.returns-clause-refused
returns-clause-refused g c =
    let call : SourceCall = source_call (g.F.Files.content c.read_text.new.files) (g.F.Files.faults c.args.files.now) (g.F.Files.faults c.read_text.new.files) (g.F.Files.misses c.args.files.now) (g.F.Files.misses c.read_text.new.files) in
    table_cause call c.args.root.now c.args.name.now (state_of c.in_ok-reading.reading) c.in-Err.refusal c.refusal_of.result c.refusal_of.ensures c.in_ok-reading.ensures.answer.0 c.in_ok-reading.ensures.answer.1
    (subst (λ ws. IsTableCause (map written_of ws) c.in-Err.refusal) c.as_slice.ensures.value c.in-Err.ensures.refused)

pub returns-in-Ok-clause-few : goal.returns-in-Ok-clause-few
returns-in-Ok-clause-few g c = ap (λ es. have_large (map rule_of es)) (sym c.as_slice-in-Ok.ensures.value) ∙ sym c.have_large_choice-large.ensures ∙ c.if-large.false
