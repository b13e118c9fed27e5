use Rattle.std.proofs.Common.{rules, ◌≡◌, map, sym, subst, IfErr}
use Rattle.std.specs.Prelude.{Err}
use Rattle.dtd_entities.specs.Positions.{written_of}
use Rattle.dtd_texts.specs.Tables.{element_names}
use Rattle.dtd_tables.specs.Views.{IsNameCause}
use Rattle.dtd_tables.proofs.NameLemmas.{names_at, refused_at}
use Rattle.dtd_tables.proofs.names.names_of.Goals as goal

pub loop-one-preserved : goal.loop-one-preserved
loop-one-preserved c = names_at _ _ c.args.written.now c.loop-one.one-index c.one-item.result c.loop-one-test.true c.one-item.is c.loop-one.invariant c.in_ok-put.ensures

pub returns-in_err-put-clause-refused : goal.returns-in_err-put-clause-refused
returns-in_err-put-clause-refused c =
    let is : c.from_residual.result ≡ Err c.in_err-put.field-0.0 = search rules in
    subst (λ r. IfErr r (IsNameCause (element_names (map written_of c.args.written.now)))) (sym is)
    (refused_at _ _ c.args.written.now c.loop-one.one-index c.one-item.result c.in_err-put.field-0.0 c.loop-one-test.true c.one-item.is c.loop-one.invariant c.in_err-put.ensures)
