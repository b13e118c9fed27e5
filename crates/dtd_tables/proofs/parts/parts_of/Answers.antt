use Rattle.std.proofs.Common.{◌≡◌, subst}
use Rattle.dtd_texts.specs.Went.{leads}
use Rattle.dtd_texts.specs.Tables.{said}
use Rattle.dtd_declarations.specs.Views.{said_of, WentWrong}
use Rattle.dtd_tables.proofs.PartLemmas.{parts_at, wrong_at}
use Rattle.dtd_tables.proofs.parts.parts_of.Goals as goal

pub loop-one-preserved : goal.loop-one-preserved
loop-one-preserved c =
    parts_at c.args.names.now c.args.written.now c.loop-one.one-index c.one-item.result c.loop-one.parts c.put.new.parts (said_of c.in-Ok.said) c.loop-one-test.true c.one-item.is c.loop-one.invariant
    (subst (λ t. said c.args.names.now t ≡ leads (said_of c.in-Ok.said)) c.as_slice.ensures c.in-Ok.ensures) c.in_ok-put-in-Ok.ensures

pub returns-in-Err-clause-refused : goal.returns-in-Err-clause-refused
returns-in-Err-clause-refused c =
    wrong_at c.args.names.now c.args.written.now c.loop-one.one-index c.one-item.result c.in-Err.fault c.refusal_of.result c.loop-one.parts c.loop-one-test.true c.one-item.is c.requires.names c.requires.once c.loop-one.invariant
    (subst (λ t. WentWrong c.in-Err.fault (said c.args.names.now t)) c.as_slice.ensures c.in-Err.ensures) c.refusal_of.ensures
