use Rattle.std.proofs.Common.{◌∙◌, length, refl}
use Rattle.std.proofs.lemmas.Option.{slice_get_read}
use Rattle.op_bytes.proofs.EdgeLemmas.{first_none, productions_more, first_all}
use Rattle.op_bytes.proofs.steps.add_productions.Goals as goal

pub loop-p-init : goal.loop-p-init
loop-p-init c = record { len = refl; adds = first_none c.args.edges.now.items c.args.productions.now }

pub loop-p-preserved : goal.loop-p-preserved
loop-p-preserved c =
    let at = slice_get_read c.args.productions.now (length c.args.productions.now) c.loop-p.p-index c.p-item.result refl c.loop-p-test.true c.p-item.is in
    record {
      len = c.in_ok-add_production.ensures.len ∙ c.loop-p.invariant.len;
      adds = productions_more c.args.edges.now.items c.loop-p.edges.items c.add_production.new.edges.items c.args.productions.now c.loop-p.p-index c.p-item.result at c.loop-p.invariant.adds c.in_ok-add_production.ensures.adds;
    }

pub returns-clause-adds : goal.returns-clause-adds
returns-clause-adds c = first_all c.args.edges.now.items c.loop-p.edges.items c.args.productions.now c.loop-p.p-index c.loop-p-test.false c.loop-p.invariant.adds
