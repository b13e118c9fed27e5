use Rattle.std.proofs.Common.{length, refl}
use Rattle.std.proofs.lemmas.Option.{slice_get_read}
use Rattle.cfg_grammar.proofs.ByteLemmas.{first_more, first_all}
use Rattle.cfg_grammar.proofs.bytes.productions_fit.Goals as goal

pub loop-p-preserved : goal.loop-p-preserved
loop-p-preserved c =
    let at = slice_get_read c.args.productions.now (length c.args.productions.now) c.loop-p.p-index c.p-item.result refl c.loop-p-test.true c.p-item.is in
    first_more c.args.productions.now c.loop-p.p-index c.p-item.result at c.loop-p.invariant c.production_fits.ensures

pub returns : goal.returns
returns c = first_all c.args.productions.now c.loop-p.p-index c.loop-p-test.false c.loop-p.invariant
