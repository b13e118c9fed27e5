use Rattle.std.proofs.Common.{refl}
use Rattle.ssa_form.proofs.ReadLemmas.{one_read}
use Rattle.ssa_form.proofs.marks.read.Goals as goal

pub returns : goal.returns
returns c =
    one_read c.args.marks.now _ c.args.head c.args.point c.args.slot c.found-version.result refl c.found-version.ensures c.in_ok-ask.ensures.kept c.in_ok-ask.ensures.keeps c.in_ok-ask.ensures.adds
    c.in_ok-put.ensures
