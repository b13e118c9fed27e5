use Rattle.std.proofs.Common.{arith}
use Rattle.std.proofs.lemmas.List.{nil_from_length}
use Rattle.grammar_image.proofs.LastLemmas.{adds_none, adds_more, adds_done}
use Rattle.grammar_image.proofs.ends.add_lasts.Goals as goal

pub loop-out-init : goal.loop-out-init
loop-out-init c = adds_none _ _ _

pub loop-out-preserved : goal.loop-out-preserved
loop-out-preserved c =
    adds_more c.args.lasts.now.items c.loop-out.lasts.items c.push.new.self.items c.args.state c.args.outs.items c.loop-out.outs.items c.pop.new.self.items c.in-Some.out c.loop-out.invariant c.in-Some.ensures.items c.in_ok-push.ensures.items

pub returns : goal.returns
returns c =
    adds_done c.args.lasts.now.items c.loop-out.lasts.items c.args.state c.args.outs.items c.loop-out.outs.items (nil_from_length _ (omega (arith, c.loop-out.outs.ok.0, c.in_default.ensures.cases.0))) c.loop-out.invariant
