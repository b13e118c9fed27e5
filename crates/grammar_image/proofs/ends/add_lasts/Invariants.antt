use Rattle.std.proofs.Common.{length}
use Rattle.grammar_image.proofs.LastLemmas.{AddsRest}
use Rattle.grammar_image.proofs.ends.add_lasts.Given as goal

abbrev pub invariant-loop-out : goal.invariant-loop-out
invariant-loop-out l = AddsRest l.fn.lasts.items l.lasts.items l.state l.fn.outs.items l.outs.items

abbrev pub decreases-loop-out : goal.decreases-loop-out
decreases-loop-out l = length l.outs.items
