use Rattle.std.proofs.Common.{◌∙◌, None}
use Rattle.content_automata.proofs.AscendingLemmas.{member_below}
use Rattle.content_automata.proofs.RangeLemmas.{replicate_range}
use Rattle.content_automata.proofs.SetLemmas.{gathered_more}
use Rattle.content_automata.proofs.sets.gathered.Goals as goal

pub loop-member-init : goal.loop-member-init
loop-member-init c = c.in_ok-slots.ensures ∙ replicate_range None 0 c.args.elements

pub place_of-requires : goal.place_of-requires
place_of-requires c = member_below _ _ _ _ _ c.requires c.loop-member-test.true

pub loop-member-preserved : goal.loop-member-preserved
loop-member-preserved c = gathered_more _ _ _ _ _ _ _ c.loop-member.invariant c.place_of.ensures c.in_ok-gather.ensures c.loop-member-test.true
