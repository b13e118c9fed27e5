use Rattle.content_automata.proofs.AscendingLemmas.{member_below}
use Rattle.content_automata.proofs.model.moves_from.Goals as goal

pub place_of-requires : goal.place_of-requires
place_of-requires c = member_below _ _ _ _ _ c.requires c.loop-member-test.true
