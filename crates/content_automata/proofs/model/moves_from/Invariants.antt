use Rattle.std.proofs.Common.{◌≡◌, ◌+◌, drop}
use Rattle.content_automata.specs.PlaceViews.{positions_of}
use Rattle.content_automata.specs.Counts.{moves_from}
use Rattle.content_automata.proofs.model.moves_from.Given as goal

abbrev pub invariant-loop-member : goal.invariant-loop-member
invariant-loop-member l = l.sum + moves_from (positions_of l.places) (drop l.member-index l.members) ≡ moves_from (positions_of l.places) l.members
