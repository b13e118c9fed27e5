use Rattle.std.proofs.Common.{◌∙◌, ap, sym}
use Rattle.content_automata.specs.Sets.{members}
use Rattle.content_automata.proofs.AscendingLemmas.{members_are, ascends_to}
use Rattle.content_automata.proofs.flags.Flags.members.Goals as goal

pub returns-clause-members : goal.returns-clause-members
returns-clause-members c =
    c.as_slice.ensures.value ∙ sym (members_are c.self.inside.end c.self.inside.count c.self.inside.members.items c.self.invariant) ∙ ap members c.self.view_is

pub returns-clause-ascends : goal.returns-clause-ascends
returns-clause-ascends c = λ n long. ascends_to c.self.inside.end c.self.inside.count n c.self.inside.members.items _ _ c.self.invariant c.self.view_is c.as_slice.ensures.value long
