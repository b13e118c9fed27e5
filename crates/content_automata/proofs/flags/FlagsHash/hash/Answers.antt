use Rattle.std.proofs.Common.{◌∙◌, ap, sym}
use Rattle.content_automata.specs.Sets.{members}
use Rattle.content_automata.proofs.AscendingLemmas.{members_are}
use Rattle.content_automata.proofs.flags.FlagsHash.hash.Goals as goal

pub returns : goal.returns
returns g c =
    let same = c.as_slice.ensures.value ∙ sym (members_are c.self.inside.end c.self.inside.count c.self.inside.members.items c.self.invariant) ∙ ap members c.self.view_is in
    rw (← same) c.hash.ensures
