use Rattle.std.proofs.Common.{◌∙◌, ap, Bool, ◌&&◌, nat_eq}
use Rattle.std.specs.Bool.{beq}
use Rattle.content_automata.proofs.AscendingLemmas.{views_decide}
use Rattle.content_automata.proofs.flags.FlagsPartialEq.eq.Goals as goal

pub returns : goal.returns
returns c =
    views_decide c.self.inside.end c.other.inside.end c.self.inside.count c.other.inside.count c.self.inside.members.items c.other.inside.members.items _ _ _ _ _ c.self.invariant c.other.invariant c.self.view_is c.other.view_is c.as_slice.ensures.value c.as_slice-2.ensures.value
    (c.all_three.ensures ∙ ap (λ (b : Bool). (beq c.self.inside.end c.other.inside.end && nat_eq c.self.inside.count c.other.inside.count) && b) c.eq-same_members.ensures)
