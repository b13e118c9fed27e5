use Rattle.std.proofs.Common.{◌∙◌, ap, sym, subst}
use Rattle.content_automata.proofs.AscendingLemmas.{ascending_ascends, set_made}
use Rattle.content_automata.specs.Ascending.{Ascends, ascending}
use Rattle.content_automata.proofs.sets.set_of.Goals as goal

pub new-requires : goal.new-requires
new-requires c = subst (Ascends 0 c.args.count) (sym c.in_ok-members.ensures) (ascending_ascends c.as_slice-2.result.now 0 c.args.count)

pub returns : goal.returns
returns c =
    set_made c.args.next.now.whole c.args.count c.args.next.now.positions.items _ _ _ _ (c.in_ok-sorted.ensures.items ∙ c.as_slice.ensures.value) c.sort_unstable.ensures.permutation c.sort_unstable.ensures.sorted (c.in_ok-members.ensures ∙ ap (ascending 0 c.args.count) c.as_slice-2.ensures.value) c.new.ensures
