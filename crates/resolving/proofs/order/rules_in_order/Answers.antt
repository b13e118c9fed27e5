use Rattle.std.proofs.lemmas.List.Sorted.{IsNonDecreasingBy-from_sort_by_key}
use Rattle.resolving.specs.declared.order.Ranked.{Ranked}
use Rattle.resolving.proofs.OrderLemmas.{ranked_sorted}
use Rattle.resolving.proofs.order.rules_in_order.Goals as goal
use Rattle.std.proofs.Common.{rules}

pub returns : goal.returns
returns c =
    ranked_sorted c.args.s.now c.args.numbers.now c.in_ok-order.order.items _ c.in_ok-sort_by_key.ensures.permutation
    (IsNonDecreasingBy-from_sort_by_key (λ (r : Ranked). r.number) _ c.in_ok-sort_by_key.ensures.sorted (λ a r q k. search rules))
    c.in_ok-order.ensures
