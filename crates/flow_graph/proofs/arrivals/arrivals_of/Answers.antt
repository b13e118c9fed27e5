use Rattle.std.proofs.Common.{◌<◌, ◌++◌, ℕ, List, ◌∙◌, sym, subst, ap, map, length}
use Rattle.std.specs.List.{All}
use Rattle.flow_code.specs.View.{plain_flow_function}
use Rattle.flow_graph.specs.declared.arrivals.Arrival.{Arrival}
use Rattle.flow_graph.specs.Steps.{steps_seen}
use Rattle.flow_graph.specs.Arrivals.{target, from_functions, from_steps}
use Rattle.flow_graph.proofs.ArrivalLemmas.{targets_below}
use Rattle.flow_graph.proofs.arrivals.arrivals_of.Goals as goal

pub places_by-requires : goal.places_by-requires
places_by-requires c =
    let n = length c.args.steps.now in
    let steps = from_steps n 0 (steps_seen c.args.steps.now) in
    let functions = from_functions n 0 (map plain_flow_function c.args.functions.now) in
    let first = c.in_ok-put_steps.ensures ∙ ap (λ (xs : List (ℕ × Arrival)). xs ++ steps) c.new-all.ensures.items in
    let both = c.in_ok-put_functions.ensures ∙ ap (λ (xs : List (ℕ × Arrival)). xs ++ functions) first in
    subst (λ (ks : List ℕ). All (λ k. k < n) ks) (sym (c.deref-2.ensures.value ∙ c.in_ok-points.ensures ∙ ap (map target) (c.deref.ensures.value ∙ both)))
    (targets_below n (steps_seen c.args.steps.now) (map plain_flow_function c.args.functions.now))
