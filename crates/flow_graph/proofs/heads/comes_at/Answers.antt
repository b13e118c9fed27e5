use Rattle.std.proofs.Common.{◌≡◌, ◌∙◌, ℕ, Some, None, sym, ap, refl, slice_get}
use Rattle.std.proofs.lemmas.Option.{same_Some}
use Rattle.flow_graph.specs.declared.arrivals.Arrival.{Arrival}
use Rattle.flow_graph.proofs.HeadLemmas.{looked, looked_past, none_some}
use Rattle.flow_graph.proofs.heads.comes_at.Goals as goal

pub returns-in-Some : goal.returns-in-Some
returns-in-Some c =
    let at = c.in-Some.ensures.lookup in
    let arrival = c.in-Some.arrival.now in
    let found : slice_get c.args.all.now c.args.place ≡ Some arrival = looked c.args.all.now c.args.all.now c.args.place arrival refl at.0 at.1 in (
      λ e p a f. ap (λ (y : ℕ × Arrival). y.1) (same_Some (p, a) arrival (sym f ∙ found)) ∙ c.is_edge_from.ensures.0 e,
      λ from. c.is_edge_from.ensures.1 (from arrival.0 arrival.1 found),
    )

pub returns-in-None : goal.returns-in-None
returns-in-None c =
    let none : slice_get c.args.all.now c.args.place ≡ None = looked_past c.args.all.now c.args.place c.in-None.ensures.lookup.0 in
    (λ e p a f. absurd (none_some (p, a) (slice_get c.args.all.now c.args.place) none f), λ from. refl)
