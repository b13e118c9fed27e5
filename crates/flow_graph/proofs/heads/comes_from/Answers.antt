use Rattle.std.proofs.Common.{ℕ, List, sym, subst}
use Rattle.flow_graph.specs.declared.arrivals.Arrival.{Arrival}
use Rattle.flow_graph.specs.Heads.{ComesFromAt}
use Rattle.flow_graph.proofs.HeadLemmas.{looked, from_places, at_places}
use Rattle.flow_graph.proofs.heads.comes_from.Goals as goal

pub returns-in-Some-clause-yes : goal.returns-in-Some-clause-yes
returns-in-Some-clause-yes c e =
    let arrivals = c.args.arrivals.now in
    let at = c.in-Some.ensures.lookup in
    let places = c.in-Some.places.now in
    from_places arrivals.all.items arrivals.at.items c.args.point c.args.before places c.requires (looked arrivals.at.items c.deref.result.now c.args.point places c.deref.ensures.value at.0 at.1)
    (subst (λ (xs : List (ℕ × Arrival)). ComesFromAt xs places.items c.args.before) c.deref-in-Some.ensures.value
    (subst (λ (ps : List ℕ). ComesFromAt c.deref-in-Some.result.now ps c.args.before) c.deref-in-Some-2.ensures.value (c.come_from.ensures.0 e)))

pub returns-in-Some-clause-no : goal.returns-in-Some-clause-no
returns-in-Some-clause-no c less from =
    let arrivals = c.args.arrivals.now in
    let at = c.in-Some.ensures.lookup in
    let places = c.in-Some.places.now in
    c.come_from.ensures.1 (subst (λ (ps : List ℕ). ComesFromAt c.deref-in-Some.result.now ps c.args.before) (sym c.deref-in-Some-2.ensures.value)
    (subst (λ (xs : List (ℕ × Arrival)). ComesFromAt xs places.items c.args.before) (sym c.deref-in-Some.ensures.value)
    (at_places arrivals.all.items arrivals.at.items c.args.point c.args.before places c.requires (looked arrivals.at.items c.deref.result.now c.args.point places c.deref.ensures.value at.0 at.1) from)))
