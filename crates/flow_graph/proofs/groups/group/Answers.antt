use Rattle.std.proofs.Common.{◌≡◌, ◌<◌, ℕ, List, length, rules, sym, subst}
use Rattle.std.specs.List.{All}
use Rattle.flow_graph.proofs.GroupLemmas.{owners_below, groups}
use Rattle.numbered_sets.specs.Places.{ArePlaces, AreInOrder}
use Rattle.flow_graph.proofs.groups.group.Goals as goal

pub places_by-requires : goal.places_by-requires
places_by-requires c =
    subst (λ (os : List ℕ). All (λ (k : ℕ). k < c.count.result) os) (sym c.deref.ensures.value)
    (subst (λ (n : ℕ). All (λ (k : ℕ). k < n) c.in_ok-owners.owners.items) (sym c.count.ensures.length) (owners_below c.args.all.now c.owners_of.new.keys.keys c.in_ok-owners.owners.items c.in_ok-owners.ensures))

pub returns : goal.returns
returns c =
    let long : length c.in_ok-places.places.items ≡ length c.owners_of.new.keys.keys = search rules in
    groups c.args.all.now c.owners_of.new.keys.keys c.in_ok-owners.owners.items c.in_ok-places.places.items c.in_ok-owners.ensures c.count.ensures.different long
    (subst (λ (os : List ℕ). ArePlaces os c.in_ok-places.places.items) c.deref.ensures.value c.in_ok-places.ensures.exact)
    (subst (λ (os : List ℕ). AreInOrder os c.in_ok-places.places.items) c.deref.ensures.value c.in_ok-places.ensures.order)
