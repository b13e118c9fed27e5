use Rattle.std.proofs.Common.{◌≡◌, Some, refl, sym, subst, slice_get}
use Rattle.flow_graph.proofs.HeadLemmas.{looked}
use Rattle.ssa_form.specs.declared.version.Version.{Version}
use Rattle.ssa_form.specs.Views.{version_seen}
use Rattle.ssa_form.specs.Replacing.{Replaces}
use Rattle.ssa_form.proofs.places.place_of.Goals as goal

pub returns-in-Some-get : goal.returns-in-Some-get
returns-in-Some-get c flow are =
    let asks = c.args.asks.now.keys in
    let at = c.in-Some-get.ensures.lookup in
    let there : slice_get c.args.places.now c.in-Some.number ≡ Some c.in-Some-get.place.now = looked c.args.places.now c.args.places.now c.in-Some.number c.in-Some-get.place.now refl at.0 at.1 in
    subst (λ (v : Version). Replaces flow asks (version_seen v) (version_seen c.in-Some-get.place.now)) (sym c.in-Join.is)
    (are c.in-Some.number c.in-Join.point.0 c.in-Join.slot.0 c.in-Some-get.place.now c.in-Some.ensures.some there)
