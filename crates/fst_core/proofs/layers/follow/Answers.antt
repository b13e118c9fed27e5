use Rattle.std.proofs.Common.{◌≡◌, Some, None, slice_get, ap, sym, ◌∙◌, Vec, Global, ℕ, subst, All, ◌<◌, length, List}
use Rattle.std.specs.Option.{option_copied}
use Rattle.fst_core.proofs.ChoiceLemmas.{got_copied}
use Rattle.fst_core.proofs.LayerLemmas.{places_within, by_places, no_places, or_same}
use Rattle.fst_core.proofs.layers.follow.Goals as goal

pub try_moves-requires : goal.try_moves-requires
try_moves-requires c =
    let found : slice_get c.args.index.now c.args.reached.state ≡ Some c.in-Some.places.now = sym (got_copied _ _ _ c.get.ensures.lookup) ∙ ap (option_copied {T = Vec ℕ Global}) c.in-Some.is in
    let within = places_within c.args.table.now.moves.items _ _ _ c.requires found in
    subst (λ (x : List ℕ). All (λ i. i < length c.args.table.now.moves.items) x) (sym c.as_slice.ensures.value) within

pub returns : goal.returns
returns c = λ text.
    let found : slice_get c.args.index.now c.args.reached.state ≡ Some c.in-Some.places.now = sym (got_copied _ _ _ c.get.ensures.lookup) ∙ ap (option_copied {T = Vec ℕ Global}) c.in-Some.is in
    or_same (rw c.as_slice.ensures.value at (c.in_ok-try_moves.ensures text)) (by_places c.args.table.now c.args.index.now c.args.reached c.in-Some.places.now c.args.byte text c.args.output.now c.requires found)

pub returns-in_default : goal.returns-in_default
returns-in_default c = λ text.
    let none : slice_get c.args.index.now c.args.reached.state ≡ None = sym (got_copied _ _ _ c.get.ensures.lookup) ∙ ap (option_copied {T = Vec ℕ Global}) c.in_default.is in
    no_places c.args.table.now c.args.index.now c.args.reached c.args.next.now.keys c.args.byte text c.args.output.now c.requires none
