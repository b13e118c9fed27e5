use Rattle.std.proofs.Common.{◌≡◌, ◌<◌, ◌≤◌, ℕ, List, IsTrue, length, map, get_or, ap, sym, subst, arith}
use Rattle.std.specs.List.{list_all}
use Rattle.std.specs.declared.vec.Vec.{Vec}
use Rattle.std.specs.declared.alloc.Global.{Global}
use Rattle.fst_core.specs.Fits.{is_fixed}
use Rattle.fst_core.specs.declared.out.Out.{Out}
use Rattle.fst_core.specs.declared.moves.TableEnd.{TableEnd}
use Rattle.fst_core.proofs.OfferLemmas.{LastsFirst, lasts_none, lasts_more, out_fixed}
use Rattle.fst_core.proofs.IndexLemmas.{of_key, in_turn, as_many, placed_within, placed_is, last_more, last_all, own_lasts}
use Rattle.fst_core.proofs.indexed.IndexedTable.lasts_of.Goals as goal

pub index-requires-in-loop-place : goal.index-requires-in-loop-place
index-requires-in-loop-place c =
    let self = c.args.self.now in
    let ends = self.table.ends.items in
    let key : TableEnd → ℕ = λ e. e.state in
    let inside : c.args.state < length self.end_places.items = omega (arith, c.requires, self.ends_len, self.end_places.ok.0) in
    let is = in_turn (map key ends) self.end_places.items c.args.state c.index.result.now c.deref-place-items.result.now self.ends_order inside c.index.ensures c.deref-place-items.ensures.value in
    omega (arith, placed_within key ends c.args.state c.deref-place-items.result.now c.loop-place.place-index is c.loop-place-test.true, self.table.ends.ok.0)

pub loop-place-init : goal.loop-place-init
loop-place-init c =
    let own = of_key (λ (e : TableEnd). e.state) c.args.self.now.table.ends.items c.args.state in
    record {
      first = subst (λ (x : List (Vec Out Global)). LastsFirst own 0 x c.args.state) (sym c.new-lasts.ensures.items) (lasts_none own c.args.state);
      once = ap (map (λ (x : Vec Out Global). x.items)) c.new-lasts.ensures.items;
    }

pub loop-place-preserved : goal.loop-place-preserved
loop-place-preserved c =
    let self = c.args.self.now in
    let table = self.table in
    let ends = table.ends.items in
    let key : TableEnd → ℕ = λ e. e.state in
    let own = of_key (λ (e : TableEnd). e.state) ends c.args.state in
    let places = c.deref-place-items.result.now in
    let i = c.loop-place.place-index in
    let inside : c.args.state < length self.end_places.items = omega (arith, c.requires, self.ends_len, self.end_places.ok.0) in
    let is = in_turn (map key ends) self.end_places.items c.args.state c.index.result.now places self.ends_order inside c.index.ensures c.deref-place-items.ensures.value in
    let e : TableEnd = c.index-in-loop-place.result.now in
    let found : e ≡ get_or ends (get_or places i 0) e = c.index-in-loop-place.ensures in
    let same : e ≡ get_or own i e = placed_is key ends c.args.state places i e is c.loop-place-test.true found in
    let within : i < length own = omega (arith, c.loop-place-test.true, as_many key ends c.args.state places is) in
    let fixed : IsTrue (list_all is_fixed e.out.items) = subst (λ (x : TableEnd). IsTrue (list_all is_fixed x.out.items)) (sym found) (out_fixed table.states ends (get_or places i 0) e table.ends_fit (placed_within key ends c.args.state places i is c.loop-place-test.true)) in
    let more = c.in_ok-offer_last.ensures in
    record {
      first = lasts_more own i e c.loop-place.lasts.items c.offer_last.new.lasts.items c.args.state within same fixed c.loop-place.invariant.first more.more;
      once = last_more own i e c.loop-place.lasts.items c.offer_last.new.lasts.items c.args.state within same c.loop-place.invariant.once more.once;
    }

pub returns-clause-exact : goal.returns-clause-exact
returns-clause-exact c =
    let self = c.args.self.now in
    let ends = self.table.ends.items in
    let key : TableEnd → ℕ = λ e. e.state in
    let places = c.deref-place-items.result.now in
    let inside : c.args.state < length self.end_places.items = omega (arith, c.requires, self.ends_len, self.end_places.ok.0) in
    let is = in_turn (map key ends) self.end_places.items c.args.state c.index.result.now places self.ends_order inside c.index.ensures c.deref-place-items.ensures.value in
    let past : length (of_key (λ (e : TableEnd). e.state) ends c.args.state) ≤ c.loop-place.place-index = omega (arith, c.loop-place-test.false, as_many key ends c.args.state places is) in
    own_lasts ends c.loop-place.place-index c.loop-place.lasts.items c.args.state past c.loop-place.invariant.first

pub returns-clause-once : goal.returns-clause-once
returns-clause-once c =
    let self = c.args.self.now in
    let ends = self.table.ends.items in
    let key : TableEnd → ℕ = λ e. e.state in
    let places = c.deref-place-items.result.now in
    let inside : c.args.state < length self.end_places.items = omega (arith, c.requires, self.ends_len, self.end_places.ok.0) in
    let is = in_turn (map key ends) self.end_places.items c.args.state c.index.result.now places self.ends_order inside c.index.ensures c.deref-place-items.ensures.value in
    let past : length (of_key (λ (e : TableEnd). e.state) ends c.args.state) ≤ c.loop-place.place-index = omega (arith, c.loop-place-test.false, as_many key ends c.args.state places is) in
    last_all ends c.loop-place.place-index c.loop-place.lasts.items c.args.state past c.loop-place.invariant.once
