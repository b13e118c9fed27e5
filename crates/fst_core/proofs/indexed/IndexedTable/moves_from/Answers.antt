use Rattle.std.proofs.Common.{◌≡◌, ◌<◌, ◌≤◌, ℕ, List, length, map, get_or, ap, sym, subst, arith}
use Rattle.fst_core.specs.Offers.{offer_of}
use Rattle.fst_core.specs.declared.machine.Move.{Move}
use Rattle.fst_core.specs.declared.moves.TableMove.{TableMove}
use Rattle.fst_core.proofs.OfferLemmas.{OffersFirst, offers_none, offers_more, to_within}
use Rattle.fst_core.proofs.IndexLemmas.{of_key, in_turn, as_many, placed_within, placed_is, once_more, once_all, own_offers}
use Rattle.fst_core.proofs.indexed.IndexedTable.moves_from.Goals as goal

pub index-requires-in-loop-place : goal.index-requires-in-loop-place
index-requires-in-loop-place c =
    let self = c.args.self.now in
    let moves = self.table.moves.items in
    let key : TableMove → ℕ = λ m. m.from in
    let inside : c.args.state < length self.move_places.items = omega (arith, c.requires, self.moves_len, self.move_places.ok.0) in
    let is = in_turn (map key moves) self.move_places.items c.args.state c.index.result.now c.deref-place-items.result.now self.moves_order inside c.index.ensures c.deref-place-items.ensures.value in
    omega (arith, placed_within key moves c.args.state c.deref-place-items.result.now c.loop-place.place-index is c.loop-place-test.true, self.table.moves.ok.0)

pub loop-place-init : goal.loop-place-init
loop-place-init c =
    let table = c.args.self.now.table in
    let own = of_key (λ (m : TableMove). m.from) table.moves.items c.args.state in
    record {
      first = subst (λ (x : List (Move ℕ)). OffersFirst own 0 x c.args.state table.states c.args.range) (sym c.new-moves.ensures.items) (offers_none own c.args.state table.states c.args.range);
      once = ap (map offer_of) c.new-moves.ensures.items;
    }

pub loop-place-preserved : goal.loop-place-preserved
loop-place-preserved c =
    let self = c.args.self.now in
    let table = self.table in
    let moves = table.moves.items in
    let key : TableMove → ℕ = λ m. m.from in
    let own = of_key (λ (m : TableMove). m.from) moves c.args.state in
    let places = c.deref-place-items.result.now in
    let i = c.loop-place.place-index in
    let inside : c.args.state < length self.move_places.items = omega (arith, c.requires, self.moves_len, self.move_places.ok.0) in
    let is = in_turn (map key moves) self.move_places.items c.args.state c.index.result.now places self.moves_order inside c.index.ensures c.deref-place-items.ensures.value in
    let m : TableMove = c.index-in-loop-place.result.now in
    let found : m ≡ get_or moves (get_or places i 0) m = c.index-in-loop-place.ensures in
    let same : m ≡ get_or own i m = placed_is key moves c.args.state places i m is c.loop-place-test.true found in
    let within : i < length own = omega (arith, c.loop-place-test.true, as_many key moves c.args.state places is) in
    let to = to_within table.states moves (get_or places i 0) m table.moves_fit (placed_within key moves c.args.state places i is c.loop-place-test.true) in
    let fits : m.to < table.states = omega (arith, to, ap (λ (x : TableMove). x.to) found) in
    let e = c.in_ok-offer.ensures in
    record {
      first = offers_more own i m c.loop-place.moves.items c.offer.new.moves.items c.args.state table.states c.args.range within same fits c.loop-place.invariant.first e.more;
      once = once_more own i m c.loop-place.moves.items c.offer.new.moves.items c.args.state c.args.range within same c.loop-place.invariant.once e.once;
    }

pub returns-clause-exact : goal.returns-clause-exact
returns-clause-exact c =
    let self = c.args.self.now in
    let moves = self.table.moves.items in
    let key : TableMove → ℕ = λ m. m.from in
    let places = c.deref-place-items.result.now in
    let inside : c.args.state < length self.move_places.items = omega (arith, c.requires, self.moves_len, self.move_places.ok.0) in
    let is = in_turn (map key moves) self.move_places.items c.args.state c.index.result.now places self.moves_order inside c.index.ensures c.deref-place-items.ensures.value in
    let past : length (of_key (λ (m : TableMove). m.from) moves c.args.state) ≤ c.loop-place.place-index = omega (arith, c.loop-place-test.false, as_many key moves c.args.state places is) in
    own_offers moves c.loop-place.place-index c.loop-place.moves.items c.args.state self.table.states c.args.range past c.loop-place.invariant.first

pub returns-clause-once : goal.returns-clause-once
returns-clause-once c =
    let self = c.args.self.now in
    let moves = self.table.moves.items in
    let key : TableMove → ℕ = λ m. m.from in
    let places = c.deref-place-items.result.now in
    let inside : c.args.state < length self.move_places.items = omega (arith, c.requires, self.moves_len, self.move_places.ok.0) in
    let is = in_turn (map key moves) self.move_places.items c.args.state c.index.result.now places self.moves_order inside c.index.ensures c.deref-place-items.ensures.value in
    let past : length (of_key (λ (m : TableMove). m.from) moves c.args.state) ≤ c.loop-place.place-index = omega (arith, c.loop-place-test.false, as_many key moves c.args.state places is) in
    once_all moves c.loop-place.place-index c.loop-place.moves.items c.args.state c.args.range past c.loop-place.invariant.once
