use Rattle.std.proofs.Common.{◌≡◌, map, take}
use Rattle.fst_core.specs.Offers.{offer_of, offers_of}
use Rattle.fst_core.proofs.OfferLemmas.{OffersFirst}
use Rattle.fst_core.proofs.IndexLemmas.{of_key}
use Rattle.fst_core.specs.declared.moves.TableMove.{TableMove}
use Rattle.fst_core.proofs.indexed.IndexedTable.moves_from.Given as goal

abbrev pub invariant-loop-place : goal.invariant-loop-place
invariant-loop-place l =
    let own = of_key (λ (m : TableMove). m.from) l.self.table.moves.items l.state in
    record {
      first : OffersFirst own l.place-index l.moves.items l.state l.self.table.states l.range;
      once : map offer_of l.moves.items ≡ offers_of (take l.place-index own) l.state l.range;
    }
