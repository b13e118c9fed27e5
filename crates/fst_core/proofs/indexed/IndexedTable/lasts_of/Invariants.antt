use Rattle.std.proofs.Common.{◌≡◌, map, take}
use Rattle.std.specs.declared.vec.Vec.{Vec}
use Rattle.std.specs.declared.alloc.Global.{Global}
use Rattle.fst_core.specs.Choices.{stops}
use Rattle.fst_core.specs.declared.out.Out.{Out}
use Rattle.fst_core.proofs.OfferLemmas.{LastsFirst}
use Rattle.fst_core.proofs.IndexLemmas.{of_key}
use Rattle.fst_core.specs.declared.moves.TableEnd.{TableEnd}
use Rattle.fst_core.proofs.indexed.IndexedTable.lasts_of.Given as goal

abbrev pub invariant-loop-place : goal.invariant-loop-place
invariant-loop-place l =
    let own = of_key (λ (e : TableEnd). e.state) l.self.table.ends.items l.state in
    record {
      first : LastsFirst own l.place-index l.lasts.items l.state;
      once : map (λ (x : Vec Out Global). x.items) l.lasts.items ≡ stops (take l.place-index own) l.state;
    }
