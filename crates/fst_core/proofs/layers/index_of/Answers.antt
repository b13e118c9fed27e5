use Rattle.std.proofs.Common.{◌<◌, length, arith}
use Rattle.std.specs.List.{All}
use Rattle.fst_core.specs.declared.moves.TableMove.{TableMove}
use Rattle.fst_core.proofs.LayerLemmas.{index_of, from_within}
use Rattle.fst_core.proofs.layers.index_of.Goals as goal

pub returns : goal.returns
returns c =
    let table = c.args.table.now in
    let index = c.in_ok-index.index.items in
    let below : All (λ (m : TableMove). m.from < length index) table.moves.items = λ k d within. omega (arith, from_within table.states table.moves.items k d table.moves_fit within, c.in_ok-index.ensures.len, c.in_ok-index.index.ok.0) in
    index_of table.moves.items index below c.in_ok-index.ensures.exact
