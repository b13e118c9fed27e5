use Rattle.std.proofs.Common.{refl, ◌<◌, arith, ap, ◌∙◌, ℕ, List}
use Rattle.fst_core.specs.declared.out.Out.{Out}
use Rattle.fst_core.specs.declared.moves.TableMove.{TableMove}
use Rattle.string_ops.proofs.SearchLemmas.{turn_push, turn_within}
use Rattle.string_ops.proofs.search.add_turn.Goals as goal

pub add_move-requires-clause-to : goal.add_move-requires-clause-to
add_move-requires-clause-to c =
    let search = c.args.search.now in
    let w = turn_within search.pattern.now search.base search.full_to search.full_out.now search.shown c.args.at c.args.part c.args.table.now.states c.requires.full c.requires.room (omega arith) in
    omega (arith, w, ap (λ (p : ℕ × List Out). p.0) c.in_ok-action.ensures)

pub returns-clause-moves : goal.returns-clause-moves
returns-clause-moves c =
    turn_push _ _ _ _ _ _ _ c.in_ok-add_move.ensures.moves refl refl refl c.in_ok-action.ensures c.if-part-eq0.false
