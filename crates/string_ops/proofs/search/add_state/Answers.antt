use Rattle.std.proofs.Common.{◌≡◌, refl, ◌<◌, ◌≤◌, arith, ap, subst, ◌∙◌, ℕ, List, slice_index, get_or, length, sym}
use Rattle.std.proofs.lemmas.List.{get_or_read}
use Rattle.fst_core.specs.declared.out.Out.{Out}
use Rattle.string_ops.specs.Search.{turn, AddsFirst, AddsTurn}
use Rattle.string_ops.proofs.SearchLemmas.{next_within, turn_within, turning_none, turning_more, turning_all}
use Rattle.string_ops.proofs.search.add_state.Goals as goal

pub add_turn-requires-clause-part : goal.add_turn-requires-clause-part
add_turn-requires-clause-part c =
    let w = next_within c.args.search.now.pattern.now c.args.at c.loop-byte.byte c.requires.at in
    let row = c.in_ok-row.row.items in
    let within : c.loop-byte.byte < length row = omega (arith, c.in_ok-row.ensures.len) in
    let read = get_or_read row c.loop-byte.byte c.index.result.now within c.index.ensures 0 in
    omega (arith, w, read, c.in_ok-row.ensures.exact c.loop-byte.byte c.loop-byte-test.true)

pub add_first-requires-clause-to : goal.add_first-requires-clause-to
add_first-requires-clause-to c =
    let search = c.args.search.now in
    let w = turn_within search.pattern.now search.base search.full_to search.full_out.now search.shown c.args.at 0 c.args.table.now.states c.requires.full c.requires.room (omega arith) in
    omega (arith, w, ap (λ (p : ℕ × List Out). p.0) c.in_ok-nothing.ensures)

pub loop-byte-init : goal.loop-byte-init
loop-byte-init c =
    record {
      turning = turning_none _ _ _ _;
      states = c.in_ok-add_first.ensures.states;
      start = c.in_ok-add_first.ensures.start;
      ends = c.in_ok-add_first.ensures.ends;
    }

pub loop-byte-preserved : goal.loop-byte-preserved
loop-byte-preserved c =
    let i = c.loop-byte.invariant in
    let e = c.in_ok-add_turn.ensures in
    let row = c.in_ok-row.row.items in
    let within : c.loop-byte.byte < length row = omega (arith, c.in_ok-row.ensures.len) in
    let read = get_or_read row c.loop-byte.byte c.index.result.now within c.index.ensures 0 in
    record {
      turning = turning_more _ _ _ _ _ row c.loop-byte.byte c.loop-byte.byte c.index.result.now i.turning refl read e.moves;
      states = e.states ∙ i.states;
      start = e.start ∙ i.start;
      ends = e.ends ∙ i.ends;
    }

pub returns-clause-moves : goal.returns-clause-moves
returns-clause-moves c =
    let search = c.args.search.now in
    let by = turn search.pattern.now search.base (search.full_to, search.full_out.now) search.shown c.args.at in
    let done : c.loop-byte.byte ≡ 256 = omega arith in
    let first : AddsFirst c.args.table.now.moves.items c.add_first.new.table.moves.items c.args.from c.in_ok-row.row.items (by 0) =
    rw (← c.as_slice.ensures.value, ← c.in_ok-nothing.ensures) c.in_ok-add_first.ensures.moves in
    turning_all c.args.table.now.moves.items c.add_first.new.table.moves.items c.loop-byte.table.moves.items c.args.from search.pattern.now c.args.at by c.in_ok-row.row.items c.loop-byte.byte done first c.loop-byte.invariant.turning c.in_ok-row.ensures.exact
