use Rattle.std.proofs.Common.{◌≡◌, ◌∙◌, ◌≤◌, refl, arith, ℕ, length, subst}
use Rattle.string_ops.specs.Search.{turn_by, AddsSearch}
use Rattle.string_ops.proofs.SearchLemmas.{search_none, search_more}
use Rattle.string_ops.proofs.search.add_states.Goals as goal

pub loop-at-init : goal.loop-at-init
loop-at-init c =
    let search = c.args.search.now in
    record {
      search = search_none c.args.table.now.moves.items search.base (turn_by search.pattern.now search.base (search.full_to, search.full_out.now) search.shown);
      states = refl;
      start = refl;
      ends = refl;
    }

pub loop-at-preserved : goal.loop-at-preserved
loop-at-preserved c =
    let i = c.loop-at.invariant in
    let e = c.in_ok-add_state.ensures in
    let search = c.args.search.now in
    record {
      search = search_more c.args.table.now.moves.items c.loop-at.table.moves.items c.add_state.new.table.moves.items search.base c.loop-at.at _ (turn_by search.pattern.now search.base (search.full_to, search.full_out.now) search.shown) refl i.search e.moves;
      states = e.states ∙ i.states;
      start = e.start ∙ i.start;
      ends = e.ends ∙ i.ends;
    }

pub returns-clause-moves : goal.returns-clause-moves
returns-clause-moves c =
    let search = c.args.search.now in
    let done : c.loop-at.at ≡ length search.pattern.now = omega arith in
    subst (λ (n : ℕ). AddsSearch c.args.table.now.moves.items c.loop-at.table.moves.items search.base n (turn_by search.pattern.now search.base (search.full_to, search.full_out.now) search.shown)) done c.loop-at.invariant.search
