use Rattle.std.proofs.Common.{◌≡◌, ◌+◌, ◌∙◌, refl, arith, ℕ, subst}
use Rattle.string_ops.specs.Search.{AddsSearch}
use Rattle.string_ops.specs.Cut.{down_turn}
use Rattle.string_ops.proofs.CutLemmas.{counts_none}
use Rattle.string_ops.proofs.SearchLemmas.{search_more}
use Rattle.string_ops.proofs.cut.add_downs.Goals as goal

pub loop-at-init : goal.loop-at-init
loop-at-init c =
    record { search = counts_none c.args.table.now.moves.items (c.args.base + 1) (down_turn c.args.base); states = refl; start = refl; ends = refl }

pub loop-at-preserved : goal.loop-at-preserved
loop-at-preserved c =
    let i = c.loop-at.invariant in
    let e = c.in_ok-add_step.ensures in
    record {
      search = search_more c.args.table.now.moves.items c.loop-at.table.moves.items c.add_step.new.table.moves.items (c.args.base + 1) c.loop-at.at (c.args.base + 1 + c.loop-at.at) (down_turn c.args.base) refl i.search e.moves;
      states = e.states ∙ i.states;
      start = e.start ∙ i.start;
      ends = e.ends ∙ i.ends;
    }

pub returns-clause-moves : goal.returns-clause-moves
returns-clause-moves c =
    let done : c.loop-at.at ≡ c.args.count = omega arith in
    subst (λ (n : ℕ). AddsSearch c.args.table.now.moves.items c.loop-at.table.moves.items (c.args.base + 1) n (down_turn c.args.base)) done c.loop-at.invariant.search
