use Rattle.std.proofs.Common.{◌≡◌, ◌+◌, ◌∙◌, refl, sym, arith, ap, ℕ, List, Bool, leb, subst}
use Rattle.fst_core.specs.declared.out.Out.{Out}
use Rattle.string_ops.specs.Search.{AddsSearch, AddsTurns}
use Rattle.string_ops.specs.Cut.{copy_if, count_turn}
use Rattle.string_ops.proofs.CutLemmas.{counts_none}
use Rattle.string_ops.proofs.SearchLemmas.{search_more}
use Rattle.string_ops.proofs.cut.add_counts.Goals as goal

pub loop-at-init : goal.loop-at-init
loop-at-init c = record { search = counts_none c.args.table.now.moves.items 0 (count_turn c.args.from); states = refl; start = refl; ends = refl }

pub loop-at-preserved : goal.loop-at-preserved
loop-at-preserved c =
    let i = c.loop-at.invariant in
    let e = c.in_ok-add_step.ensures in
    let own : c.loop-at.at ≡ 0 + c.loop-at.at = omega arith in
    record {
      search = search_more c.args.table.now.moves.items c.loop-at.table.moves.items c.add_step.new.table.moves.items 0 c.loop-at.at c.loop-at.at (count_turn c.args.from) own i.search e.moves;
      states = e.states ∙ i.states;
      start = e.start ∙ i.start;
      ends = e.ends ∙ i.ends;
    }

pub returns-clause-moves : goal.returns-clause-moves
returns-clause-moves c =
    let done : c.loop-at.at ≡ c.args.count = omega arith in
    subst (λ (n : ℕ). AddsSearch c.args.table.now.moves.items c.loop-at.table.moves.items 0 n (count_turn c.args.from)) done c.loop-at.invariant.search
