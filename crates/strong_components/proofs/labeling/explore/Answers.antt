use Rattle.std.proofs.Common.{◌≡◌, ◌<◌, ℕ, length, refl, sym, arith}
use Rattle.strong_components.proofs.ListLemmas.{mark_at, no_first}
use Rattle.strong_components.proofs.LabelLemmas.{first_opened, opened_met}
use Rattle.strong_components.proofs.labeling.explore.Goals as goal

pub loop-start-init : goal.loop-start-init
loop-start-init c =
    let lt : c.args.node < length c.args.search.now.marks.items = omega (arith, c.requires.keeps.size) in
    record {
      goes_on = first_opened c.args.edges.now c.args.search.now c.open_node.new.search c.args.node c.in-New.field-0 c.in_ok-open_node-in-New.ensures c.requires.keeps
          (mark_at c.args.search.now.marks.items c.args.node c.index.result.now _ lt c.index.ensures c.in-New.is) c.requires.none;
      met = opened_met c.args.edges.now c.args.search.now c.open_node.new.search c.args.node c.in_ok-open_node-in-New.ensures lt;
    }

pub returns-clause-none : goal.returns-clause-none
returns-clause-none c = no_first c.loop-start.search.starts (sym c.in_default.ensures)
