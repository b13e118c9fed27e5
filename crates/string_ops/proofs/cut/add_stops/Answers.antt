use Rattle.std.proofs.Common.{◌≡◌, ◌∙◌, refl, arith, ℕ, subst}
use Rattle.string_ops.specs.Search.{AddsStops}
use Rattle.string_ops.proofs.CutLemmas.{stops_none, stops_more}
use Rattle.string_ops.proofs.cut.add_stops.Goals as goal

pub loop-at-init : goal.loop-at-init
loop-at-init c = record { added = stops_none c.args.table.now.ends.items; states = refl; start = refl; moves = refl }

pub loop-at-preserved : goal.loop-at-preserved
loop-at-preserved c =
    let i = c.loop-at.invariant in
    let e = c.in_ok-stop_silently.ensures in
    record {
      added = stops_more c.args.table.now.ends.items c.loop-at.table.ends.items c.stop_silently.new.table.ends.items c.loop-at.at c.loop-at.at refl i.added e.ends;
      states = e.states ∙ i.states;
      start = e.start ∙ i.start;
      moves = e.moves ∙ i.moves;
    }

pub returns-clause-ends : goal.returns-clause-ends
returns-clause-ends c =
    let done : c.loop-at.at ≡ c.args.count = omega arith in
    subst (λ (n : ℕ). AddsStops c.args.table.now.ends.items c.loop-at.table.ends.items n) done c.loop-at.invariant.added
