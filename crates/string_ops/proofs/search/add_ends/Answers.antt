use Rattle.std.proofs.Common.{◌∙◌, refl}
use Rattle.string_ops.proofs.SearchLemmas.{ends_none, ends_more, out_fixed}
use Rattle.string_ops.proofs.search.add_ends.Goals as goal

pub add_end-requires-clause-fixed : goal.add_end-requires-clause-fixed
add_end-requires-clause-fixed c = out_fixed _ _ c.in_ok-out.ensures

pub loop-at-preserved : goal.loop-at-preserved
loop-at-preserved c =
    let i = c.loop-at.invariant in
    let e = c.in_ok-add_end.ensures in
    record {
      added = ends_more _ _ _ _ _ _ _ refl c.in_ok-out.ensures i.added e.ends;
      states = e.states ∙ i.states;
      start = e.start ∙ i.start;
      moves = e.moves ∙ i.moves;
    }
