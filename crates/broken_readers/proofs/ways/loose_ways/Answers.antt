use Rattle.std.proofs.Common.{ℕ, List, map, ap, ◌∙◌}
use Rattle.derivatives.specs.Standing.{expr_at}
use Rattle.dtd_model.specs.TableOf.{table_of}
use Rattle.broken_readers.proofs.StartLemmas.{loose_whole}
use Rattle.broken_readers.proofs.ways.loose_ways.Goals as goal

pub returns : goal.returns
returns c =
    let a = c.in_ok-arena.field-0.arena in
    loose_whole (table_of c.args.dtd.now) a c.as_slice.result.now c.in_ok-starts.starts (ap (λ (ns : List ℕ). map (expr_at a) ns) c.as_slice.ensures.value ∙ c.in_ok-arena.ensures) c.in_ok-starts.ensures
