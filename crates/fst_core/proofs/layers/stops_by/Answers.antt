use Rattle.std.proofs.lemmas.Map.Views.{hash_set_contains_iff}
use Rattle.fst_core.specs.declared.layers.Reached.{Reached}
use Rattle.fst_core.proofs.LayerLemmas.{stops_where, reached_equiv, reached_exact}
use Rattle.fst_core.proofs.layers.stops_by.Goals as goal

pub returns-in-Some : goal.returns-in-Some
returns-in-Some c =
    let at : Reached = record { state = c.args.end.now.state; written = c.in-Some.written } in
    let iff = hash_set_contains_iff reached_equiv reached_exact c.args.layer.now at in
    stops_where c.args.layer.now.keys c.args.output.now c.args.end.now c.in-Some.written c.contains.result (c.in-Some.ensures.0) (rw c.as_slice.ensures.value at c.in-Some.ensures.1) (rw c.contains.ensures iff)
