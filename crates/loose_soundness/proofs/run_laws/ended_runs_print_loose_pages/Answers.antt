use Rattle.std.proofs.Common.{◌≡◌, ap}
use Rattle.script_meaning.specs.Runs.{End, Ended}
use Rattle.script_meaning.specs.Meaning.{Outcome, meaning}
use Rattle.flow_code.specs.Flat.{flat}
use Rattle.loose_soundness.proofs.run_laws.ended_runs_print_loose_pages.Goals as goal

pub returns : goal.returns
returns c program request units lawful texts admitted ended =
    let outcome : Outcome = meaning program request units in
    let same : outcome ≡ record { printed = outcome.printed; end = Ended } = ap (λ (e : End). let o : Outcome = record { printed = outcome.printed; end = e } in o) ended in
    c.ended_runs_print_loose_pages.ensures (flat program) request outcome.printed (c.lawful_points_are_of_their_form.ensures program lawful texts) admitted
    (c.lawful_runs_are_runs_of_points.ensures program request units outcome.printed lawful same)
