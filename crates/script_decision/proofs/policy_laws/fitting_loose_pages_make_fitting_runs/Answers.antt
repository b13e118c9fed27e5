use Rattle.script_meaning.specs.Meaning.{meaning}
use Rattle.script_decision.proofs.policy_laws.fitting_loose_pages_make_fitting_runs.Goals as goal

pub returns : goal.returns
returns c p program lawful texts each request units admitted ended =
    each (meaning program request units).printed (c.ended_runs_print_loose_pages.ensures program request units lawful texts admitted ended)
