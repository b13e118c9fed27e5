use Rattle.script_meaning.specs.Meaning.{meaning}
use Rattle.script_decision.proofs.laws.good_loose_pages_make_good_runs.Goals as goal

pub returns : goal.returns
returns c goal table program lawful texts each request units admitted ended =
    each (meaning program request units).printed (c.ended_runs_print_loose_pages.ensures program request units lawful texts admitted ended)
