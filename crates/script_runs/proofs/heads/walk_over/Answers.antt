use Rattle.std.proofs.Common.{ap, ◌∙◌, sym}
use Rattle.plain_values.specs.Plain.{array}
use Rattle.script_runs.proofs.HeadLemmas.{over_none, over_ok}
use Rattle.script_runs.proofs.heads.walk_over.Goals as goal

pub returns-in-None : goal.returns-in-None
returns-in-None c = over_none _ _ _ _ c.in-None.ensures

pub returns-in_ok-pairs-in-Some : goal.returns-in_ok-pairs-in-Some
returns-in_ok-pairs-in-Some c = over_ok _ _ _ (c.in-Some.ensures ∙ ap array (sym c.in_ok-pairs-in-Some.ensures)) c.walk_next.ensures
