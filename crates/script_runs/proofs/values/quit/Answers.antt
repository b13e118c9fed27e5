use Rattle.std.proofs.Common.{◌++◌, ap, ◌∙◌}
use Rattle.script_runs.proofs.GiveLemmas.{quits_text, quits_other}
use Rattle.script_runs.proofs.values.quit.Goals as goal

pub returns-in_ok-append-in-Some : goal.returns-in_ok-append-in-Some
returns-in_ok-append-in-Some c = quits_text _ _ _ _ c.in-Some.ensures (c.in_ok-append-in-Some.ensures.ok ∙ ap (λ t. c.args.printed.now ++ t) c.as_slice.ensures.bytes)

pub returns-in-None : goal.returns-in-None
returns-in-None c = quits_other _ _ c.in-None.ensures
