use Rattle.std.proofs.Common.{ap, ◌∙◌}
use Rattle.script_meaning.specs.Runs.{set_in}
use Rattle.script_runs.proofs.PayLemmas.{sets_value, sets_both}
use Rattle.script_runs.proofs.paying.set_pair.Goals as goal

pub returns-in_ok-set-in-None : goal.returns-in_ok-set-in-None
returns-in_ok-set-in-None c = sets_value c.args.walk.now _ _ _ _ c.in-None.is c.in_ok-set-in-None.ensures

pub returns-in_ok-set-in-Some-2 : goal.returns-in_ok-set-in-Some-2
returns-in_ok-set-in-Some-2 c =
    sets_both c.args.walk.now c.in-Some.name _ _ c.args.variables.now c.set-in-Some.new.self _ c.in-Some.is
    (c.in_ok-set-in-Some.ensures ∙ ap (λ v. set_in c.args.variables.now c.in-Some.name.now v) c.in_ok-key-in-Some.ensures) c.in_ok-set-in-Some-2.ensures
