use Rattle.std.proofs.Common.{[], refl, sym, ◌∙◌}
use Rattle.policy_matching.proofs.StateLemmas.{run_last, run_is_alike}
use Rattle.policy_matching.proofs.outside.OutsideRunReader.last_alike.Goals as goal

pub returns-in-Some-clause-last : goal.returns-in-Some-clause-last
returns-in-Some-clause-last c = run_last c.args.self.now.rows.items c.args.state.now c.args.byte c.in-Some.run' (sym c.run.ensures ∙ c.in-Some.is)

pub returns-in-Some-clause-alike : goal.returns-in-Some-clause-alike
returns-in-Some-clause-alike c =
    run_is_alike c.args.self.now.rows.items c.args.state.now c.args.byte c.in-Some.run' (λ b. []) (sym c.run.ensures ∙ c.in-Some.is) (λ b. refl)
