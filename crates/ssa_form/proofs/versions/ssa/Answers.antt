use Rattle.flow_code.specs.View.{plain_flow}
use Rattle.ssa_form.proofs.versions.ssa.Goals as goal

pub returns-clause-joins : goal.returns-clause-joins
returns-clause-joins c = c.in_ok-versions.ensures.joins (plain_flow c.args.flow.now) c.in_ok-made.ensures.exact c.in_ok-made.ensures.joins
