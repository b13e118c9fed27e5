use Rattle.std.proofs.Common.{sym, ◌∙◌}
use Rattle.script_runs.proofs.SettleLemmas.{enters_include, enters_statement}
use Rattle.script_runs.proofs.settling.first_of.Goals as goal

pub returns-then-is_include : goal.returns-then-is_include
returns-then-is_include c = λ r fs. enters_include r fs c.args.pending.now c.args.first c.args.rest (sym c.is_include.ensures ∙ c.if-is_include.true) c.requires

pub returns : goal.returns
returns c = λ r fs. enters_statement r fs c.args.pending.now c.args.first c.args.rest _ (sym c.is_include.ensures ∙ c.if-is_include.false) c.requires c.in_ok-push.ensures.ok
