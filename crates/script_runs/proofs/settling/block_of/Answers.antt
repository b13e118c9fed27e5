use Rattle.expr_evaluator.proofs.TreeLemmas.{empty_of}
use Rattle.script_runs.proofs.SettleLemmas.{moves_no_statement, moves_statement}
use Rattle.script_runs.proofs.settling.block_of.Goals as goal

pub returns-in-None : goal.returns-in-None
returns-in-None c = λ r fs. moves_no_statement r fs c.args.pending.now c.args.statements (empty_of _ c.in-None.ensures.cases) c.requires

pub returns-in_ok-moved-in-Some : goal.returns-in_ok-moved-in-Some
returns-in_ok-moved-in-Some c = λ r fs. moves_statement r fs c.args.pending.now c.args.statements c.in-Some.first c.in-Some.rest _ _ c.in-Some.ensures.cases.0 (c.in_ok-moved-in-Some.ensures r fs)
