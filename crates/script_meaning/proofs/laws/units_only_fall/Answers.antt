use Rattle.std.proofs.Common.{subst}
use Rattle.script_meaning.specs.Statements.{Flow}
use Rattle.script_meaning.proofs.Later.{After}
use Rattle.script_meaning.proofs.LaterRuns.{after_statements, calls_go_on}
use Rattle.script_meaning.proofs.laws.units_only_fall.Goals as goal

pub returns : goal.returns
returns c r fs room ss s t flow e = (subst (λ x. After {A = Flow} s x) e (after_statements _ (calls_go_on r fs room) ss s)).left
