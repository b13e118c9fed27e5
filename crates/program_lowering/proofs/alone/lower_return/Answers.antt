use Rattle.std.proofs.Common.{refl}
use Rattle.flow_code.specs.Points.{return_point}
use Rattle.flow_code.specs.Statements.{return_block}
use Rattle.flow_lowering.specs.ScopeView.{scope_in}
use Rattle.flow_lowering.proofs.BlockLemmas.{lays_ending}
use Rattle.program_lowering.proofs.RowBlocks.{by_return}
use Rattle.program_lowering.proofs.alone.lower_return.Goals as goal

pub returns-in_ok-push-in-Some : goal.returns-in_ok-push-in-Some
unfolding return_block
returns-in_ok-push-in-Some c =
    by_return (scope_in c.args.scope.now) c.in-Some.is (lays_ending (λ x to p. return_point x) c.in_ok-slot-in-Some.ensures c.in_ok-push-in-Some.ensures (λ to. refl))

pub returns-in_ok-push-in-None : goal.returns-in_ok-push-in-None
unfolding return_block
returns-in_ok-push-in-None c =
    by_return (scope_in c.args.scope.now) c.in-None.is (lays_ending (λ x to p. return_point x) c.in_ok-slot-in-None.ensures c.in_ok-push-in-None.ensures (λ to. refl))
