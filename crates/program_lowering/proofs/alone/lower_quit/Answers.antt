use Rattle.std.proofs.Common.{ℕ, refl}
use Rattle.std.specs.Prelude.{Some, None}
use Rattle.flow_code.specs.Points.{quit_point}
use Rattle.flow_code.specs.Statements.{quit_block}
use Rattle.flow_lowering.specs.View.{progress}
use Rattle.flow_lowering.proofs.EmitLemmas.{emits_known}
use Rattle.flow_lowering.specs.ScopeView.{scope_in}
use Rattle.flow_lowering.proofs.BlockLemmas.{lays_ending}
use Rattle.program_lowering.proofs.RowBlocks.{by_quit}
use Rattle.program_lowering.proofs.alone.lower_quit.Goals as goal

pub returns-in_ok-push-in-Some : goal.returns-in_ok-push-in-Some
unfolding quit_block
returns-in_ok-push-in-Some c =
    by_quit (scope_in c.args.scope.now) c.in-Some.is (lays_ending (λ x to p. quit_point (Some x)) c.in_ok-slot-in-Some.ensures c.in_ok-push-in-Some.ensures (λ to. refl))

pub returns-in_ok-push-in-None : goal.returns-in_ok-push-in-None
unfolding quit_block
returns-in_ok-push-in-None c =
    let none : ℕ = 0 in
    by_quit (scope_in c.args.scope.now) c.in-None.is (lays_ending (λ x to p. quit_point None) (emits_known (progress c.args.points.now) none) c.in_ok-push-in-None.ensures (λ to. refl))
