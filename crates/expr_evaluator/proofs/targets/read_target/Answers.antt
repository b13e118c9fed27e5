use Rattle.std.proofs.Common.{ap, sym, ◌∙◌}
use Rattle.plain_values.specs.Paths as paths
use Rattle.php_values.specs.View.{plain_path}
use Rattle.expr_evaluator.specs.Frames.{plain_maybes}
use Rattle.expr_evaluator.proofs.TreeLemmas.{other_fault}
use Rattle.expr_evaluator.proofs.WriteMoves.{reads_kept, reads_old, reads_fault, fault_from}
use Rattle.expr_evaluator.proofs.targets.read_target.Goals as goal

pub returns-then-is_kept : goal.returns-then-is_kept
returns-then-is_kept c = reads_kept _ _ _ _ _ _ _ c.in-Ok.ensures.ok.0 (ap (paths.read (plain_path c.in-Ok.path.items)) (sym c.in_ok-whole.ensures) ∙ c.in-Ok.ensures.ok.1) (sym c.is_kept.ensures ∙ c.if-is_kept.true)

pub returns-in-Ok : goal.returns-in-Ok
returns-in-Ok c = reads_old _ _ _ _ _ c.in-Ok.path c.in-Ok.old _ _ c.in-Ok.ensures.ok.0 (ap (paths.read (plain_path c.in-Ok.path.items)) (sym c.in_ok-whole.ensures) ∙ c.in-Ok.ensures.ok.1) (sym c.is_kept.ensures ∙ c.if-is_kept.false) c.in_ok-next-in-Ok.ensures

pub returns : goal.returns
returns c = reads_fault _ _ _ _ _ _ _ c.in_ok-next-in-Err.ensures.0 (fault_from (plain_maybes c.args.subscripts.now) _ _ _ (other_fault c.in-Err.ensures.err c.in_ok-next-in-Err.ensures.1) c.in_ok-whole.ensures)
