use Rattle.std.proofs.Common.{ℕ, ◌+◌, sym, subst, arith}
use Rattle.resolving.specs.AnyTexts.{PutsFrom}
use Rattle.resolving.proofs.AnyLemmas.{run_put}
use Rattle.resolving.proofs.any_texts.put_run.Goals as goal

pub returns : goal.returns
returns c =
    subst (λ (n : ℕ). PutsFrom c.args.texts c.args.set.now c.args.first (n + 2) c.args.draft.now c.put.new.draft) (sym c.from-2.ensures)
    (run_put c.args.texts c.args.set.now c.args.first c.run_at-range.result c.args.draft.now c.put.new.draft c.run_at-range.ensures c.run_at-range.result.ordered (omega arith) c.in_ok-put.ensures)
