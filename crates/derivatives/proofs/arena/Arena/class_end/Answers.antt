use Rattle.std.proofs.Common.{◌≤◌, ℕ, sym, subst, arith}
use Rattle.derivatives.specs.Standing.{expr_at}
use Rattle.derivatives.proofs.Alike.{are_classes}
use Rattle.derivatives.proofs.arena.Arena.class_end.Goals as goal

pub returns-clause-own : goal.returns-clause-own
returns-clause-own c = subst (λ (n : ℕ). c.args.byte ≤ n) (sym c.last_alike.ensures) (are_classes.own c.args.byte (expr_at c.args.self.now c.args.place) (omega arith))

pub returns-clause-alike : goal.returns-clause-alike
returns-clause-alike c = λ b h g. are_classes.alike c.args.byte b (expr_at c.args.self.now c.args.place) h (subst (λ (n : ℕ). b ≤ n) c.last_alike.ensures g)
