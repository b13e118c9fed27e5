-- A run that comes to its end does so within as many moves as its weight.
use Rattle.std.proofs.Common.{◌≡◌, ℕ, zero, suc, ◌+◌, ◌<◌, List, [], Option, Some, None, refl, ap, ◌∙◌, arith}
use Rattle.script_grammar.specs.Terminals.{Terminal}
use Rattle.script_grammar.specs.Expressions.{ExprForm, expr_terminals}
use Rattle.expr_machine.specs.declared.frame.Focus.{Focus}
use Rattle.expr_machine.specs.declared.frame.Frame.{Frame}
use Rattle.expr_machine.specs.Actions.{Action}
use Rattle.expr_machine.specs.Machine.{Move, moves, finished, stuck, move}
use Rattle.expr_machine.specs.Postfix.{expr_actions}
use Rattle.expr_machine.specs.Reading.{rank_next, weight, run, run_from, run_on, after_actions, expr_at}
use Rattle.expr_laws.proofs.Goes.{Goes, ends}
use Rattle.expr_laws.proofs.Lighter.{Lighter}
use Rattle.expr_laws.proofs.Closing.{move_lighter}
use Rattle.expr_laws.proofs.Forms.{expr_reads}

-- so many moves are enough wherever any number of moves is
abbrev Lasts : ℕ → ℕ → Type 0
Lasts n m = (f : Focus) (fs : List Frame) (ts : List Terminal) (found : List Action × List Terminal) → weight f fs ts < m → run n f fs ts ≡ Some found → run m f fs ts ≡ Some found

after_same : (acts : List Action) (left right : Option (List Action × List Terminal)) (found : List Action × List Terminal) → ((rest : List Action × List Terminal) → left ≡ Some rest → right ≡ Some rest) → after_actions acts left ≡ Some found → after_actions acts right ≡ Some found
after_same acts None right found h e = absurd cc
after_same acts (Some rest) right found h e = ap (after_actions acts) (h rest refl) ∙ e

from_same : (n m : ℕ) (ts : List Terminal) (next : Move) (w : ℕ) (found : List Action × List Terminal) → Lasts n m → Lighter w next → w < suc m → run_from (run n) ts next ≡ Some found → run_from (run m) ts next ≡ Some found
from_same n m ts (moves f fs us acts) w found lasts lighter h e = after_same acts (run n f fs us) (run m f fs us) found (λ rest. lasts f fs us rest (omega arith)) e
from_same n m ts finished w found lasts lighter h e = e
from_same n m ts stuck w found lasts lighter h e = absurd cc

lasts : (n m : ℕ) → Lasts n m
unfolding run
lasts zero m f fs ts found h e = absurd cc
lasts (suc n) zero f fs ts found h e = absurd (omega arith)
lasts (suc n) (suc m) f fs ts found h e = from_same n m ts (move f fs ts) (weight f fs ts) found (lasts n m) (move_lighter f fs ts) h e

run_enough : {f : Focus} {fs : List Frame} {ts : List Terminal} {acts : List Action} {out : List Terminal} → Goes f fs ts acts out → run_on f fs ts ≡ Some (acts, out)
run_enough {f} {fs} {ts} {acts} {out} goes = lasts goes.count (1 + weight f fs ts) f fs ts (acts, out) (omega arith) goes.is

-- each expression is read
pub expressions_are_read : (e : ExprForm) (rest : List Terminal) → rank_next rest ≡ 10 → expr_at (expr_terminals e rest) ≡ Some (expr_actions e [], rest)
expressions_are_read e rest next = run_enough (expr_reads e [] rest [] next refl rest (ends rest))
