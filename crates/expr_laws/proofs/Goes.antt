-- Runs from some place on that come to a whole expression: the actions that they do, and what they leave.
use Rattle.std.proofs.Common.{◌≡◌, ℕ, suc, List, [], ◌++◌, Some, refl, ap, ◌∙◌}
use Rattle.script_grammar.specs.Terminals.{Terminal}
use Rattle.expr_machine.specs.declared.frame.Focus.{Focus}
use Rattle.expr_machine.specs.declared.frame.Focus.TheVariants as focus
use Rattle.expr_machine.specs.declared.frame.Frame.{Frame}
use Rattle.expr_machine.specs.Actions.{Action}
use Rattle.expr_machine.specs.Machine.{moves, move}
use Rattle.expr_machine.specs.Reading.{run, run_from, after_actions}

-- by some number of moves
pub record Goes (f : Focus) (fs : List Frame) (ts : List Terminal) (acts : List Action) (out : List Terminal) : Type 0 where
  pub count : ℕ
  pub is : run count f fs ts ≡ Some (acts, out)

-- one move more, before the others
pub steps : {f g : Focus} {fs gs : List Frame} {ts us : List Terminal} {acts rest : List Action} {out : List Terminal} → move f fs ts ≡ moves g gs us acts → Goes g gs us rest out → Goes f fs ts (acts ++ rest) out
unfolding run
steps {ts = ts} {acts = acts} e goes = record {
  count = suc goes.count;
  is = ap (run_from (run goes.count) ts) e ∙ ap (after_actions acts) goes.is;
}

-- a whole expression, where nothing is begun
pub ends : (out : List Terminal) → Goes focus.Whole [] out [] out
unfolding run move
ends out = record { count = 1; is = refl }
