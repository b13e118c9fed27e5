-- Moves that open an expression for a frame, and moves that only change what is next.
use Rattle.std.proofs.Common.{◌≡◌, ℕ, ◌+◌, ◌-◌, ◌<◌, List, sym, ap, ◌∙◌, arith, Bor}
use Rattle.php_syntax.specs.declared.tree.Expr.{Expr}
use Rattle.php_syntax.specs.Trees.{PlainExpr, PlainFunction, plain_expr}
use Rattle.plain_values.specs.Plain.{Plain}
use Rattle.script_meaning.specs.Requests.{PlainRequest}
use Rattle.script_meaning.specs.Runs.{State, Run, ◌then_do◌}
use Rattle.script_meaning.specs.Expressions.{Environment, value}
use Rattle.expr_evaluator.specs.declared.frame.Frame.{Frame}
use Rattle.expr_evaluator.specs.declared.frame.Focus.{Focus}
use Rattle.expr_evaluator.specs.declared.frame.Focus.TheVariants as focus
use Rattle.expr_evaluator.specs.declared.evaluator.Evaluator.{Evaluator}
use Rattle.expr_evaluator.specs.Frames.{Entering, world, focused, values_then, after_value}
use Rattle.expr_evaluator.specs.Cost.{cost, frame_cost, focus_cost, stack_cost}
use Rattle.expr_evaluator.specs.Moves.{Moves, Takes, Opens, Does, seeing}
use Rattle.expr_evaluator.proofs.Runs.{assoc}

-- an expression is next, for a frame: what is to come
pub opened_same : (enter : Entering) (w : Environment) (frame : Frame) (e : Bor Expr) (m m' : Evaluator) (f : Focus) (act : State → Run Plain) (s : State) → Opens frame e m f m'
    → ((t : State) → act t ≡ (value w (plain_expr e.now) t then_do after_value w frame))
    → (focused enter w f (seeing s m'.variables) then_do values_then w m'.frames) ≡ (act (seeing s m.variables) then_do values_then w m.frames)
unfolding focused values_then
opened_same enter w frame e m m' f act s o h =
    rw (o.next, o.frames, o.variables) (sym (ap (λ x. x then_do values_then w m.frames) (h (seeing s m.variables)) ∙ assoc (value w (plain_expr e.now) (seeing s m.variables)) (after_value w frame) (values_then w m.frames)))

pub opened_less : (frame : Frame) (e : Bor Expr) (m m' : Evaluator) (f : Focus) (n : ℕ) → Opens frame e m f m' → cost (plain_expr e.now) + frame_cost frame < n → focus_cost f + stack_cost m'.frames < n + stack_cost m.frames
unfolding focus_cost stack_cost
opened_less frame e m m' f n o l = rw (o.next, o.frames) (omega arith)

pub opens : (r : PlainRequest) (fs : List PlainFunction) (e e' : Bor Expr) (frame : Frame) (m m' : Evaluator) (f : Focus) (p : PlainExpr) → plain_expr e.now ≡ p → Opens frame e' m f m'
    → ((w : Environment) (s : State) → value w p s ≡ (value w (plain_expr e'.now) s then_do after_value w frame)) → cost (plain_expr e'.now) + frame_cost frame < cost p → Moves r fs (focus.Eval e) m f m'
unfolding focused focus_cost
opens r fs e e' frame m m' f p is o h l = record {
  same = λ enter s. rw is (opened_same enter (world r fs enter) frame e' m m' f (value (world r fs enter) p) s o (h (world r fs enter)));
  less = rw is (opened_less frame e' m m' f (cost p) o l);
}

-- a frame is given a value and opens the next expression
pub opens_next : (r : PlainRequest) (fs : List PlainFunction) (v : Plain) (old frame : Frame) (e : Bor Expr) (m m' : Evaluator) (f : Focus) → Opens frame e m f m'
    → ((w : Environment) (s : State) → after_value w old v s ≡ (value w (plain_expr e.now) s then_do after_value w frame)) → cost (plain_expr e.now) + frame_cost frame < 2 + frame_cost old → Takes r fs v old m f m'
unfolding values_then
opens_next r fs v old frame e m m' f o h l = record {
  same = λ enter s. opened_same enter (world r fs enter) frame e m m' f (after_value (world r fs enter) old v) s o (h (world r fs enter));
  less = opened_less frame e m m' f (2 + frame_cost old) o l;
}

-- what is next comes to the same as the expression, and the frames and variables stay
pub begins : (r : PlainRequest) (fs : List PlainFunction) (e : Bor Expr) (m : Evaluator) (f : Focus) (p : PlainExpr) → plain_expr e.now ≡ p
    → ((enter : Entering) (s : State) → focused enter (world r fs enter) f (seeing s m.variables) ≡ value (world r fs enter) p (seeing s m.variables)) → focus_cost f < cost p → Moves r fs (focus.Eval e) m f m
unfolding focused focus_cost
begins r fs e m f p is h l = record {
  same = λ enter s. rw is (ap (λ x. x then_do values_then (world r fs enter) m.frames) (h enter s));
  less = rw is (omega (arith, l));
}

-- what is next comes to the same as the frame with its value
pub gives : (r : PlainRequest) (fs : List PlainFunction) (v : Plain) (old : Frame) (m : Evaluator) (f : Focus)
    → ((enter : Entering) (s : State) → focused enter (world r fs enter) f (seeing s m.variables) ≡ after_value (world r fs enter) old v (seeing s m.variables)) → focus_cost f < 2 + frame_cost old → Takes r fs v old m f m
unfolding values_then
gives r fs v old m f h l = record {
  same = λ enter s. ap (λ x. x then_do values_then (world r fs enter) m.frames) (h enter s);
  less = omega (arith, l);
}

-- an operation over variables for an expression, and for a frame with its value
pub does : (r : PlainRequest) (fs : List PlainFunction) (e : Bor Expr) (m m' : Evaluator) (f : Focus) (act : State → Run Plain) (p : PlainExpr) → plain_expr e.now ≡ p → Does act m f m'
    → ((w : Environment) (s : State) → value w p s ≡ act s) → 2 < cost p → Moves r fs (focus.Eval e) m f m'
unfolding focused focus_cost
does r fs e m m' f act p is d h l = record {
  same = λ enter s. rw (is, d.frames) (ap (λ x. x then_do values_then (world r fs enter) m.frames) (d.gives enter (world r fs enter) s ∙ sym (h (world r fs enter) (seeing s m.variables))));
  less = rw (is, d.frames) (omega (arith, l, d.light));
}

pub does_next : (r : PlainRequest) (fs : List PlainFunction) (v : Plain) (old : Frame) (m m' : Evaluator) (f : Focus) (act : State → Run Plain) → Does act m f m'
    → ((w : Environment) (s : State) → after_value w old v s ≡ act s) → 0 < frame_cost old → Takes r fs v old m f m'
unfolding values_then
does_next r fs v old m m' f act d h l = record {
  same = λ enter s. rw d.frames (ap (λ x. x then_do values_then (world r fs enter) m.frames) (d.gives enter (world r fs enter) s ∙ sym (h (world r fs enter) (seeing s m.variables))));
  less = rw d.frames (omega (arith, l, d.light));
}
