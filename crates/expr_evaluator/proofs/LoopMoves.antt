-- Moves one after the other.
use Rattle.std.proofs.Common.{◌≡◌, List, [], ◌∷◌, refl, sym, ◌∙◌, subst, arith, Bor}
use Rattle.std.specs.declared.vec.Vec.{Vec}
use Rattle.std.specs.declared.alloc.Global.{Global}
use Rattle.php_syntax.specs.declared.tree.FunctionDef.{FunctionDef}
use Rattle.php_syntax.specs.Trees.{PlainFunction}
use Rattle.plain_values.specs.declared.fault.Fault.{Fault}
use Rattle.php_values.specs.declared.array.Value.{Value}
use Rattle.php_values.specs.View.{plain_of}
use Rattle.script_meaning.specs.Requests.{PlainRequest}
use Rattle.script_meaning.specs.Runs.{State, ◌then_do◌}
use Rattle.expr_evaluator.specs.declared.frame.Frame.{Frame}
use Rattle.expr_evaluator.specs.declared.frame.Focus.{Focus}
use Rattle.expr_evaluator.specs.declared.frame.Focus.TheVariants as focus
use Rattle.expr_evaluator.specs.declared.evaluate.Moved.{Moved}
use Rattle.expr_evaluator.specs.declared.evaluate.Moved.TheVariants as moved
use Rattle.expr_evaluator.specs.declared.frame.Pause.{Pause}
use Rattle.expr_evaluator.specs.declared.frame.Pause.TheVariants as pause
use Rattle.expr_evaluator.specs.declared.evaluator.Evaluator.{Evaluator}
use Rattle.expr_evaluator.specs.Frames.{Entering, world, focused, paused, ahead}
use Rattle.expr_evaluator.specs.Cost.{focus_cost, stack_cost}
use Rattle.expr_evaluator.specs.Moves.{Moves, Takes, Pauses, Advances, seeing}

-- a frame was taken off the stack and is given a value
pub popped : (r : PlainRequest) (fs : List PlainFunction) (v : Value) (frame : Frame) (m m1 m' : Evaluator) (f : Focus) → m.frames ≡ frame ∷ m1.frames → m1.variables ≡ m.variables → Takes r fs (plain_of v) frame m1 f m' → Moves r fs (focus.Value v) m f m'
unfolding focused focus_cost stack_cost ◌then_do◌
popped r fs v frame m m1 m' f is vs t = record {
  same = λ enter s. t.same enter s ∙ rw (is, vs) refl;
  less = rw is (omega (arith, t.less));
}

pub stops_value : (r : PlainRequest) (fs : List PlainFunction) (v : Value) (m m' : Evaluator) → m.frames ≡ [] → m'.frames ≡ [] → m'.variables ≡ m.variables → Pauses r fs (focus.Value v) m (pause.Value v) m'
unfolding focused paused
stops_value r fs v m m' none none' vs = record { same = λ enter s. rw (none, none', vs) refl; ended = λ u h. none' }

pub stops_call : (r : PlainRequest) (fs : List PlainFunction) (f : Bor FunctionDef) (args : Vec Value Global) (m : Evaluator) → Pauses r fs (focus.Call f args) m (pause.Call f args) m
unfolding focused paused
stops_call r fs f args m = record { same = λ enter s. refl; ended = λ u h. (cc) }

pub stops_fault : (r : PlainRequest) (fs : List PlainFunction) (fault : Fault) (m : Evaluator) → Pauses r fs (focus.Fault fault) m (pause.Fault fault) m
unfolding focused paused
stops_fault r fs fault m = record { same = λ enter s. refl; ended = λ u h. (cc) }

-- what is to come stays the same through moves
pub record Comes (r : PlainRequest) (fs : List PlainFunction) (f : Focus) (m : Evaluator) (f' : Focus) (m' : Evaluator) : Type 0 where
  pub same : (enter : Entering) (s : State) → ahead enter (world r fs enter) f' m'.frames (seeing s m'.variables) ≡ ahead enter (world r fs enter) f m.frames (seeing s m.variables)

pub comes_first : (r : PlainRequest) (fs : List PlainFunction) (f : Focus) (m : Evaluator) → Comes r fs f m f m
comes_first r fs f m = record { same = λ enter s. refl }

pub comes_on : (r : PlainRequest) (fs : List PlainFunction) (f f' f'' : Focus) (m m' m'' : Evaluator) → Comes r fs f m f' m' → Moves r fs f' m' f'' m'' → Comes r fs f m f'' m''
comes_on r fs f f' f'' m m' m'' c h = record { same = λ enter s. h.same enter s ∙ c.same enter s }

pub comes_to : (r : PlainRequest) (fs : List PlainFunction) (f f' : Focus) (p : Pause) (m m' m'' : Evaluator) → Comes r fs f m f' m' → Pauses r fs f' m' p m'' → Pauses r fs f m p m''
comes_to r fs f f' p m m' m'' c h = record { same = λ enter s. h.same enter s ∙ c.same enter s; ended = h.ended }

-- the same of a focus by another equation
pub moves_as : (r : PlainRequest) (fs : List PlainFunction) (f g : Focus) (m : Evaluator) (f' : Focus) (m' : Evaluator) → f ≡ g → Moves r fs g m f' m' → Moves r fs f m f' m'
moves_as r fs f g m f' m' e h = subst (λ x. Moves r fs x m f' m') (sym e) h

pub pauses_as : (r : PlainRequest) (fs : List PlainFunction) (f g : Focus) (m : Evaluator) (p : Pause) (m' : Evaluator) → f ≡ g → Pauses r fs g m p m' → Pauses r fs f m p m'
pauses_as r fs f g m p m' e h = subst (λ x. Pauses r fs x m p m') (sym e) h

pub moved_on : (r : PlainRequest) (fs : List PlainFunction) (f : Focus) (m : Evaluator) (n : Moved) (f' : Focus) (m' : Evaluator) → Advances r fs f m n m' → n ≡ moved.On f' → Moves r fs f m f' m'
moved_on r fs f m n f' m' h e = subst (λ x. Advances r fs f m x m') e h

pub moved_at : (r : PlainRequest) (fs : List PlainFunction) (f : Focus) (m : Evaluator) (n : Moved) (p : Pause) (m' : Evaluator) → Advances r fs f m n m' → n ≡ moved.At p → Pauses r fs f m p m'
moved_at r fs f m n p m' h e = subst (λ x. Advances r fs f m x m') e h
