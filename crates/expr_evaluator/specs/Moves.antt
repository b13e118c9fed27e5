-- What one move of an evaluation comes to.
use Rattle.std.specs.Prelude.{◌≡◌, Bool, ◌+◌, ◌<◌, ◌≤◌, List, [], ◌∷◌, Option, Result, Ok, Err}
use Rattle.std.specs.Borrow.{Bor}
use Rattle.php_syntax.specs.declared.tree.Expr.{Expr}
use Rattle.php_syntax.specs.Trees.{PlainFunction}
use Rattle.plain_values.specs.Paths as paths
use Rattle.plain_values.specs.Plain.{Plain, flag}
use Rattle.plain_values.specs.declared.fault.Fault.{Fault}
use Rattle.php_values.specs.View.{plain_of}
use Rattle.php_values.specs.declared.array.Value.{Value}
use Rattle.script_meaning.specs.Requests.{PlainRequest}
use Rattle.script_meaning.specs.Runs.{State, Run, Variables, ◌then_do◌}
use Rattle.script_meaning.specs.Expressions.{Environment}
use Rattle.expr_evaluator.specs.declared.frame.Frame.{Frame}
use Rattle.expr_evaluator.specs.declared.frame.Focus.{Focus}
use Rattle.expr_evaluator.specs.declared.frame.Focus.TheVariants as focus
use Rattle.expr_evaluator.specs.declared.evaluate.Moved.{Moved}
use Rattle.expr_evaluator.specs.declared.evaluate.Moved.TheVariants as moved
use Rattle.expr_evaluator.specs.declared.frame.Writing.{Writing}
use Rattle.expr_evaluator.specs.declared.frame.Purpose.{Purpose}
use Rattle.expr_evaluator.specs.declared.frame.Pause.{Pause}
use Rattle.expr_evaluator.specs.declared.frame.Pause.TheVariants as pause
use Rattle.expr_evaluator.specs.declared.evaluator.Evaluator.{Evaluator}
use Rattle.expr_evaluator.specs.Frames.{Entering, world, ahead, paused, values_then, focused, row_done, keys_done}
use Rattle.expr_evaluator.specs.Cost.{focus_cost, frame_cost, stack_cost, writing_cost}

-- a state with other variables
abbrev pub seeing : State → Variables → State
seeing s vs = record s { variables = vs }

-- a move: what is to come is the same, and less is left to do
pub record Moves (r : PlainRequest) (fs : List PlainFunction) (f : Focus) (m : Evaluator) (f' : Focus) (m' : Evaluator) : Type 0 where
  pub same : (enter : Entering) (s : State)
      → ahead enter (world r fs enter) f' m'.frames (seeing s m'.variables)
      ≡ ahead enter (world r fs enter) f m.frames (seeing s m.variables)
  pub less : focus_cost f' + stack_cost m'.frames < focus_cost f + stack_cost m.frames

-- a move that hands a value to a frame, which was taken off the stack
pub record Takes (r : PlainRequest) (fs : List PlainFunction) (v : Plain) (frame : Frame) (m : Evaluator) (f' : Focus) (m' : Evaluator) :
    Type 0 where
  pub same : (enter : Entering) (s : State)
      → ahead enter (world r fs enter) f' m'.frames (seeing s m'.variables)
      ≡ values_then (world r fs enter) (frame ∷ m.frames) v (seeing s m.variables)
  pub less : focus_cost f' + stack_cost m'.frames < 2 + frame_cost frame + stack_cost m.frames

-- an expression is next, and a frame waits for its value
pub record Opens (frame : Frame) (e : Bor Expr) (m : Evaluator) (f : Focus) (m' : Evaluator) : Type 0 where
  pub next : f ≡ focus.Eval e
  pub frames : m'.frames ≡ frame ∷ m.frames
  pub variables : m'.variables ≡ m.variables

-- moves up to a pause, where nothing is left to do once the expression has its value
pub record Pauses (r : PlainRequest) (fs : List PlainFunction) (f : Focus) (m : Evaluator) (p : Pause) (m' : Evaluator) : Type 0 where
  pub same : (enter : Entering) (s : State)
      → (paused enter p (seeing s m'.variables) then_do values_then (world r fs enter) m'.frames)
      ≡ ahead enter (world r fs enter) f m.frames (seeing s m.variables)
  pub ended : (v : Value) → p ≡ pause.Value v → m'.frames ≡ []

-- a focus that is the result of an operation: its value, or its fault
abbrev pub Tells : Focus → Result Plain Fault → Type 0
Tells (focus.Eval e) r = ⊥
Tells (focus.Value v) r = r ≡ Ok (plain_of v)
Tells (focus.Row p rest done) r = ⊥
Tells (focus.Items rest made) r = ⊥
Tells (focus.Keys p rest done) r = ⊥
Tells (focus.Call f args) r = ⊥
Tells (focus.Fault fault) r = r ≡ Err fault

-- a truth value as a value
abbrev pub flagged : Result Bool Fault → Result Plain Fault
flagged (Ok b) = Ok (flag b)
flagged (Err fault) = Err fault

-- a focus that is the truth value of an operation, or its fault
abbrev pub TellsFlag : Focus → Result Bool Fault → Type 0
TellsFlag f r = Tells f (flagged r)

-- an operation over variables: its value, or its fault, is next, and the frames stay
pub record Does (act : State → Run Plain) (m : Evaluator) (f : Focus) (m' : Evaluator) : Type 0 where
  pub frames : m'.frames ≡ m.frames
  pub gives : (enter : Entering) (w : Environment) (s : State) → focused enter w f (seeing s m'.variables) ≡ act (seeing s m.variables)
  pub light : focus_cost f ≤ 2

-- values in a row have come to what is next
pub record Finishes (fs : List PlainFunction) (p : Purpose) (vs : List Plain) (f : Focus) : Type 0 where
  pub gives : (r : PlainRequest) (enter : Entering) (s : State) → focused enter (world r fs enter) f s ≡ row_done (world r fs enter) p vs s
  pub light : focus_cost f ≤ 2

-- what goes on behind the subscripts of a target is next
pub record Reads (p : Writing) (ks : List (Option Plain)) (m : Evaluator) (f : Focus) (m' : Evaluator) : Type 0 where
  pub same : (r : PlainRequest) (fs : List PlainFunction) (enter : Entering) (s : State)
      → ahead enter (world r fs enter) f m'.frames (seeing s m'.variables)
      ≡ (keys_done (world r fs enter) p ks (seeing s m.variables) then_do values_then (world r fs enter) m.frames)
  pub less : focus_cost f + stack_cost m'.frames < writing_cost p + 3 + stack_cost m.frames

-- one move, or a pause
abbrev pub Advances : PlainRequest → List PlainFunction → Focus → Evaluator → Moved → Evaluator → Type 0
Advances r fs f m (moved.On f') m' = Moves r fs f m f' m'
Advances r fs f m (moved.At p) m' = Pauses r fs f m p m'

-- a variable's value after a write at the end of a path
abbrev pub written : List paths.Step → Plain → Plain → Result Plain Fault
written [] v whole = Ok v
written (k ∷ ks) v whole = paths.write (k ∷ ks) v whole
