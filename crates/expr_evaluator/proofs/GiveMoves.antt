-- The moves that hand a value to a frame, frame by frame.
use Rattle.std.proofs.Common.{◌≡◌, ℕ, ◌+◌, ◌<◌, ◌≤◌, List, [], ◌∷◌, ◌++◌, refl, sym, ap, ◌∙◌, arith, Bor, Bool, true, false}
use Rattle.std.specs.Prelude.{not, Option, Some, None, Result, Ok, Err, if◌then◌else◌}
use Rattle.std.specs.declared.vec.Vec.{Vec}
use Rattle.std.specs.declared.alloc.Global.{Global}
use Rattle.php_syntax.specs.declared.tree.ArithSign.{ArithSign}
use Rattle.php_syntax.specs.declared.tree.CompareSign.{CompareSign}
use Rattle.php_syntax.specs.declared.tree.UpdateSign.{UpdateSign}
use Rattle.php_syntax.specs.declared.tree.Expr.{Expr}
use Rattle.php_syntax.specs.Trees.{PlainFunction}
use Rattle.plain_values.specs.Plain.{Plain, Pairs, flag}
use Rattle.plain_values.specs.Text.{truth}
use Rattle.plain_values.specs.Walks.{is_null}
use Rattle.plain_values.specs.Paths as paths
use Rattle.plain_values.specs.Arithmetic.{negation_of}
use Rattle.plain_values.specs.declared.fault.Fault.{Fault}
use Rattle.php_values.specs.declared.array.Value.{Value}
use Rattle.php_values.specs.declared.array.Value.TheVariants as variant
use Rattle.php_values.specs.declared.key.Key.{Key}
use Rattle.php_values.specs.View.{plain_of, plain_list, plain_path}
use Rattle.script_meaning.specs.Requests.{PlainRequest}
use Rattle.script_meaning.specs.Runs.{State, Going, ◌then_do◌, result_of}
use Rattle.script_meaning.specs.Expressions.{Environment, value, arithmetic, comparison}
use Rattle.expr_evaluator.specs.declared.frame.Purpose.{Purpose}
use Rattle.expr_evaluator.specs.declared.frame.Writing.{Writing}
use Rattle.expr_evaluator.specs.declared.frame.Frame.{Frame}
use Rattle.expr_evaluator.specs.declared.frame.Frame.TheVariants as frame
use Rattle.expr_evaluator.specs.declared.frame.Focus.{Focus}
use Rattle.expr_evaluator.specs.declared.frame.Focus.TheVariants as focus
use Rattle.expr_evaluator.specs.declared.evaluator.Evaluator.{Evaluator}
use Rattle.expr_evaluator.specs.Frames.{Entering, world, focused, after_value, assign_in, update_in, plain_maybe, plain_maybes}
use Rattle.expr_evaluator.specs.Cost.{frame_cost, focus_cost}
use Rattle.expr_evaluator.specs.Moves.{Takes, Opens, Does, Tells, TellsFlag, flagged, seeing}
use Rattle.expr_evaluator.proofs.Opening.{opens_next, gives, does_next}

-- what the result of an operation comes to
pub told : (enter : Entering) (w : Environment) (f : Focus) (answer : Result Plain Fault) → Tells f answer → (s : State) → focused enter w f s ≡ result_of answer s
unfolding focused result_of
told enter w (focus.Eval e) answer h s = absurd h
told enter w (focus.Value v) answer h s = rw h refl
told enter w (focus.Row p rest done) answer h s = absurd h
told enter w (focus.Items rest made) answer h s = absurd h
told enter w (focus.Keys p rest done) answer h s = absurd h
told enter w (focus.Call f args) answer h s = absurd h
told enter w (focus.Fault fault) answer h s = rw h refl

pub light : (f : Focus) (answer : Result Plain Fault) → Tells f answer → focus_cost f ≤ 2
unfolding focus_cost
light (focus.Eval e) answer h = absurd h
light (focus.Value v) answer h = omega arith
light (focus.Row p rest done) answer h = absurd h
light (focus.Items rest made) answer h = absurd h
light (focus.Keys p rest done) answer h = absurd h
light (focus.Call f args) answer h = absurd h
light (focus.Fault fault) answer h = omega arith

pub flagged_is : (answer : Result Bool Fault) (s : State) → result_of (flagged answer) s ≡ (result_of answer s then_do λ b t. Going (flag b) t)
unfolding result_of ◌then_do◌
flagged_is (Ok b) s = refl
flagged_is (Err fault) s = refl

pub list_push : (xs : List Value) (a : Value) → plain_list (xs ++ a ∷ []) ≡ plain_list xs ++ plain_of a ∷ []
list_push [] a = refl
list_push (x ∷ xs) a = ap (λ ys. plain_of x ∷ ys) (list_push xs a)

pub maybes_push : (xs : List (Option Value)) (a : Option Value) → plain_maybes (xs ++ a ∷ []) ≡ plain_maybes xs ++ plain_maybe a ∷ []
maybes_push [] a = refl
maybes_push (x ∷ xs) a = ap (λ ys. plain_maybe x ∷ ys) (maybes_push xs a)

if_true : {A : Type 0} (c : Bool) (a b : A) → c ≡ true → (if c then a else b) ≡ a
if_true c a b h = rw h refl

if_false : {A : Type 0} (c : Bool) (a b : A) → c ≡ false → (if c then a else b) ≡ b
if_false c a b h = rw h refl

module _ (r : PlainRequest) (fs : List PlainFunction) (m : Evaluator) (v : Plain) (f : Focus) where
  gives_told : (old : Frame) (answer : Result Plain Fault) → Tells f answer → ((w : Environment) (s : State) → after_value w old v s ≡ result_of answer s) → 0 < frame_cost old → Takes r fs v old m f m
  gives_told old answer t h l = gives r fs v old m f (λ enter s. told enter (world r fs enter) f answer t _ ∙ sym (h (world r fs enter) _)) (omega (arith, light f answer t, l))

  pub give_container : (a : Value) → Tells f (paths.subscript_of (plain_of a) v) → Takes r fs v (frame.Container a) m f m
  unfolding after_value frame_cost
  give_container a t = gives_told (frame.Container a) _ t (λ w s. refl) (omega arith)

  pub give_negation : Tells f (negation_of v) → Takes r fs v frame.Negation m f m
  unfolding after_value frame_cost
  give_negation t = gives_told frame.Negation _ t (λ w s. refl) (omega arith)

  pub give_arith : (sign : ArithSign) (a : Value) → Tells f (arithmetic sign (plain_of a) v) → Takes r fs v (frame.ArithLeft sign a) m f m
  unfolding after_value frame_cost
  give_arith sign a t = gives_told (frame.ArithLeft sign a) _ t (λ w s. refl) (omega arith)

  pub give_compare : (sign : CompareSign) (a : Value) → TellsFlag f (comparison sign (plain_of a) v) → Takes r fs v (frame.CompareLeft sign a) m f m
  unfolding after_value frame_cost
  give_compare sign a t = gives_told (frame.CompareLeft sign a) _ t (λ w s. sym (flagged_is (comparison sign (plain_of a) v) s)) (omega arith)

  -- those that open the next expression
  module _ (m' : Evaluator) (e : Bor Expr) where
    pub give_subscript : (a : Value) → v ≡ plain_of a → Opens (frame.Container a) e m f m' → Takes r fs v (frame.Subscript e) m f m'
    unfolding after_value frame_cost
    give_subscript a is o = opens_next r fs v (frame.Subscript e) _ e m m' f o (λ w s. rw is refl) (omega arith)

    pub give_item_key : (rest : Bor (List (Option Expr × Expr))) (made : Pairs) (a : Value) → v ≡ plain_of a → Opens (frame.ItemValue (Some a) rest made) e m f m' → Takes r fs v (frame.ItemKey e rest made) m f m'
    unfolding after_value frame_cost
    give_item_key rest made a is o = opens_next r fs v (frame.ItemKey e rest made) (frame.ItemValue (Some a) rest made) e m m' f o (λ w s. rw is refl) (omega arith)

    pub give_arith_right : (sign : ArithSign) (a : Value) → v ≡ plain_of a → Opens (frame.ArithLeft sign a) e m f m' → Takes r fs v (frame.ArithRight sign e) m f m'
    unfolding after_value frame_cost
    give_arith_right sign a is o = opens_next r fs v (frame.ArithRight sign e) _ e m m' f o (λ w s. rw is refl) (omega arith)

    pub give_compare_right : (sign : CompareSign) (a : Value) → v ≡ plain_of a → Opens (frame.CompareLeft sign a) e m f m' → Takes r fs v (frame.CompareRight sign e) m f m'
    unfolding after_value frame_cost
    give_compare_right sign a is o = opens_next r fs v (frame.CompareRight sign e) _ e m m' f o (λ w s. rw is refl) (omega arith)

    pub give_and : truth v ≡ true → Opens frame.Truth e m f m' → Takes r fs v (frame.And e) m f m'
    unfolding after_value frame_cost
    give_and h o = opens_next r fs v (frame.And e) _ e m m' f o (λ w s. if_true (truth v) _ _ h) (omega arith)

    pub give_or : truth v ≡ false → Opens frame.Truth e m f m' → Takes r fs v (frame.Or e) m f m'
    unfolding after_value frame_cost
    give_or h o = opens_next r fs v (frame.Or e) _ e m m' f o (λ w s. if_false (truth v) _ _ h) (omega arith)

-- those that give a truth value or go on with an expression
module _ (r : PlainRequest) (fs : List PlainFunction) (m : Evaluator) (v : Plain) where
  pub give_not : (b : Bool) → b ≡ not (truth v) → Takes r fs v frame.Not m (focus.Value (variant.Flag b)) m
  unfolding after_value frame_cost focused focus_cost
  give_not b h = gives r fs v frame.Not m (focus.Value (variant.Flag b)) (λ enter s. rw h refl) (omega arith)

  pub give_truth : (b : Bool) → b ≡ truth v → Takes r fs v frame.Truth m (focus.Value (variant.Flag b)) m
  unfolding after_value frame_cost focused focus_cost
  give_truth b h = gives r fs v frame.Truth m (focus.Value (variant.Flag b)) (λ enter s. rw h refl) (omega arith)

  pub give_and_short : (e : Bor Expr) → truth v ≡ false → Takes r fs v (frame.And e) m (focus.Value (variant.Flag false)) m
  unfolding after_value frame_cost focused focus_cost
  give_and_short e h = gives r fs v (frame.And e) m (focus.Value (variant.Flag false)) (λ enter s. sym (if_false (truth v) _ _ h)) (omega arith)

  pub give_or_short : (e : Bor Expr) → truth v ≡ true → Takes r fs v (frame.Or e) m (focus.Value (variant.Flag true)) m
  unfolding after_value frame_cost focused focus_cost
  give_or_short e h = gives r fs v (frame.Or e) m (focus.Value (variant.Flag true)) (λ enter s. sym (if_true (truth v) _ _ h)) (omega arith)

  pub give_coalesce : (e : Bor Expr) → is_null v ≡ true → Takes r fs v (frame.Coalesce e) m (focus.Eval e) m
  unfolding after_value frame_cost focused focus_cost
  give_coalesce e h = gives r fs v (frame.Coalesce e) m (focus.Eval e) (λ enter s. sym (if_true (is_null v) _ _ h)) (omega arith)

  pub give_coalesce_kept : (e : Bor Expr) (a : Value) → v ≡ plain_of a → is_null v ≡ false → Takes r fs v (frame.Coalesce e) m (focus.Value a) m
  unfolding after_value frame_cost focused focus_cost
  give_coalesce_kept e a is h = gives r fs v (frame.Coalesce e) m (focus.Value a) (λ enter s. ap (λ x. Going x (seeing s m.variables)) (sym is) ∙ sym (if_false (is_null v) _ _ h)) (omega arith)

  pub give_choice_kept : (e : Bor Expr) (a : Value) → v ≡ plain_of a → truth v ≡ true → Takes r fs v (frame.Choice None e) m (focus.Value a) m
  unfolding after_value frame_cost focused focus_cost
  give_choice_kept e a is h = gives r fs v (frame.Choice None e) m (focus.Value a) (λ enter s. ap (λ x. Going x (seeing s m.variables)) (sym is) ∙ sym (if_true (truth v) _ _ h)) (omega arith)

  pub give_choice_short : (e : Bor Expr) → truth v ≡ false → Takes r fs v (frame.Choice None e) m (focus.Eval e) m
  unfolding after_value frame_cost focused focus_cost
  give_choice_short e h = gives r fs v (frame.Choice None e) m (focus.Eval e) (λ enter s. sym (if_false (truth v) _ _ h)) (omega arith)

  pub give_choice_first : (a e : Bor Expr) → truth v ≡ true → Takes r fs v (frame.Choice (Some a) e) m (focus.Eval a) m
  unfolding after_value frame_cost focused focus_cost
  give_choice_first a e h = gives r fs v (frame.Choice (Some a) e) m (focus.Eval a) (λ enter s. sym (if_true (truth v) _ _ h)) (omega arith)

  pub give_choice_second : (a e : Bor Expr) → truth v ≡ false → Takes r fs v (frame.Choice (Some a) e) m (focus.Eval e) m
  unfolding after_value frame_cost focused focus_cost
  give_choice_second a e h = gives r fs v (frame.Choice (Some a) e) m (focus.Eval e) (λ enter s. sym (if_false (truth v) _ _ h)) (omega arith)

  pub give_row : (p : Purpose) (rest : Bor (List Expr)) (done done' : Vec Value Global) (a : Value) → v ≡ plain_of a → done'.items ≡ done.items ++ a ∷ [] → Takes r fs v (frame.Row p rest done) m (focus.Row p rest done') m
  unfolding after_value frame_cost focused focus_cost
  give_row p rest done done' a is h = gives r fs v (frame.Row p rest done) m (focus.Row p rest done') (λ enter s. rw (h, is, list_push done.items a) refl) (omega arith)

  pub give_keys : (p : Writing) (rest : Bor (List (Option Expr))) (done done' : Vec (Option Value) Global) (a : Value) → v ≡ plain_of a → done'.items ≡ done.items ++ Some a ∷ [] → Takes r fs v (frame.Keys p rest done) m (focus.Keys p rest done') m
  unfolding after_value frame_cost focused focus_cost
  give_keys p rest done done' a is h = gives r fs v (frame.Keys p rest done) m (focus.Keys p rest done') (λ enter s. rw (h, is, maybes_push done.items (Some a)) refl) (omega arith)

  pub give_assign : (m' : Evaluator) (f : Focus) (x : Bor (List ℕ)) (ks : Vec (Option Value) Global) → Does (assign_in x.now (plain_maybes ks.items) v) m f m' → Takes r fs v (frame.Assign x ks) m f m'
  unfolding after_value frame_cost
  give_assign m' f x ks d = does_next r fs v (frame.Assign x ks) m m' f _ d (λ w s. refl) (omega arith)

  pub give_update : (m' : Evaluator) (f : Focus) (sign : UpdateSign) (x : Bor (List ℕ)) (path : Vec (Option Key) Global) (old : Value) → Does (update_in sign x.now (plain_path path.items) (plain_of old) v) m f m' → Takes r fs v (frame.Update sign x path old) m f m'
  unfolding after_value frame_cost
  give_update m' f sign x path old d = does_next r fs v (frame.Update sign x path old) m m' f _ d (λ w s. refl) (omega arith)
