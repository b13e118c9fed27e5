-- The moves that begin an expression, form by form.
use Rattle.std.proofs.Common.{◌≡◌, ℕ, List, [], refl, ap, arith, Bor, Bool}
use Rattle.std.specs.Prelude.{ℤ, Option, Some, None}
use Rattle.std.specs.declared.vec.Vec.{Vec}
use Rattle.std.specs.declared.alloc.Global.{Global}
use Rattle.php_syntax.specs.declared.tree.ArithSign.{ArithSign}
use Rattle.php_syntax.specs.declared.tree.CompareSign.{CompareSign}
use Rattle.php_syntax.specs.declared.tree.UpdateSign.{UpdateSign}
use Rattle.php_syntax.specs.declared.tree.SuperName.{SuperName}
use Rattle.php_syntax.specs.declared.tree.Expr.{Expr}
use Rattle.php_syntax.specs.Trees.{null_expr, flag_expr, int_expr, text_expr, var_expr, super_expr, member_expr, array_expr, join_expr, neg_expr, not_expr, arith_expr, compare_expr, and_expr, or_expr, coalesce_expr, choice_expr, isset_expr, empty_expr, assign_expr, update_expr, step_expr, call_expr, PlainFunction, plain_expr, exprs_of, items_of, path_of}
use Rattle.plain_values.specs.Plain.{Pairs, int, text, array, empty}
use Rattle.php_values.specs.declared.array.Value.{Value}
use Rattle.php_values.specs.declared.array.Value.TheVariants as variant
use Rattle.php_values.specs.View.{plain_of}
use Rattle.script_meaning.specs.Requests.{PlainRequest, request_array}
use Rattle.script_meaning.specs.Runs.{Going, value_in}
use Rattle.script_meaning.specs.Expressions.{value}
use Rattle.expr_evaluator.specs.declared.frame.Purpose.TheVariants as purpose
use Rattle.expr_evaluator.specs.declared.frame.Writing.TheVariants as writing
use Rattle.expr_evaluator.specs.declared.frame.Frame.TheVariants as frame
use Rattle.expr_evaluator.specs.declared.frame.Focus.{Focus}
use Rattle.expr_evaluator.specs.declared.frame.Focus.TheVariants as focus
use Rattle.expr_evaluator.specs.declared.evaluator.Evaluator.{Evaluator}
use Rattle.expr_evaluator.specs.Frames.{focused, after_value, row_done, keys_done, step_in, assign_in, maybe_plain}
use Rattle.expr_evaluator.specs.Cost.{cost, frame_cost, focus_cost, writing_cost}
use Rattle.expr_evaluator.specs.Moves.{Moves, Opens, Does, seeing}
use Rattle.expr_evaluator.proofs.Opening.{opens, begins, does}

module _ (r : PlainRequest) (fs : List PlainFunction) (e : Bor Expr) (m : Evaluator) where
  -- those that give a value at once
  pub begin_null : plain_expr e.now ≡ null_expr → Moves r fs (focus.Eval e) m (focus.Value variant.Null) m
  unfolding value focused cost focus_cost
  begin_null is = begins r fs e m _ _ is (λ enter s. refl) (omega arith)

  pub begin_flag : (b : Bool) → plain_expr e.now ≡ flag_expr b → Moves r fs (focus.Eval e) m (focus.Value (variant.Flag b)) m
  unfolding value focused cost focus_cost
  begin_flag b is = begins r fs e m _ _ is (λ enter s. refl) (omega arith)

  pub begin_int : (z : ℤ) (v : Value) → plain_expr e.now ≡ int_expr z → plain_of v ≡ int z → Moves r fs (focus.Eval e) m (focus.Value v) m
  unfolding value focused cost focus_cost
  begin_int z v is h = begins r fs e m _ _ is (λ enter s. ap (λ x. Going x (seeing s m.variables)) h) (omega arith)

  pub begin_text : (t : List ℕ) (v : Value) → plain_expr e.now ≡ text_expr t → plain_of v ≡ text t → Moves r fs (focus.Eval e) m (focus.Value v) m
  unfolding value focused cost focus_cost
  begin_text t v is h = begins r fs e m _ _ is (λ enter s. ap (λ x. Going x (seeing s m.variables)) h) (omega arith)

  pub begin_var : (x : List ℕ) (v : Value) → plain_expr e.now ≡ var_expr x → plain_of v ≡ value_in m.variables x → Moves r fs (focus.Eval e) m (focus.Value v) m
  unfolding value focused cost focus_cost
  begin_var x v is h = begins r fs e m _ _ is (λ enter s. ap (λ y. Going y (seeing s m.variables)) h) (omega arith)

  pub begin_super : (name : SuperName) (v : Value) → plain_expr e.now ≡ super_expr name → plain_of v ≡ array (request_array r name) → Moves r fs (focus.Eval e) m (focus.Value v) m
  unfolding value focused cost focus_cost
  begin_super name v is h = begins r fs e m _ _ is (λ enter s. ap (λ y. Going y (seeing s m.variables)) h) (omega arith)

  pub begin_step : (x : List ℕ) (up before : Bool) (f : Focus) (m' : Evaluator) → Does (step_in x up before) m f m' → plain_expr e.now ≡ step_expr x up before → Moves r fs (focus.Eval e) m f m'
  unfolding value cost step_in
  begin_step x up before f m' d is = does r fs e m m' f _ _ is d (λ w s. refl) (omega arith)

  -- those that open an operand
  module _ (a b : Bor Expr) (f : Focus) (m' : Evaluator) where
    pub begin_member : Opens (frame.Subscript b) a m f m' → plain_expr e.now ≡ member_expr (plain_expr a.now) (plain_expr b.now) → Moves r fs (focus.Eval e) m f m'
    unfolding value after_value cost frame_cost
    begin_member o is = opens r fs e a _ m m' f _ is o (λ w s. refl) (omega arith)

    pub begin_arith : (sign : ArithSign) → Opens (frame.ArithRight sign b) a m f m' → plain_expr e.now ≡ arith_expr sign (plain_expr a.now) (plain_expr b.now) → Moves r fs (focus.Eval e) m f m'
    unfolding value after_value cost frame_cost
    begin_arith sign o is = opens r fs e a _ m m' f _ is o (λ w s. refl) (omega arith)

    pub begin_compare : (sign : CompareSign) → Opens (frame.CompareRight sign b) a m f m' → plain_expr e.now ≡ compare_expr sign (plain_expr a.now) (plain_expr b.now) → Moves r fs (focus.Eval e) m f m'
    unfolding value after_value cost frame_cost
    begin_compare sign o is = opens r fs e a _ m m' f _ is o (λ w s. refl) (omega arith)

    pub begin_and : Opens (frame.And b) a m f m' → plain_expr e.now ≡ and_expr (plain_expr a.now) (plain_expr b.now) → Moves r fs (focus.Eval e) m f m'
    unfolding value after_value cost frame_cost
    begin_and o is = opens r fs e a _ m m' f _ is o (λ w s. refl) (omega arith)

    pub begin_or : Opens (frame.Or b) a m f m' → plain_expr e.now ≡ or_expr (plain_expr a.now) (plain_expr b.now) → Moves r fs (focus.Eval e) m f m'
    unfolding value after_value cost frame_cost
    begin_or o is = opens r fs e a _ m m' f _ is o (λ w s. refl) (omega arith)

    pub begin_coalesce : Opens (frame.Coalesce b) a m f m' → plain_expr e.now ≡ coalesce_expr (plain_expr a.now) (plain_expr b.now) → Moves r fs (focus.Eval e) m f m'
    unfolding value after_value cost frame_cost
    begin_coalesce o is = opens r fs e a _ m m' f _ is o (λ w s. refl) (omega arith)

    pub begin_choice : (c : Option (Bor Expr)) → Opens (frame.Choice c b) a m f m' → plain_expr e.now ≡ choice_expr (plain_expr a.now) (maybe_plain c) (plain_expr b.now) → Moves r fs (focus.Eval e) m f m'
    unfolding value after_value cost frame_cost
    begin_choice None o is = opens r fs e a _ m m' f _ is o (λ w s. refl) (omega arith)
    begin_choice (Some c) o is = opens r fs e a _ m m' f _ is o (λ w s. refl) (omega arith)

  module _ (a : Bor Expr) (f : Focus) (m' : Evaluator) where
    pub begin_neg : Opens frame.Negation a m f m' → plain_expr e.now ≡ neg_expr (plain_expr a.now) → Moves r fs (focus.Eval e) m f m'
    unfolding value after_value cost frame_cost
    begin_neg o is = opens r fs e a _ m m' f _ is o (λ w s. refl) (omega arith)

    pub begin_not : Opens frame.Not a m f m' → plain_expr e.now ≡ not_expr (plain_expr a.now) → Moves r fs (focus.Eval e) m f m'
    unfolding value after_value cost frame_cost
    begin_not o is = opens r fs e a _ m m' f _ is o (λ w s. refl) (omega arith)

    pub begin_empty : Opens frame.Not a m f m' → plain_expr e.now ≡ empty_expr (plain_expr a.now) → Moves r fs (focus.Eval e) m f m'
    unfolding value after_value cost frame_cost
    begin_empty o is = opens r fs e a _ m m' f _ is o (λ w s. refl) (omega arith)

  -- those that begin a row, items or subscripts
  module _ (es : Bor (List Expr)) (done : Vec Value Global) (none : done.items ≡ []) where
    pub begin_join : plain_expr e.now ≡ join_expr (exprs_of es.now) → Moves r fs (focus.Eval e) m (focus.Row purpose.Join es done) m
    unfolding value focused row_done cost focus_cost
    begin_join is = begins r fs e m _ _ is (λ enter s. rw none refl) (omega arith)

    pub begin_isset : plain_expr e.now ≡ isset_expr (exprs_of es.now) → Moves r fs (focus.Eval e) m (focus.Row purpose.Isset es done) m
    unfolding value focused row_done cost focus_cost
    begin_isset is = begins r fs e m _ _ is (λ enter s. rw none refl) (omega arith)

    pub begin_call : (name : Bor (List ℕ)) → plain_expr e.now ≡ call_expr name.now (exprs_of es.now) → Moves r fs (focus.Eval e) m (focus.Row (purpose.Call name) es done) m
    unfolding value focused row_done cost focus_cost
    begin_call name is = begins r fs e m _ _ is (λ enter s. rw none refl) (omega arith)

  pub begin_array : (items : Bor (List (Option Expr × Expr))) (made : Pairs) → made ≡ empty → plain_expr e.now ≡ array_expr (items_of items.now) → Moves r fs (focus.Eval e) m (focus.Items items made) m
  unfolding value focused cost focus_cost
  begin_array items made none is = begins r fs e m _ _ is (λ enter s. rw none refl) (omega arith)

  module _ (ks : Bor (List (Option Expr))) (done : Vec (Option Value) Global) (none : done.items ≡ []) (x : Bor (List ℕ)) (b : Bor Expr) where
    pub begin_assign : plain_expr e.now ≡ assign_expr x.now (path_of ks.now) (plain_expr b.now) → Moves r fs (focus.Eval e) m (focus.Keys (writing.Assign x b) ks done) m
    unfolding value focused keys_done assign_in cost focus_cost writing_cost
    begin_assign is = begins r fs e m _ _ is (λ enter s. rw none refl) (omega arith)

    pub begin_update : (sign : UpdateSign) → plain_expr e.now ≡ update_expr sign x.now (path_of ks.now) (plain_expr b.now) → Moves r fs (focus.Eval e) m (focus.Keys (writing.Update sign x b) ks done) m
    unfolding value focused keys_done cost focus_cost writing_cost
    begin_update sign is = begins r fs e m _ _ is (λ enter s. rw none refl) (omega arith)
