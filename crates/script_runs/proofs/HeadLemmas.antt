-- What comes next at the head of some parts.
use Rattle.std.proofs.Common.{◌≡◌, ℕ, ◌≤◌, List, [], ◌∷◌, refl, sym, ◌∙◌, arith, Bor}
use Rattle.std.specs.Prelude.{Option, Some, None, Result, Ok, Err, IfOk}
use Rattle.text_base.specs.declared.memory.NoMemory.{NoMemory}
use Rattle.std.specs.declared.vec.Vec.{Vec}
use Rattle.std.specs.declared.alloc.Global.{Global}
use Rattle.php_syntax.specs.declared.tree.Expr.{Expr}
use Rattle.php_syntax.specs.declared.tree.Stmt.{Stmt}
use Rattle.php_syntax.specs.Trees.{no_expr, some_expr, plain_expr, exprs_of, stmts_of, arms_of}
use Rattle.plain_values.specs.Plain.{Plain, array, empty, pair}
use Rattle.plain_values.specs.Walks.{walked}
use Rattle.php_values.specs.declared.array.Value.{Value}
use Rattle.php_values.specs.declared.key.Key.{Key}
use Rattle.php_values.specs.View.{plain_of, plain_key}
use Rattle.script_meaning.specs.Runs.{State, Run, ◌then_do◌}
use Rattle.script_meaning.specs.Expressions.{Environment, value, values}
use Rattle.script_meaning.specs.Statements as meaning
use Rattle.script_meaning.specs.Statements.{echo, condition, for_condition, statements, arms_in, walk}
use Rattle.expr_evaluator.proofs.Runs.{assoc, same_then}
use Rattle.script_meaning.proofs.Loops.{by_turns}
use Rattle.script_runs.specs.declared.frames.Flow.TheVariants as flow
use Rattle.script_runs.specs.declared.frames.Looping.{Looping}
use Rattle.script_runs.specs.declared.frames.Walking.{Walking}
use Rattle.script_runs.specs.declared.frames.Wait.TheVariants as wait
use Rattle.script_runs.specs.declared.frames.Next.{Next}
use Rattle.script_runs.specs.declared.frames.Next.TheVariants as next
use Rattle.script_runs.specs.Frames.{scope, focused, wait_after, looping, values_before, turning, walking, each_value}
use Rattle.script_runs.specs.Cost.{row_weight, arms_weight, wait_weight, next_weight}
use Rattle.script_runs.specs.StatementMoves.{Means}

pub echo_ends : (rest : List Expr) → rest ≡ [] → Means (next.Left flow.GoesOn) (λ w. echo w (exprs_of rest)) (row_weight rest)
unfolding focused echo next_weight row_weight
echo_ends rest none = record { same = λ r fs room s. rw none refl; light = rw none (omega arith) }

pub echo_goes : (rest : List Expr) (others : Bor (List Expr)) (first : Bor Expr) → rest ≡ first.now ∷ others.now → Means (next.Eval first (wait.Echo others)) (λ w. echo w (exprs_of rest)) (row_weight rest)
unfolding focused wait_after echo next_weight wait_weight row_weight
echo_goes rest others first is = record { same = λ r fs room s. rw is refl; light = rw is (omega arith) }

pub arms_end : (arms : List (Expr × Vec Stmt Global)) (otherwise : List Stmt) (block : Bor (List Stmt)) → arms ≡ [] → block.now ≡ otherwise → Means (next.Block block) (λ w. arms_in w (arms_of arms) (statements w (stmts_of otherwise))) (arms_weight arms otherwise)
unfolding focused arms_in next_weight arms_weight
arms_end arms otherwise block none is = record { same = λ r fs room s. rw (none, is) refl; light = rw (none, is) (omega arith) }

pub arms_go : (arms : List (Expr × Vec Stmt Global)) (others : Bor (List (Expr × Vec Stmt Global))) (arm : Expr × Vec Stmt Global) (e : Bor Expr) (body otherwise : Bor (Vec Stmt Global)) → arms ≡ arm ∷ others.now → e.now ≡ arm.0 → body.now ≡ arm.1
    → Means (next.Eval e (wait.Arm body others otherwise)) (λ w. arms_in w (arms_of arms) (statements w (stmts_of otherwise.now.items))) (arms_weight arms otherwise.now.items)
unfolding focused wait_after arms_in condition ◌then_do◌ next_weight wait_weight arms_weight
arms_go arms others arm e body otherwise is at within = record {
  same = λ r fs room s. rw (is, at, within) (sym (assoc (value (scope r fs room) (plain_expr arm.0) s) _ _));
  light = rw (is, within) (omega arith);
}

pub loop_open : (l : Looping) → l.test ≡ None → Means (next.Turn l) (λ w. looping w l) 2
unfolding focused turning looping values_before for_condition ◌then_do◌ next_weight
loop_open l none = record {
  same = λ r fs room s. rw none (sym (by_turns r fs room no_expr (exprs_of l.behind.now) (stmts_of l.body.now.items) s));
  light = omega arith;
}

pub loop_test : (l : Looping) (e : Bor Expr) → l.test ≡ Some e → Means (next.Eval e (wait.Test l)) (λ w. looping w l) 2
unfolding focused wait_after turning looping values_before for_condition condition ◌then_do◌ next_weight wait_weight
loop_test l e is = record {
  same = λ r fs room s. rw is (sym (by_turns r fs room (some_expr (plain_expr e.now)) (exprs_of l.behind.now) (stmts_of l.body.now.items) s ∙ assoc (value (scope r fs room) (plain_expr e.now) s) _ _));
  light = omega arith;
}

pub before_ends : (rest : List Expr) (l : Looping) (n : Next) → rest ≡ [] → Means n (λ w. looping w l) 2 → Means n (λ w. values_before w (exprs_of rest) l) (row_weight rest)
unfolding values_before values ◌then_do◌ row_weight
before_ends rest l n none m = record { same = λ r fs room s. rw none (m.same r fs room s); light = rw none (omega (arith, m.light)) }

pub before_goes : (rest : List Expr) (others : Bor (List Expr)) (first : Bor Expr) (l : Looping) → rest ≡ first.now ∷ others.now → Means (next.Eval first (wait.Before others l)) (λ w. values_before w (exprs_of rest) l) (row_weight rest)
unfolding focused wait_after values_before values ◌then_do◌ next_weight wait_weight row_weight
before_goes rest others first l is = record {
  same = λ r fs room s. rw is (sym (assoc (value (scope r fs room) (plain_expr first.now) s) _ _ ∙ same_then (value (scope r fs room) (plain_expr first.now) s) _ _ λ v t. assoc (values (scope r fs room) (exprs_of others.now) t) _ _));
  light = rw is (omega arith);
}

pub walk_ends : (l : Walking) → l.pairs ≡ empty → Means (next.Left flow.GoesOn) (λ w. walking w l) 1
unfolding focused walking walk next_weight
walk_ends l none = record { same = λ r fs room s. rw none refl; light = omega arith }

pub walk_goes : (l l' : Walking) (k : Key) (v : Value) → l.pairs ≡ pair (plain_key k) (plain_of v) l'.pairs → l'.key ≡ l.key → l'.value ≡ l.value → l'.body ≡ l.body → Means (next.Step k v l') (λ w. walking w l) 1
unfolding focused walking walk next_weight
walk_goes l l' k v is key name body = record { same = λ r fs room s. rw (is, key, name, body) refl; light = omega arith }

pub over_array : (n : Next) (l : Walking) (v : Plain) → v ≡ array l.pairs → Means n (λ w. walking w l) 1 → Means n (λ w. each_value w l.key l.value l.body v) 1
unfolding walking each_value
over_array n l v is m = record { same = λ r fs room s. rw is (m.same r fs room s); light = m.light }

-- the same of a result
pub over_ok : (r : Result Next NoMemory) (l : Walking) (v : Plain) → v ≡ array l.pairs → IfOk r (λ n. Means n (λ w. walking w l) 1) → IfOk r (λ n. Means n (λ w. each_value w l.key l.value l.body v) 1)
over_ok (Ok n) l v is m = over_array n l v is m
over_ok (Err e) l v is m = m

pub over_none : (key : Option (Bor (List ℕ))) (name : Bor (List ℕ)) (body : Bor (Vec Stmt Global)) (v : Plain) → walked v ≡ empty → Means (next.Left flow.GoesOn) (λ w. each_value w key name body v) 1
unfolding focused each_value walk next_weight
over_none key name body v none = record { same = λ r fs room s. rw none refl; light = omega arith }

-- the same of what comes to the same
pub as_said : (n : Next) (act act' : Environment → State → Run meaning.Flow) (most most' : ℕ) → Means n act most → ((w : Environment) (s : State) → act w s ≡ act' w s) → most ≤ most' → Means n act' most'
as_said n act act' most most' m h l = record { same = λ r fs room s. m.same r fs room s ∙ h (scope r fs room) s; light = omega (arith, m.light) }
