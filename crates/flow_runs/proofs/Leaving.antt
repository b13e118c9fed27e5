-- How a run of statements may be left, by the structure of the statements.
use Rattle.std.proofs.Common.{◌≡◌, ℕ, zero, suc, List, Some, None, Option, refl, subst, Bool, true, false, ◌&&◌, ◌||◌}
use Rattle.std.specs.Prelude.{if◌then◌else◌}
use Rattle.php_syntax.specs.Trees.{PlainExpr, MaybeExpr, no_expr, some_expr, PlainExprs, no_exprs, more_exprs, PlainStmt, inline_stmt, echo_stmt, run_stmt, if_stmt, while_stmt, do_while_stmt, for_stmt, each_stmt, break_stmt, continue_stmt, return_stmt, include_stmt, quit_stmt, PlainStmts, no_stmts, more_stmts, PlainArms, no_arms, more_arms}
use Rattle.plain_values.specs.Plain.{Plain, Pairs, null, flag, int, text, array, empty, pair}
use Rattle.script_meaning.specs.Runs.{State, Run, Going, Over, ◌then_do◌, unit_at}
use Rattle.script_meaning.specs.Expressions.{Environment, value, maybe_value}
use Rattle.script_meaning.specs.Statements.{Flow, goes_on, breaks, continues, returns, next_after, turn_after, turn, turns, loop, walk, condition, for_condition, nothing, echo, returned, exit_with, statement, statements, arms_in}
use Rattle.flow_code.specs.Completion.{completes, all_complete, one_completes, jumps_out, some_jump_out, one_jumps_out}

-- what is left so: at the end only where it may be, and by `break` or `continue` only where it may be
abbrev pub LeftAs : Bool → Bool → Flow → Type 0
LeftAs on out goes_on = on ≡ true
LeftAs on out breaks = out ≡ true
LeftAs on out continues = out ≡ true
LeftAs on out (returns v) = Unit {0}

abbrev pub LeftBy : Bool → Bool → Run Flow → Type 0
LeftBy on out (Going how s) = LeftAs on out how
LeftBy on out (Over end w) = Unit {0}

pub record IsLeft (on out : Bool) (r : Run Flow) : Type 0 where
  pub is : LeftBy on out r

pub no_way : {A : Type 0} → false ≡ true → A
no_way e = absurd cc

pub no_end : {A : Type 0} → true ≡ false → A
no_end e = absurd cc

pub both_hold : (a b : Bool) → a ≡ true → b ≡ true → (a && b) ≡ true
both_hold true b e k = k
both_hold false b e k = no_way e

pub left_holds : (a b : Bool) → a ≡ true → (a || b) ≡ true
left_holds true b e = refl
left_holds false b e = no_way e

pub right_holds : (a b : Bool) → b ≡ true → (a || b) ≡ true
right_holds true b e = refl
right_holds false b e = e

weaker_at : (on out on' out' : Bool) (r : Run Flow) → (on ≡ true → on' ≡ true) → (out ≡ true → out' ≡ true) → LeftBy on out r → LeftBy on' out' r
weaker_at on out on' out' (Going goes_on s) h k l = h l
weaker_at on out on' out' (Going breaks s) h k l = k l
weaker_at on out on' out' (Going continues s) h k l = k l
weaker_at on out on' out' (Going (returns v) s) h k l = tt
weaker_at on out on' out' (Over end w) h k l = tt

-- what may be left so may be left in more ways
pub left_weaker : {on out on' out' : Bool} {r : Run Flow} → (on ≡ true → on' ≡ true) → (out ≡ true → out' ≡ true) → IsLeft on out r → IsLeft on' out' r
left_weaker {on} {out} {on'} {out'} {r} h k l = record { is = weaker_at on out on' out' r h k l.is }

module _ {on out : Bool} where
  left_unit : (n : ℕ) (s : State) (run : State → Run Flow) → ((s : State) → IsLeft on out (run s)) → IsLeft on out (unit_at n s run)
  unfolding unit_at
  left_unit zero s run h = record { is = tt }
  left_unit (suc n) s run h = h (record s { left = n })

  left_then : {A : Type 0} (r : Run A) (go : A → State → Run Flow) → ((v : A) (s : State) → IsLeft on out (go v s)) → IsLeft on out (r then_do go)
  unfolding ◌then_do◌
  left_then (Going v s) go h = h v s
  left_then (Over end w) go h = record { is = tt }

  left_if : (b : Bool) (r r' : Run Flow) → IsLeft on out r → IsLeft on out r' → IsLeft on out (if b then r else r')
  left_if true r r' h k = h
  left_if false r r' h k = k

next_left : (a b c d : Bool) (flow : Flow) (s : State) (go : State → Run Flow) → LeftAs a b flow → ((s : State) → IsLeft c d (go s)) → IsLeft (a && c) (b || (a && d)) (next_after flow s go)
unfolding next_after
next_left a b c d goes_on s go l h = left_weaker (λ e. both_hold a c l e) (λ e. right_holds b (a && d) (both_hold a d l e)) (h s)
next_left a b c d breaks s go l h = record { is = left_holds b (a && d) l }
next_left a b c d continues s go l h = record { is = left_holds b (a && d) l }
next_left a b c d (returns v) s go l h = record { is = tt }

-- one statement and then others
left_next : (a b c d : Bool) (r : Run Flow) (go : State → Run Flow) → IsLeft a b r → ((s : State) → IsLeft c d (go s)) → IsLeft (a && c) (b || (a && d)) (r then_do λ flow s. next_after flow s go)
unfolding ◌then_do◌
left_next a b c d (Going flow s) go l h = next_left a b c d flow s go l.is h
left_next a b c d (Over end w) go l h = record { is = tt }

turn_left : (flow : Flow) (s : State) (go : State → Run Flow) → ((s : State) → IsLeft true false (go s)) → IsLeft true false (turn_after flow s go)
unfolding turn_after
turn_left goes_on s go h = h s
turn_left breaks s go h = record { is = refl }
turn_left continues s go h = h s
turn_left (returns v) s go h = record { is = tt }

-- a loop is left at its end or by `return`
left_turn : (body : State → Run Flow) (s : State) (go : State → Run Flow) → ((s : State) → IsLeft true false (go s)) → IsLeft true false (turn body s go)
unfolding turn
left_turn body s go h = left_unit s.left s _ (λ s. left_then (body s) _ (λ flow s. turn_left flow s go h))

left_turns : (n : ℕ) (test : State → Run Bool) (body : State → Run Flow) (behind : State → Run (List Plain)) (s : State) → IsLeft true false (turns n test body behind s)
unfolding turns
left_turns zero test body behind s = left_then (test s) _ (λ holds s. left_if holds _ _ (record { is = tt }) (record { is = refl }))
left_turns (suc n) test body behind s =
    left_then (test s) _ (λ holds s. left_if holds _ _ (left_turn body s _ (λ s. left_then (behind s) _ (λ vs s. left_turns n test body behind s))) (record { is = refl }))

left_loop : (test : State → Run Bool) (body : State → Run Flow) (behind : State → Run (List Plain)) (s : State) → IsLeft true false (loop test body behind s)
unfolding loop
left_loop test body behind s = left_turns s.left test body behind s

left_walk : (ps : Pairs) (key : Option (List ℕ)) (x : List ℕ) (body : State → Run Flow) (s : State) → IsLeft true false (walk ps key x body s)
unfolding walk
left_walk empty key x body s = record { is = refl }
left_walk (pair k v ps) key x body s = left_turn _ s _ (λ s. left_walk ps key x body s)

left_echo : (w : Environment) (es : PlainExprs) (s : State) → IsLeft true false (echo w es s)
unfolding echo
left_echo w no_exprs s = record { is = refl }
left_echo w (more_exprs e es) s = left_then (value w e s) _ (λ v s. left_echo w es _)

left_returned : (v : Option Plain) (s : State) → IsLeft false false (Going (returned v) s)
unfolding returned
left_returned None s = record { is = tt }
left_returned (Some v) s = record { is = tt }

left_exit : (v : Option Plain) (s : State) → IsLeft false false (exit_with v s)
unfolding exit_with
left_exit None s = record { is = tt }
left_exit (Some null) s = record { is = tt }
left_exit (Some (flag b)) s = record { is = tt }
left_exit (Some (int z)) s = record { is = tt }
left_exit (Some (text t)) s = record { is = tt }
left_exit (Some (array ps)) s = record { is = tt }

mutual
  unfolding statement completes jumps_out

  pub stmt_left : (w : Environment) (st : PlainStmt) (s : State) → IsLeft (completes st) (jumps_out st) (statement w st s)
  stmt_left w (inline_stmt bytes) s = left_unit s.left s _ (λ s. record { is = refl })
  stmt_left w (echo_stmt es) s = left_unit s.left s _ (λ s. left_echo w es s)
  stmt_left w (run_stmt e) s = left_unit s.left s _ (λ s. left_then (value w e s) _ (λ v s. record { is = refl }))
  stmt_left w (if_stmt arms otherwise) s = left_unit s.left s _ (λ s. arms_left w arms _ (stmts_left w otherwise) s)
  stmt_left w (while_stmt e body) s = left_unit s.left s _ (λ s. left_loop _ _ _ s)
  stmt_left w (do_while_stmt body e) s = left_unit s.left s _ (λ s. left_turn _ s _ (λ s. left_loop _ _ _ s))
  stmt_left w (for_stmt begin e next body) s = left_unit s.left s _ (λ s. left_then _ _ (λ vs s. left_loop _ _ _ s))
  stmt_left w (each_stmt e key x body) s = left_unit s.left s _ (λ s. left_then (value w e s) _ (λ v s. left_walk _ key x _ s))
  stmt_left w break_stmt s = left_unit s.left s _ (λ s. record { is = refl })
  stmt_left w continue_stmt s = left_unit s.left s _ (λ s. record { is = refl })
  stmt_left w (return_stmt e) s = left_unit s.left s _ (λ s. left_then (maybe_value w e s) _ (λ v s. left_returned v s))
  stmt_left w (quit_stmt e) s = left_unit s.left s _ (λ s. left_then (maybe_value w e s) _ (λ v s. left_exit v s))
  stmt_left w (include_stmt path) s = record { is = refl }

  pub stmts_left : (w : Environment) (ss : PlainStmts) (s : State) → IsLeft (all_complete ss) (some_jump_out ss) (statements w ss s)
  stmts_left w no_stmts s = record { is = refl }
  stmts_left w (more_stmts st ss) s = left_next (completes st) (jumps_out st) (all_complete ss) (some_jump_out ss) (statement w st s) _ (stmt_left w st s) (λ s. stmts_left w ss s)

  arms_left : (w : Environment) (arms : PlainArms) (run : State → Run Flow) {on out : Bool} → ((s : State) → IsLeft on out (run s)) → (s : State) → IsLeft (one_completes arms on) (one_jumps_out arms out) (arms_in w arms run s)
  arms_left w no_arms run h s = h s
  arms_left w (more_arms e body arms) run {on} {out} h s = left_then (condition w e s) _ (λ holds s. left_if holds _ _
      (left_weaker (left_holds (all_complete body) (one_completes arms on)) (left_holds (some_jump_out body) (one_jumps_out arms out)) (stmts_left w body s))
      (left_weaker (right_holds (all_complete body) (one_completes arms on)) (right_holds (some_jump_out body) (one_jumps_out arms out)) (arms_left w arms run h s)))

ended_at : (flow : Flow) (s : State) (out : Bool) (go : State → Run Flow) → LeftAs false out flow → next_after flow s go ≡ Going flow s
unfolding next_after
ended_at goes_on s out go l = no_way l
ended_at breaks s out go l = refl
ended_at continues s out go l = refl
ended_at (returns v) s out go l = refl

-- what stands behind a statement that is not left at its end is not run
pub ended_same : {out : Bool} (r : Run Flow) (go : State → Run Flow) → IsLeft false out r → (r then_do λ flow s. next_after flow s go) ≡ r
unfolding ◌then_do◌
ended_same {out} (Going flow s) go l = ended_at flow s out go l.is
ended_same (Over end w) go l = refl
