-- A loop's turns are never cut off by their number: the units that are left are enough.
use Rattle.std.proofs.Common.{◌≡◌, ℕ, zero, suc, ◌≤◌, List, refl, sym, ◌∙◌, subst, arith, true, false, Bool}
use Rattle.std.specs.Prelude.{if◌then◌else◌}
use Rattle.php_syntax.specs.Trees.{PlainExpr, MaybeExpr, PlainExprs, PlainStmts, PlainFunction}
use Rattle.plain_values.specs.Plain.{Plain}
use Rattle.script_meaning.specs.Requests.{PlainRequest}
use Rattle.script_meaning.specs.Runs.{State, Run, Going, Over, Spent, ◌then_do◌, unit_at}
use Rattle.script_meaning.specs.Expressions.{Environment, values}
use Rattle.script_meaning.specs.Statements.{Flow, goes_on, breaks, continues, returns, turn_after, turn, turns, loop, nothing, condition, for_condition, statements}
use Rattle.script_meaning.specs.Meaning.{call_within}
use Rattle.script_meaning.proofs.Later.{After}
use Rattle.script_meaning.proofs.LaterParts.{after_nothing}
use Rattle.script_meaning.proofs.LaterRuns.{after_condition, after_for_condition, after_statements, after_values, calls_go_on}

-- what goes on in the same way from each later state comes to the same
same_then : {A B : Type 0} (s : State) (r : Run A) (go go' : A → State → Run B) → After s r → ((x : A) (t : State) → t.left ≤ s.left → go x t ≡ go' x t) → (r then_do go) ≡ (r then_do go')
unfolding ◌then_do◌
same_then s (Going x t) go go' p h = h x t p.left
same_then s (Over end printed) go go' p h = refl

same_if : {A : Type 0} (c : Bool) (a a' b : Run A) → a ≡ a' → (if c then a else b) ≡ (if c then a' else b)
same_if true a a' b e = e
same_if false a a' b e = refl

same_turn_after : (flow : Flow) (s : State) (go go' : State → Run Flow) → go s ≡ go' s → turn_after flow s go ≡ turn_after flow s go'
unfolding turn_after
same_turn_after goes_on s go go' e = e
same_turn_after breaks s go go' e = refl
same_turn_after continues s go go' e = e
same_turn_after (returns v) s go go' e = refl

same_unit_at : (n : ℕ) (s : State) (go go' : State → Run Flow) → ((t : State) → suc t.left ≤ n → go t ≡ go' t) → unit_at n s go ≡ unit_at n s go'
unfolding unit_at
same_unit_at zero s go go' h = refl
same_unit_at (suc n) s go go' h = h (record s { left = n }) (omega arith)

-- a turn goes on with fewer units
same_turn : (body : State → Run Flow) → ((t : State) → After t (body t)) → (s : State) (go go' : State → Run Flow) → ((t : State) → suc t.left ≤ s.left → go t ≡ go' t) → turn body s go ≡ turn body s go'
unfolding turn
same_turn body ab s go go' h =
    same_unit_at s.left s _ _ λ t l. same_then t _ _ _ (ab t) λ flow u k. same_turn_after flow u go go' (h u (omega arith))

no_turn : (body : State → Run Flow) (s : State) (go : State → Run Flow) → s.left ≡ zero → turn body s go ≡ Over Spent s.printed
unfolding turn unit_at turn_after
no_turn body s go e = subst (λ n. unit_at n s (λ s. (body s then_do λ flow s. turn_after flow s go)) ≡ Over Spent s.printed) (sym e) refl

-- the parts of a loop only go on
pub record PartsGoOn (test : State → Run Bool) (body : State → Run Flow) (behind : State → Run (List Plain)) : Type 0 where
  pub tests : (t : State) → After t (test t)
  pub bodies : (t : State) → After t (body t)
  pub nexts : (t : State) → After t (behind t)

enough_turns : (n m : ℕ) (test : State → Run Bool) (body : State → Run Flow) (behind : State → Run (List Plain)) → PartsGoOn test body behind → (s : State) → s.left ≤ n → s.left ≤ m → turns n test body behind s ≡ turns m test body behind s
unfolding turns
enough_turns zero zero test body behind p s l k = refl
enough_turns zero (suc m) test body behind p s l k =
    same_then s _ _ _ (p.tests s) λ holds t j. same_if holds _ _ _ (sym (no_turn body t _ (omega arith)))
enough_turns (suc n) zero test body behind p s l k =
    same_then s _ _ _ (p.tests s) λ holds t j. same_if holds _ _ _ (no_turn body t _ (omega arith))
enough_turns (suc n) (suc m) test body behind p s l k =
    same_then s _ _ _ (p.tests s) λ holds t j. same_if holds _ _ _ (same_turn body p.bodies t _ _ λ u i. same_then u _ _ _ (p.nexts u) λ vs v h. enough_turns n m test body behind p v (omega arith) (omega arith))

-- the turns by one more than the units that are left, one by one
one_by_one : (n : ℕ) (test : State → Run Bool) (body : State → Run Flow) (behind : State → Run (List Plain)) → PartsGoOn test body behind → (s : State) → s.left ≤ n → turns (suc n) test body behind s ≡ (test s then_do λ holds t. (if holds then turn body t (λ u. (behind u then_do λ vs v. loop test body behind v)) else Going goes_on t))
unfolding turns loop
one_by_one n test body behind p s l =
    same_then s _ _ _ (p.tests s) λ holds t j. same_if holds _ _ _ (same_turn body p.bodies t _ _ λ u i. same_then u _ _ _ (p.nexts u) λ vs v h. enough_turns n v.left test body behind p v (omega arith) (omega arith))

pub loop_turns : (test : State → Run Bool) (body : State → Run Flow) (behind : State → Run (List Plain)) → PartsGoOn test body behind → (s : State) → loop test body behind s ≡ (test s then_do λ holds t. (if holds then turn body t (λ u. (behind u then_do λ vs v. loop test body behind v)) else Going goes_on t))
unfolding loop
loop_turns test body behind p s = enough_turns s.left (suc s.left) test body behind p s (omega arith) (omega arith) ∙ one_by_one s.left test body behind p s (omega arith)

pub for_turns : (r : PlainRequest) (fs : List PlainFunction) (room : ℕ) (e : MaybeExpr) (next : PlainExprs) (body : PlainStmts) → PartsGoOn (for_condition (record { request = r; call = call_within r fs room }) e) (statements (record { request = r; call = call_within r fs room }) body) (values (record { request = r; call = call_within r fs room }) next)
for_turns r fs room e next body =
    let g = calls_go_on r fs room in
    record { tests = after_for_condition _ g e; bodies = after_statements _ g body; nexts = after_values _ g next }

pub while_turns : (r : PlainRequest) (fs : List PlainFunction) (room : ℕ) (e : PlainExpr) (body : PlainStmts) → PartsGoOn (condition (record { request = r; call = call_within r fs room }) e) (statements (record { request = r; call = call_within r fs room }) body) nothing
while_turns r fs room e body =
    let g = calls_go_on r fs room in
    record { tests = after_condition _ g e; bodies = after_statements _ g body; nexts = after_nothing }

-- any loop of a script: the test, and where it holds a turn, what stands behind it, and the loop again
pub by_turns : (r : PlainRequest) (fs : List PlainFunction) (room : ℕ) (e : MaybeExpr) (next : PlainExprs) (body : PlainStmts) (s : State) → let w : Environment = record { request = r; call = call_within r fs room } in loop (for_condition w e) (statements w body) (values w next) s ≡ (for_condition w e s then_do λ holds t. (if holds then turn (statements w body) t (λ u. (values w next u then_do λ vs v. loop (for_condition w e) (statements w body) (values w next) v)) else Going goes_on t))
by_turns r fs room e next body s = loop_turns _ _ _ (for_turns r fs room e next body) s
