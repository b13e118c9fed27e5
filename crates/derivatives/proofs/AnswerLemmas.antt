-- Answers stay right while the arena grows, and one more is right.
use Rattle.std.proofs.Common.{◌≡◌, ℕ, Bool, true, false, ◌&&◌, cond, Some, Result, Ok, Err, OnOk, OnErr, slice_get, refl, sym, ◌∙◌, ap, subst}
use Rattle.std.proofs.lemmas.Bool.{and_parts, and_from}
use Rattle.std.specs.Map.{lookup}
use Rattle.indexmap.specs.IndexMap.{IndexMap, Updates, IsUnchanged}
use Rattle.derivatives.specs.Answers.{answer_of, is_answer, AreAnswers}
use Rattle.derivatives.specs.Derivatives.{after, same}
use Rattle.derivatives.specs.Exactness.{exact_ask}
use Rattle.derivatives.specs.Nodes.{is_expr_at}
use Rattle.derivatives.specs.Standing.{expr_at, IsExpr, IsMade, Grows}
use Rattle.derivatives.specs.contracts.ask.AskPartialEq.TheImpl as asks
use Rattle.derivatives.specs.declared.arena.Arena.{Arena}
use Rattle.derivatives.specs.declared.ask.Ask.{Ask}
use Rattle.derivatives.proofs.NormalForms.{same_is}
use Rattle.derivatives.proofs.Choices.{same_own}
use Rattle.derivatives.proofs.NodeLemmas.{expr_stays}

-- what an answer is
pub asked_of : (arena : Arena) (ask : Ask) (n : ℕ) → is_answer arena ask n ≡ true → IsExpr arena ask.place
asked_of arena ask n h =
    (and_parts (is_expr_at (slice_get arena.nodes.keys ask.place)) (is_expr_at (slice_get arena.nodes.keys n) && same (expr_at arena n) (after ask.byte (expr_at arena ask.place))) h).0

pub answered : (arena : Arena) (ask : Ask) (n : ℕ) → is_answer arena ask n ≡ true → IsMade arena n (after ask.byte (expr_at arena ask.place))
answered arena ask n h =
    let p = (and_parts (is_expr_at (slice_get arena.nodes.keys ask.place)) (is_expr_at (slice_get arena.nodes.keys n) && same (expr_at arena n) (after ask.byte (expr_at arena ask.place))) h).1 in
    let q = and_parts (is_expr_at (slice_get arena.nodes.keys n)) (same (expr_at arena n) (after ask.byte (expr_at arena ask.place))) p in
    record { is_expr = q.0; is = same_is (expr_at arena n) (after ask.byte (expr_at arena ask.place)) q.1 }

pub answering : (arena : Arena) (ask : Ask) (n : ℕ) → IsExpr arena ask.place → IsMade arena n (after ask.byte (expr_at arena ask.place)) → is_answer arena ask n ≡ true
answering arena ask n h m =
    and_from (is_expr_at (slice_get arena.nodes.keys ask.place)) (is_expr_at (slice_get arena.nodes.keys n) && same (expr_at arena n) (after ask.byte (expr_at arena ask.place))) h
    (and_from (is_expr_at (slice_get arena.nodes.keys n)) (same (expr_at arena n) (after ask.byte (expr_at arena ask.place))) m.is_expr
    (subst (λ e. same e (after ask.byte (expr_at arena ask.place)) ≡ true) (sym m.is) (same_own (after ask.byte (expr_at arena ask.place)))))

-- an answer stays right
answer_stays : (old new : Arena) → Grows old new → (ask : Ask) (n : ℕ) → is_answer old ask n ≡ true → is_answer new ask n ≡ true
answer_stays old new keeps ask n h =
    let a = expr_stays old new keeps ask.place (asked_of old ask n h) in
    let m = answered old ask n h in
    let s = expr_stays old new keeps n m.is_expr in
    answering new ask n a.is_expr (record { is_expr = s.is_expr; is = s.is ∙ m.is ∙ ap (after ask.byte) (sym a.is) })

pub answers_stay : {S : Type 0} (old new : Arena) (answers : IndexMap Ask ℕ S) → Grows old new → AreAnswers old answers → AreAnswers new answers
answers_stay old new answers keeps are ask n h = answer_stays old new keeps ask n (are ask n h)

some_is : {x y : ℕ} → Some x ≡ Some y → x ≡ y
some_is e = cc

-- one answer more
pub answers_more : {S : Type 0} (arena : Arena) (old new : IndexMap Ask ℕ S) (ask : Ask) (n : ℕ) → AreAnswers arena old → Updates (asks.ghosts).eq old new ask (Some n) → is_answer arena ask n ≡ true → AreAnswers arena new
answers_more arena old new ask n are up h q m k = by ((asks.ghosts).eq ask q) refl
  where
    by : (b : Bool) → (asks.ghosts).eq ask q ≡ b → is_answer arena q m ≡ true
    by true e =
        let is = exact_ask ask q e in
        let got : Some n ≡ Some m = sym (up.0 q ∙ ap (λ b. cond b (Some n) (answer_of old q)) e) ∙ k in
        subst (λ v. is_answer arena v m ≡ true) is (subst (λ v. is_answer arena ask v ≡ true) (some_is got) h)
    by false e = are q m (sym (up.0 q ∙ ap (λ b. cond b (Some n) (answer_of old q)) e) ∙ k)

-- an answer that was made is right
pub new_answer : (old new : Arena) → Grows old new → (ask : Ask) (n : ℕ) → IsExpr old ask.place → IsMade new n (after ask.byte (expr_at old ask.place)) → is_answer new ask n ≡ true
new_answer old new keeps ask n h m =
    let a = expr_stays old new keeps ask.place h in answering new ask n a.is_expr (record { is_expr = m.is_expr; is = m.is ∙ ap (after ask.byte) (sym a.is) })

-- whether it was put into the table or not, all answers there are right
pub answers_put : {S V E : Type 0} (arena : Arena) (old new : IndexMap Ask ℕ S) (ask : Ask) (n : ℕ) (r : Result V E) → OnOk r (Updates (asks.ghosts).eq old new ask (Some n)) → OnErr r (IsUnchanged old new)
    → AreAnswers arena old → is_answer arena ask n ≡ true → AreAnswers arena new
answers_put arena old new ask n (Ok v) up same are h = answers_more arena old new ask n are up h
answers_put arena old new ask n (Err e) up same are h = λ q m k. are q m (ap (λ es. lookup ((asks.ghosts).eq q) es) (sym same) ∙ k)
