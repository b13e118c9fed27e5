-- States that are added, and the runs that lead to them.
use Rattle.std.proofs.Common.{◌≡◌, ◌<◌, ◌≤◌, ◌+◌, ◌⊎◌, inl, inr, ℕ, suc, Bool, true, false, nat_le, List, [], ◌∷◌, ◌++◌, Contains, Option, Some, None, slice_get, refl, sym, ◌∙◌, ap, subst, arith}
use Rattle.std.specs.Prelude.{if◌then◌else◌}
use Rattle.std.proofs.lemmas.Bool.Decides.{nat_tests}
use Rattle.std.proofs.lemmas.Bool.{cases_lt, leb-true, leb-false}
use Rattle.std.proofs.lemmas.List.Elements.{All-push, Contains-push_cases}
use Rattle.numbered_sets.specs.Numbers.{Keeps, AddsOnly}
use Rattle.derivatives.specs.Expressions.{Expr}
use Rattle.derivatives.specs.Derivatives.{after, after_all}
use Rattle.derivatives.specs.Standing.{expr_at, IsExpr, IsMade, Grows}
use Rattle.derivatives.specs.declared.arena.Arena.{Arena}
use Rattle.derivatives.proofs.NodeLemmas.{expr_stays}
use Rattle.grammar_chart.proofs.MemberLemmas.{contains_at, at_contains, keeps_both}
use Rattle.text_base.specs.declared.page_token.PageToken.{PageToken}
use Rattle.echoing_machine.specs.Runs.{AreAlike}
use Rattle.policy_matching.specs.declared.rows.Run.{Run}
use Rattle.policy_matching.specs.declared.rows.Row.{Row}
use Rattle.policy_matching.specs.Rows.{run_of, run_in, run_at, led, state_behind}
use Rattle.policy_matching.specs.Outside.{IsBehind, StandsFor, AreBehind, Reaches, AreRuns}

-- A state goes on to stand for its expression.

pub stands_on : (a b : Arena) (old new : List ℕ) (n : ℕ) (e : Expr) → Grows a b → Keeps old new → StandsFor a old n e → StandsFor b new n e
stands_on a b old new n e grows keeps s =
    let m = expr_stays a b grows s.place s.made.is_expr in
    record { place = s.place; placed = keeps n s.place s.placed; made = record { is_expr = m.is_expr; is = m.is ∙ s.made.is } }

stands_as : (a : Arena) (places : List ℕ) (n place : ℕ) (d e : Expr) → slice_get places n ≡ Some place → IsMade a place d → d ≡ e → StandsFor a places n e
stands_as a places n place d e placed made same = record { place = place; placed = placed; made = record { is_expr = made.is_expr; is = made.is ∙ same } }

-- What is behind an expression by a text of bytes.

after_more : (u : List ℕ) (b : ℕ) (e : Expr) → after_all (u ++ b ∷ []) e ≡ after b (after_all u e)
after_more [] b e = refl
after_more (c ∷ u) b e = after_more u b (after c e)

behind_on : (e d : Expr) (b : ℕ) → b < 256 → IsBehind e d → IsBehind e (after b d)
behind_on e d b small h = (h.0 ++ b ∷ [], All-push (λ (c : ℕ). c < 256) h.0 b h.1 small, after_more h.0 b e ∙ ap (after b) h.2)

-- States that are reached.

pub one_more : (a b : Arena) (old new : List ℕ) (place to byte : ℕ) → Grows a b → Keeps old new → AddsOnly old new to → byte < 256
    → IsMade b to (after byte (expr_at a place)) → Reaches a b old new place
one_more a b old new place to byte grows keeps adds small made = record {
  keeps = keeps;
  are = λ e behind are n q at. by e behind are q (adds q (contains_at new n q at));
}
  where
    by : (e : Expr) → IsBehind e (expr_at a place) → AreBehind e a old → (q : ℕ) → Contains old q ⊎ (q ≡ to) → IsExpr b q × IsBehind e (expr_at b q)
    by e behind are q (inl c) =
        let at = at_contains old q c in
        let h = are at.0 q at.1 in
        let m = expr_stays a b grows q h.0 in
        (m.is_expr, subst (IsBehind e) (sym m.is) h.1)
    by e behind are q (inr same) =
        subst (λ (p : ℕ). IsExpr b p × IsBehind e (expr_at b p)) (sym same) (made.is_expr, subst (IsBehind e) (sym made.is) (behind_on e (expr_at a place) byte small behind))

pub reaches_both : (a b c : Arena) (old mid new : List ℕ) (place : ℕ) → Grows a b → IsExpr a place → Reaches a b old mid place → Reaches b c mid new place
    → Reaches a c old new place
reaches_both a b c old mid new place grows is x y = record {
  keeps = keeps_both old mid new x.keeps y.keeps;
  are = λ e behind are. y.are e (subst (IsBehind e) (sym (expr_stays a b grows place is).is) behind) (x.are e behind are);
}

-- Runs.

le_not : (a b : ℕ) → b < a → nat_le a b ≡ false
le_not a b h = grind (arith, nat_tests)

le_is : (a b : ℕ) → a ≤ b → nat_le a b ≡ true
le_is a b h = grind (arith, nat_tests)

found_on : (b : ℕ) (runs : List Run) (run more : Run) → run_of b runs ≡ Some run → run_of b (runs ++ more ∷ []) ≡ Some run
found_on b [] run more h = cc
found_on b (r ∷ runs) run more h = at (nat_le b r.last) h (found_on b runs run more)
  where
    at : (x : Bool) → (if x then Some r else run_of b runs) ≡ Some run → (run_of b runs ≡ Some run → run_of b (runs ++ more ∷ []) ≡ Some run)
        → (if x then Some r else run_of b (runs ++ more ∷ [])) ≡ Some run
    at true h go = h
    at false h go = go h

in_front : (r : Run) (runs : List Run) → Contains (r ∷ runs) r
in_front r runs = (0, omega arith, refl)

further : (r q : Run) (runs : List Run) → Contains runs q → Contains (r ∷ runs) q
further r q runs c = let at = at_contains runs q c in contains_at (r ∷ runs) (suc at.0) q at.1

found_behind : (b : ℕ) (runs : List Run) (more : Run) → ((r : Run) → Contains runs r → r.last < b) → b ≤ more.last → run_of b (runs ++ more ∷ []) ≡ Some more
found_behind b [] more before h = ap (λ (x : Bool). if x then Some more else None) (le_is b more.last h)
found_behind b (r ∷ runs) more before h =
    ap (λ (x : Bool). if x then Some r else run_of b (runs ++ more ∷ [])) (le_not b r.last (before r (in_front r runs)))
    ∙ found_behind b runs more (λ q c. before q (further r q runs c)) h

pub found_none : (b : ℕ) (runs : List Run) → ((r : Run) → Contains runs r → r.last < b) → run_of b runs ≡ None
found_none b [] before = refl
found_none b (r ∷ runs) before =
    ap (λ (x : Bool). if x then Some r else run_of b runs) (le_not b r.last (before r (in_front r runs)))
    ∙ found_none b runs (λ q c. before q (further r q runs c))

pub runs_more : (a b : Arena) (old new : List ℕ) (e : Expr) (end : ℕ) (runs : List Run) (more : Run) → Grows a b → Keeps old new → end ≤ more.last
    → AreRuns a old e end runs → ((c : ℕ) → end ≤ c → c ≤ more.last → StandsFor b new more.to (after c e)) → AreRuns b new e (more.last + 1) (runs ++ more ∷ [])
runs_more a b old new e end runs more grows keeps longer are leads = record {
  before = λ run c. elim (Contains-push_cases runs more run c) [
    | inl h ↦ (let l = are.before run h in omega (arith, l, longer))
    | inr same ↦ (let l : run.last ≡ more.last = ap (λ (r : Run). r.last) (sym same) in omega (arith, l))
  ];
  lead = λ c below. elim (cases_lt c end) [
    | inl early ↦
        let o = are.lead c early in
        (o.0, found_on c runs o.0 more o.1, stands_on a b old new o.0.to (after c e) grows keeps o.2)
    | inr late ↦
        let within : c ≤ more.last = omega (arith, below) in
        (more, found_behind c runs more (λ r h. let l = are.before r h in omega (arith, l, late)) within, leads c late within)
  ];
}

pub runs_turn : (o a b : Arena) (old new : List ℕ) (place end : ℕ) (runs : List Run) (more : Run) → IsExpr o place → Grows o a → Grows a b → Keeps old new
    → end ≤ more.last → AreRuns a old (expr_at o place) end runs
    → ((c : ℕ) → end ≤ c → c ≤ more.last → StandsFor b new more.to (after c (expr_at a place))) → AreRuns b new (expr_at o place) (more.last + 1) (runs ++ more ∷ [])
runs_turn o a b old new place end runs more is begun grows keeps longer are leads =
    runs_more a b old new (expr_at o place) end runs more grows keeps longer are
    (λ c h k. subst (λ (e : Expr). StandsFor b new more.to (after c e)) (expr_stays o a begun place is).is (leads c h k))

-- the run that begins with a byte leads to what stands for the derivative by each of its bytes
pub leads_alike : (a b : Arena) (places : List ℕ) (place byte last to n : ℕ) → slice_get places n ≡ Some to → IsMade b to (after byte (expr_at a place))
    → ((c : ℕ) → byte ≤ c → c ≤ last → after c (expr_at a place) ≡ after byte (expr_at a place))
    → (c : ℕ) → byte ≤ c → c ≤ last → StandsFor b places n (after c (expr_at a place))
leads_alike a b places place byte last to n placed made alike c h k =
    stands_as b places n to (after byte (expr_at a place)) (after c (expr_at a place)) placed made (sym (alike c h k))

-- All bytes of a run lead to one state.

run_within : (b : ℕ) (runs : List Run) (run : Run) → run_of b runs ≡ Some run → b ≤ run.last
run_within b [] run h = cc
run_within b (r ∷ runs) run h = at (nat_le b r.last) refl h (run_within b runs run)
  where
    at : (x : Bool) → nat_le b r.last ≡ x → (if x then Some r else run_of b runs) ≡ Some run → (run_of b runs ≡ Some run → b ≤ run.last) → b ≤ run.last
    at true q h go = let same : r ≡ run = cc in subst (λ (y : Run). b ≤ y.last) same (leb-true b r.last q)
    at false q h go = go h

run_alike : (b c : ℕ) (runs : List Run) (run : Run) → run_of b runs ≡ Some run → b ≤ c → c ≤ run.last → run_of c runs ≡ Some run
run_alike b c [] run h low high = cc
run_alike b c (r ∷ runs) run h low high = at (nat_le b r.last) refl h (λ g. run_alike b c runs run g low high)
  where
    at : (x : Bool) → nat_le b r.last ≡ x → (if x then Some r else run_of b runs) ≡ Some run → (run_of b runs ≡ Some run → run_of c runs ≡ Some run)
        → run_of c (r ∷ runs) ≡ Some run
    at true q h go =
        let same : r ≡ run = cc in
        ap (λ (y : Bool). if y then Some r else run_of c runs) (le_is c r.last (subst (λ (y : Run). c ≤ y.last) (sym same) high)) ∙ ap Some same
    at false q h go =
        let past : r.last < b = leb-false b r.last q in
        ap (λ (y : Bool). if y then Some r else run_of c runs) (le_not c r.last (omega (arith, past, low))) ∙ go h

in_row : (o : Option Row) (b : ℕ) (run : Run) → run_in b o ≡ Some run → b ≤ run.last
in_row None b run h = cc
in_row (Some row) b run h = run_within b row.runs.items run h

alike_in : (o : Option Row) (b c : ℕ) (run : Run) → run_in b o ≡ Some run → b ≤ c → c ≤ run.last → run_in c o ≡ Some run
alike_in None b c run h low high = cc
alike_in (Some row) b c run h low high = run_alike b c row.runs.items run h low high

pub run_last : (rows : List Row) (s b : ℕ) (run : Run) → run_at rows s b ≡ Some run → b ≤ run.last
run_last rows s b run h = in_row (slice_get rows s) b run h

pub run_is_alike : (rows : List Row) (s b : ℕ) (run : Run) (puts : ℕ → List PageToken) → run_at rows s b ≡ Some run → ((c : ℕ) → puts c ≡ puts b)
    → AreAlike (state_behind rows s) puts b run.last
run_is_alike rows s b run puts h none c low high = (ap (led s) (alike_in (slice_get rows s) b c run h low high ∙ sym h), none c)

pub alike_alone : (next : ℕ → ℕ) (puts : ℕ → List PageToken) (b : ℕ) → AreAlike next puts b b
alike_alone next puts b c low high = let same : c ≡ b = omega (arith, low, high) in (ap next same, ap puts same)
