-- Alternatives by their numbers.
use Rattle.std.proofs.Common.{◌≡◌, ◌<◌, ◌≤◌, ◌⊎◌, inl, inr, ℕ, zero, suc, Bool, true, false, ◌&&◌, ◌||◌, nat_eq, Some, slice_get, refl, sym, ◌∙◌, ap, subst, arith, Result, Ok, Err, IfOk}
use mathlib.Core.Bool.{beq}
use Rattle.std.proofs.lemmas.Bool.{and_from, or_cases, false_from_ne_true}
use Rattle.std.proofs.lemmas.Bool.Decides.{nat_tests}
use Rattle.derivatives.specs.Expressions.{Expr, nothing, empty, range, chain, either, star, among, Members, none, member}
use Rattle.derivatives.specs.Derivatives.{same, same_members, occurs, either_of}
use Rattle.derivatives.specs.Standing.{expr_of, expr_at, members_at, IsExpr, IsMade, HasAlternatives, HasEachOnce, Grows, is_alone}
use Rattle.derivatives.specs.declared.arena.Arena.{Arena}
use Rattle.derivatives.specs.declared.node.Node.{Node}
use Rattle.derivatives.specs.declared.node.Node.TheVariants as node
use Rattle.derivatives.proofs.NormalForms.{same_is, ap2, eq_is}
use Rattle.derivatives.proofs.NodeLemmas.{expr_stays, expr_shown, some_expr}

pub if_ok : {A E : Type 0} {P Q : A → Type 0} (r : Result A E) → ((a : A) → P a → Q a) → IfOk r P → IfOk r Q
if_ok (Ok a) f p = f a p
if_ok (Err e) f p = p

mutual
  pub same_own : (e : Expr) → same e e ≡ true
  same_own nothing = refl
  same_own empty = refl
  same_own (range low high) = and_from (nat_eq low low) (nat_eq high high) (eq_own low) (eq_own high)
    where
      eq_own : (n : ℕ) → nat_eq n n ≡ true
      eq_own n = grind (arith, nat_tests)
  same_own (chain x y) = and_from (same x x) (same y y) (same_own x) (same_own y)
  same_own (either x y) = and_from (same x x) (same y y) (same_own x) (same_own y)
  same_own (star x) = same_own x
  same_own (among ms) = same_own_members ms

  same_own_members : (ms : Members) → same_members ms ms ≡ true
  same_own_members none = refl
  same_own_members (member e q ms) = and_from (same e e && beq q q) (same_members ms ms) (and_from (same e e) (beq q q) (same_own e) (beq_own q)) (same_own_members ms)
    where
      beq_own : (b : Bool) → beq b b ≡ true
      beq_own true = refl
      beq_own false = refl

is_eq : (a b : ℕ) → a ≡ b → nat_eq a b ≡ true
is_eq a b e = grind (arith, nat_tests)

true_false : (b : Bool) → b ≡ true → b ≡ false → ⊥
true_false b h k = cc

numbers_same : (arena : Arena) → HasEachOnce arena → (n m : ℕ) → IsExpr arena n → IsExpr arena m → nat_eq n m ≡ same (expr_at arena n) (expr_at arena m)
numbers_same arena once n m p q = by (nat_eq n m) refl
  where
    by : (b : Bool) → nat_eq n m ≡ b → b ≡ same (expr_at arena n) (expr_at arena m)
    by true h = sym (subst (λ v. same (expr_at arena n) (expr_at arena v) ≡ true) (eq_is n m h) (same_own (expr_at arena n)))
    by false h = sym (false_from_ne_true (same (expr_at arena n) (expr_at arena m)) (λ s. true_false (nat_eq n m) (is_eq n m (once n m p q (same_is (expr_at arena n) (expr_at arena m) s))) h))

or_first : (a b : Bool) → a ≡ true → true ≡ (a || b)
or_first true b h = refl
or_first false b h = cc

or_second : (a b c : Bool) → a ≡ false → c ≡ b → c ≡ (a || b)
or_second true b c h e = cc
or_second false b c h e = e

occurs_alone : (e f : Expr) → is_alone f ≡ true → same e f ≡ occurs e f
occurs_alone e (either s t) h = cc
occurs_alone e f h = refl

pub occurs_first : (arena : Arena) (x y i j : ℕ) → HasAlternatives arena y i j → i ≡ x → true ≡ occurs (expr_at arena x) (expr_at arena y)
occurs_first arena x y i j h e =
    subst (λ v. true ≡ occurs (expr_at arena x) v) (sym h.is)
    (or_first (same (expr_at arena x) (expr_at arena i)) (occurs (expr_at arena x) (expr_at arena j)) (subst (λ v. same (expr_at arena v) (expr_at arena i) ≡ true) e (same_own (expr_at arena i))))

pub occurs_behind : (arena : Arena) → HasEachOnce arena → (x y i j : ℕ) (r : Bool) → IsExpr arena x → HasAlternatives arena y i j → (i ≡ x → ⊥) → r ≡ occurs (expr_at arena x) (expr_at arena j) → r ≡ occurs (expr_at arena x) (expr_at arena y)
occurs_behind arena once x y i j r p h e later =
    let s = sym (numbers_same arena once x i p h.first) ∙ false_from_ne_true (nat_eq x i) (λ t. e (sym (eq_is x i t))) in
    subst (λ v. r ≡ occurs (expr_at arena x) v) (sym h.is) (or_second (same (expr_at arena x) (expr_at arena i)) (occurs (expr_at arena x) (expr_at arena j)) r s later)

pub occurs_last : (arena : Arena) → HasEachOnce arena → (x y : ℕ) → IsExpr arena x → IsExpr arena y → is_alone (expr_at arena y) ≡ true → nat_eq x y ≡ occurs (expr_at arena x) (expr_at arena y)
occurs_last arena once x y p q h = numbers_same arena once x y p q ∙ occurs_alone (expr_at arena x) (expr_at arena y) h

-- An alternative has no greater number.

alone_node : (e : ℕ → Expr) (m : ℕ → Members) (x : Node) → (is_alone (expr_of e m (Some x)) ≡ true) ⊎ ((i : ℕ) × (j : ℕ) × (x ≡ node.Either i j))
alone_node e m (node.Either i j) = inr (i, j, refl)
alone_node e m x = inl refl

found_below : (arena : Arena) → HasEachOnce arena → (k x y : ℕ) → y < k → IsExpr arena x → IsExpr arena y → occurs (expr_at arena x) (expr_at arena y) ≡ true → x ≤ y
found_below arena once zero x y h p q o = absurd (omega arith)
found_below arena once (suc k) x y h p q o =
    let n = some_expr (slice_get arena.nodes.keys y) q in
    let is = expr_shown arena y n.0 n.1 in
    let f = expr_at arena x in
    elim (alone_node (expr_at arena) (members_at arena) n.0) [
      | inl a ↦ let alone = subst (λ v. is_alone v ≡ true) (sym is) a in
          let same_one : x ≡ y = once x y p q (same_is f (expr_at arena y) (occurs_alone f (expr_at arena y) alone ∙ o)) in omega arith
      | inr t ↦ let at : slice_get arena.nodes.keys y ≡ Some (node.Either t.0 t.1) = n.1 ∙ ap (λ v. Some v) t.2 in
          let b = arena.built y (node.Either t.0 t.1) at in
          let first : t.0 < y = b.0.0 in
          let second : t.1 < y = b.0.1 in
          elim (or_cases (same f (expr_at arena t.0)) (occurs f (expr_at arena t.1)) (subst (λ v. occurs f v ≡ true) (expr_shown arena y (node.Either t.0 t.1) at) o)) [
            | inl s ↦ let same_one : x ≡ t.0 = once x t.0 p b.1.0 (same_is f (expr_at arena t.0) s) in omega arith
            | inr r ↦ let less : x ≤ t.1 = found_below arena once k x t.1 (omega arith) p b.1.1 r in omega arith
          ]
    ]

pub occurs_not : (arena : Arena) → HasEachOnce arena → (x y : ℕ) → IsExpr arena x → IsExpr arena y → y < x → false ≡ occurs (expr_at arena x) (expr_at arena y)
occurs_not arena once x y p q h =
    sym (false_from_ne_true (occurs (expr_at arena x) (expr_at arena y)) (λ o. let less : x ≤ y = found_below arena once (suc y) x y (omega arith) p q o in absurd (omega arith)))

pub either_step : (old mid new : Arena) (x y i j m r : ℕ) → HasAlternatives old x i j → Grows old mid → IsMade mid m (either_of (expr_at old j) (expr_at old y)) → IsMade new r (either_of (expr_at mid i) (expr_at mid m))
    → IsMade new r (either_of (expr_at old x) (expr_at old y))
either_step old mid new x y i j m r h keeps one two = record {
  is_expr = two.is_expr;
  is = two.is ∙ ap2 either_of ((expr_stays old mid keeps i h.first).is) one.is ∙ ap (λ v. either_of v (expr_at old y)) (sym h.is);
}
