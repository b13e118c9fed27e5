-- What a number stands for, by the node that stands there.
use Rattle.std.proofs.Common.{◌≡◌, ◌<◌, ◌≤◌, ℕ, zero, suc, true, List, Option, Some, None, slice_get, get_or, length, Contains, refl, sym, ◌∙◌, ap, subst, arith, inl, inr}
use Rattle.std.proofs.lemmas.Option.{slice_get_within, slice_get-get_or, get_or_from_slice_get}
use Rattle.std.proofs.lemmas.Bool.{cases_lt}
use Rattle.derivatives.specs.Expressions.{Expr, chain, either, star, among, Members, member}
use Rattle.numbered_sets.specs.Numbers.{Keeps, AddsOnly}
use Rattle.derivatives.specs.Nodes.{IsBuilt, IsExprAt, IsListAt, AreBelow, AreParts, is_expr_at, is_list_at}
use Rattle.derivatives.specs.Standing.{expr_of, members_of, expr_within, members_within, expr_at, members_at, count_of, IsExpr, IsList, IsMade, IsListed, Grows}
use Rattle.derivatives.specs.declared.arena.Arena.{Arena}
use Rattle.derivatives.specs.declared.node.Node.{Node}
use Rattle.derivatives.specs.declared.node.Node.TheVariants as node
use Rattle.derivatives.proofs.NormalForms.{ap2}

some_is : {A : Type 0} {x y : A} → Some x ≡ Some y → x ≡ y
some_is e = cc

-- two readings agree below a place
record Agree (n : ℕ) (e f : ℕ → Expr) (m k : ℕ → Members) : Type 0 where
  exprs : (i : ℕ) → i < n → e i ≡ f i
  lists : (i : ℕ) → i < n → m i ≡ k i

expr_alike : {n : ℕ} {e f : ℕ → Expr} {m k : ℕ → Members} → Agree n e f m k → (x : Node) → AreBelow n x → expr_of e m (Some x) ≡ expr_of f k (Some x)
expr_alike a node.Nothing h = refl
expr_alike a node.Empty h = refl
expr_alike a (node.Range low high) h = refl
expr_alike a (node.Chain i j) h = ap2 chain (a.exprs i h.0) (a.exprs j h.1)
expr_alike a (node.Either i j) h = ap2 either (a.exprs i h.0) (a.exprs j h.1)
expr_alike a (node.Star i) h = ap star (a.exprs i h)
expr_alike a (node.Among i) h = ap among (a.lists i h)
expr_alike a node.NoMore h = refl
expr_alike a (node.Member i q j) h = refl

members_alike : {n : ℕ} {e f : ℕ → Expr} {m k : ℕ → Members} → Agree n e f m k → (x : Node) → AreBelow n x → members_of e m (Some x) ≡ members_of f k (Some x)
members_alike a (node.Member i q j) h = ap2 (λ x ms. member x q ms) (a.exprs i h.0) (a.lists j h.1)
members_alike a x h = refl

-- where parts are built, readings with any levels beyond the place agree
agree_at : {n : ℕ} {e f : ℕ → Expr} {m k : ℕ → Members} (nodes : List Node) → IsBuilt nodes → Agree n e f m k → (o : Option Node) → slice_get nodes n ≡ o
    → (expr_of e m o ≡ expr_of f k o) × (members_of e m o ≡ members_of f k o)
agree_at nodes built a None is = (refl, refl)
agree_at {n = n} nodes built a (Some x) is = let h = (built n x is).0 in (expr_alike a x h, members_alike a x h)

levels : (nodes : List Node) → IsBuilt nodes → (k l n : ℕ) → n < k → n < l
    → (expr_within nodes k n ≡ expr_within nodes l n) × (members_within nodes k n ≡ members_within nodes l n)
levels nodes built zero l n h g = absurd (omega arith)
levels nodes built (suc k) zero n h g = absurd (omega arith)
levels nodes built (suc k) (suc l) n h g =
    agree_at nodes built (record {
      exprs = λ i b. (levels nodes built k l i (omega arith) (omega arith)).0;
      lists = λ i b. (levels nodes built k l i (omega arith) (omega arith)).1;
    }) (slice_get nodes n) refl

own_levels : (arena : Arena) (n : ℕ) → Agree n (expr_within arena.nodes.keys n) (expr_at arena) (members_within arena.nodes.keys n) (members_at arena)
unfolding expr_at members_at
own_levels arena n = record {
  exprs = λ i b. (levels arena.nodes.keys arena.built n (suc i) i b (omega arith)).0;
  lists = λ i b. (levels arena.nodes.keys arena.built n (suc i) i b (omega arith)).1;
}

pub expr_shown : (arena : Arena) (n : ℕ) (x : Node) → slice_get arena.nodes.keys n ≡ Some x → expr_at arena n ≡ expr_of (expr_at arena) (members_at arena) (Some x)
unfolding expr_at
expr_shown arena n x at =
    ap (expr_of (expr_within arena.nodes.keys n) (members_within arena.nodes.keys n)) at ∙ expr_alike (own_levels arena n) x (arena.built n x at).0

pub members_shown : (arena : Arena) (n : ℕ) (x : Node) → slice_get arena.nodes.keys n ≡ Some x → members_at arena n ≡ members_of (expr_at arena) (members_at arena) (Some x)
unfolding members_at
members_shown arena n x at =
    ap (members_of (expr_within arena.nodes.keys n) (members_within arena.nodes.keys n)) at ∙ members_alike (own_levels arena n) x (arena.built n x at).0

-- Numbers go on to stand for what they stood for.

mutual
  exprs_kept : (old new : List Node) → IsBuilt old → Keeps old new → (k n : ℕ) → n < length old → expr_within old k n ≡ expr_within new k n
  exprs_kept old new built keeps zero n h = refl
  exprs_kept old new built keeps (suc k) n h =
      let at = slice_get-get_or old n node.Nothing h in
      ap (expr_of (expr_within old k) (members_within old k)) at
      ∙ expr_alike (record {
        exprs = λ i b. exprs_kept old new built keeps k i (omega arith);
        lists = λ i b. lists_kept old new built keeps k i (omega arith);
      }) (get_or old n node.Nothing) (built n (get_or old n node.Nothing) at).0
      ∙ sym (ap (expr_of (expr_within new k) (members_within new k)) (keeps n (get_or old n node.Nothing) at))

  lists_kept : (old new : List Node) → IsBuilt old → Keeps old new → (k n : ℕ) → n < length old → members_within old k n ≡ members_within new k n
  lists_kept old new built keeps zero n h = refl
  lists_kept old new built keeps (suc k) n h =
      let at = slice_get-get_or old n node.Nothing h in
      ap (members_of (expr_within old k) (members_within old k)) at
      ∙ members_alike (record {
        exprs = λ i b. exprs_kept old new built keeps k i (omega arith);
        lists = λ i b. lists_kept old new built keeps k i (omega arith);
      }) (get_or old n node.Nothing) (built n (get_or old n node.Nothing) at).0
      ∙ sym (ap (members_of (expr_within new k) (members_within new k)) (keeps n (get_or old n node.Nothing) at))

pub some_expr : (o : Option Node) → is_expr_at o ≡ true → (x : Node) × (o ≡ Some x)
some_expr (Some x) h = (x, refl)
some_expr None h = cc

pub some_list : (o : Option Node) → is_list_at o ≡ true → (x : Node) × (o ≡ Some x)
some_list (Some x) h = (x, refl)
some_list None h = cc

pub expr_below : (nodes : List Node) (n : ℕ) → IsExprAt nodes n → n < length nodes
expr_below nodes n h = let p = some_expr (slice_get nodes n) h in slice_get_within nodes n p.0 p.1

pub list_below : (nodes : List Node) (n : ℕ) → IsListAt nodes n → n < length nodes
list_below nodes n h = let p = some_list (slice_get nodes n) h in slice_get_within nodes n p.0 p.1

pub expr_stays : (old new : Arena) → Grows old new → (n : ℕ) → IsExpr old n → IsMade new n (expr_at old n)
unfolding expr_at
expr_stays old new keeps n h = let p = some_expr (slice_get old.nodes.keys n) h in record {
  is_expr = subst (λ o. is_expr_at o ≡ true) (p.1 ∙ sym (keeps n p.0 p.1)) h;
  is = sym (exprs_kept old.nodes.keys new.nodes.keys old.built keeps (suc n) n (slice_get_within old.nodes.keys n p.0 p.1));
}

pub list_stays : (old new : Arena) → Grows old new → (n : ℕ) → IsList old n → IsListed new n (members_at old n)
unfolding members_at
list_stays old new keeps n h = let p = some_list (slice_get old.nodes.keys n) h in record {
  is_list = subst (λ o. is_list_at o ≡ true) (p.1 ∙ sym (keeps n p.0 p.1)) h;
  is = sym (lists_kept old.nodes.keys new.nodes.keys old.built keeps (suc n) n (slice_get_within old.nodes.keys n p.0 p.1));
}

-- A new node.

parts_below : (nodes : List Node) (x : Node) → AreParts nodes x → AreBelow (length nodes) x
parts_below nodes node.Nothing h = tt
parts_below nodes node.Empty h = tt
parts_below nodes (node.Range low high) h = tt
parts_below nodes (node.Chain i j) h = (expr_below nodes i h.0, expr_below nodes j h.1)
parts_below nodes (node.Either i j) h = (expr_below nodes i h.0, expr_below nodes j h.1)
parts_below nodes (node.Star i) h = expr_below nodes i h
parts_below nodes (node.Among i) h = list_below nodes i h
parts_below nodes node.NoMore h = tt
parts_below nodes (node.Member i q j) h = (expr_below nodes i h.0, list_below nodes j h.1)

expr_place : (old new : List Node) → Keeps old new → (i : ℕ) → IsExprAt old i → IsExprAt new i
expr_place old new keeps i h = let p = some_expr (slice_get old i) h in subst (λ o. is_expr_at o ≡ true) (p.1 ∙ sym (keeps i p.0 p.1)) h

list_place : (old new : List Node) → Keeps old new → (i : ℕ) → IsListAt old i → IsListAt new i
list_place old new keeps i h = let p = some_list (slice_get old i) h in subst (λ o. is_list_at o ≡ true) (p.1 ∙ sym (keeps i p.0 p.1)) h

parts_stay : (old new : List Node) → Keeps old new → (x : Node) → AreParts old x → AreParts new x
parts_stay old new keeps node.Nothing h = tt
parts_stay old new keeps node.Empty h = tt
parts_stay old new keeps (node.Range low high) h = tt
parts_stay old new keeps (node.Chain i j) h = (expr_place old new keeps i h.0, expr_place old new keeps j h.1)
parts_stay old new keeps (node.Either i j) h = (expr_place old new keeps i h.0, expr_place old new keeps j h.1)
parts_stay old new keeps (node.Star i) h = expr_place old new keeps i h
parts_stay old new keeps (node.Among i) h = list_place old new keeps i h
parts_stay old new keeps node.NoMore h = tt
parts_stay old new keeps (node.Member i q j) h = (expr_place old new keeps i h.0, list_place old new keeps j h.1)

lower : (n m : ℕ) → n ≤ m → (x : Node) → AreBelow n x → AreBelow m x
lower n m h node.Nothing b = tt
lower n m h node.Empty b = tt
lower n m h (node.Range low high) b = tt
lower n m h (node.Chain i j) b = let p : i < n = b.0 in let q : j < n = b.1 in (omega arith, omega arith)
lower n m h (node.Either i j) b = let p : i < n = b.0 in let q : j < n = b.1 in (omega arith, omega arith)
lower n m h (node.Star i) b = omega arith
lower n m h (node.Among i) b = omega arith
lower n m h node.NoMore b = tt
lower n m h (node.Member i q j) b = let p : i < n = b.0 in let r : j < n = b.1 in (omega arith, omega arith)

-- One node more, if any, whose parts are there: all stay built.

old_built : (old new : List Node) → IsBuilt old → Keeps old new → (n : ℕ) (y : Node) → slice_get new n ≡ Some y → n < length old → AreBelow n y × AreParts new y
old_built old new built keeps n y at h =
    let had = slice_get-get_or old n y h in
    let same : get_or old n y ≡ y = some_is (sym (keeps n (get_or old n y) had) ∙ at) in
    let b = built n y (had ∙ ap (λ v. Some v) same) in (b.0, parts_stay old new keeps y b.1)

moved_built : (old new : List Node) → IsBuilt old → Keeps old new → (n : ℕ) (y : Node) → length old ≤ n → Contains old y → AreBelow n y × AreParts new y
moved_built old new built keeps n y h c =
    let below : c.0 < length old = c.1 in
    let b = built c.0 y (slice_get-get_or old c.0 y c.1 ∙ ap (λ v. Some v) c.2) in (lower c.0 n (omega arith) y b.0, parts_stay old new keeps y b.1)

new_built : (old new : List Node) → Keeps old new → (n : ℕ) (x y : Node) → length old ≤ n → AreParts old x → y ≡ x → AreBelow n y × AreParts new y
new_built old new keeps n x y h parts e =
    let parts_of : AreParts old y = subst (AreParts old) (sym e) parts in (lower (length old) n h y (parts_below old y parts_of), parts_stay old new keeps y parts_of)

pub still_built : (old new : List Node) (x : Node) → IsBuilt old → AreParts old x → Keeps old new → AddsOnly old new x → IsBuilt new
still_built old new x built parts keeps adds n y at = elim (cases_lt n (length old)) [
  | inl h ↦ old_built old new built keeps n y at h
  | inr h ↦ elim (adds y (n, slice_get_within new n y at, get_or_from_slice_get new n y y at)) [
    | inl c ↦ moved_built old new built keeps n y h c
    | inr e ↦ new_built old new keeps n x y h parts e
  ]
]

agree_kept : (old new : Arena) → Grows old new → Agree (count_of old) (expr_at new) (expr_at old) (members_at new) (members_at old)
unfolding expr_at members_at
agree_kept old new keeps = record {
  exprs = λ i b. sym (exprs_kept old.nodes.keys new.nodes.keys old.built keeps (suc i) i b);
  lists = λ i b. sym (lists_kept old.nodes.keys new.nodes.keys old.built keeps (suc i) i b);
}

-- what a node is that was put
pub made : (old new : Arena) (x : Node) → AreParts old.nodes.keys x → Grows old new → (r : ℕ) → slice_get new.nodes.keys r ≡ Some x → is_expr_at (Some x) ≡ true
    → IsMade new r (expr_of (expr_at old) (members_at old) (Some x))
made old new x parts keeps r at h = record {
  is_expr = subst (λ o. is_expr_at o ≡ true) (sym at) h;
  is = expr_shown new r x at ∙ expr_alike (agree_kept old new keeps) x (parts_below old.nodes.keys x parts);
}

pub listed : (old new : Arena) (x : Node) → AreParts old.nodes.keys x → Grows old new → (r : ℕ) → slice_get new.nodes.keys r ≡ Some x → is_list_at (Some x) ≡ true
    → IsListed new r (members_of (expr_at old) (members_at old) (Some x))
listed old new x parts keeps r at h = record {
  is_list = subst (λ o. is_list_at o ≡ true) (sym at) h;
  is = members_shown new r x at ∙ members_alike (agree_kept old new keeps) x (parts_below old.nodes.keys x parts);
}

pub parts_of_node : (arena : Arena) (n : ℕ) (x : Node) → slice_get arena.nodes.keys n ≡ Some x → AreBelow n x × AreParts arena.nodes.keys x
parts_of_node arena n x at = arena.built n x at
