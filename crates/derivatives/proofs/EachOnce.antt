-- An expression has one number.
use Rattle.std.proofs.Common.{◌≡◌, ◌<◌, ℕ, zero, suc, Bool, true, List, Some, slice_get, refl, sym, ◌∙◌, ap, subst, arith}
use Rattle.derivatives.specs.Expressions.{Expr, range, chain, either, star, among, Members, member}
use Rattle.numbered_sets.specs.Numbers.{AreDifferent}
use Rattle.derivatives.specs.Nodes.{IsExprAt, IsListAt, AreBelow, AreParts, is_expr_at, is_list_at}
use Rattle.derivatives.specs.Standing.{expr_of, members_of, expr_at, members_at, IsExpr, IsList, HasEachOnce}
use Rattle.derivatives.specs.declared.arena.Arena.{Arena}
use Rattle.derivatives.specs.declared.node.Node.{Node}
use Rattle.derivatives.specs.declared.node.Node.TheVariants as node
use Rattle.derivatives.proofs.NormalForms.{ap2}
use Rattle.derivatives.proofs.NodeLemmas.{expr_shown, members_shown, some_expr, some_list}

-- below a place, what stands for one thing is one number
record AreOne (nodes : List Node) (n : ℕ) (e : ℕ → Expr) (m : ℕ → Members) : Type 0 where
  exprs : (i j : ℕ) → i < n → IsExprAt nodes i → IsExprAt nodes j → e i ≡ e j → i ≡ j
  lists : (i j : ℕ) → i < n → IsListAt nodes i → IsListAt nodes j → m i ≡ m j → i ≡ j

chain_parts : {a b c d : Expr} → chain a b ≡ chain c d → (a ≡ c) × (b ≡ d)
chain_parts e = (cc, cc)

either_parts : {a b c d : Expr} → either a b ≡ either c d → (a ≡ c) × (b ≡ d)
either_parts e = (cc, cc)

range_parts : {a b c d : ℕ} → range a b ≡ range c d → (a ≡ c) × (b ≡ d)
range_parts e = (cc, cc)

star_part : {a b : Expr} → star a ≡ star b → a ≡ b
star_part e = cc

among_part : {a b : Members} → among a ≡ among b → a ≡ b
among_part e = cc

member_parts : {a b : Expr} {q p : Bool} {c d : Members} → member a q c ≡ member b p d → (a ≡ b) × (q ≡ p) × (c ≡ d)
member_parts e = (cc, cc, cc)

member_node : {i j k l : ℕ} {q p : Bool} → i ≡ k → q ≡ p → j ≡ l → node.Member i q j ≡ node.Member k p l
member_node a b c = λ i. node.Member (a i) (b i) (c i)

same_exprs : {nodes : List Node} {n : ℕ} {e : ℕ → Expr} {m : ℕ → Members} → AreOne nodes n e m → (x y : Node) → AreBelow n x → AreParts nodes x → AreParts nodes y
    → is_expr_at (Some x) ≡ true → is_expr_at (Some y) ≡ true → expr_of e m (Some x) ≡ expr_of e m (Some y) → x ≡ y
same_exprs a node.Nothing node.Nothing b p q h g s = refl
same_exprs a node.Empty node.Empty b p q h g s = refl
same_exprs a (node.Range low high) (node.Range first last) b p q h g s = let t = range_parts s in ap2 (λ i j. node.Range i j) t.0 t.1
same_exprs a (node.Chain i j) (node.Chain k l) b p q h g s =
    let t = chain_parts s in ap2 (λ x y. node.Chain x y) (a.exprs i k b.0 p.0 q.0 t.0) (a.exprs j l b.1 p.1 q.1 t.1)
same_exprs a (node.Either i j) (node.Either k l) b p q h g s =
    let t = either_parts s in ap2 (λ x y. node.Either x y) (a.exprs i k b.0 p.0 q.0 t.0) (a.exprs j l b.1 p.1 q.1 t.1)
same_exprs a (node.Star i) (node.Star k) b p q h g s = ap (λ x. node.Star x) (a.exprs i k b p q (star_part s))
same_exprs a (node.Among i) (node.Among k) b p q h g s = ap (λ x. node.Among x) (a.lists i k b p q (among_part s))
same_exprs a x y b p q h g s = cc

same_lists : {nodes : List Node} {n : ℕ} {e : ℕ → Expr} {m : ℕ → Members} → AreOne nodes n e m → (x y : Node) → AreBelow n x → AreParts nodes x → AreParts nodes y
    → is_list_at (Some x) ≡ true → is_list_at (Some y) ≡ true → members_of e m (Some x) ≡ members_of e m (Some y) → x ≡ y
same_lists a node.NoMore node.NoMore b p q h g s = refl
same_lists a (node.Member i o j) (node.Member k r l) b p q h g s =
    let t = member_parts s in member_node (a.exprs i k b.0 p.0 q.0 t.0) t.1 (a.lists j l b.1 p.1 q.1 t.2)
same_lists a x y b p q h g s = cc

mutual
  one_expr : (arena : Arena) → AreDifferent arena.nodes.keys → (k n m : ℕ) → n < k → IsExpr arena n → IsExpr arena m → expr_at arena n ≡ expr_at arena m → n ≡ m
  one_expr arena different zero n m h p q e = absurd (omega arith)
  one_expr arena different (suc k) n m h p q e =
      let x = some_expr (slice_get arena.nodes.keys n) p in
      let y = some_expr (slice_get arena.nodes.keys m) q in
      let b = arena.built n x.0 x.1 in
      let same = same_exprs {nodes = arena.nodes.keys} {n = n} {e = expr_at arena} {m = members_at arena} (record {
        exprs = λ i j less. one_expr arena different k i j (omega arith);
        lists = λ i j less. one_list arena different k i j (omega arith);
      }) x.0 y.0 b.0 b.1 (arena.built m y.0 y.1).1 (subst (λ o. is_expr_at o ≡ true) x.1 p) (subst (λ o. is_expr_at o ≡ true) y.1 q)
      (sym (expr_shown arena n x.0 x.1) ∙ e ∙ expr_shown arena m y.0 y.1) in
      different n m x.0 x.1 (y.1 ∙ ap (λ v. Some v) (sym same))

  one_list : (arena : Arena) → AreDifferent arena.nodes.keys → (k n m : ℕ) → n < k → IsList arena n → IsList arena m → members_at arena n ≡ members_at arena m → n ≡ m
  one_list arena different zero n m h p q e = absurd (omega arith)
  one_list arena different (suc k) n m h p q e =
      let x = some_list (slice_get arena.nodes.keys n) p in
      let y = some_list (slice_get arena.nodes.keys m) q in
      let b = arena.built n x.0 x.1 in
      let same = same_lists {nodes = arena.nodes.keys} {n = n} {e = expr_at arena} {m = members_at arena} (record {
        exprs = λ i j less. one_expr arena different k i j (omega arith);
        lists = λ i j less. one_list arena different k i j (omega arith);
      }) x.0 y.0 b.0 b.1 (arena.built m y.0 y.1).1 (subst (λ o. is_list_at o ≡ true) x.1 p) (subst (λ o. is_list_at o ≡ true) y.1 q)
      (sym (members_shown arena n x.0 x.1) ∙ e ∙ members_shown arena m y.0 y.1) in
      different n m x.0 x.1 (y.1 ∙ ap (λ v. Some v) (sym same))

pub each_once : (arena : Arena) → AreDifferent arena.nodes.keys → HasEachOnce arena
each_once arena different i j p q e = one_expr arena different (suc i) i j (omega arith) p q e
