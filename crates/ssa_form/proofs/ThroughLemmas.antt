-- A version that stands for a slot at the point of a join stands wherever the join does.
use Rattle.std.proofs.Common.{◌≡◌, ◌⊎◌, inl, inr, ℕ, refl, sym, subst, ap, ◌∙◌}
use Rattle.flow_code.specs.Points.{PlainFlow}
use Rattle.loose_sets.specs.Reaching.{at_point, at_entry}
use Rattle.loose_sets.specs.Versions.{PlainVersion, join_at, Edge, Leaves, IsOneVersion, Stands}
use Rattle.loose_sets.proofs.Exact.{no_join}

same_point : (p x h y : ℕ) → join_at p x ≡ join_at h y → p ≡ h
same_point p x h y e = cc

-- what comes by an edge, with the version in the place of the join
put_in : {A B : Type 0} → PlainVersion → PlainVersion → A ⊎ B → PlainVersion
put_in v j (inl a) = v
put_in v j (inr b) = j

module _ (flow : PlainFlow) (h : ℕ) (v : PlainVersion) (p x : ℕ) (u : PlainVersion) (is : u ≡ join_at h x) (comes : (q : ℕ) → Edge flow q p → PlainVersion) (one : IsOneVersion flow p x u comes) where
  abbrev new : (q : ℕ) → Edge flow q p → PlainVersion
  new q e = put_in v (join_at p x) (one.by_edge q e)

  by_edge : (q : ℕ) (e : Edge flow q p) → (new q e ≡ v) ⊎ (new q e ≡ join_at p x)
  unfolding put_in
  by_edge q e = by (one.by_edge q e)
    where
      by : (o : (comes q e ≡ u) ⊎ (comes q e ≡ join_at p x)) → (put_in v (join_at p x) o ≡ v) ⊎ (put_in v (join_at p x) o ≡ join_at p x)
      by (inl a) = inl refl
      by (inr b) = inr refl

  new_one : (q : ℕ) (e : Edge flow q p) (a : comes q e ≡ u) → one.by_edge q e ≡ inl a → IsOneVersion flow p x v new
  unfolding put_in
  new_one q e a k = record {
    by_set = λ r f w. absurd (elim (one.by_edge r f) [
      | inl b ↦ no_join (at_point r) h x (sym (one.by_set r f w) ∙ b ∙ is)
      | inr b ↦ no_join (at_point r) p x (sym (one.by_set r f w) ∙ b)
    ]);
    by_edge = by_edge;
    by_entry = λ f en. absurd (no_join (at_entry f x) h x (sym (one.by_entry f en) ∙ is));
    some = inl (q, e, ap (λ (o : (comes q e ≡ u) ⊎ (comes q e ≡ join_at p x)). put_in v (join_at p x) o) k);
  }

pub stands_through : (flow : PlainFlow) (h : ℕ) (v : PlainVersion) (q x : ℕ) (u : PlainVersion) → Stands flow q x u → u ≡ join_at h x → Stands flow h x v → Stands flow q x v
unfolding put_in
stands_through flow h v _ _ _ (Stands.here p x) e s = subst (λ (z : ℕ). Stands flow z x v) (sym (same_point p x h x e)) s
stands_through flow h v _ _ _ (Stands.set_before p q x only set) e s = absurd (no_join (at_point q) h x e)
stands_through flow h v _ _ _ (Stands.left_before p q x w only leaves stands) e s = Stands.left_before p q x v only leaves (stands_through flow h v q x w stands e s)
stands_through flow h v _ _ _ (Stands.alike p x u comes one stands) e s = elim one.some [
  | inr k ↦ absurd (no_join (at_entry k.0 x) h x (sym (one.by_entry k.0 k.1) ∙ e))
  | inl k ↦ by k.0 k.1 k.2 (one.by_edge k.0 k.1) refl (λ q f l a. stands_through flow h v q x (comes q f) (stands q f l) a s)
]
  where
    by : (q : ℕ) (f : Edge flow q p) → comes q f ≡ u → (o : (comes q f ≡ u) ⊎ (comes q f ≡ join_at p x)) → one.by_edge q f ≡ o
        → ((r : ℕ) (g : Edge flow r p) → Leaves flow r x → comes r g ≡ join_at h x → Stands flow r x v) → Stands flow p x v
    by q f a (inr b) k further = subst (λ (z : ℕ). Stands flow z x v) (same_point h x p x (sym e ∙ sym a ∙ b)) s
    by q f a (inl b) k further = Stands.alike p x v (new flow h v p x u e comes one) (new_one flow h v p x u e comes one q f b k) (λ r g l. at r g l (one.by_edge r g))
      where
        at : (r : ℕ) (g : Edge flow r p) → Leaves flow r x → (c : (comes r g ≡ u) ⊎ (comes r g ≡ join_at p x)) → Stands flow r x (put_in v (join_at p x) c)
        at r g l (inl c) = further r g l (c ∙ e)
        at r g l (inr c) = subst (λ (z : PlainVersion). Stands flow r x z) c (stands r g l)
