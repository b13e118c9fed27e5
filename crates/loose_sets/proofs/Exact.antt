-- The definitions behind a version that stands for a slot at a point are those that reach it.
use Rattle.std.proofs.Common.{◌≡◌, ◌≢◌, ◌⊎◌, inl, inr, ℕ, suc, ◌↔◌, Option, Some, None, refl, sym, subst, ap, ◌∙◌}
use Rattle.std.specs.Prelude.{Contains}
use Rattle.std.proofs.lemmas.Option.{same_Some}
use Rattle.std.proofs.lemmas.Bool.Decides.{eqb_tells}
use Rattle.flow_code.specs.Points.{PlainFlow}
use Rattle.flow_code.specs.Lawful.{sets, nexts}
use Rattle.loose_sets.specs.Reaching.{Definition, at_point, at_entry, Reaches}
use Rattle.loose_sets.specs.Versions.{PlainVersion, of_definition, join_at, Edge, Sets, Leaves, Enters, Stands, Link, Asked, Linked, IsKept, AreLinks, Behind}

some_same : {A : Type 0} {a b : A} → Some a ≡ Some b → a ≡ b
some_same k = cc

pub not_both : (flow : PlainFlow) (q x : ℕ) → Sets flow q x → Leaves flow q x → ⊥
not_both flow q x w p = p.not_it (subst (λ z. sets z ≡ Some x) (some_same (sym w.there ∙ p.there)) w.it)

pub no_join : (d : Definition) (p x : ℕ) → of_definition d ≡ join_at p x → ⊥
no_join d p x e = cc

pub set_or_not : (o : Option ℕ) (x : ℕ) → (o ≡ Some x) ⊎ (o ≢ Some x)
set_or_not None x = inr (λ e. absurd (no x e))
  where
    no : (x : ℕ) → None ≡ Some x → ⊥
    no x e = cc
set_or_not (Some y) x = elim (eqb_tells y x) [ inl k ↦ inl (ap (λ (z : ℕ). Some z) k.1) | inr k ↦ inr (λ e. k.1 (same_Some y x e)) ]

-- the point that an edge leaves sets the slot or leaves it as it was
pub sets_or_leaves : (flow : PlainFlow) (q p x : ℕ) → Edge flow q p → Sets flow q x ⊎ Leaves flow q x
sets_or_leaves flow q p x e = elim (set_or_not (sets e.point) x) [
  | inl k ↦ inl (record { point = e.point; there = e.there; it = k })
  | inr k ↦ inr (record { point = e.point; there = e.there; not_it = k })
]

leaves_on : (flow : PlainFlow) (d : Definition) (x q p : ℕ) → Reaches flow d x q → Leaves flow q x → Edge flow q p → Reaches flow d x p
leaves_on flow d x q p r s e = Reaches.onward d x q p s.point r s.there s.not_it (subst (λ z. Contains (nexts z) p) (some_same (sym e.there ∙ s.there)) e.leads)

sets_on : (flow : PlainFlow) (x q p : ℕ) → Sets flow q x → Edge flow q p → Reaches flow (at_point q) x p
sets_on flow x q p w e = Reaches.behind q x p w.point w.there w.it (subst (λ z. Contains (nexts z) p) (some_same (sym e.there ∙ w.there)) e.leads)

-- a definition of the slot reaches a point by so many steps at most
data Within (flow : PlainFlow) (d : Definition) (x : ℕ) : ℕ → ℕ → Type 0 where
  from_set : (q p n : ℕ) → Sets flow q x → Edge flow q p → d ≡ at_point q → Within flow d x p n
  from_entry : (f p n : ℕ) → Enters flow f p x → d ≡ at_entry f x → Within flow d x p n
  onward : (q p n : ℕ) → Within flow d x q n → Leaves flow q x → Edge flow q p → Within flow d x p (suc n)

one_more : (flow : PlainFlow) (d : Definition) (x p n : ℕ) → Within flow d x p n → Within flow d x p (suc n)
one_more flow d x _ _ (Within.from_set q p n w e is) = Within.from_set q p (suc n) w e is
one_more flow d x _ _ (Within.from_entry f p n en is) = Within.from_entry f p (suc n) en is
one_more flow d x _ _ (Within.onward q p n r s e) = Within.onward q p (suc n) (one_more flow d x q n r) s e

counted : (flow : PlainFlow) (d : Definition) (x p : ℕ) → Reaches flow d x p → (n : ℕ) × Within flow d x p n
counted flow _ _ _ (Reaches.behind q x p i e w c) = (0, Within.from_set q p 0 (record { point = i; there = e; it = w }) (record { point = i; there = e; leads = c }) refl)
counted flow _ _ _ (Reaches.entered f x g ef own) = (0, Within.from_entry f g.entry_of 0 (record { function = g; there = ef; own = own; entry = refl }) refl)
counted flow _ _ _ (Reaches.onward d x q p i reach e w c) =
    let r = counted flow d x q reach in
    (suc r.0, Within.onward q p r.0 r.1 (record { point = i; there = e; not_it = w }) (record { point = i; there = e; leads = c }))

module _ (flow : PlainFlow) (d : Definition) (x : ℕ) where
  -- where a join stands for the slot at a point, what reaches the point reaches the join's, by no more steps
  back : (n p : ℕ) (v : PlainVersion) → Stands flow p x v → (t y : ℕ) → v ≡ join_at t y → Within flow d x p n → Within flow d x t n
  back n p _ (Stands.here _ _) t y is w = subst (λ (z : ℕ). Within flow d x z n) (same_point p t y is) w
    where
      same_point : (p t y : ℕ) → join_at p x ≡ join_at t y → p ≡ t
      same_point p t y e = cc
  back n p _ (Stands.set_before _ q _ only set) t y is w = absurd (no_join (at_point q) t y is)
  back n p v (Stands.left_before _ q _ _ only left s) t y is (Within.from_set r _ _ w e same) = absurd (not_both flow q x (subst (λ (k : ℕ). Sets flow k x) (only.alone r e) w) left)
  back n p v (Stands.left_before _ q _ _ only left s) t y is (Within.from_entry f _ _ en same) = absurd (only.inside f en.function en.there en.entry)
  back (suc n) p v (Stands.left_before _ q _ _ only left s) t y is (Within.onward r _ _ w l e) =
      one_more flow d x t n (back n q v s t y is (subst (λ (k : ℕ). Within flow d x k n) (only.alone r e) w))
  back n p v (Stands.alike _ _ _ comes one stands) t y is (Within.from_set r _ _ w e same) = absurd (elim (one.by_edge r e) [
    | inl k ↦ no_join (at_point r) t y (sym (one.by_set r e w) ∙ k ∙ is)
    | inr k ↦ no_join (at_point r) p x (sym (one.by_set r e w) ∙ k)
  ])
  back n p v (Stands.alike _ _ _ comes one stands) t y is (Within.from_entry f _ _ en same) = absurd (no_join (at_entry f x) t y (sym (one.by_entry f en) ∙ is))
  back (suc n) p v (Stands.alike _ _ _ comes one stands) t y is (Within.onward r _ _ w l e) = one_more flow d x t n (elim (one.by_edge r e) [
    | inl k ↦ back n r (comes r e) (stands r e l) t y (k ∙ is) w
    | inr k ↦ back n p v (Stands.alike p x v comes one stands) t y is (back n r (comes r e) (stands r e l) p x k w)
  ])

-- a join stands for its own slot alone
pub slot_of : (flow : PlainFlow) (p x q y : ℕ) → Stands flow p x (join_at q y) → x ≡ y
slot_of flow p x q y s = by p x (join_at q y) s q y refl
  where
    by : (p x : ℕ) (v : PlainVersion) → Stands flow p x v → (q y : ℕ) → v ≡ join_at q y → x ≡ y
    by p x v (Stands.here r z) q y e = cc
    by p x v (Stands.set_before r o z only w) q y e = cc
    by p x v (Stands.left_before r o z u only s t) q y e = by o z u t q y e
    by p x v (Stands.alike r z u comes one stands) q y e = elim one.some [
      | inl k ↦ elim (sets_or_leaves flow k.0 r z k.1) [
        | inl w ↦ absurd (no_join (at_point k.0) q y (sym (one.by_set k.0 k.1 w) ∙ k.2 ∙ e))
        | inr l ↦ by k.0 z (comes k.0 k.1) (stands k.0 k.1 l) q y (k.2 ∙ e)
      ]
      | inr k ↦ absurd (no_join (at_entry k.0 z) q y (sym (one.by_entry k.0 k.1) ∙ e))
    ]

module _ (flow : PlainFlow) (asked : Asked) (linked : Linked) (are : AreLinks flow asked linked) where
  -- what comes to the place where the version is made
  Comes : ℕ → PlainVersion → Definition → Type 0
  Comes x (of_definition d) e = d ≡ e
  Comes x (join_at p y) e = Reaches flow e x p

  comes_definition : (x : ℕ) (v : PlainVersion) (c d : Definition) → Comes x v d → v ≡ of_definition c → c ≡ d
  unfolding Comes
  comes_definition x v c d h e = subst (λ (u : PlainVersion). Comes x u d) e h

  walk : (p x : ℕ) (v : PlainVersion) (d : Definition) → Stands flow p x v → Comes x v d → Reaches flow d x p
  unfolding Comes
  walk p x v d (Stands.here q y) h = h
  walk p x v d (Stands.set_before q r y only w) h = subst (λ z. Reaches flow z y q) h (sets_on flow y r q w only.edge)
  walk p x v d (Stands.left_before q r y u only s t) h = leaves_on flow d y r q (walk r y u d t h) s only.edge
  walk p x v d (Stands.alike q y u comes one stands) h = elim one.some [
    | inl k ↦ elim (sets_or_leaves flow k.0 q y k.1) [
      | inl w ↦ subst (λ (z : Definition). Reaches flow z y q) (comes_definition y u (at_point k.0) d h (sym k.2 ∙ one.by_set k.0 k.1 w)) (sets_on flow y k.0 q w k.1)
      | inr l ↦ leaves_on flow d y k.0 q (walk k.0 y (comes k.0 k.1) d (stands k.0 k.1 l) (subst (λ (z : PlainVersion). Comes y z d) (sym k.2) h)) l k.1
    ]
    | inr k ↦ subst (λ (z : Definition). Reaches flow z y q) (comes_definition y u (at_entry k.0 y) d h (one.by_entry k.0 k.1))
        (subst (λ (z : ℕ). Reaches flow (at_entry k.0 y) y z) (sym k.1.entry) (Reaches.entered k.0 y k.1.function k.1.there k.1.own))
  ]

  behind_definition : (d e : Definition) → Behind linked (of_definition d) e → d ≡ e
  behind_definition d e (Behind.itself f) = refl

  linked_reaches : (u : PlainVersion) (d : Definition) → Behind linked u d → ((p x : ℕ) → Stands flow p x u → Reaches flow d x p) → (p x : ℕ) → Link flow p x u → Reaches flow d x p
  linked_reaches u d b h p x (Link.from_set q r y e w) = subst (λ z. Reaches flow z y q) (behind_definition (at_point r) d b) (sets_on flow y r q w e)
  linked_reaches u d b h p x (Link.from_left q r y v e s t) = leaves_on flow d y r q (h r y t) s e
  linked_reaches u d b h p x (Link.from_entry f y g ef o) = subst (λ z. Reaches flow z y g.entry_of) (behind_definition (at_entry f y) d b) (Reaches.entered f y g ef o)

  sound : (v : PlainVersion) (d : Definition) → Behind linked v d → (p x : ℕ) → Stands flow p x v → Reaches flow d x p
  unfolding Comes
  sound v d (Behind.itself e) p x s = walk p x (of_definition e) e s refl
  sound v d (Behind.joined q y u e k b) p x s =
      let same : x ≡ y = slot_of flow p x q y s in
      walk p x (join_at q y) e s (linked_reaches u e b (sound u e b) q x (subst (λ z. Link flow q z u) (sym same) (are.each q y u k)))

  at_set : (p x : ℕ) (v : PlainVersion) → Stands flow p x v → IsKept asked v → (q : ℕ) → Edge flow q p → Sets flow q x → Behind linked v (at_point q)
  at_set p x v (Stands.here o z) kept q e w = Behind.joined o z (of_definition (at_point q)) (at_point q) (are.set o q z kept e w) (Behind.itself (at_point q))
  at_set p x v (Stands.set_before o n z only u) kept q e w = subst (λ k. Behind linked (of_definition (at_point n)) (at_point k)) (sym (only.alone q e)) (Behind.itself (at_point n))
  at_set p x v (Stands.left_before o n z u only t s) kept q e w = absurd (not_both flow n z (subst (λ k. Sets flow k z) (only.alone q e) w) t)
  at_set p x v (Stands.alike o z u comes one stands) kept q e w = elim (one.by_edge q e) [
    | inl k ↦ subst (λ (t : PlainVersion). Behind linked t (at_point q)) (sym (one.by_set q e w) ∙ k) (Behind.itself (at_point q))
    | inr k ↦ absurd (no_join (at_point q) o z (sym (one.by_set q e w) ∙ k))
  ]

  at_the_entry : (f p x : ℕ) → Enters flow f p x → (v : PlainVersion) → Stands flow p x v → IsKept asked v → Behind linked v (at_entry f x)
  at_the_entry f p x en v (Stands.here o z) kept =
      let g = en.function in
      Behind.joined o z (of_definition (at_entry f z)) (at_entry f z)
      (subst (λ k. linked k z (of_definition (at_entry f z))) (sym en.entry) (are.entry f z g en.there en.own (subst (λ k. asked k z) en.entry kept))) (Behind.itself (at_entry f z))
  at_the_entry f p x en v (Stands.set_before o n z only u) kept = absurd (only.inside f en.function en.there en.entry)
  at_the_entry f p x en v (Stands.left_before o n z u only t s) kept = absurd (only.inside f en.function en.there en.entry)
  at_the_entry f p x en v (Stands.alike o z u comes one stands) kept = subst (λ (t : PlainVersion). Behind linked t (at_entry f z)) (sym (one.by_entry f en)) (Behind.itself (at_entry f z))

  -- a step back from a point that leaves the slot, where what reaches by fewer steps is behind
  at_left : (d : Definition) (m q p x : ℕ) (v : PlainVersion) → Stands flow p x v → IsKept asked v
      → ((r : ℕ) (u : PlainVersion) → Stands flow r x u → IsKept asked u → Within flow d x r m → Behind linked u d) → Edge flow q p → Leaves flow q x → Within flow d x q m → Behind linked v d
  at_left d m q p x v (Stands.here o z) kept h e l w = let k = are.left o q z kept e l in Behind.joined o z k.0 d k.1 (h q k.0 k.2 (are.closed o z k.0 k.1) w)
  at_left d m q p x v (Stands.set_before o n z only u) kept h e l w = absurd (not_both flow n z u (subst (λ k. Leaves flow k z) (only.alone q e) l))
  at_left d m q p x v (Stands.left_before o n z u only t s) kept h e l w = h q u (subst (λ k. Stands flow k z u) (sym (only.alone q e)) s) kept w
  at_left d m q p x v (Stands.alike o z u comes one stands) kept h e l w = elim (one.by_edge q e) [
    | inl k ↦ h q u (subst (λ (t : PlainVersion). Stands flow q z t) k (stands q e l)) kept w
    | inr k ↦ h o u (Stands.alike o z u comes one stands) kept (back flow d z m q (comes q e) (stands q e l) o z k w)
  ]

  complete : (d : Definition) (x n p : ℕ) → Within flow d x p n → (v : PlainVersion) → Stands flow p x v → IsKept asked v → Behind linked v d
  complete d x n p (Within.from_set q _ _ w e is) v s kept = subst (λ (c : Definition). Behind linked v c) (sym is) (at_set p x v s kept q e w)
  complete d x n p (Within.from_entry f _ _ en is) v s kept = subst (λ (c : Definition). Behind linked v c) (sym is) (at_the_entry f p x en v s kept)
  complete d x (suc n) p (Within.onward q _ _ w l e) v s kept = at_left d n q p x v s kept (λ r u t k m. complete d x n r m u t k) e l w

pub exact : (flow : PlainFlow) (asked : Asked) (linked : Linked) → AreLinks flow asked linked → (p x : ℕ) (v : PlainVersion) → Stands flow p x v → IsKept asked v → (d : Definition) → Behind linked v d ↔ Reaches flow d x p
exact flow asked linked are p x v s kept d = (λ b. sound flow asked linked are v d b p x s, λ r. (let c = counted flow d x p r in complete flow asked linked are d x c.0 p c.1 v s kept))
