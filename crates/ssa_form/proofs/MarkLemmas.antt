-- What is known behind one point more.
use Rattle.std.proofs.Common.{◌≡◌, ◌≢◌, ◌<◌, ◌⊎◌, inl, inr, ℕ, suc, Bool, true, false, ◌&&◌, cond, List, Option, Some, None, refl, sym, subst, ◌∙◌, ap, arith, slice_get, Contains}
use Rattle.std.specs.Prelude.{nat_eq}
use Rattle.std.proofs.lemmas.Option.{same_Some}
use Rattle.std.proofs.lemmas.Bool.{eq-eqb}
use Rattle.std.proofs.lemmas.Bool.Decides.{eqb_tells}
use Rattle.flow_code.specs.Points.{PlainPoint, PlainFlow, point_at}
use Rattle.flow_code.specs.Lawful.{sets, reads}
use Rattle.flow_graph.specs.Steps.{PlainStep}
use Rattle.loose_sets.specs.Versions.{PlainVersion, join_at, IsOnly, Stands}
use Rattle.loose_sets.proofs.Exact.{set_or_not}
use Rattle.ssa_form.specs.declared.marks.Marks.{Marks}
use Rattle.ssa_form.specs.declared.version.Version.{Version}
use Rattle.ssa_form.specs.Views.{version_seen, held}
use Rattle.ssa_form.specs.Marks.{found, found_in, Leaving, IsRead, AreMarked, Reads, IsPoint}
use Rattle.ssa_form.proofs.ReadLemmas.{kept_more}

-- the last definitions after a point of a row: its own, and else what was there
pub record IsNoted (old new : Marks) (head p : ℕ) (set : Option ℕ) : Type 0 where
  pub apart : (h x : ℕ) → h ≢ head → held new.last h x ≡ held old.last h x
  pub sets : (x : ℕ) → set ≡ Some x → held new.last head x ≡ Some p
  pub leaves : (x : ℕ) → set ≢ Some x → held new.last head x ≡ held old.last head x

pub noted_none : (old : Marks) (head p : ℕ) → IsNoted old old head p None
noted_none old head p = record { apart = λ h x n. refl; sets = λ x e. absurd (no x e); leaves = λ x n. refl }
  where
    no : (x : ℕ) → None ≡ Some x → ⊥
    no x e = cc

and_false : (a b : Bool) → (a ≡ false) ⊎ (b ≡ false) → (a && b) ≡ false
and_false false b e = refl
and_false true false e = refl
and_false true true e = elim e [ inl k ↦ cc | inr k ↦ cc ]

pub noted_some : (old new : Marks) (head p y : ℕ) → ((h x : ℕ) → held new.last h x ≡ cond (nat_eq head h && nat_eq y x) (Some p) (held old.last h x)) → IsNoted old new head p (Some y)
noted_some old new head p y e = record {
  apart = λ h x n. e h x ∙ elim (eqb_tells head h) [
    | inl k ↦ absurd (n (sym k.1))
    | inr k ↦ ap (λ (t : Bool). cond t (Some p) (held old.last h x)) (and_false (nat_eq head h) (nat_eq y x) (inl k.0))
  ];
  sets = λ x k. let same : y ≡ x = same_Some y x k in
      e head x ∙ ap (λ (t : Bool). cond (t && nat_eq y x) (Some p) (held old.last head x)) (eq-eqb head head refl)
      ∙ ap (λ (t : Bool). cond t (Some p) (held old.last head x)) (eq-eqb y x same);
  leaves = λ x n. e head x ∙ elim (eqb_tells y x) [
    | inl k ↦ absurd (n (ap (λ (z : ℕ). Some z) k.1))
    | inr k ↦ ap (λ (t : Bool). cond t (Some p) (held old.last head x)) (and_false (nat_eq head head) (nat_eq y x) (inr k.0))
  ];
}

pub step_on : (flow : PlainFlow) (p b x : ℕ) (v : PlainVersion) → IsOnly flow p b → Leaving flow b x v → Stands flow p x v
step_on flow p b x v only (Leaving.set q y s) = Stands.set_before p q y only s
step_on flow p b x v only (Leaving.left q y u l s) = Stands.left_before p q y u only l s

module _ (flow : PlainFlow) (heads : List ℕ) (head p : ℕ) (step : PlainStep) (old mid new : Marks) (is : IsPoint flow heads head p step) (are : AreMarked flow heads old p)
    (read : Reads old mid head p step.reads_of) (noted : IsNoted mid new head p step.sets_of) where
  -- the version that is found stands for the slot at the point
  stands : (x : ℕ) → Stands flow p x (found_in old.last head x)
  stands x = elim is.follows [
    | inl e ↦
        subst (λ (o : Option ℕ). Stands flow p x (found o head x)) (sym (are.last.nothing head x (omega arith)))
        (subst (λ (h : ℕ). Stands flow p x (join_at h x)) (sym e) (Stands.here p x))
    | inr k ↦ step_on flow p k.0 x (found_in old.last head x) k.3 (are.last.ends k.0 head (let e = k.1 in omega arith) k.2 (inl (sym k.1)) x)
  ]

  same_last : (h x : ℕ) → held mid.last h x ≡ held old.last h x
  same_last h x = ap (λ l. held l h x) read.last

  set_is : sets is.point ≡ step.sets_of
  set_is = ap (λ (s : PlainStep). s.sets_of) (sym is.is)

  leaving : (x : ℕ) → Leaving flow p x (found_in new.last head x)
  leaving x = elim (set_or_not step.sets_of x) [
    | inl e ↦ subst (λ (o : Option ℕ). Leaving flow p x (found o head x)) (sym (noted.sets x e)) (Leaving.set p x (record { point = is.point; there = is.there; it = set_is ∙ e }))
    | inr n ↦ subst (λ (o : Option ℕ). Leaving flow p x (found o head x)) (sym (noted.leaves x n ∙ same_last head x))
        (Leaving.left p x (found_in old.last head x) (record { point = is.point; there = is.there; not_it = λ e. n (sym set_is ∙ e) }) (stands x))
  ]

  elsewhere : (h x : ℕ) → h ≢ head → held new.last h x ≡ held old.last h x
  elsewhere h x n = noted.apart h x n ∙ same_last h x

  ends : (q h : ℕ) → q < suc p → slice_get heads q ≡ Some h → (suc q ≡ suc p) ⊎ (slice_get heads (suc q) ≢ Some h) → (x : ℕ) → Leaving flow q x (found_in new.last h x)
  ends q h less at last x = elim (eqb_tells q p) [
    | inl k ↦
        let same : head ≡ h = same_Some head h (sym is.head ∙ subst (λ (r : ℕ). slice_get heads r ≡ Some h) k.1 at) in
        subst (λ (r : ℕ). Leaving flow r x (found_in new.last h x)) (sym k.1) (subst (λ (g : ℕ). Leaving flow p x (found_in new.last g x)) same (leaving x))
    | inr k ↦
        let before : q < p = (let n = k.1 in omega arith) in
        elim last [
          | inl e ↦ absurd (k.1 (omega arith))
          | inr n ↦ elim (eqb_tells h head) [
            | inl same ↦ absurd (n (subst (λ (g : ℕ). slice_get heads (suc q) ≡ Some g) (sym same.1) (is.apart q before (subst (λ (g : ℕ). slice_get heads q ≡ Some g) same.1 at))))
            | inr other ↦ subst (λ (o : Option ℕ). Leaving flow q x (found o h x)) (sym (elsewhere h x other.1)) (are.last.ends q h before at (inr n) x)
          ]
        ]
  ]

  pub marked : new.versions ≡ mid.versions → new.asks ≡ mid.asks → AreMarked flow heads new (suc p)
  marked same_versions same_asks = record {
    last = record {
      nothing = λ h x later. elsewhere h x (λ e. let b = is.before in omega arith) ∙ are.last.nothing h x (omega arith);
      ends = ends;
    };
    each = λ q x v e. subst (λ ks. IsRead flow ks.keys q x (version_seen v)) (sym same_asks)
        (elim (read.each q x v (sym (ap (λ vs. held vs q x) same_versions) ∙ e)) [
          | inl k ↦ (let r = are.each q x v k in record { stands = r.stands; kept = kept_more old.asks.keys mid.asks.keys (version_seen v) read.keeps r.kept })
          | inr k ↦ record {
            stands = subst (λ (r : ℕ). Stands flow r x (version_seen v)) (sym k.0) (subst (λ (u : PlainVersion). Stands flow p x u) (sym k.1) (stands x));
            kept = k.2;
          }
        ]);
    all = λ q x i less at c. subst (λ vs. held vs q x ≢ None) (sym same_versions) (elim (eqb_tells q p) [
      | inl k ↦ subst (λ (r : ℕ). held mid.versions r x ≢ None) (sym k.1)
          (read.all x (subst (λ (s : PlainStep). Contains s.reads_of x) (sym is.is)
          (subst (λ (j : PlainPoint). Contains (reads j) x) (same_Some i is.point (sym at ∙ subst (λ (r : ℕ). point_at flow r ≡ Some is.point) (sym k.1) is.there)) c)))
      | inr k ↦ read.grows q x (are.all q x i (let n = k.1 in omega arith) at c)
    ]);
    asked = λ h x c. elim (read.asks h x (subst (λ ks. Contains ks.keys (h, x)) same_asks c)) [
      | inl k ↦ are.asked h x k
      | inr e ↦ subst (λ (g : ℕ). slice_get heads g ≡ Some g) (sym e.0) is.first
    ];
    slots = λ h x c. elim (read.asks h x (subst (λ ks. Contains ks.keys (h, x)) same_asks c)) [
      | inl k ↦ are.slots h x k
      | inr e ↦ record { number = p; point = is.point; there = is.there; it = subst (λ (s : PlainStep). Contains s.reads_of x) is.is e.1 }
    ];
  }

-- before the first point
pub nothing_marked : (flow : PlainFlow) (heads : List ℕ) (marks : Marks) → ((h x : ℕ) → held marks.last h x ≡ None) → ((p x : ℕ) → held marks.versions p x ≡ None) → ((h x : ℕ) → Contains marks.asks.keys (h, x) → ⊥)
    → AreMarked flow heads marks 0
nothing_marked flow heads marks last versions asks = record {
  last = record { nothing = λ h x n. last h x; ends = λ q h less at e x. absurd (omega arith) };
  each = λ p x v e. absurd (none_some v (sym (versions p x) ∙ e));
  all = λ p x i less at c. absurd (omega arith);
  asked = λ h x c. absurd (asks h x c);
  slots = λ h x c. absurd (asks h x c);
}
  where
    none_some : (v : Version) → None ≡ Some v → ⊥
    none_some v e = cc
