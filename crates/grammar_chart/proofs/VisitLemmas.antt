-- What is kept of entries.
use Rattle.std.proofs.Common.{◌≡◌, ◌==◌, true, false, if◌then◌else◌, ℕ, ◌<◌, ◌⊎◌, ◌↔◌, inl, inr, List, [], ◌∷◌, ◌++◌, length, get_or, set, Contains, refl, sym, ◌∙◌, ap, subst, arith, Some, slice_get}
use Rattle.std.specs.List.{All}
use Rattle.std.proofs.lemmas.List.Elements.{All-nil, Contains-push_cases, Contains-append_left, Contains-push}
use Rattle.std.proofs.lemmas.Option.{slice_get_read, slice_get_within}
use Rattle.std.proofs.lemmas.Bool.{cases_eq, cases_Bool, cond-true, cond-false}
use Rattle.std.proofs.lemmas.Cmp.{nat_eq_equiv}
use Rattle.std.proofs.lemmas.Map.Views.{exact_unsigned_eq}
use Rattle.numbered_sets.specs.Numbers.{Keeps, AreDifferent}
use Rattle.smallvec.specs.SmallVec.{SmallVec}
use Rattle.grammar_chart.specs.declared.keys.Entry.{Entry}
use Rattle.numbered_sets.proofs.NumberLemmas.{at_front}
use Rattle.numbered_sets.proofs.PlaceLemmas.{slice_get-set_other, slice_get-set_same}
use Rattle.grammar_chart.specs.declared.steps.Visit.{Visit}
use Rattle.grammar_chart.proofs.MemberLemmas.{at_push, different_push, at_below, at_old}
use Rattle.grammar_chart.specs.Visits.{VisitsGrow, AddsWaiting, AddsExit, AreWithin}

pub grow_none : (old new : List Visit) → new ≡ old → VisitsGrow old new
grow_none old new e =
    record {
      kept = λ q v h. ap (λ (xs : List Visit). slice_get xs q) e ∙ h;
      empty = λ q v h. inl (ap (λ (xs : List Visit). slice_get xs q) (sym e) ∙ h);
    }

pub grow_one : (old new : List Visit) (y : Visit) → new ≡ old ++ y ∷ [] → y.waiting.items ≡ [] → y.exits.items ≡ [] → VisitsGrow old new
grow_one old new y e w x =
    record {
      kept = λ q v h. ap (λ (xs : List Visit). slice_get xs q) e ∙ at_front old y q v h;
      empty = λ q v h. elim (at_push old y q v (ap (λ (xs : List Visit). slice_get xs q) (sym e) ∙ h)) [
        | inl a ↦ inl a
        | inr a ↦ inr (ap (λ (u : Visit). u.waiting.items) (sym a.1) ∙ w, ap (λ (u : Visit). u.exits.items) (sym a.1) ∙ x)
      ];
    }

test_same : (q at : ℕ) → q ≡ at → (q == at) ≡ true
test_same q at e = ap (λ (n : ℕ). n == at) e ∙ nat_eq_equiv.refl at

test_other : (q at : ℕ) → (q ≡ at → ⊥) → (q == at) ≡ false
test_other q at other = elim (cases_Bool (q == at)) [ inl t ↦ absurd (other (exact_unsigned_eq q at t)) | inr f ↦ f ]

-- a member is put behind those of the list at a place
abbrev pub IsPut : {X : Type 0} → List X → List X → X → ℕ → ℕ → Type 0
IsPut was now x q at = now ≡ (if q == at then was ++ x ∷ [] else was)

put_here : {X : Type 0} (was now : List X) (x : X) (q at : ℕ) → q ≡ at → now ≡ was ++ x ∷ [] → IsPut was now x q at
put_here was now x q at e is = is ∙ sym (cond-true (q == at) (was ++ x ∷ []) was (test_same q at e))

put_elsewhere : {X : Type 0} (was : List X) (x : X) (q at : ℕ) → (q ≡ at → ⊥) → IsPut was was x q at
put_elsewhere was x q at other = sym (cond-false (q == at) (was ++ x ∷ []) was (test_other q at other))

put_cases : {X : Type 0} (was now : List X) (x : X) (q at : ℕ) → IsPut was now x q at → ((q ≡ at) × (now ≡ was ++ x ∷ [])) ⊎ ((q ≡ at → ⊥) × (now ≡ was))
put_cases was now x q at is =
    elim (cases_eq q at) [
      | inl e ↦ inl (e, is ∙ cond-true (q == at) (was ++ x ∷ []) was (test_same q at e))
      | inr other ↦ inr (other, is ∙ cond-false (q == at) (was ++ x ∷ []) was (test_other q at other))
    ]

pub put_members : {X : Type 0} (was now : List X) (x : X) (q at : ℕ) → IsPut was now x q at → (b : X) → Contains now b ↔ (Contains was b ⊎ ((q ≡ at) × (b ≡ x)))
put_members {X} was now x q at is b =
    elim (put_cases was now x q at is) [
      | inl d ↦ (
        λ c. elim (Contains-push_cases was x b (subst (λ (ys : List X). Contains ys b) d.1 c)) [ inl f ↦ inl f | inr f ↦ inr (d.0, sym f) ],
        λ c.
            let m : Contains (was ++ x ∷ []) b = elim c [
              | inl f ↦ Contains-append_left was (x ∷ []) b f
              | inr f ↦ subst (λ (y : X). Contains (was ++ x ∷ []) y) (sym f.1) (Contains-push was x)
            ] in
            subst (λ (ys : List X). Contains ys b) (sym d.1) m,
      )
      | inr d ↦ (
        λ c. inl (subst (λ (ys : List X). Contains ys b) d.1 c),
        λ c. elim c [ inl f ↦ subst (λ (ys : List X). Contains ys b) (sym d.1) f | inr f ↦ absurd (d.0 f.0) ],
      )
    ]

pub put_different : {X : Type 0} (was now : List X) (x : X) (q at : ℕ) → IsPut was now x q at → AreDifferent was → (q ≡ at → Contains was x → ⊥) → AreDifferent now
put_different {X} was now x q at is different none =
    elim (put_cases was now x q at is) [
      | inl d ↦ subst (λ (ys : List X). AreDifferent ys) (sym d.1) (different_push was x different (none d.0))
      | inr d ↦ subst (λ (ys : List X). AreDifferent ys) (sym d.1) different
    ]

pub waiting_added : (old : List Visit) (at : ℕ) (one : ℕ) (was now : Visit) → at < length old → was ≡ get_or old at was → now.exits ≡ was.exits → now.waiting.items ≡ was.waiting.items ++ one ∷ [] → AddsWaiting old (set old at now) at one
waiting_added old at one was now h is same e q v found =
    let here : slice_get old at ≡ Some was = slice_get_read old (length old) at was refl h is in
    elim (cases_eq q at) [
      | inl eq ↦
          let some : Some v ≡ Some now = sym found ∙ (ap (slice_get (set old at now)) eq ∙ slice_get-set_same old at now h) in
          let two : v ≡ now = cc in (
            was,
            ap (slice_get old) eq ∙ here,
            ap (λ (u : Visit). u.exits) two ∙ same,
            put_here was.waiting.items v.waiting.items one q at eq (ap (λ (u : Visit). u.waiting.items) two ∙ e),
          )
      | inr other ↦ (v, sym (slice_get-set_other old at q now other) ∙ found, refl, put_elsewhere v.waiting.items one q at other)
    ]

pub exit_added : (old : List Visit) (at : ℕ) (exit : ℕ) (was now : Visit) → at < length old → was ≡ get_or old at was → now.waiting ≡ was.waiting → now.exits.items ≡ was.exits.items ++ exit ∷ [] → AddsExit old (set old at now) at exit
exit_added old at exit was now h is same e q v found =
    let here : slice_get old at ≡ Some was = slice_get_read old (length old) at was refl h is in
    elim (cases_eq q at) [
      | inl eq ↦
          let some : Some v ≡ Some now = sym found ∙ (ap (slice_get (set old at now)) eq ∙ slice_get-set_same old at now h) in
          let two : v ≡ now = cc in (
            was,
            ap (slice_get old) eq ∙ here,
            ap (λ (u : Visit). u.waiting) two ∙ same,
            put_here was.exits.items v.exits.items exit q at eq (ap (λ (u : Visit). u.exits.items) two ∙ e),
          )
      | inr other ↦ (v, sym (slice_get-set_other old at q now other) ∙ found, refl, put_elsewhere v.exits.items exit q at other)
    ]

-- what waits, and the exits, by their members
pub waiting_members : (old new : List Visit) (at one : ℕ) → AddsWaiting old new at one → (q : ℕ) (v : Visit) → slice_get new q ≡ Some v
    → (w : Visit) × (slice_get old q ≡ Some w) × (v.exits ≡ w.exits) × ((n : ℕ) → Contains v.waiting.items n ↔ (Contains w.waiting.items n ⊎ ((q ≡ at) × (n ≡ one))))
waiting_members old new at one adds q v found =
    let a = adds q v found in
    (a.0, a.1, a.2, put_members (a.0).waiting.items v.waiting.items one q at a.3)

pub exit_members : (old new : List Visit) (at exit : ℕ) → AddsExit old new at exit → (q : ℕ) (v : Visit) → slice_get new q ≡ Some v
    → (w : Visit) × (slice_get old q ≡ Some w) × (v.waiting ≡ w.waiting) × ((t : ℕ) → Contains v.exits.items t ↔ (Contains w.exits.items t ⊎ ((q ≡ at) × (t ≡ exit))))
exit_members old new at exit adds q v found =
    let a = adds q v found in
    (a.0, a.1, a.2, put_members (a.0).exits.items v.exits.items exit q at a.3)

-- what waits at an entry when visits have grown has the numbers of before
pub within_grown : (old new : List Visit) (count : ℕ) → VisitsGrow old new → AreWithin old count → AreWithin new count
within_grown old new count grows within q v at =
    elim (grows.empty q v at) [
      | inl before ↦ within q v before
      | inr none ↦ subst (λ (xs : List ℕ). All (λ n. n < count) xs) (sym none.0) (All-nil (λ (n : ℕ). n < count))
    ]

-- what is kept of each entry stays
pub record VisitsKept (vs after : List Visit) : Type 0 where
  pub waiting : (q : ℕ) (v : Visit) → slice_get vs q ≡ Some v → (w : Visit) × (slice_get after q ≡ Some w) × ((n : ℕ) → Contains v.waiting.items n → Contains w.waiting.items n) × ((t : ℕ) → Contains v.exits.items t → Contains w.exits.items t)

pub visits_same : (vs : List Visit) → VisitsKept vs vs
visits_same vs = record { waiting = λ q v h. (v, h, λ b k. k, λ t k. k) }

pub visits_grown : (vs after : List Visit) → VisitsGrow vs after → VisitsKept vs after
visits_grown vs after grows = record { waiting = λ q v h. (v, grows.kept q v h, λ b k. k, λ t k. k) }

pub visits_waiting : (vs visits after : List Visit) (place b : ℕ) → VisitsGrow vs visits → length after ≡ length visits → AddsWaiting visits after place b → VisitsKept vs after
visits_waiting vs visits after place b grows long adds =
    record {
      waiting = λ q v h.
          let m = grows.kept q v h in
          let o = at_below after q (let w = slice_get_within visits q v m in omega (arith, w, long)) in
          let a = waiting_members visits after place b adds q o.0 o.1 in
          let s : Some v ≡ Some a.0 = sym m ∙ a.1 in
          let same : v ≡ a.0 = cc in (
            o.0,
            o.1,
            λ c k. (a.3 c).1 (inl (subst (λ (w : Visit). Contains w.waiting.items c) same k)),
            λ t k. subst (λ (x : SmallVec ℕ). Contains x.items t) (sym a.2) (subst (λ (w : Visit). Contains w.exits.items t) same k),
          );
    }

pub visits_exits : (vs visits after : List Visit) (place exit : ℕ) → VisitsGrow vs visits → length after ≡ length visits → AddsExit visits after place exit → VisitsKept vs after
visits_exits vs visits after place exit grows long adds =
    record {
      waiting = λ q v h.
          let m = grows.kept q v h in
          let o = at_below after q (let w = slice_get_within visits q v m in omega (arith, w, long)) in
          let a = exit_members visits after place exit adds q o.0 o.1 in
          let s : Some v ≡ Some a.0 = sym m ∙ a.1 in
          let same : v ≡ a.0 = cc in (
            o.0,
            o.1,
            λ c k. subst (λ (x : SmallVec ℕ). Contains x.items c) (sym a.2) (subst (λ (w : Visit). Contains w.waiting.items c) same k),
            λ t k. (a.3 t).1 (inl (subst (λ (w : Visit). Contains w.exits.items t) same k)),
          );
    }

-- the entry of what was kept before is the one of before
pub old_entry : (es new : List Entry) (vs : List Visit) (q : ℕ) (v : Visit) (e : Entry) → length vs ≡ length es → Keeps es new → slice_get vs q ≡ Some v → slice_get new q ≡ Some e → slice_get es q ≡ Some e
old_entry es new vs q v e long keeps h k = at_old es new q e keeps (let w = slice_get_within vs q v h in omega (arith, w, long)) k
