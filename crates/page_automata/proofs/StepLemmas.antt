-- Steps of the automaton of a document type definition.
use Rattle.std.proofs.Common.{◌≡◌, ℕ, ◌+◌, ◌<◌, ◌≤◌, inl, inr, Bool, true, false, ◌&&◌, length, refl, sym, ◌∙◌, ap, subst, arith, Option, Some, None, nat_eq}
use Rattle.std.specs.Prelude.{if◌then◌else◌, nat_lt}
use Rattle.std.specs.Cmp.{unsigned_Decides, first_so, second_so}
use Rattle.std.proofs.lemmas.Bool.{cases_lt, lt-ltb, le-ltb, ltb-true}
use Rattle.content_automata.specs.Tables.{first_at, next_at, ends_at, owner_at}
use Rattle.content_automata.specs.Decides.{HasOwners}
use Rattle.tag_sums.specs.Labels.{Label, child, other, Mark, blank, text, misc, doctype}
use Rattle.tag_sums.specs.Automaton.{IsAutomaton}
use Rattle.page_automata.specs.PageAutomaton.{Parts, kept, inner_step, mark_step, start_step, doctype_step, done_step, page_step, page_init, page_closes, page_owner, page_automaton}

-- tests of numbers
pub lt_true : (a b : ℕ) → a < b → nat_lt a b ≡ true
lt_true a b h = lt-ltb a b h

pub lt_false : (a b : ℕ) → b ≤ a → nat_lt a b ≡ false
lt_false a b h = le-ltb a b h

pub lt_from : (a b : ℕ) → nat_lt a b ≡ true → a < b
lt_from a b h = ltb-true a b h

pub eq_same : (a : ℕ) → nat_eq a a ≡ true
eq_same a = (unsigned_Decides a a).1 refl

eq_by : (a b : ℕ) (x : Bool) → b < a → nat_eq a b ≡ x → nat_eq a b ≡ false
eq_by a b true h e = absurd (omega (arith, h, (unsigned_Decides a b).0 e))
eq_by a b false h e = e

pub eq_false : (a b : ℕ) → b < a → nat_eq a b ≡ false
eq_false a b h = eq_by a b (nat_eq a b) h refl

pub some_same : (x y : ℕ) → Some x ≡ Some y → x ≡ y
some_same x y e = cc

pub if_option : (b : Bool) (o : Option ℕ) (r : ℕ) → (if b then o else None) ≡ Some r → (b ≡ true) × (o ≡ Some r)
if_option true o r e = (refl, e)
if_option false o r e = cc

module _ (p : Parts) where
  -- which step is taken where
  pub inner_at : (q : ℕ) (l : Label) → q < length p.states.1 → page_step p q l ≡ inner_step p q l
  inner_at q l h = rw (lt_true q (length p.states.1) h) refl

  pub start_at : (l : Label) → page_step p (length p.states.1) l ≡ start_step p (length p.states.1) l
  start_at l = rw (lt_false (length p.states.1) (length p.states.1) (omega arith), eq_same (length p.states.1)) refl

  pub doctype_at : (l : Label) → page_step p (length p.states.1 + 1) l ≡ doctype_step p (length p.states.1) l
  doctype_at l = rw (lt_false (length p.states.1 + 1) (length p.states.1) (omega arith), eq_false (length p.states.1 + 1) (length p.states.1) (omega arith), eq_same (length p.states.1 + 1)) refl

  pub done_at : (l : Label) → page_step p (length p.states.1 + 2) l ≡ done_step (length p.states.1) l
  done_at l =
      rw
      (lt_false (length p.states.1 + 2) (length p.states.1) (omega arith), eq_false (length p.states.1 + 2) (length p.states.1) (omega arith), eq_false (length p.states.1 + 2) (length p.states.1 + 1) (omega arith), eq_same (length p.states.1 + 2))
      refl

  pub owner_inner : (q : ℕ) → q < length p.states.1 → page_owner p q ≡ owner_at p.states q
  owner_inner q h = rw (lt_true q (length p.states.1) h) refl

  pub owner_outer : (q : ℕ) → length p.states.1 ≤ q → page_owner p q ≡ length p.besides
  owner_outer q h = rw (lt_false q (length p.states.1) h) refl

  -- where the steps of the page itself lead
  abbrev IsOuter : ℕ → Type 0
  IsOuter r = (length p.states.1 ≤ r) × (r < length p.states.1 + 3)

  outer_some : (k r : ℕ) → IsOuter k → Some k ≡ Some r → IsOuter r
  outer_some k r h e = subst IsOuter (some_same k r e) h

  mark_outer : (k r : ℕ) (m : Mark) → IsOuter k → mark_step k m ≡ Some r → IsOuter r
  mark_outer k r blank h e = outer_some k r h e
  mark_outer k r text h e = cc
  mark_outer k r misc h e = outer_some k r h e
  mark_outer k r doctype h e = cc

  start_outer : (l : Label) (r : ℕ) → start_step p (length p.states.1) l ≡ Some r → IsOuter r
  start_outer (child e) r h = outer_some (length p.states.1 + 2) r (omega arith, omega arith) (if_option (p.free && nat_eq e (p.root)) (Some (length p.states.1 + 2)) r h).1
  start_outer (other blank) r h = outer_some (length p.states.1) r (omega arith, omega arith) h
  start_outer (other text) r h = cc
  start_outer (other misc) r h = outer_some (length p.states.1) r (omega arith, omega arith) h
  start_outer (other doctype) r h = outer_some (length p.states.1 + 1) r (omega arith, omega arith) h

  doctype_outer : (l : Label) (r : ℕ) → doctype_step p (length p.states.1) l ≡ Some r → IsOuter r
  doctype_outer (child e) r h = outer_some (length p.states.1 + 2) r (omega arith, omega arith) (if_option (nat_eq e (p.root)) (Some (length p.states.1 + 2)) r h).1
  doctype_outer (other m) r h = mark_outer (length p.states.1 + 1) r m (omega arith, omega arith) h

  done_outer : (l : Label) (r : ℕ) → done_step (length p.states.1) l ≡ Some r → IsOuter r
  done_outer (child e) r h = cc
  done_outer (other m) r h = mark_outer (length p.states.1 + 2) r m (omega arith, omega arith) h

  page_outer : (l : Label) (r : ℕ) (a b c : Bool) → (if a then start_step p (length p.states.1) l else (if b then doctype_step p (length p.states.1) l else (if c then done_step (length p.states.1) l else None))) ≡ Some r → IsOuter r
  page_outer l r true b c h = start_outer l r h
  page_outer l r false true c h = doctype_outer l r h
  page_outer l r false false true h = done_outer l r h
  page_outer l r false false false h = cc

  outer_step : (q r : ℕ) (l : Label) → length p.states.1 ≤ q → page_step p q l ≡ Some r → IsOuter r
  outer_step q r l h e =
      page_outer l r (nat_eq q (length p.states.1)) (nat_eq q (length p.states.1 + 1)) (nat_eq q (length p.states.1 + 2))
      (sym (ap (λ (b : Bool). if b then inner_step p q l else (if nat_eq q (length p.states.1) then start_step p (length p.states.1) l else (if nat_eq q (length p.states.1 + 1) then doctype_step p (length p.states.1) l else (if nat_eq q (length p.states.1 + 2) then done_step (length p.states.1) l else None)))) (lt_false q (length p.states.1) h)) ∙ e)

  module _ (own : HasOwners (length p.besides) p.states) where
    abbrev IsInner : ℕ → ℕ → Type 0
    IsInner q r = (r < length p.states.1) × (owner_at p.states r ≡ owner_at p.states q)

    keeps_inner : (b : Bool) (q r : ℕ) → q < length p.states.1 → kept b q ≡ Some r → IsInner q r
    keeps_inner b q r h e = subst (IsInner q) (some_same q r (if_option b (Some q) r e).1) (h, refl)

    pub inner_leads : (q r : ℕ) (l : Label) → q < length p.states.1 → inner_step p q l ≡ Some r → IsInner q r
    inner_leads q r (child e) h s =
        let next = (if_option (nat_lt e (length p.besides)) (next_at p.states q e) r s).1 in
        (own.next_below q r e next, own.next_own q r e next)
    inner_leads q r (other blank) h s = keeps_inner _ q r h s
    inner_leads q r (other text) h s = keeps_inner _ q r h s
    inner_leads q r (other misc) h s = keeps_inner _ q r h s
    inner_leads q r (other doctype) h s = cc

    step_leads : (q r : ℕ) (l : Label) → page_step p q l ≡ Some r → (r < length p.states.1 + 3) × (page_owner p r ≡ page_owner p q)
    step_leads q r l s = elim (cases_lt q (length p.states.1)) [
      | inl h ↦
          let k = inner_leads q r l h (sym (inner_at q l h) ∙ s) in
          (omega (arith, k.0), owner_inner r k.0 ∙ k.1 ∙ sym (owner_inner q h))
      | inr h ↦
          let k = outer_step q r l h s in
          (k.1, owner_outer r k.0 ∙ sym (owner_outer q h))
    ]

    pub init_leads : (e q : ℕ) → page_init p e ≡ Some q → (q < length p.states.1) × (owner_at p.states q ≡ e)
    init_leads e q s =
        let k = if_option (nat_lt e (length p.besides)) (Some (first_at p.states e)) q s in
        let below = lt_from e (length p.besides) k.0 in
        subst (λ (x : ℕ). (x < length p.states.1) × (owner_at p.states x ≡ e)) (some_same (first_at p.states e) q k.1) (own.first_below e below, own.first_own e below)

    pub closes_leads : (e q : ℕ) → page_closes p e q ≡ true → (q < length p.states.1) × (owner_at p.states q ≡ e) × (ends_at p.states q ≡ true)
    closes_leads e q h =
        let rest = second_so (nat_lt q (length p.states.1)) (nat_eq (owner_at p.states q) e && ends_at p.states q) h in (
          lt_from q (length p.states.1) (first_so (nat_lt q (length p.states.1)) (nat_eq (owner_at p.states q) e && ends_at p.states q) h),
          (unsigned_Decides (owner_at p.states q) e).0 (first_so (nat_eq (owner_at p.states q) e) (ends_at p.states q) rest),
          second_so (nat_eq (owner_at p.states q) e) (ends_at p.states q) rest,
        )

    pub lawful : IsAutomaton (page_automaton p)
    lawful =
        record {
          init_below = λ e q s. omega (arith, (init_leads e q s).0);
          step_below = λ q r l s. (step_leads q r l s).0;
          start_below = omega arith;
          init_own = λ e q s. let k = init_leads e q s in owner_inner q k.0 ∙ k.1;
          step_own = λ q r l s. (step_leads q r l s).1;
          closes_own = λ e q s. let k = closes_leads e q s in owner_inner q k.0 ∙ k.1;
        }
