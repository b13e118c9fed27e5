-- Sets that grow, and are put behind the others.
use Rattle.std.proofs.Common.{◌≡◌, ◌<◌, ◌≤◌, ◌+◌, ℕ, Bool, List, [], ◌∷◌, ◌++◌, length, set, get_or, Some, None, slice_get, Contains, inl, inr, refl, sym, ◌∙◌, ap, subst, arith, length-append}
use Rattle.std.specs.Prelude.{◌⊎◌, ◌↔◌}
use Rattle.std.proofs.lemmas.Bool.{cases_eq}
use Rattle.std.proofs.lemmas.List.Elements.{Contains-push_cases}
use Rattle.std.proofs.lemmas.Option.{slice_get_within, same_Some, none-some}
use Rattle.text_base.specs.ByteSet.{Has}
use Rattle.numbered_sets.proofs.NumberLemmas.{at_front}
use Rattle.op_system.specs.declared.system.OpRule.{OpRule}
use Rattle.op_bytes.specs.declared.uses.Use.{Use}
use Rattle.op_bytes.specs.Work.{HasAt, Gains, Grows, GivesUse, GivesRule, IsUseAt, IsRuleAt, IsTurned}
use Rattle.op_bytes.proofs.GainLemmas.{gains_same, gains_two, gains_at, gains_like}

pub grows_same : (sets : List (List Bool)) (order : List ℕ) (P : ℕ → ℕ → Type 0) → ((a b : ℕ) → b < 256 → P a b → HasAt sets a b) → Grows sets order P sets order
grows_same sets order P h = record { gains = gains_same sets P h; keeps = λ n x e. e; longer = omega arith; newer = λ a. inl (λ b x. x); within = λ a x. inl x }

pub grows_two : (old mid new : List (List Bool)) (order between after : List ℕ) (P Q R : ℕ → ℕ → Type 0) → ((a b : ℕ) → R a b ↔ (P a b ⊎ Q a b)) → Grows old order P mid between → Grows mid between Q new after → Grows old order R new after
grows_two old mid new order between after P Q R is p q = record {
  gains = gains_two old mid new P Q R is p.gains q.gains;
  keeps = λ n x e. q.keeps n x (p.keeps n x e);
  longer = (let a = p.longer in let b = q.longer in omega arith);
  newer = λ a. elim (p.newer a) [
    | inl kept ↦ elim (q.newer a) [
      | inl still ↦ inl (λ b x. kept b (still b x))
      | inr behind ↦ inr (record { place = behind.place; behind = (let l = behind.behind in let m = p.longer in omega arith); at = behind.at })
    ]
    | inr behind ↦ inr (record { place = behind.place; behind = behind.behind; at = q.keeps behind.place a behind.at })
  ];
  within = λ a x. elim (q.within a x) [ inl m ↦ p.within a m | inr lt ↦ inr (let l = p.gains.long in omega arith) ];
}

pub grows_like : (old new : List (List Bool)) (order after : List ℕ) (P Q : ℕ → ℕ → Type 0) → ((a b : ℕ) → P a b ↔ Q a b) → Grows old order P new after → Grows old order Q new after
grows_like old new order after P Q is p = record { gains = gains_like old new P Q is p.gains; keeps = p.keeps; longer = p.longer; newer = p.newer; within = p.within }

-- a set that has all bytes already
pub grow_nothing : (sets : List (List Bool)) (order : List ℕ) (target : ℕ) (own extra : List Bool) → slice_get sets target ≡ Some own → ((b : ℕ) → b < 256 → Has extra b → Has own b) → Grows sets order (λ a b. (a ≡ target) × Has extra b) sets order
grow_nothing sets order target own extra at h = grows_same sets order (λ a b. (a ≡ target) × Has extra b) (λ a b lt x. record { below = lt; set = own; is = ap (slice_get sets) x.0 ∙ at; has = h b lt x.1 })

pub grow_more : (sets : List (List Bool)) (order after : List ℕ) (target : ℕ) (was now extra : List Bool) → target < length sets → was ≡ get_or sets target was → ((c : ℕ) → c < 256 → Has now c ↔ (Has was c ⊎ Has extra c)) → after ≡ order ++ target ∷ []
    → Grows sets order (λ a b. (a ≡ target) × Has extra b) (set sets target now) after
grow_more sets order after target was now extra lt is h e = record {
  gains = g;
  keeps = λ n x at. subst (λ (xs : List ℕ). slice_get xs n ≡ Some x) (sym e) (at_front order target n x at);
  longer = (let l = length-append order (target ∷ []) in let f = ap length e in omega arith);
  newer = λ a. elim (cases_eq a target) [
    | inl same ↦ inr (record { place = length order; behind = omega arith; at = subst (λ (xs : List ℕ). slice_get xs (length order) ≡ Some a) (sym e) (subst (λ (x : ℕ). slice_get (order ++ target ∷ []) (length order) ≡ Some x) (sym same) (at_end order)) })
    | inr other ↦ inl (λ b x. elim (g.only a b x) [ inl old ↦ old | inr new ↦ absurd (other new.0) ])
  ];
  within = λ a x. elim (Contains-push_cases order target a (subst (λ (xs : List ℕ). Contains xs a) e x)) [ inl old ↦ inl old | inr new ↦ inr (omega arith) ];
}
  where
    g : Gains sets (λ a b. (a ≡ target) × Has extra b) (set sets target now)
    g = gains_at sets target was now (Has extra) lt is h

    at_end : (xs : List ℕ) → slice_get (xs ++ target ∷ []) (length xs) ≡ Some target
    at_end [] = refl
    at_end (x ∷ xs) = at_end xs

-- the use at a place, and the rule at a place
pub use_none : (sets : List (List Bool)) (order : List ℕ) (uses : List Use) (place : ℕ) (own : List Bool) → slice_get uses place ≡ None → Grows sets order (IsUseAt uses place own) sets order
use_none sets order uses place own none = grows_same sets order (IsUseAt uses place own) (λ a b lt h. absurd (none-some h.found (sym none ∙ h.is)))

pub use_some : (old new : List (List Bool)) (order after : List ℕ) (uses : List Use) (place : ℕ) (own : List Bool) (u : Use) → slice_get uses place ≡ Some u → Grows old order (λ a b. (a ≡ u.to) × Has own b) new after → Grows old order (IsUseAt uses place own) new after
use_some old new order after uses place own u at g = grows_like old new order after (λ a b. (a ≡ u.to) × Has own b) (IsUseAt uses place own) (λ a b. (
  λ h. record { found = u; is = at; to = h.0; has = h.1 },
  λ h. (h.to ∙ ap (λ (x : Use). x.to) (same_Some h.found u (sym h.is ∙ at)), h.has),
)) g

pub rule_none : (sets : List (List Bool)) (order : List ℕ) (rules : List OpRule) (place : ℕ) (own : List Bool) → slice_get rules place ≡ None → Grows sets order (IsRuleAt rules place own) sets order
rule_none sets order rules place own none = grows_same sets order (IsRuleAt rules place own) (λ a b lt h. absurd (none-some h.found (sym none ∙ h.is)))

pub rule_some : (old new : List (List Bool)) (order after : List ℕ) (rules : List OpRule) (place : ℕ) (own made : List Bool) (r : OpRule) → slice_get rules place ≡ Some r → ((c : ℕ) → c < 256 → Has made c ↔ IsTurned r.op own c)
    → Grows old order (λ a b. (a ≡ r.left.0) × Has made b) new after → Grows old order (IsRuleAt rules place own) new after
rule_some old new order after rules place own made r at exact g = record {
  gains = record {
    long = g.gains.long;
    more = g.gains.more;
    only = λ a b x. elim (g.gains.only a b x) [ inl old ↦ inl old | inr new ↦ inr (record { found = r; is = at; to = new.0; has = (exact b x.below).0 new.1 }) ];
    has = λ a b lt h. let own_rule : h.found ≡ r = same_Some h.found r (sym h.is ∙ at) in
        g.gains.has a b lt (h.to ∙ ap (λ (x : OpRule). x.left.0) own_rule, (exact b lt).1 (subst (λ (x : OpRule). IsTurned x.op own b) own_rule h.has));
  };
  keeps = g.keeps;
  longer = g.longer;
  newer = g.newer;
  within = g.within;
}

-- one use more
pub uses_none : (sets : List (List Bool)) (order : List ℕ) (uses : List Use) (places : List ℕ) (own : List Bool) → Grows sets order (GivesUse uses places 0 own) sets order
uses_none sets order uses places own = grows_same sets order (GivesUse uses places 0 own) (λ a b lt h. absurd (let l = h.before in omega arith))

pub uses_more : (old mid new : List (List Bool)) (order between after : List ℕ) (uses : List Use) (places : List ℕ) (n place : ℕ) (own : List Bool) → slice_get places n ≡ Some place
    → Grows old order (GivesUse uses places n own) mid between → Grows mid between (IsUseAt uses place own) new after → Grows old order (GivesUse uses places (n + 1) own) new after
uses_more old mid new order between after uses places n place own at g h =
    grows_two old mid new order between after (GivesUse uses places n own) (IsUseAt uses place own) (GivesUse uses places (n + 1) own) split g h
  where
    split : (a b : ℕ) → GivesUse uses places (n + 1) own a b ↔ (GivesUse uses places n own a b ⊎ IsUseAt uses place own a b)
    split a b = (
      λ x. elim (cases_eq x.k n) [
        | inl same ↦
            let e : x.place ≡ place = same_Some x.place place (sym x.at ∙ (ap (slice_get places) same ∙ at)) in
            inr (record { found = x.found; is = ap (slice_get uses) (sym e) ∙ x.is; to = x.to; has = x.has })
        | inr other ↦ inl (record { k = x.k; before = (let l = x.before in omega arith); place = x.place; at = x.at; found = x.found; is = x.is; to = x.to; has = x.has })
      ],
      λ x. elim x [
        | inl y ↦ record { k = y.k; before = (let l = y.before in omega arith); place = y.place; at = y.at; found = y.found; is = y.is; to = y.to; has = y.has }
        | inr y ↦ record { k = n; before = omega arith; place = place; at = at; found = y.found; is = y.is; to = y.to; has = y.has }
      ],
    )

pub uses_all : (old new : List (List Bool)) (order after : List ℕ) (uses : List Use) (places : List ℕ) (n : ℕ) (own : List Bool) → length places ≤ n → Grows old order (GivesUse uses places n own) new after → Grows old order (GivesUse uses places (length places) own) new after
uses_all old new order after uses places n own le g = grows_like old new order after (GivesUse uses places n own) (GivesUse uses places (length places) own) (λ a b. (
  λ y. record { k = y.k; before = slice_get_within places y.k y.place y.at; place = y.place; at = y.at; found = y.found; is = y.is; to = y.to; has = y.has },
  λ y. record { k = y.k; before = (let l = y.before in omega arith); place = y.place; at = y.at; found = y.found; is = y.is; to = y.to; has = y.has },
)) g

-- one rule more
pub rules_none : (sets : List (List Bool)) (order : List ℕ) (rules : List OpRule) (places : List ℕ) (own : List Bool) → Grows sets order (GivesRule rules places 0 own) sets order
rules_none sets order rules places own = grows_same sets order (GivesRule rules places 0 own) (λ a b lt h. absurd (let l = h.before in omega arith))

pub rules_more : (old mid new : List (List Bool)) (order between after : List ℕ) (rules : List OpRule) (places : List ℕ) (n place : ℕ) (own : List Bool) → slice_get places n ≡ Some place
    → Grows old order (GivesRule rules places n own) mid between → Grows mid between (IsRuleAt rules place own) new after → Grows old order (GivesRule rules places (n + 1) own) new after
rules_more old mid new order between after rules places n place own at g h =
    grows_two old mid new order between after (GivesRule rules places n own) (IsRuleAt rules place own) (GivesRule rules places (n + 1) own) split g h
  where
    split : (a b : ℕ) → GivesRule rules places (n + 1) own a b ↔ (GivesRule rules places n own a b ⊎ IsRuleAt rules place own a b)
    split a b = (
      λ x. elim (cases_eq x.k n) [
        | inl same ↦
            let e : x.place ≡ place = same_Some x.place place (sym x.at ∙ (ap (slice_get places) same ∙ at)) in
            inr (record { found = x.found; is = ap (slice_get rules) (sym e) ∙ x.is; to = x.to; has = x.has })
        | inr other ↦ inl (record { k = x.k; before = (let l = x.before in omega arith); place = x.place; at = x.at; found = x.found; is = x.is; to = x.to; has = x.has })
      ],
      λ x. elim x [
        | inl y ↦ record { k = y.k; before = (let l = y.before in omega arith); place = y.place; at = y.at; found = y.found; is = y.is; to = y.to; has = y.has }
        | inr y ↦ record { k = n; before = omega arith; place = place; at = at; found = y.found; is = y.is; to = y.to; has = y.has }
      ],
    )

pub rules_all : (old new : List (List Bool)) (order after : List ℕ) (rules : List OpRule) (places : List ℕ) (n : ℕ) (own : List Bool) → length places ≤ n → Grows old order (GivesRule rules places n own) new after → Grows old order (GivesRule rules places (length places) own) new after
rules_all old new order after rules places n own le g = grows_like old new order after (GivesRule rules places n own) (GivesRule rules places (length places) own) (λ a b. (
  λ y. record { k = y.k; before = slice_get_within places y.k y.place y.at; place = y.place; at = y.at; found = y.found; is = y.is; to = y.to; has = y.has },
  λ y. record { k = y.k; before = (let l = y.before in omega arith); place = y.place; at = y.at; found = y.found; is = y.is; to = y.to; has = y.has },
)) g
