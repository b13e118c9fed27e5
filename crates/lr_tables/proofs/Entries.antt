-- What the check of fronts says of one state and of one step.
use Rattle.std.proofs.Common.{◌≡◌, ℕ, zero, suc, ◌+◌, Bool, true, false, ◌&&◌, ◌||◌, nat_eq, nat_lt, List, [], ◌∷◌, refl, ◌∙◌, ap, subst, arith, get_or}
use Rattle.std.proofs.lemmas.Bool.{and_parts}
use Rattle.lr_tables.specs.declared.step.Step.{Step}
use Rattle.lr_tables.specs.declared.step.Step.TheVariants.{Fail, Go}
use Rattle.lr_tables.specs.Certificates.{State, no_state, behind, not_true}
use Rattle.lr_tables.specs.FrontChecks.{is_item, has_none, is_led, are_led, are_opened, is_completed, is_entered, are_entered, state_front, states_front, step_enters, row_enters, rows_enter}
use Rattle.lr_tables.proofs.Basics.{eq_is}
use Rattle.lr_tables.proofs.Checked.{or_false}

plus_suc : (a b : ℕ) → suc a + b ≡ a + suc b
plus_suc a b = omega arith

access_next : (accesses : List ℕ) (s : ℕ) → get_or (behind 1 accesses) s 0 ≡ get_or accesses (suc s) 0
access_next [] s = refl
access_next (a ∷ accesses) s = refl

abbrev pub at_first : Bool → ℕ → Bool
at_first first zero = first
at_first first (suc s) = false

never_first : (s : ℕ) → at_first false s ≡ false
never_first zero = refl
never_first (suc s) = refl

module _ (terminals : ℕ) (lefts rights : List ℕ) (rules : List (ℕ × List ℕ × ℕ × ℕ)) (samples : List (ℕ × ℕ × List ℕ)) where
  row_at_step : (all : List State) (prev : ℕ) (state : State) (row : List Step) (from x s : ℕ) → row_enters terminals lefts rights rules samples all prev state from row ≡ true → get_or row x Fail ≡ Go s → step_enters terminals lefts rights rules samples all prev state (from + x) (Go s) ≡ true
  row_at_step all prev state [] from x s h e = cc
  row_at_step all prev state (y ∷ row) from zero s h e =
      let same : from ≡ from + 0 = omega arith in
      subst (λ (v : ℕ). step_enters terminals lefts rights rules samples all prev state v (Go s) ≡ true) same
      (subst (λ (v : Step). step_enters terminals lefts rights rules samples all prev state from v ≡ true) e
      (and_parts (step_enters terminals lefts rights rules samples all prev state from y) (row_enters terminals lefts rights rules samples all prev state (suc from) row) h).0)
  row_at_step all prev state (y ∷ row) from (suc x) s h e =
      subst (λ (v : ℕ). step_enters terminals lefts rights rules samples all prev state v (Go s) ≡ true) (plus_suc from x)
      (row_at_step all prev state row (suc from) x s (and_parts (step_enters terminals lefts rights rules samples all prev state from y) (row_enters terminals lefts rights rules samples all prev state (suc from) row) h).1 e)

  pub rows_at_step : (all : List State) (accesses : List ℕ) (states : List State) (rows : List (List Step)) (u x s : ℕ) → rows_enter terminals lefts rights rules samples all accesses states rows ≡ true → get_or (get_or rows u []) x Fail ≡ Go s
      → step_enters terminals lefts rights rules samples all (get_or accesses u 0) (get_or states u no_state) x (Go s) ≡ true
  rows_at_step all accesses states [] u x s h e = cc
  rows_at_step all accesses [] (row ∷ rows) u x s h e = cc
  rows_at_step all accesses (state ∷ states) (row ∷ rows) zero x s h e =
      let same : 0 + x ≡ x = omega arith in
      subst (λ (v : ℕ). step_enters terminals lefts rights rules samples all (get_or accesses 0 0) state v (Go s) ≡ true) same
      (row_at_step all (get_or accesses 0 0) state row 0 x s (and_parts (row_enters terminals lefts rights rules samples all (get_or accesses 0 0) state 0 row) (rows_enter terminals lefts rights rules samples all (behind 1 accesses) states rows) h).0 e)
  rows_at_step all accesses (state ∷ states) (row ∷ rows) (suc u) x s h e =
      subst (λ (v : ℕ). step_enters terminals lefts rights rules samples all v (get_or states u no_state) x (Go s) ≡ true) (access_next accesses u)
      (rows_at_step all (behind 1 accesses) states rows u x s (and_parts (row_enters terminals lefts rights rules samples all (get_or accesses 0 0) state 0 row) (rows_enter terminals lefts rights rules samples all (behind 1 accesses) states rows) h).1 e)

  -- what is checked of a state
  pub record OpenedAt (first : Bool) (start x : ℕ) (state : State) : Type 0 where
    pub opens : are_opened terminals lefts rights rules samples first start x state.kernel state.closed ≡ true
    pub leads : are_led terminals lefts rights rules samples x state.kernel ≡ true

  state_parts : (first : Bool) (start x : ℕ) (state : State) → state_front terminals lefts rights rules samples first start x state ≡ true → OpenedAt first start x state
  state_parts first start x state h =
      let a = and_parts (are_opened terminals lefts rights rules samples first start x state.kernel state.closed) (are_led terminals lefts rights rules samples x state.kernel && (first || (not_true (nat_lt x terminals) || is_completed terminals lefts rights rules samples state.kernel))) h in
      let b = and_parts (are_led terminals lefts rights rules samples x state.kernel) (first || (not_true (nat_lt x terminals) || is_completed terminals lefts rights rules samples state.kernel)) a.1 in
      record { opens = a.0; leads = b.0 }

  pub opened_at : (start : ℕ) (first : Bool) (accesses : List ℕ) (states : List State) (s : ℕ) → states_front terminals lefts rights rules samples first start accesses states ≡ true → OpenedAt (at_first first s) start (get_or accesses s 0) (get_or states s no_state)
  opened_at start first accesses [] s h = record { opens = refl; leads = refl }
  opened_at start first accesses (state ∷ states) zero h = state_parts first start (get_or accesses 0 0) state (and_parts (state_front terminals lefts rights rules samples first start (get_or accesses 0 0) state) (states_front terminals lefts rights rules samples false start (behind 1 accesses) states) h).0
  opened_at start first accesses (state ∷ states) (suc s) h =
      subst (λ (v : ℕ). OpenedAt false start v (get_or states s no_state)) (access_next accesses s)
      (subst (λ (v : Bool). OpenedAt v start (get_or (behind 1 accesses) s 0) (get_or states s no_state)) (never_first s)
      (opened_at start false (behind 1 accesses) states s (and_parts (state_front terminals lefts rights rules samples first start (get_or accesses 0 0) state) (states_front terminals lefts rights rules samples false start (behind 1 accesses) states) h).1))

  completed_part : (start x : ℕ) (state : State) → state_front terminals lefts rights rules samples false start x state ≡ true → nat_lt x terminals ≡ true → is_completed terminals lefts rights rules samples state.kernel ≡ true
  completed_part start x state h small =
      let a = and_parts (are_opened terminals lefts rights rules samples false start x state.kernel state.closed) (are_led terminals lefts rights rules samples x state.kernel && (not_true (nat_lt x terminals) || is_completed terminals lefts rights rules samples state.kernel)) h in
      let b = and_parts (are_led terminals lefts rights rules samples x state.kernel) (not_true (nat_lt x terminals) || is_completed terminals lefts rights rules samples state.kernel) a.1 in
      or_false (not_true (nat_lt x terminals)) (is_completed terminals lefts rights rules samples state.kernel) b.1 (ap not_true small)

  none_completed : {P : Type 0} → not_true (has_none (no_state).kernel) ≡ true → P
  none_completed h = cc

  completed_of : (start : ℕ) (accesses : List ℕ) (states : List State) (s : ℕ) → states_front terminals lefts rights rules samples false start accesses states ≡ true → not_true (has_none (get_or states s no_state).kernel) ≡ true → nat_lt (get_or accesses s 0) terminals ≡ true → is_completed terminals lefts rights rules samples (get_or states s no_state).kernel ≡ true
  completed_of start accesses [] s h some small = none_completed some
  completed_of start accesses (state ∷ states) zero h some small = completed_part start (get_or accesses 0 0) state (and_parts (state_front terminals lefts rights rules samples false start (get_or accesses 0 0) state) (states_front terminals lefts rights rules samples false start (behind 1 accesses) states) h).0 small
  completed_of start accesses (state ∷ states) (suc s) h some small =
      completed_of start (behind 1 accesses) states s (and_parts (state_front terminals lefts rights rules samples false start (get_or accesses 0 0) state) (states_front terminals lefts rights rules samples false start (behind 1 accesses) states) h).1 some
      (ap (λ (v : ℕ). nat_lt v terminals) (access_next accesses s) ∙ small)

  -- a state behind a token, and not the first, has an item that can be completed
  pub completed_at : (start : ℕ) (accesses : List ℕ) (states : List State) (s : ℕ) → states_front terminals lefts rights rules samples true start accesses states ≡ true → (s ≡ 0 → ⊥) → not_true (has_none (get_or states s no_state).kernel) ≡ true → nat_lt (get_or accesses s 0) terminals ≡ true → is_completed terminals lefts rights rules samples (get_or states s no_state).kernel ≡ true
  completed_at start accesses [] s h later some small = none_completed some
  completed_at start accesses (state ∷ states) zero h later some small = absurd (later refl)
  completed_at start accesses (state ∷ states) (suc s) h later some small =
      completed_of start (behind 1 accesses) states s (and_parts (state_front terminals lefts rights rules samples true start (get_or accesses 0 0) state) (states_front terminals lefts rights rules samples false start (behind 1 accesses) states) h).1 some
      (ap (λ (v : ℕ). nat_lt v terminals) (access_next accesses s) ∙ small)

  led_one : (x : ℕ) (i : ℕ × ℕ × ℕ) (items : List (ℕ × ℕ × ℕ)) (p d : ℕ) (b : Bool) → (nat_eq i.0 p && nat_eq i.1 d) ≡ b → (b || is_item items p d) ≡ true → is_led terminals lefts rights rules samples x i.0 i.1 ≡ true → (is_item items p d ≡ true → is_led terminals lefts rights rules samples x p d ≡ true) → is_led terminals lefts rights rules samples x p d ≡ true
  led_one x i items p d true is e one later =
      let parts = and_parts (nat_eq i.0 p) (nat_eq i.1 d) is in
      subst (λ (v : ℕ). is_led terminals lefts rights rules samples x p v ≡ true) (eq_is i.1 d parts.1) (subst (λ (v : ℕ). is_led terminals lefts rights rules samples x v i.1 ≡ true) (eq_is i.0 p parts.0) one)
  led_one x i items p d false is e one later = later e

  pub item_led : (x : ℕ) (items : List (ℕ × ℕ × ℕ)) (p d : ℕ) → are_led terminals lefts rights rules samples x items ≡ true → is_item items p d ≡ true → is_led terminals lefts rights rules samples x p d ≡ true
  item_led x [] p d h e = cc
  item_led x (i ∷ items) p d h e =
      let parts = and_parts (is_led terminals lefts rights rules samples x i.0 i.1) (are_led terminals lefts rights rules samples x items) h in
      led_one x i items p d (nat_eq i.0 p && nat_eq i.1 d) refl e parts.0 (item_led x items p d parts.1)

  module _ (prev : ℕ) (kernel : List (ℕ × ℕ × ℕ)) (closed : List (ℕ × ℕ × ℕ × ℕ)) where
    entered_one : (i : ℕ × ℕ × ℕ) (items : List (ℕ × ℕ × ℕ)) (p d : ℕ) (b : Bool) → (nat_eq i.0 p && nat_eq i.1 d) ≡ b → (b || is_item items p d) ≡ true → is_entered terminals lefts rights rules samples prev kernel closed i.0 i.1 ≡ true
        → (is_item items p d ≡ true → is_entered terminals lefts rights rules samples prev kernel closed p d ≡ true) → is_entered terminals lefts rights rules samples prev kernel closed p d ≡ true
    entered_one i items p d true is e one later =
        let parts = and_parts (nat_eq i.0 p) (nat_eq i.1 d) is in
        subst (λ (v : ℕ). is_entered terminals lefts rights rules samples prev kernel closed p v ≡ true) (eq_is i.1 d parts.1) (subst (λ (v : ℕ). is_entered terminals lefts rights rules samples prev kernel closed v i.1 ≡ true) (eq_is i.0 p parts.0) one)
    entered_one i items p d false is e one later = later e

    pub item_entered : (items : List (ℕ × ℕ × ℕ)) (p d : ℕ) → are_entered terminals lefts rights rules samples prev kernel closed items ≡ true → is_item items p d ≡ true → is_entered terminals lefts rights rules samples prev kernel closed p d ≡ true
    item_entered [] p d h e = cc
    item_entered (i ∷ items) p d h e =
        let parts = and_parts (is_entered terminals lefts rights rules samples prev kernel closed i.0 i.1) (are_entered terminals lefts rights rules samples prev kernel closed items) h in
        entered_one i items p d (nat_eq i.0 p && nat_eq i.1 d) refl e parts.0 (item_entered items p d parts.1)
