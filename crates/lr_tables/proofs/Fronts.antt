-- Whatever stands on the stack can be completed to a sentence.
use Rattle.std.proofs.Common.{◌≡◌, ℕ, zero, suc, Bool, true, false, ◌&&◌, ◌||◌, nat_eq, nat_lt, List, [], ◌∷◌, ◌++◌, refl, sym, ◌∙◌, ap, subst, Option, Some, None, get_or, append_assoc}
use Rattle.std.specs.Prelude.{if◌then◌else◌, slice_get}
use Rattle.std.proofs.lemmas.Bool.{and_parts}
use Rattle.lr_tables.specs.declared.rule.Rule.{Rule}
use Rattle.lr_tables.specs.declared.step.Step.TheVariants.{Go}
use Rattle.lr_tables.specs.Grammars.{IsSentence, IsFront, Derives, side, head, is_barred}
use Rattle.lr_tables.specs.Machine.{Tables, top, access, entry}
use Rattle.lr_tables.specs.Certificates.{State, no_state, sides, side_at, behind, not_true}
use Rattle.lr_tables.specs.FrontChecks.{is_free, is_some, begins_free, sample_of, sampled, are_samples, is_begun, is_item, has_none, starts_with, may_begin, may_begin_free, is_known, frees, is_opened, are_opened, is_led, is_completed, are_entered, states_front, rows_enter}
use Rattle.lr_tables.proofs.Basics.{eq_is, is_eq, not_is}
use Rattle.lr_tables.proofs.Checked.{behind_suc, side_found}
use Rattle.lr_tables.proofs.Holds.{and_nothing, ahead, head_ahead, ahead-append, Yields, YieldsAll, yields_more, yields_node, Holds, found, free_stands, free_ahead, SampledAll, all_sampled, each_sampled}
use Rattle.lr_tables.proofs.Entries.{rows_at_step, at_first, opened_at, item_led, item_entered, completed_at}

module _ (t : Tables) (samples : List (ℕ × ℕ × List ℕ)) (states : List State) where
  abbrev all_sides : List (ℕ × List ℕ × ℕ × ℕ)
  all_sides = sides t.grammar.rules

  abbrev kernel : ℕ → List (ℕ × ℕ × ℕ)
  kernel s = (get_or states s no_state).kernel

  abbrev closed : ℕ → List (ℕ × ℕ × ℕ × ℕ)
  closed s = (get_or states s no_state).closed

  abbrev free : ℕ → Type 0
  free k = is_free t.grammar.lefts k ≡ true

  -- with some tokens behind these symbols, which are still to come, the whole is a sentence
  pub record RestEnds (stack xs : List ℕ) : Type 0 where
    pub ws : List ℕ
    pub is_free_ahead : free (head ws)
    pub ends : (front part : List ℕ) → Holds t stack front (ahead part (head ws)) → YieldsAll t.grammar (access t (top stack)) xs part (head ws) → IsSentence t.grammar (front ++ (part ++ ws))

  -- so with this symbol
  pub record Ends (stack : List ℕ) (x : ℕ) : Type 0 where
    pub ws : List ℕ
    pub is_free_ahead : free (head ws)
    pub ends : (front part : List ℕ) → Holds t stack front (ahead part (head ws)) → Yields t.grammar (access t (top stack)) x part (head ws) → IsSentence t.grammar (front ++ (part ++ ws))

  regrouped : (ones twos threes fours : List ℕ) → ones ++ ((twos ++ threes) ++ fours) ≡ (ones ++ twos) ++ (threes ++ fours)
  regrouped ones twos threes fours = ap (λ (v : List ℕ). ones ++ v) (append_assoc twos threes fours) ∙ sym (append_assoc ones twos (threes ++ fours))

  inner : (ones twos threes fours : List ℕ) → ones ++ ((twos ++ threes) ++ fours) ≡ ones ++ (twos ++ (threes ++ fours))
  inner ones twos threes fours = ap (λ (v : List ℕ). ones ++ v) (append_assoc twos threes fours)

  -- a symbol on the stack is one that is no longer to come
  over_symbol : (s : ℕ) (stack xs : List ℕ) → RestEnds stack (access t s ∷ xs) → RestEnds (s ∷ stack) xs
  over_symbol s stack xs r = record { ws = r.ws; is_free_ahead = r.is_free_ahead; ends = λ front part h ys. ended front part h ys }
    where
      ended : (front part : List ℕ) → Holds t (s ∷ stack) front (ahead part (head r.ws)) → YieldsAll t.grammar (access t s) xs part (head r.ws) → IsSentence t.grammar (front ++ (part ++ r.ws))
      ended front part h ys = subst (IsSentence t.grammar) (regrouped h.0 h.1 part r.ws ∙ ap (λ (v : List ℕ). v ++ (part ++ r.ws)) (sym h.2))
          (r.ends h.0 (h.1 ++ part) (subst (Holds t stack h.0) (sym (ahead-append h.1 part (head r.ws))) h.4)
          (yields_more t.grammar (access t (top stack)) (access t s) xs h.1 part (head r.ws) h.3 ys))

  -- where a left side may stand, its rule may
  over_rule : (stack : List ℕ) (p : ℕ) (r : Rule) → slice_get t.grammar.rules p ≡ Some r → is_barred t.grammar r (access t (top stack)) ≡ false → Ends stack r.left → RestEnds stack (side r)
  over_rule stack p r got stands e = record {
    ws = e.ws;
    is_free_ahead = e.is_free_ahead;
    ends = λ front part h ys. e.ends front part h (yields_node t.grammar (access t (top stack)) p r part (head e.ws) got stands (free_stands t.grammar r (head e.ws) e.is_free_ahead) ys);
  }

  -- where a symbol is to come, and a sample of what is to come behind it begins with a free token, it may stand
  over_sample : (stack : List ℕ) (x : ℕ) (ys ks : List ℕ) → RestEnds stack (x ∷ ys) → SampledAll t.grammar ys ks → begins_free t.grammar.lefts ks ≡ true → Ends stack x
  over_sample stack x ys ks r sample begins = record {
    ws = ks ++ r.ws;
    is_free_ahead = subst free (sym (head_ahead ks r.ws)) (free_ahead t.grammar.lefts ks (head r.ws) begins r.is_free_ahead);
    ends = λ front part h y. ended front part h y;
  }
    where
      ended : (front part : List ℕ) → Holds t stack front (ahead part (head (ks ++ r.ws))) → Yields t.grammar (access t (top stack)) x part (head (ks ++ r.ws)) → IsSentence t.grammar (front ++ (part ++ (ks ++ r.ws)))
      ended front part h y = subst (IsSentence t.grammar) (inner front part ks r.ws)
          (r.ends front (part ++ ks) (subst (Holds t stack front) (ap (ahead part) (head_ahead ks r.ws) ∙ sym (ahead-append part ks (head r.ws))) h)
          (yields_more t.grammar (access t (top stack)) x ys part ks (head r.ws) (subst (Yields t.grammar (access t (top stack)) x part) (head_ahead ks r.ws) y) (sample x (head r.ws) r.is_free_ahead)))

  module _ (accessed : (s x u : ℕ) → entry t s x ≡ Go u → access t u ≡ x) (begins : access t 0 ≡ 0) (end_free : free 0)
      (are : are_samples t.grammar.terminals t.grammar.lefts t.grammar.rights (sides t.grammar.rules) samples ≡ true)
      (nothing : has_none (kernel 0) ≡ true)
      (fronts : states_front t.grammar.terminals t.grammar.lefts t.grammar.rights (sides t.grammar.rules) samples true t.grammar.start t.accesses states ≡ true)
      (enters : rows_enter t.grammar.terminals t.grammar.lefts t.grammar.rights (sides t.grammar.rules) samples states t.accesses states t.rows ≡ true) where
    -- each state on the stack is where its symbol leads
    abbrev pub Path : List ℕ → Type 0
    Path [] = Unit {0}
    Path (s ∷ stack) = (entry t (top stack) (access t s) ≡ Go s) × Path stack

    start_ends : Ends [] t.grammar.start
    start_ends = record {
      ws = [];
      is_free_ahead = end_free;
      ends = λ front part h y. ended front part h y;
    }
      where
        ended : (front part : List ℕ) → front ≡ [] → Yields t.grammar (access t 0) t.grammar.start part 0 → IsSentence t.grammar (front ++ (part ++ []))
        ended front part h y =
            let d = y [] [] refl in
            subst (λ (v : List ℕ). IsSentence t.grammar (v ++ (part ++ []))) (sym h)
            (d.0, subst (λ (v : ℕ). Derives t.grammar v t.grammar.start (part ++ []) [] d.0 []) begins d.1)

    module _ (stack : List ℕ) (of_kernel : (p d : ℕ) → is_item (kernel (top stack)) p d ≡ true → RestEnds stack (behind d (side_at all_sides p))) where
      begun_rule : (later : List (ℕ × ℕ × ℕ × ℕ)) (each : (x : ℕ) → is_begun later x ≡ true → Ends stack x) (p : ℕ) (o : Option (ℕ × List ℕ × ℕ × ℕ)) → slice_get all_sides p ≡ o → may_begin t.grammar.rights (access t (top stack)) later o ≡ true → RestEnds stack (side_at all_sides p)
      begun_rule later each p None is h = cc
      begun_rule later each p (Some q) is h =
          let f = found t.grammar.rules p q is in
          let here = subst (λ (v : ℕ × List ℕ × ℕ × ℕ). may_begin t.grammar.rights (access t (top stack)) later (Some v) ≡ true) (sym f.same) h in
          let a = and_parts (is_begun later f.rule.left) (not_true (nat_lt f.rule.behind (get_or t.grammar.rights (access t (top stack)) 0))) here in
          subst (RestEnds stack) (sym (side_found t.grammar.rules p f.rule f.is))
          (over_rule stack p f.rule f.is (not_is (nat_lt f.rule.behind (get_or t.grammar.rights (access t (top stack)) 0)) a.1) (each f.rule.left a.0))

      known : (later : List (ℕ × ℕ × ℕ × ℕ)) (each : (x : ℕ) → is_begun later x ≡ true → Ends stack x) (p d : ℕ)
          → is_known t.grammar.terminals t.grammar.lefts t.grammar.rights all_sides samples (access t (top stack)) (kernel (top stack)) later p d ≡ true → RestEnds stack (behind d (side_at all_sides p))
      known later each p zero h = begun_rule later each p (slice_get all_sides p) refl h
      known later each p (suc d) h = of_kernel p (suc d) h

      freed : (x : ℕ) (y : ℕ) (ys : List ℕ) (o : Option (List ℕ)) → sampled t.grammar.terminals t.grammar.lefts samples ys ≡ o → nat_eq y x ≡ true → may_begin_free t.grammar.lefts o ≡ true → RestEnds stack (y ∷ ys) → Ends stack x
      freed x y ys None is same h r = cc
      freed x y ys (Some ks) is same h r = subst (Ends stack) (eq_is y x same) (over_sample stack y ys ks r (all_sampled t.grammar samples (each_sampled t.grammar samples are) ys ks is) h)

      freed_at : (x : ℕ) (xs : List ℕ) → frees t.grammar.terminals t.grammar.lefts t.grammar.rights all_sides samples x xs ≡ true → RestEnds stack xs → Ends stack x
      freed_at x [] h r = cc
      freed_at x (y ∷ ys) h r =
          let parts = and_parts (nat_eq y x) (may_begin_free t.grammar.lefts (sampled t.grammar.terminals t.grammar.lefts samples ys)) h in
          freed x y ys (sampled t.grammar.terminals t.grammar.lefts samples ys) refl parts.0 parts.1 r

      module _ (first : Bool) (at_start : first ≡ true → Ends stack t.grammar.start) where
        abbrev opened_item : List (ℕ × ℕ × ℕ × ℕ) → ℕ × ℕ × ℕ × ℕ → Bool
        opened_item later c = is_known t.grammar.terminals t.grammar.lefts t.grammar.rights all_sides samples (access t (top stack)) (kernel (top stack)) later c.2 c.3 && frees t.grammar.terminals t.grammar.lefts t.grammar.rights all_sides samples c.0 (behind c.3 (side_at all_sides c.2))

        opened_one : (later : List (ℕ × ℕ × ℕ × ℕ)) (each : (x : ℕ) → is_begun later x ≡ true → Ends stack x) (c : ℕ × ℕ × ℕ × ℕ) (b : Bool) → (first && nat_eq c.0 t.grammar.start) ≡ b → (b || opened_item later c) ≡ true → Ends stack c.0
        opened_one later each c true is h =
            let parts = and_parts first (nat_eq c.0 t.grammar.start) is in
            subst (Ends stack) (sym (eq_is c.0 t.grammar.start parts.1)) (at_start parts.0)
        opened_one later each c false is h =
            let parts = and_parts (is_known t.grammar.terminals t.grammar.lefts t.grammar.rights all_sides samples (access t (top stack)) (kernel (top stack)) later c.2 c.3) (frees t.grammar.terminals t.grammar.lefts t.grammar.rights all_sides samples c.0 (behind c.3 (side_at all_sides c.2))) h in
            freed_at c.0 (behind c.3 (side_at all_sides c.2)) parts.1 (known later each c.2 c.3 parts.0)

        one_of : (c : ℕ × ℕ × ℕ × ℕ) (later : List (ℕ × ℕ × ℕ × ℕ)) (x : ℕ) (b : Bool) → nat_eq c.0 x ≡ b → (b || is_begun later x) ≡ true → Ends stack c.0 → ((x : ℕ) → is_begun later x ≡ true → Ends stack x) → Ends stack x
        one_of c later x true is h one each = subst (Ends stack) (eq_is c.0 x is) one
        one_of c later x false is h one each = each x h

        pub opened : (cs : List (ℕ × ℕ × ℕ × ℕ)) → are_opened t.grammar.terminals t.grammar.lefts t.grammar.rights all_sides samples first t.grammar.start (access t (top stack)) (kernel (top stack)) cs ≡ true → (x : ℕ) → is_begun cs x ≡ true → Ends stack x
        opened [] h x e = cc
        opened (c ∷ cs) h x e =
            let parts = and_parts (is_opened t.grammar.terminals t.grammar.lefts t.grammar.rights all_sides samples first t.grammar.start (access t (top stack)) (kernel (top stack)) cs c) (are_opened t.grammar.terminals t.grammar.lefts t.grammar.rights all_sides samples first t.grammar.start (access t (top stack)) (kernel (top stack)) cs) h in
            one_of c cs x (nat_eq c.0 x) refl e (opened_one cs (opened cs parts.1) c (first && nat_eq c.0 t.grammar.start) refl parts.0) (opened cs parts.1)

    no_items : (items : List (ℕ × ℕ × ℕ)) (p d : ℕ) {P : Type 0} → has_none items ≡ true → is_item items p d ≡ true → P
    no_items [] p d h e = cc
    no_items (i ∷ items) p d h e = cc

    -- a step on the stack is at a symbol, its state has items behind a token, and these come from the one below
    record Steps (s : ℕ) (stack : List ℕ) : Type 0 where
      inside : not_true (nat_eq (access t s) 0) ≡ true
      some : (if nat_lt (access t s) t.grammar.terminals then not_true (has_none (kernel s)) else true) ≡ true
      come : are_entered t.grammar.terminals t.grammar.lefts t.grammar.rights all_sides samples (access t (top stack)) (kernel (top stack)) (closed (top stack)) (kernel s) ≡ true

    steps_of : (s : ℕ) (stack : List ℕ) → Path (s ∷ stack) → Steps s stack
    steps_of s stack path =
        let come : Bool = are_entered t.grammar.terminals t.grammar.lefts t.grammar.rights all_sides samples (access t (top stack)) (kernel (top stack)) (closed (top stack)) (kernel s) in
        let some : Bool = if nat_lt (access t s) t.grammar.terminals then not_true (has_none (kernel s)) else true in
        let a = and_parts (not_true (nat_eq (access t s) 0)) (some && come) (rows_at_step t.grammar.terminals t.grammar.lefts t.grammar.rights all_sides samples states t.accesses states t.rows (top stack) (access t s) s enters path.0) in
        let b = and_parts some come a.1 in
        record { inside = a.0; some = b.0; come = b.1 }

    zero_not : {P : Type 0} (x : ℕ) → not_true (nat_eq x 0) ≡ true → x ≡ 0 → P
    zero_not x h e = let same = subst (λ (v : ℕ). not_true (nat_eq v 0) ≡ true) e h in cc

    abbrev first_of_stack : List ℕ → Bool
    first_of_stack stack = at_first true (top stack)

    at_zero : (s : ℕ) → at_first true s ≡ true → s ≡ 0
    at_zero zero h = refl
    at_zero (suc s) h = cc

    begins_stack : (stack : List ℕ) → Path stack → first_of_stack stack ≡ true → Ends stack t.grammar.start
    begins_stack [] path h = start_ends
    begins_stack (s ∷ stack) path h = zero_not (access t s) (steps_of s stack path).inside (ap (access t) (at_zero s h) ∙ begins)

    begun_of : (stack : List ℕ) → Path stack → ((p d : ℕ) → is_item (kernel (top stack)) p d ≡ true → RestEnds stack (behind d (side_at all_sides p))) → (x : ℕ) → is_begun (closed (top stack)) x ≡ true → Ends stack x
    begun_of stack path of_kernel x e =
        opened stack of_kernel (first_of_stack stack) (begins_stack stack path) (closed (top stack))
        (opened_at t.grammar.terminals t.grammar.lefts t.grammar.rights all_sides samples t.grammar.start true t.accesses states (top stack) fronts).opens x e

    led_on : (s : ℕ) (stack : List ℕ) (p d : ℕ) (xs : List ℕ) → behind d (side_at all_sides p) ≡ xs → starts_with xs (access t s) ≡ true → RestEnds stack xs → RestEnds (s ∷ stack) (behind (suc d) (side_at all_sides p))
    led_on s stack p d [] is h r = cc
    led_on s stack p d (y ∷ ys) is h r =
        subst (RestEnds (s ∷ stack)) (sym (behind_suc d (side_at all_sides p) y ys is))
        (over_symbol s stack ys (subst (λ (v : ℕ). RestEnds stack (v ∷ ys)) (eq_is y (access t s) h) r))

    item_ends : (s : ℕ) (stack : List ℕ) → Path (s ∷ stack) → ((p d : ℕ) → is_item (kernel (top stack)) p d ≡ true → RestEnds stack (behind d (side_at all_sides p))) → (p d : ℕ) → is_item (kernel s) p d ≡ true
        → is_led t.grammar.terminals t.grammar.lefts t.grammar.rights all_sides samples (access t s) p d ≡ true → RestEnds (s ∷ stack) (behind d (side_at all_sides p))
    item_ends s stack path lower p zero e l = cc
    item_ends s stack path lower p (suc d) e l =
        let came = item_entered t.grammar.terminals t.grammar.lefts t.grammar.rights all_sides samples (access t (top stack)) (kernel (top stack)) (closed (top stack)) (kernel s) p (suc d) (steps_of s stack path).come e in
        led_on s stack p d (behind d (side_at all_sides p)) refl l (known stack lower (closed (top stack)) (begun_of stack path.1 lower) p d came)

    -- each item of the last state can be completed
    pub items_end : (stack : List ℕ) → Path stack → (p d : ℕ) → is_item (kernel (top stack)) p d ≡ true → RestEnds stack (behind d (side_at all_sides p))
    items_end [] path p d e = no_items (kernel 0) p d nothing e
    items_end (s ∷ stack) path p d e = item_ends s stack path (items_end stack path.1) p d e
        (item_led t.grammar.terminals t.grammar.lefts t.grammar.rights all_sides samples (access t s) (kernel s) p d (opened_at t.grammar.terminals t.grammar.lefts t.grammar.rights all_sides samples t.grammar.start true t.accesses states s fronts).leads e)

    not_start : (s : ℕ) (stack : List ℕ) → Path (s ∷ stack) → s ≡ 0 → ⊥
    not_start s stack path e = zero_not (access t s) (steps_of s stack path).inside (ap (access t) e ∙ begins)

    has_some : (s : ℕ) (stack : List ℕ) → Path (s ∷ stack) → nat_lt (access t s) t.grammar.terminals ≡ true → not_true (has_none (kernel s)) ≡ true
    has_some s stack path small = ap (λ (b : Bool). if b then not_true (has_none (kernel s)) else true) (sym small) ∙ (steps_of s stack path).some

    first_is : (p d a : ℕ) (items : List (ℕ × ℕ × ℕ)) → is_item ((p, d, a) ∷ items) p d ≡ true
    first_is p d a items = ap (λ (b : Bool). (b && nat_eq d d) || is_item items p d) (is_eq p p refl) ∙ ap (λ (b : Bool). b || is_item items p d) (is_eq d d refl)

    -- what the first item of a state asks for has a sample
    record Completed (stack : List ℕ) : Type 0 where
      xs : List ℕ
      ks : List ℕ
      sample : sampled t.grammar.terminals t.grammar.lefts samples xs ≡ Some ks
      rest : RestEnds stack xs

    sample_is : (stack xs : List ℕ) (o : Option (List ℕ)) → sampled t.grammar.terminals t.grammar.lefts samples xs ≡ o → is_some o ≡ true → RestEnds stack xs → Completed stack
    sample_is stack xs None is h r = cc
    sample_is stack xs (Some ks) is h r = record { xs = xs; ks = ks; sample = is; rest = r }

    completed : (stack : List ℕ) (items : List (ℕ × ℕ × ℕ)) → is_completed t.grammar.terminals t.grammar.lefts t.grammar.rights all_sides samples items ≡ true → ((p d : ℕ) → is_item items p d ≡ true → RestEnds stack (behind d (side_at all_sides p))) → Completed stack
    completed stack [] h each = cc
    completed stack (i ∷ items) h each = sample_is stack (behind i.1 (side_at all_sides i.0)) (sampled t.grammar.terminals t.grammar.lefts samples (behind i.1 (side_at all_sides i.0))) refl h (each i.0 i.1 (first_is i.0 i.1 i.2 items))

    -- whatever was read is a front of a sentence, once a token is on the stack
    pub front_behind : (s : ℕ) (stack front : List ℕ) → Path (s ∷ stack) → nat_lt (access t s) t.grammar.terminals ≡ true → ((k : ℕ) → Holds t (s ∷ stack) front k) → IsFront t.grammar front
    front_behind s stack front path small holds =
        let c = completed (s ∷ stack) (kernel s) (completed_at t.grammar.terminals t.grammar.lefts t.grammar.rights all_sides samples t.grammar.start t.accesses states s fronts (not_start s stack path) (has_some s stack path small) small) (items_end (s ∷ stack) path) in (
          c.ks ++ c.rest.ws,
          c.rest.ends front c.ks (holds (ahead c.ks (head c.rest.ws)))
              (all_sampled t.grammar samples (each_sampled t.grammar samples are) c.xs c.ks c.sample (access t s) (head c.rest.ws) c.rest.is_free_ahead),
        )

    sample_begins : (o : Option (List ℕ)) → sample_of samples t.grammar.start ≡ o → is_some o ≡ true → IsFront t.grammar []
    sample_begins None is h = cc
    sample_begins (Some ks) is h = (
      ks,
      subst (IsSentence t.grammar) (and_nothing ks)
          (each_sampled t.grammar samples are t.grammar.start ks is 0 0 end_free [] [] refl),
    )

    -- some sentence there is
    pub front_of_nothing : is_some (sample_of samples t.grammar.start) ≡ true → IsFront t.grammar []
    front_of_nothing h = sample_begins (sample_of samples t.grammar.start) refl h
