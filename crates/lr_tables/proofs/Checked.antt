-- What is computed of tables makes their states ready for what may come.
use Rattle.std.proofs.Common.{◌≡◌, inl, inr, ℕ, zero, suc, ◌+◌, ◌≤◌, ◌^◌, Bool, true, false, ◌&&◌, ◌||◌, nat_lt, nat_le, nat_eq, List, [], ◌∷◌, refl, sym, ◌∙◌, ap, subst, arith, Option, Some, None, get_or}
use Rattle.std.specs.Prelude.{if◌then◌else◌, slice_get}
use Rattle.std.specs.Int.{bit_at}
use Rattle.std.proofs.lemmas.Nat.Bits.{bit_at-pow_same}
use Rattle.std.proofs.lemmas.Bool.{and_parts}
use Rattle.std.proofs.lemmas.Bool.Decides.{nat_tests}
use Rattle.lr_tables.specs.declared.rule.Rule.{Rule}
use Rattle.lr_tables.specs.declared.step.Step.{Step}
use Rattle.lr_tables.specs.Grammars.{side}
use Rattle.lr_tables.specs.Certificates.{State, no_state, sides, behind, side_at, is_sub, closed_of}
use Rattle.lr_tables.specs.Checks.{before_at, first_of, empty_of, weight_of, heads, all_empty, weights, below, is_fact, are_facts, all_reduce, covers, goes_on, item_ok, kernel_ok, begun_ok, closed_ok, state_ok, states_ok}
use Rattle.lr_tables.proofs.Basics.{eq_is, none_some, some_is, sub_bit, or_left, or_right, no_bit}
use Rattle.lr_tables.proofs.Certified.{weights_by, Among, Starts, AllEmpty}

pub or_false : (a b : Bool) → (a || b) ≡ true → a ≡ false → b ≡ true
or_false true b h e = cc
or_false false b h e = h

le_not : (a b : ℕ) → nat_le a b ≡ true → nat_lt b a ≡ false
le_not a b h = grind (arith, nat_tests)

le_of : (a b : ℕ) → nat_le a b ≡ true → a ≤ b
le_of a b h = grind (arith, nat_tests)

abbrev Holds : {A : Type 0} → (A → Type 0) → Option A → Type 0
Holds P None = ⊥
Holds P (Some v) = P v

abbrev as_side : Option Rule → Option (ℕ × List ℕ × ℕ × ℕ)
as_side None = None
as_side (Some v) = Some (v.left, side v, v.before, v.behind)

-- sides
pub side_is : (rules : List Rule) (p : ℕ) (r : Rule) → slice_get rules p ≡ Some r → slice_get (sides rules) p ≡ Some (r.left, side r, r.before, r.behind)
side_is [] p r h = none_some h
side_is (q ∷ rules) zero r h = ap as_side h
side_is (q ∷ rules) (suc p) r h = side_is rules p r h

index_of : {A : Type 0} (xs : List A) (p : ℕ) (x d : A) → slice_get xs p ≡ Some x → get_or xs p d ≡ x
index_of [] p x d h = none_some h
index_of (y ∷ xs) zero x d h = some_is h
index_of (y ∷ xs) (suc p) x d h = index_of xs p x d h

pub side_found : (rules : List Rule) (p : ℕ) (r : Rule) → slice_get rules p ≡ Some r → side_at (sides rules) p ≡ side r
side_found rules p r h = ap (λ (v : ℕ × List ℕ × ℕ × ℕ). v.1) (index_of (sides rules) p (r.left, side r, r.before, r.behind) (0, [], 0, 0) (side_is rules p r h))

pub before_found : (rules : List Rule) (p : ℕ) (r : Rule) → slice_get rules p ≡ Some r → before_at (sides rules) p ≡ r.before
before_found rules p r h = ap (λ (v : ℕ × List ℕ × ℕ × ℕ). v.2) (index_of (sides rules) p (r.left, side r, r.before, r.behind) (0, [], 0, 0) (side_is rules p r h))

tail_of : List ℕ → List ℕ
tail_of [] = []
tail_of (x ∷ xs) = xs

pub behind_suc : (d : ℕ) (all : List ℕ) (x : ℕ) (xs : List ℕ) → behind d all ≡ x ∷ xs → behind (suc d) all ≡ xs
unfolding tail_of
behind_suc zero [] x xs h = ap tail_of h
behind_suc zero (y ∷ all) x xs h = ap tail_of h
behind_suc (suc d) [] x xs h = ap tail_of h
behind_suc (suc d) (y ∷ all) x xs h = behind_suc d all x xs h

-- facts
module _ (most terminals : ℕ) (facts : List (ℕ × Bool × ℕ)) where
  abbrev pub begins : ℕ → ℕ → Type 0
  begins x w = bit_at (first_of terminals facts x) w ≡ 1

  abbrev pub Empty : ℕ → Type 0
  Empty x = empty_of terminals facts x ≡ true

  fact_at : (rs : List (ℕ × List ℕ × ℕ × ℕ)) (p : ℕ) (r : ℕ × List ℕ × ℕ × ℕ) → are_facts most terminals facts rs ≡ true → slice_get rs p ≡ Some r → is_fact most terminals facts r ≡ true
  fact_at [] p r h e = none_some e
  fact_at (q ∷ rs) zero r h e = subst (Holds (λ (v : ℕ × List ℕ × ℕ × ℕ). is_fact most terminals facts v ≡ true)) e (and_parts (is_fact most terminals facts q) (are_facts most terminals facts rs) h).0
  fact_at (q ∷ rs) (suc p) r h e = fact_at rs p r (and_parts (is_fact most terminals facts q) (are_facts most terminals facts rs) h).1 e

  heads_begun : (x : ℕ) (xs : List ℕ) (ahead w : ℕ) → empty_of terminals facts x ≡ true → bit_at (heads terminals facts xs ahead) w ≡ 1 → bit_at (if empty_of terminals facts x then heads terminals facts xs ahead else 0) w ≡ 1
  heads_begun x xs ahead w e h = ap (λ (b : Bool). bit_at (if b then heads terminals facts xs ahead else 0) w) e ∙ h

  pub heads_among : (xs : List ℕ) (ahead u w : ℕ) → Among begins Empty xs u w → bit_at ahead u ≡ 1 → bit_at (heads terminals facts xs ahead) w ≡ 1
  heads_among [] ahead u w a h = ap (bit_at ahead) a ∙ h
  heads_among (x ∷ xs) ahead u w (inl b) h = or_left (first_of terminals facts x) (if empty_of terminals facts x then heads terminals facts xs ahead else 0) w b
  heads_among (x ∷ xs) ahead u w (inr e) h = or_right (first_of terminals facts x) (if empty_of terminals facts x then heads terminals facts xs ahead else 0) w (heads_begun x xs ahead w e.0 (heads_among xs ahead u w e.1 h))

  heads_starts : (xs : List ℕ) (w : ℕ) → Starts begins Empty xs w → bit_at (heads terminals facts xs 0) w ≡ 1
  heads_starts [] w h = absurd h
  heads_starts (x ∷ xs) w (inl b) = or_left (first_of terminals facts x) (if empty_of terminals facts x then heads terminals facts xs 0 else 0) w b
  heads_starts (x ∷ xs) w (inr e) = or_right (first_of terminals facts x) (if empty_of terminals facts x then heads terminals facts xs 0 else 0) w (heads_begun x xs 0 w e.0 (heads_starts xs w e.1))

  all_are : (xs : List ℕ) → AllEmpty begins Empty xs → all_empty terminals facts xs ≡ true
  all_are [] h = refl
  all_are (x ∷ xs) h = ap (λ (b : Bool). b && all_empty terminals facts xs) h.0 ∙ all_are xs h.1

  pub same_weights : (xs : List ℕ) → weights_by (weight_of terminals facts) xs ≡ weights terminals facts xs
  same_weights [] = refl
  same_weights (x ∷ xs) = ap (λ (n : ℕ). weight_of terminals facts x + n) (same_weights xs)

  pub own_of : (k : ℕ) → nat_lt k terminals ≡ true → begins k k
  own_of k e = ap (λ (b : Bool). bit_at (if b then 2 ^ k else (Rattle.lr_tables.specs.Checks.fact terminals facts k).0) k) e ∙ bit_at-pow_same k

  pub record IsFact (left : ℕ) (xs : List ℕ) : Type 0 where
    pub above : nat_lt left terminals ≡ false
    pub starts : (w : ℕ) → Starts begins Empty xs w → begins left w
    pub empties : AllEmpty begins Empty xs → Empty left
    pub weighs : 1 + weights terminals facts xs + most ≤ weight_of terminals facts left + below most xs

  pub facts_of : (left : ℕ) (xs : List ℕ) (before at : ℕ) → is_fact most terminals facts (left, xs, before, at) ≡ true → IsFact left xs
  facts_of left xs before at h =
      let a = and_parts (nat_le terminals left) (is_sub (heads terminals facts xs 0) (first_of terminals facts left) && ((if all_empty terminals facts xs then empty_of terminals facts left else true) && nat_le (1 + weights terminals facts xs + most) (weight_of terminals facts left + below most xs))) h in
      let b = and_parts (is_sub (heads terminals facts xs 0) (first_of terminals facts left)) ((if all_empty terminals facts xs then empty_of terminals facts left else true) && nat_le (1 + weights terminals facts xs + most) (weight_of terminals facts left + below most xs)) a.1 in
      let c = and_parts (if all_empty terminals facts xs then empty_of terminals facts left else true) (nat_le (1 + weights terminals facts xs + most) (weight_of terminals facts left + below most xs)) b.1 in
      record {
        above = le_not terminals left a.0;
        starts = λ w s. sub_bit (heads terminals facts xs 0) (first_of terminals facts left) w b.0 (heads_starts xs w s);
        empties = λ e. sym (ap (λ (v : Bool). if v then empty_of terminals facts left else true) (all_are xs e)) ∙ c.0;
        weighs = le_of (1 + weights terminals facts xs + most) (weight_of terminals facts left + below most xs) c.1;
      }

  pub fact_of : (rules : List Rule) (p : ℕ) (r : Rule) → are_facts most terminals facts (sides rules) ≡ true → slice_get rules p ≡ Some r → IsFact r.left (side r)
  fact_of rules p r h e = facts_of r.left (side r) r.before r.behind (fact_at (sides rules) p (r.left, side r, r.before, r.behind) h (side_is rules p r e))

  -- states
  module _ (lefts rights : List ℕ) (rules : List (ℕ × List ℕ × ℕ × ℕ)) (states : List State) where
    pub record Covered (row : List Step) (closed : List (ℕ × ℕ × ℕ × ℕ)) (p d u : ℕ) : Type 0 where
      pub ahead : ℕ
      pub ok : item_ok lefts rights terminals facts rules states row closed p d ahead (behind d (side_at rules p)) ≡ true
      pub has : bit_at ahead u ≡ 1

    covered_here : (row : List Step) (closed : List (ℕ × ℕ × ℕ × ℕ)) (i : ℕ × ℕ × ℕ) (p d ahead u : ℕ) → item_ok lefts rights terminals facts rules states row closed i.0 i.1 i.2 (behind i.1 (side_at rules i.0)) ≡ true → (nat_eq i.0 p && (nat_eq i.1 d && is_sub ahead i.2)) ≡ true → bit_at ahead u ≡ 1 → Covered row closed p d u
    covered_here row closed i p d ahead u ok h has =
        let a = and_parts (nat_eq i.0 p) (nat_eq i.1 d && is_sub ahead i.2) h in
        let b = and_parts (nat_eq i.1 d) (is_sub ahead i.2) a.1 in
        record {
          ahead = i.2;
          ok = subst (λ (v : ℕ). item_ok lefts rights terminals facts rules states row closed p v i.2 (behind v (side_at rules p)) ≡ true) (eq_is i.1 d b.0)
              (subst (λ (v : ℕ). item_ok lefts rights terminals facts rules states row closed v i.1 i.2 (behind i.1 (side_at rules v)) ≡ true) (eq_is i.0 p a.0) ok);
          has = sub_bit ahead i.2 u b.1 has;
        }

    pub covered : (row : List Step) (closed : List (ℕ × ℕ × ℕ × ℕ)) (items : List (ℕ × ℕ × ℕ)) (p d ahead u : ℕ) → kernel_ok lefts rights terminals facts rules states row closed items ≡ true → covers items p d ahead ≡ true → bit_at ahead u ≡ 1 → Covered row closed p d u
    covered row closed [] p d ahead u h c has = cc
    covered row closed (i ∷ items) p d ahead u h c has = at (nat_eq i.0 p && (nat_eq i.1 d && is_sub ahead i.2)) refl (λ g. covered row closed items p d ahead u parts.1 g has)
      where
        parts : (item_ok lefts rights terminals facts rules states row closed i.0 i.1 i.2 (behind i.1 (side_at rules i.0)) ≡ true) × (kernel_ok lefts rights terminals facts rules states row closed items ≡ true)
        parts = and_parts (item_ok lefts rights terminals facts rules states row closed i.0 i.1 i.2 (behind i.1 (side_at rules i.0))) (kernel_ok lefts rights terminals facts rules states row closed items) h

        at : (b : Bool) → (nat_eq i.0 p && (nat_eq i.1 d && is_sub ahead i.2)) ≡ b → (covers items p d ahead ≡ true → Covered row closed p d u) → Covered row closed p d u
        at true e next = covered_here row closed i p d ahead u parts.0 e has
        at false e next = next (or_false (nat_eq i.0 p && (nat_eq i.1 d && is_sub ahead i.2)) (covers items p d ahead) c e)

    plus_suc : (a b : ℕ) → suc a + b ≡ a + suc b
    plus_suc a b = omega arith

    pub begun_bit : (prev : ℕ) (row : List Step) (closed : List (ℕ × ℕ × ℕ × ℕ)) (p : ℕ) (xs : List ℕ) (at ahead w : ℕ) → nat_lt at (get_or rights prev 0) ≡ false → begun_ok lefts rights terminals facts rules states prev row closed p xs at ahead ≡ true → bit_at ahead w ≡ 1 → item_ok lefts rights terminals facts rules states row closed p 0 ahead xs ≡ true
    begun_bit prev row closed p xs at ahead w free h has = go (nat_eq ahead 0) refl
      where
        go : (b : Bool) → nat_eq ahead 0 ≡ b → item_ok lefts rights terminals facts rules states row closed p 0 ahead xs ≡ true
        go true e = no_bit ahead w (eq_is ahead 0 e) has
        go false e =
            sym (ap (λ (b : Bool). if b then true else (if nat_lt at (get_or rights prev 0) then true else item_ok lefts rights terminals facts rules states row closed p 0 ahead xs)) e
            ∙ ap (λ (b : Bool). if b then true else item_ok lefts rights terminals facts rules states row closed p 0 ahead xs) free) ∙ h

    first_begun : (prev : ℕ) (row : List Step) (closed : List (ℕ × ℕ × ℕ × ℕ)) (from : ℕ) (q r : ℕ × List ℕ × ℕ × ℕ) → begun_ok lefts rights terminals facts rules states prev row closed from q.1 q.3 (closed_of closed q.0) ≡ true → Some q ≡ Some r → begun_ok lefts rights terminals facts rules states prev row closed (from + 0) r.1 r.3 (closed_of closed r.0) ≡ true
    first_begun prev row closed from q r h e =
        let zero_more : from ≡ from + 0 = omega arith in
        subst (λ (n : ℕ). begun_ok lefts rights terminals facts rules states prev row closed n r.1 r.3 (closed_of closed r.0) ≡ true) zero_more (subst (Holds (λ (v : ℕ × List ℕ × ℕ × ℕ). begun_ok lefts rights terminals facts rules states prev row closed from v.1 v.3 (closed_of closed v.0) ≡ true)) e h)

    pub begun_at : (prev : ℕ) (row : List Step) (closed : List (ℕ × ℕ × ℕ × ℕ)) (rs : List (ℕ × List ℕ × ℕ × ℕ)) (from p : ℕ) (r : ℕ × List ℕ × ℕ × ℕ) → closed_ok lefts rights terminals facts rules states prev row closed from rs ≡ true → slice_get rs p ≡ Some r → begun_ok lefts rights terminals facts rules states prev row closed (from + p) r.1 r.3 (closed_of closed r.0) ≡ true
    begun_at prev row closed [] from p r h e = none_some e
    begun_at prev row closed (q ∷ rs) from zero r h e = first_begun prev row closed from q r (and_parts (begun_ok lefts rights terminals facts rules states prev row closed from q.1 q.3 (closed_of closed q.0)) (closed_ok lefts rights terminals facts rules states prev row closed (suc from) rs) h).0 e
    begun_at prev row closed (q ∷ rs) from (suc p) r h e =
        subst (λ (n : ℕ). begun_ok lefts rights terminals facts rules states prev row closed n r.1 r.3 (closed_of closed r.0) ≡ true) (plus_suc from p)
        (begun_at prev row closed rs (suc from) p r (and_parts (begun_ok lefts rights terminals facts rules states prev row closed from q.1 q.3 (closed_of closed q.0)) (closed_ok lefts rights terminals facts rules states prev row closed (suc from) rs) h).1 e)

    access_next : (accesses : List ℕ) (s : ℕ) → get_or (behind 1 accesses) s 0 ≡ get_or accesses (suc s) 0
    access_next [] s = refl
    access_next (a ∷ accesses) s = refl

    pub state_kernel : (accesses : List ℕ) (rows : List (List Step)) (sts : List State) (s : ℕ) → states_ok lefts rights terminals facts rules states accesses rows sts ≡ true → kernel_ok lefts rights terminals facts rules states (get_or rows s []) (get_or sts s no_state).closed (get_or sts s no_state).kernel ≡ true
    state_kernel accesses rows [] s h = refl
    state_kernel accesses [] (st ∷ sts) s h = cc
    state_kernel accesses (row ∷ rows) (st ∷ sts) zero h =
        (and_parts (kernel_ok lefts rights terminals facts rules states row st.closed st.kernel) (closed_ok lefts rights terminals facts rules states (get_or accesses 0 0) row st.closed 0 rules) (and_parts (state_ok lefts rights terminals facts rules states (get_or accesses 0 0) row st) (states_ok lefts rights terminals facts rules states (behind 1 accesses) rows sts) h).0).0
    state_kernel accesses (row ∷ rows) (st ∷ sts) (suc s) h = state_kernel (behind 1 accesses) rows sts s (and_parts (state_ok lefts rights terminals facts rules states (get_or accesses 0 0) row st) (states_ok lefts rights terminals facts rules states (behind 1 accesses) rows sts) h).1

    pub state_closed : (accesses : List ℕ) (rows : List (List Step)) (sts : List State) (s x w : ℕ) → states_ok lefts rights terminals facts rules states accesses rows sts ≡ true → bit_at (closed_of (get_or sts s no_state).closed x) w ≡ 1
        → closed_ok lefts rights terminals facts rules states (get_or accesses s 0) (get_or rows s []) (get_or sts s no_state).closed 0 rules ≡ true
    state_closed accesses rows [] s x w h has = no_bit 0 w refl has
    state_closed accesses [] (st ∷ sts) s x w h has = cc
    state_closed accesses (row ∷ rows) (st ∷ sts) zero x w h has =
        (and_parts (kernel_ok lefts rights terminals facts rules states row st.closed st.kernel) (closed_ok lefts rights terminals facts rules states (get_or accesses 0 0) row st.closed 0 rules) (and_parts (state_ok lefts rights terminals facts rules states (get_or accesses 0 0) row st) (states_ok lefts rights terminals facts rules states (behind 1 accesses) rows sts) h).0).1
    state_closed accesses (row ∷ rows) (st ∷ sts) (suc s) x w h has =
        subst (λ (v : ℕ). closed_ok lefts rights terminals facts rules states v (get_or rows s []) (get_or sts s no_state).closed 0 rules ≡ true) (access_next accesses s)
        (state_closed (behind 1 accesses) rows sts s x w (and_parts (state_ok lefts rights terminals facts rules states (get_or accesses 0 0) row st) (states_ok lefts rights terminals facts rules states (behind 1 accesses) rows sts) h).1 has)
