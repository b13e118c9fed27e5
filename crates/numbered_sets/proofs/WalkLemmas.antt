-- A walk along the chain of a number, from its last place on.
use Rattle.std.proofs.Common.{◌≡◌, ◌∙◌, ◌+◌, ◌<◌, ◌≤◌, ◌⊎◌, ◌↔◌, ℕ, Bool, true, false, if◌then◌else◌, nat_lt, inl, inr, List, length, get_or, refl, sym, subst, arith, Some, None, slice_get}
use Rattle.std.proofs.lemmas.Bool.{cases_lt, ltb-true, lt-ltb}
use Rattle.std.proofs.lemmas.Option.{slice_get_within, slice_get-get_or, none-some}
use Rattle.numbered_sets.specs.Chains.{IsLast, AreChains}
use Rattle.numbered_sets.proofs.ChainLemmas.{chains_fall}

-- a walk along the chain of a number has come to a place: so much is done for the places of the number from `so_many` on
pub record HasWalked (keys : List ℕ) (number place : ℕ) (Done : (ℕ → Type 0) → Type 0) : Type 0 where
  pub so_many : ℕ
  pub within : so_many ≤ length keys
  pub last : IsLast keys so_many number place
  pub done : Done (λ k. (slice_get keys k ≡ Some number) × (so_many ≤ k))

module _ (keys last before : List ℕ) (chains : AreChains keys last before) (number place : ℕ) where
  -- at the last place, it is done for none
  pub walk_begun : {Done : (ℕ → Type 0) → Type 0} → slice_get last number ≡ Some place → ((P : ℕ → Type 0) → ((k : ℕ) → P k → ⊥) → Done P) → HasWalked keys number place Done
  walk_begun at none =
      record {
        so_many = length keys;
        within = omega arith;
        last = chains.ends number place at;
        done = none (λ k. (slice_get keys k ≡ Some number) × (length keys ≤ k))
            (λ k asked. let w = slice_get_within keys k number asked.0 in omega (arith, w, asked.1));
      }

  module _ {Done : (ℕ → Type 0) → Type 0} (walked : HasWalked keys number place Done) where
    -- a place of the list that the walk comes to is before those for which it is done, and the number stands there
    is_here : (next : ℕ) → slice_get before place ≡ Some next → (place < walked.so_many) × (slice_get keys place ≡ Some number)
    is_here next at = elim walked.last.stands [
      | inl none ↦ absurd (let w = slice_get_within before place next at in omega (arith, none, w, chains.links.long, chains.links.few))
      | inr here ↦ here
    ]

    pub walk_stands : (next : ℕ) → slice_get before place ≡ Some next → slice_get keys place ≡ Some number
    walk_stands next at = (is_here next at).1

    -- further on, it is done for that place too
    pub walk_further : {Then : (ℕ → Type 0) → Type 0} (next : ℕ) → slice_get before place ≡ Some next → ((P R : ℕ → Type 0) → ((k : ℕ) → R k ↔ (P k ⊎ (k ≡ place))) → (P place → ⊥) → Done P → Then R) → HasWalked keys number next Then
    walk_further next at more =
        let here = is_here next at in
        record {
          so_many = place;
          within = omega (arith, here.0, walked.within);
          last = chains.links.each place number next here.1 at;
          done = more (λ k. (slice_get keys k ≡ Some number) × (walked.so_many ≤ k)) (λ k. (slice_get keys k ≡ Some number) × (place ≤ k))
              (λ k. (
                λ asked. elim (cases_lt k walked.so_many) [
                  | inl below ↦ let l = walked.last.last k below asked.0 in inr (omega (arith, l.0, asked.1))
                  | inr above ↦ inl (asked.0, above)
                ],
                λ met. elim met [
                  | inl old ↦ (old.0, omega (arith, old.1, here.0))
                  | inr same ↦ (subst (λ (n : ℕ). slice_get keys n ≡ Some number) (sym same) here.1, omega (arith, same))
                ],
              ))
              (λ asked. omega (arith, asked.1, here.0)) walked.done;
        }

    -- where the walk is at no place of the list, it is done for all places of the number
    pub walk_ended : {Outcome : Type 0} → slice_get before place ≡ None → ((P : ℕ → Type 0) → ((k : ℕ) → P k ↔ (slice_get keys k ≡ Some number)) → Done P → Outcome) → Outcome
    walk_ended none all =
        all (λ k. (slice_get keys k ≡ Some number) × (walked.so_many ≤ k)) (λ k. (λ asked. asked.0, λ stands. (stands, from k stands))) walked.done
      where
        from : (k : ℕ) → slice_get keys k ≡ Some number → walked.so_many ≤ k
        from k stands =
            elim (cases_lt k walked.so_many) [
              | inl below ↦
                  let l = walked.last.last k below stands in
                  absurd (elim walked.last.stands [
                    | inl at ↦ l.1 at
                    | inr h ↦
                        let e : None ≡ Some (get_or before place 0) = sym none ∙ slice_get-get_or before place 0 (omega (arith, h.0, walked.within, chains.links.long)) in
                        none-some (get_or before place 0) e
                  ])
              | inr above ↦ above
            ]

-- the next place of a walk is smaller, as far as it is one
pub walk_smaller : (keys last before : List ℕ) (place next : ℕ) → AreChains keys last before → slice_get before place ≡ Some next → (if nat_lt next (length before) then next + 1 else 0) < (if nat_lt place (length before) then place + 1 else 0)
walk_smaller keys last before place next chains at =
    subst (λ (b : Bool). (if nat_lt next (length before) then next + 1 else 0) < (if b then place + 1 else 0)) (sym (lt-ltb place (length before) (slice_get_within before place next at))) (by_test (nat_lt next (length before)) refl)
  where
    by_test : (b : Bool) → nat_lt next (length before) ≡ b → (if b then next + 1 else 0) < place + 1
    by_test true e = let l = chains_fall keys last before chains place next at (ltb-true next (length before) e) in omega (arith, l)
    by_test false e = omega arith
