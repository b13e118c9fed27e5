-- Numbering a state.
use Rattle.std.proofs.Common.{◌≡◌, ℕ, zero, suc, ◌⊎◌, inl, inr, Bool, true, false, List, [], ◌∷◌, ◌++◌, Contains, sym, ◌∙◌, ap, subst, Option, Some, slice_get}
use Rattle.std.specs.Prelude.{if◌then◌else◌}
use Rattle.std.specs.Bool.{beq}
use Rattle.std.specs.Cmp.Lexicographic.{pointwise}
use Rattle.std.proofs.lemmas.List.Elements.{Contains-push_cases}
use Rattle.text_base.specs.Exactness.{exact_pair}
use Rattle.content_automata.specs.Flags.{exact_flags}
use Rattle.content_automata.specs.Tables.{Key, key_eq, Keeps, AddsFound}

pub exact_key : (p q : Key) → key_eq p q ≡ true → p ≡ q
exact_key p q h = exact_pair {eq = pointwise beq} exact_flags p q h

in_front : (keys : List Key) (k : Key) (n : ℕ) (x : Key) → slice_get keys n ≡ Some x → slice_get (keys ++ k ∷ []) n ≡ Some x
in_front [] k n x h = cc
in_front (y ∷ keys) k zero x h = h
in_front (y ∷ keys) k (suc n) x h = in_front keys k n x h

kept_if : (b : Bool) (keys : List Key) (k : Key) → Keeps keys (if b then keys else keys ++ k ∷ [])
kept_if true keys k = λ n x h. h
kept_if false keys k = λ n x h. in_front keys k n x h

only_if : (b : Bool) (keys : List Key) (k x : Key) → Contains (if b then keys else keys ++ k ∷ []) x → Contains keys x ⊎ (x ≡ k)
only_if true keys k x h = inl h
only_if false keys k x h = elim (Contains-push_cases keys k x h) [ inl a ↦ inl a | inr a ↦ inr (sym a) ]

pub insert_keeps : (b : Bool) (old new : List Key) (k : Key) → new ≡ (if b then old else old ++ k ∷ []) → Keeps old new
insert_keeps b old new k e = subst (λ (ks : List Key). Keeps old ks) (sym e) (kept_if b old k)

pub insert_only : (b : Bool) (old new : List Key) (k : Key) → new ≡ (if b then old else old ++ k ∷ []) → (x : Key) → Contains new x → Contains old x ⊎ (x ≡ k)
insert_only b old new k e x h = only_if b old k x (subst (λ (ks : List Key). Contains ks x) e h)

-- the state that is found is the one that is added
pub adds_one : (old new : List Key) (element : ℕ) (found : Option (List Bool)) (flags : List Bool) → found ≡ Some flags → ((x : Key) → Contains new x → Contains old x ⊎ (x ≡ (element, flags))) → AddsFound old new element found
adds_one old new element found flags is only = λ x h. elim (only x h) [
  | inl a ↦ inl a
  | inr a ↦ inr (ap (λ (k : Key). k.0) a, is ∙ sym (ap (λ (k : Key). Some k.1) a))
]

pub adds_copy : (old new : List Key) (element : ℕ) (found : Option (List Bool)) (flags copy : List Bool) → found ≡ Some flags → copy ≡ flags → ((x : Key) → Contains new x → Contains old x ⊎ (x ≡ (element, copy))) → AddsFound old new element found
adds_copy old new element found flags copy is same only = adds_one old new element found copy (is ∙ ap (λ (f : List Bool). Some f) (sym same)) only
