-- Texts listed under the keys 0, 1 and so on, and one more appended.
use Rattle.std.proofs.Common.{◌≡◌, ℕ, zero, suc, ◌+◌, ◌<◌, ◌≤◌, max, ℤ, pos, ◌+ℤ◌, Bool, true, false, if◌then◌else◌, List, [], ◌∷◌, ◌++◌, length, get_or, take, nat_lt, cond, inl, inr, Option, Some, None, Result, Ok, Err, refl, sym, ◌∙◌, ap, subst, arith}
use Rattle.std.proofs.lemmas.Bool.Decides.{nat_tests, Decides-int_eq}
use Rattle.std.proofs.lemmas.Bool.{cases_Bool, lt-ltb}
use Rattle.std.proofs.lemmas.List.{take_more}
use Rattle.std.specs.Int.{int_max}
use Rattle.std.specs.Ordering.{int_eq}
use Rattle.plain_values.specs.Plain.{Plain, PlainKey, Pairs, int_key, text, array, empty, pair, keys, depth, deepest}
use Rattle.plain_values.specs.Keys.{same_key}
use Rattle.plain_values.specs.Members.{put_pair, within_depth, larger, largest_from, largest_key, key_after, push_at}
use Rattle.plain_values.specs.declared.fault.Fault.{Fault}
use Rattle.plain_values.specs.declared.fault.Fault.TheVariants.{Full, Long}
use Rattle.builtin_meaning.specs.Values.{numbered_from}

same_number : (n m : ℕ) → pos n ≡ pos m → n ≡ m
same_number n m e = cc

int_apart : (n m : ℕ) → (n ≡ m → ⊥) → int_eq (pos n) (pos m) ≡ false
int_apart n m h = elim (cases_Bool (int_eq (pos n) (pos m))) [
  | inl t ↦ absurd (h (same_number n m ((Decides-int_eq (pos n) (pos m)).0 t)))
  | inr f ↦ f
]

-- the largest key of n texts
abbrev last_key : ℕ → Option ℤ
last_key zero = None
last_key (suc n) = Some (pos n)

larger_last : (n : ℕ) → larger (int_key (pos n)) (last_key n) ≡ Some (pos n)
larger_last zero = refl
larger_last (suc n) = ap (λ (b : Bool). Some (cond b (pos (suc n)) (pos n))) (lt-ltb n (suc n) (omega arith))

largest_listed : (n : ℕ) (ts : List (List ℕ)) → largest_from (last_key n) (keys (numbered_from n ts)) ≡ last_key (n + length ts)
largest_listed n [] = let s : n ≡ n + 0 = omega arith in ap last_key s
largest_listed n (t ∷ ts) =
    let m : suc n ≡ n + 1 = omega arith in
    let s : (n + 1) + length ts ≡ n + suc (length ts) = omega arith in
    ap (λ (best : Option ℤ). largest_from best (keys (numbered_from (n + 1) ts))) (larger_last n ∙ ap last_key m) ∙ largest_listed (n + 1) ts ∙ ap last_key s

next_listed : (n : ℕ) → n ≤ 16777217 → key_after (last_key n) ≡ Some (pos n)
next_listed zero h = refl
next_listed (suc n) h = ap (λ (b : Bool). if b then None else Some (pos (n + 1))) (int_apart n 9223372036854775807 (λ e. omega (arith, e))) ∙ ap (λ (k : ℕ). Some (pos k)) (omega arith)

other_key : (n m : ℕ) → n < m → same_key (int_key (pos n)) (int_key (pos m)) ≡ false
other_key n m h = int_apart n m (λ e. omega (arith, e))

put_listed : (n : ℕ) (ts : List (List ℕ)) (t : List ℕ) → put_pair (numbered_from n ts) (int_key (pos (n + length ts))) (text t) ≡ numbered_from n (ts ++ t ∷ [])
put_listed n [] t = let s : n + 0 ≡ n = omega arith in ap (λ (k : ℕ). pair (int_key (pos k)) (text t) empty) s
put_listed n (u ∷ ts) t =
    let s : n + suc (length ts) ≡ (n + 1) + length ts = omega arith in
    ap (λ (b : Bool). if b then pair (int_key (pos n)) (text t) (numbered_from (n + 1) ts) else pair (int_key (pos n)) (text u) (put_pair (numbered_from (n + 1) ts) (int_key (pos (n + suc (length ts)))) (text t))) (other_key n (n + suc (length ts)) (omega arith))
    ∙ ap (λ (k : ℕ). pair (int_key (pos n)) (text u) (put_pair (numbered_from (n + 1) ts) (int_key (pos k)) (text t))) s
    ∙ ap (λ (ps : Pairs). pair (int_key (pos n)) (text u) ps) (put_listed (n + 1) ts t)

flat : (n : ℕ) (ts : List (List ℕ)) → deepest (numbered_from n ts) ≡ 0
flat n [] = refl
flat n (t ∷ ts) = omega (arith, flat (n + 1) ts)

fits : (ps : Pairs) → deepest ps ≡ 0 → within_depth ps ≡ Ok (array ps)
fits ps e = by (nat_lt (deepest ps) 1000) refl
  where
    by : (b : Bool) → nat_lt (deepest ps) 1000 ≡ b → (if b then Ok (array ps) else Err Long) ≡ Ok (array ps)
    by true g = refl
    by false g = absurd (grind (arith, nat_tests, e))

pub push_listed : (ts : List (List ℕ)) (t : List ℕ) → length ts ≤ 16777217 → push_at (numbered_from 0 ts) (key_after (largest_key (numbered_from 0 ts))) (text t) ≡ Ok (array (numbered_from 0 (ts ++ t ∷ [])))
push_listed ts t h =
    let z : 0 + length ts ≡ length ts = omega arith in
    let key : key_after (largest_key (numbered_from 0 ts)) ≡ Some (pos (0 + length ts)) = ap key_after (largest_listed 0 ts) ∙ next_listed (0 + length ts) (omega arith) in
    ap (λ (o : Option ℤ). push_at (numbered_from 0 ts) o (text t)) key ∙ ap within_depth (put_listed 0 ts t) ∙ fits (numbered_from 0 (ts ++ t ∷ [])) (flat 0 (ts ++ t ∷ []))

pub same_array : (ps qs : Pairs) (r : Result Plain Fault) → r ≡ Ok (array ps) → r ≡ Ok (array qs) → ps ≡ qs
same_array ps qs r e f = cc

pub no_fault : (ps : Pairs) (r : Result Plain Fault) (fault : Fault) → r ≡ Ok (array ps) → r ≡ Err fault → ⊥
no_fault ps r fault e f = cc
