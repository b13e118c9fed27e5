-- Where a key stands among those that are told apart.
use Rattle.std.proofs.Common.{◌≡◌, ℕ, suc, Bool, true, false, if◌then◌else◌, List, [], ◌∷◌, Some, None, refl, sym, ap, ◌∙◌, arith}
use Rattle.std.specs.Prelude.{slice_get, ◌+◌, ◌||◌}
use Rattle.std.specs.List.{list_any}
use Rattle.plain_values.specs.Plain.{PlainKey}
use Rattle.plain_values.specs.Keys.{same_key}
use Rattle.plain_values.proofs.SameKeys.{same_is}
use Rattle.loose_sets.specs.Keys.{is_among}
use Rattle.loose_sets.specs.Uses.{number_from}

-- where a key stands among those from a number on
pub data Placed (n : ℕ) (c : PlainKey) (ks : List PlainKey) : Type 0 where
  nowhere : number_from n c ks ≡ None → is_among c ks ≡ false → Placed n c ks
  there : (i j : ℕ) → number_from n c ks ≡ Some j → is_among c ks ≡ true → slice_get ks i ≡ Some c → j ≡ n + i → Placed n c ks

pub placed : (n : ℕ) (c : PlainKey) (ks : List PlainKey) → Placed n c ks
unfolding number_from is_among
placed n c [] = Placed.nowhere refl refl
placed n c (k ∷ ks) = by (same_key c k) refl (placed (suc n) c ks)
  where
    by : (b : Bool) → same_key c k ≡ b → Placed (suc n) c ks → Placed n c (k ∷ ks)
    by true e h =
        Placed.there 0 n (ap (λ z. if z then Some n else number_from (suc n) c ks) e) (ap (λ z. z || list_any (same_key c) ks) e)
        (ap (λ z. Some z) (sym (same_is c k e))) (omega arith)
    by false e (Placed.nowhere isnt none) =
        Placed.nowhere (ap (λ z. if z then Some n else number_from (suc n) c ks) e ∙ isnt) (ap (λ z. z || list_any (same_key c) ks) e ∙ none)
    by false e (Placed.there i j at yes_among is sum) =
        Placed.there (suc i) j (ap (λ z. if z then Some n else number_from (suc n) c ks) e ∙ at) (ap (λ z. z || list_any (same_key c) ks) e ∙ yes_among) is (omega (arith, sum))
