-- The tags of elements are put in their order.
use Rattle.std.proofs.Common.{◌≡◌, ℕ, suc, ◌+◌, ◌≤◌, List, [], ◌++◌, sym, ◌∙◌, ap, subst, arith, append-nil, append_assoc}
use Rattle.way_reader.specs.Starts.{element, elements}
use Rattle.way_reader.specs.declared.way.Way.{Way}

-- with the elements from this one on it is all of them
pub record HasElements (ns : List ℕ) (count : ℕ) (old now : List Way) (n : ℕ) : Type 0 where
  pub on : (k : ℕ) → n + k ≡ count → now ++ elements ns n k ≡ old ++ elements ns 0 count

all_left : (k count : ℕ) → 0 + k ≡ count → k ≡ count
all_left k count h = omega arith

pub no_element : (ns : List ℕ) (count : ℕ) (old : List Way) → HasElements ns count old old 0
no_element ns count old = record { on = λ k h. ap (λ (j : ℕ). old ++ elements ns 0 j) (all_left k count h) }

one_less : (n k count : ℕ) → suc n + k ≡ count → n + suc k ≡ count
one_less n k count h = omega arith

behind_one : (n : ℕ) → suc n ≡ n + 1
behind_one n = omega arith

pub one_element : (ns : List ℕ) (count : ℕ) (old now next : List Way) (n : ℕ) → HasElements ns count old now n → next ≡ now ++ element ns n [] → HasElements ns count old next (n + 1)
one_element ns count old now next n so is = subst (λ (m : ℕ). HasElements ns count old next m) (behind_one n) more
  where
    more : HasElements ns count old next (suc n)
    more = record {
      on = λ k h.
          ap (λ (ws : List Way). ws ++ elements ns (suc n) k) is ∙ append_assoc now (element ns n []) (elements ns (suc n) k) ∙ so.on (suc k) (one_less n k count h);
    }

none_left : (n count : ℕ) → n ≤ count → count ≤ n → n + 0 ≡ count
none_left n count h k = omega arith

pub all_elements : (ns : List ℕ) (count : ℕ) (old now : List Way) (n : ℕ) → HasElements ns count old now n → n ≤ count → count ≤ n → now ≡ old ++ elements ns 0 count
all_elements ns count old now n so h k = sym (append-nil now) ∙ so.on 0 (none_left n count h k)
