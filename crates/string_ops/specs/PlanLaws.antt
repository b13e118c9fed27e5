-- What a plan keeps whose rows are written down for the states below a number.
use Rattle.std.proofs.Common.{◌≡◌, ℕ, ◌≤◌, true, nat_lt, List, [], length, refl, arith}
use Rattle.std.specs.List.{list_all}
use Rattle.std.proofs.lemmas.Bool.{cond_both, le-ltb}
use Rattle.fst_core.specs.declared.out.Out.{Out}
use Rattle.fst_core.specs.Fits.{is_fixed}
use Rattle.string_ops.specs.Listed.{Rows, Lasts}
use Rattle.string_ops.specs.Plans.{rows_below, lasts_below}

-- the states from the number on have no choice
pub no_rows : (states : ℕ) (rows : Rows) (s byte : ℕ) → states ≤ s → rows_below states rows s byte ≡ []
no_rows states rows s byte past = rw (le-ltb s states past) refl

-- the states from the number on have no end
pub no_lasts : (states : ℕ) (lasts : Lasts) (s : ℕ) → states ≤ s → lasts_below states lasts s ≡ []
no_lasts states lasts s past = rw (le-ltb s states past) refl

-- at most three choices by a byte are written down for a state, and so none of the plan has more
pub three : (states : ℕ) (rows : Rows) → ((s byte : ℕ) → length (rows s byte) ≤ 3) → (s byte : ℕ)
    → length (rows_below states rows s byte) ≤ 3
three states rows few s byte =
    cond_both (nat_lt s states) _ _ (λ (cs : List (ℕ × List Out)). length cs ≤ 3) (λ _. few s byte) (λ _. omega arith)

-- each choice that is written down leads to a state below the number, and so does each of the plan
pub within : (states : ℕ) (rows : Rows) → ((s byte : ℕ) → list_all (λ choice. nat_lt choice.0 states) (rows s byte) ≡ true) → (s byte : ℕ)
    → list_all (λ choice. nat_lt choice.0 states) (rows_below states rows s byte) ≡ true
within states rows inside s byte =
    cond_both (nat_lt s states) _ _ (λ (cs : List (ℕ × List Out)). list_all (λ choice. nat_lt choice.0 states) cs ≡ true)
    (λ _. inside s byte) (λ _. refl)

-- at most one end is written down for a state, and so none of the plan has more
pub one : (states : ℕ) (lasts : Lasts) → ((s : ℕ) → length (lasts s) ≤ 1) → (s : ℕ) → length (lasts_below states lasts s) ≤ 1
one states lasts few s = cond_both (nat_lt s states) _ _ (λ (os : List (List Out)). length os ≤ 1) (λ _. few s) (λ _. omega arith)

-- what is written down for the ends depends on no byte that is read, nor does what the plan has for them
pub fixed : (states : ℕ) (lasts : Lasts) → ((s : ℕ) → list_all (λ out. list_all is_fixed out) (lasts s) ≡ true) → (s : ℕ)
    → list_all (λ out. list_all is_fixed out) (lasts_below states lasts s) ≡ true
fixed states lasts all s = cond_both (nat_lt s states) _ _ (λ (os : List (List Out)). list_all (λ out. list_all is_fixed out) os ≡ true)
    (λ _. all s) (λ _. refl)
