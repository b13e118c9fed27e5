-- What a plan keeps, for the machines of one state.
use Rattle.std.proofs.Common.{◌≡◌, ℕ, ◌<◌, ◌≤◌, true, ◌==◌, nat_lt, List, [], length, refl, arith}
use Rattle.std.specs.List.{list_all}
use Rattle.std.proofs.lemmas.Bool.{cond_both, ne_eqb}
use Rattle.fst_core.specs.declared.out.Out.{Out}
use Rattle.fst_core.specs.Fits.{is_fixed}
use Rattle.string_ops.specs.declared.bytewise.Bytewise.{Bytewise}
use Rattle.string_ops.specs.Bytewise.{bytewise_rows, bytewise_lasts}

-- there is at least one state
pub some_state : 0 < 1
some_state = omega arith

-- a state has at most three choices by a byte
pub three_choices : (kind : Bytewise) (s byte : ℕ) → length (bytewise_rows kind s byte) ≤ 3
three_choices kind s byte = cond_both (s == 0) _ _ (λ (cs : List (ℕ × List Out)). length cs ≤ 3) (λ _. omega arith) (λ _. omega arith)

-- each choice of the one state leads to that state
pub choices_within : (kind : Bytewise) (s byte : ℕ) → s < 1 → byte < 256
    → list_all (λ choice. nat_lt choice.0 1) (bytewise_rows kind s byte) ≡ true
choices_within kind s byte inside below =
    cond_both (s == 0) _ _ (λ (cs : List (ℕ × List Out)). list_all (λ choice. nat_lt choice.0 1) cs ≡ true) (λ _. refl) (λ _. refl)

-- a state has at most one end
pub one_last : (s : ℕ) → length (bytewise_lasts s) ≤ 1
one_last s = cond_both (s == 0) _ _ (λ (os : List (List Out)). length os ≤ 1) (λ _. omega arith) (λ _. omega arith)

-- what is put out at the end depends on no byte that is read
pub lasts_fixed : (s : ℕ) → list_all (λ out. list_all is_fixed out) (bytewise_lasts s) ≡ true
lasts_fixed s = cond_both (s == 0) _ _ (λ (os : List (List Out)). list_all (λ out. list_all is_fixed out) os ≡ true) (λ _. refl) (λ _. refl)

-- no state but state 0 goes on
pub no_rows : (kind : Bytewise) (s byte : ℕ) → 1 ≤ s → bytewise_rows kind s byte ≡ []
no_rows kind s byte past = rw (ne_eqb s 0 (λ e. omega (arith, e, past))) refl

-- no state but state 0 may end
pub no_lasts : (s : ℕ) → 1 ≤ s → bytewise_lasts s ≡ []
no_lasts s past = rw (ne_eqb s 0 (λ e. omega (arith, e, past))) refl
