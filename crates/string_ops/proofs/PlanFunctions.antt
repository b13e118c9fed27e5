-- Rows that are written down for the states below a number, with one choice for each byte.
use Rattle.std.proofs.Common.{◌≡◌, ℕ, ◌+◌, ◌<◌, ◌≤◌, List, [], ◌∷◌, ◌++◌, length, map, All, refl, arith, nat_lt}
use Rattle.std.proofs.lemmas.Bool.{cond_both, lt-ltb}
use Rattle.std.proofs.lemmas.List.Elements.{All-nil}
use Rattle.fst_core.specs.declared.out.Out.{Out}
use Rattle.string_ops.specs.Listed.{Rows, Lasts, IsShort, AreSmall, byte_of}
use Rattle.string_ops.specs.Plans.{rows_below, lasts_below}
use Rattle.string_ops.proofs.ListedLemmas.{IsFunction}

-- what is small for each state is small
pub below_small : (states : ℕ) (rows : Rows) (lasts : Lasts) (most : ℕ) → AreSmall rows lasts most → AreSmall (rows_below states rows) (lasts_below states lasts) most
below_small states rows lasts most small = record {
  few = λ s byte. cond_both (nat_lt s states) _ _ (λ (cs : List (ℕ × List Out)). length cs ≤ 4) (λ _. small.few s byte) (λ _. omega arith);
  moves = λ s byte. cond_both (nat_lt s states) _ _ (All (λ (p : ℕ × List Out). IsShort most p.1)) (λ _. small.moves s byte) (λ _. All-nil (λ (p : ℕ × List Out). IsShort most p.1));
  ends = λ s. cond_both (nat_lt s states) _ _ (All (IsShort most)) (λ _. small.ends s) (λ _. All-nil (IsShort most));
}

-- one choice for each byte, and one output at the end
pub below_function : (states : ℕ) (next : ℕ → ℕ → ℕ) (put : ℕ → ℕ → List Out) (f : ℕ → List ℕ → List ℕ) → ((s b : ℕ) → s < states → b < 256 → next s b < states) → ((s : ℕ) → s < states → [] ≡ f s []) → ((s b : ℕ) → s < states → b < 256 → (text : List ℕ) → map (byte_of b) (put s b) ++ f (next s b) text ≡ f s (b ∷ text)) → IsFunction (rows_below states (λ s b. (next s b, put s b) ∷ [])) (lasts_below states (λ s. [] ∷ [])) (λ s. s < states) f
below_function states next put f inside stop step = record {
  stop = λ s v. ([], rw (lt-ltb s states v) refl, stop s v);
  step = λ s b v below. ((next s b, put s b), rw (lt-ltb s states v) refl, inside s b v below, step s b v below);
}
