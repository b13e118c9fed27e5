-- The machine of `Same` follows each text to itself.
use Rattle.std.proofs.Common.{◌≡◌, ◌==◌, ℕ, ◌≤◌, List, [], ◌∷◌, refl, sym, ap, arith, inl, inr}
use Rattle.std.proofs.lemmas.Bool.{cases_Bool}
use Rattle.std.proofs.lemmas.List.Elements.{All-cons, All-nil}
use Rattle.fst_core.specs.declared.out.Out.{Out}
use Rattle.fst_core.specs.declared.out.Out.TheVariants.{Same}
use Rattle.fst_core.specs.declared.table.Table.{Table}
use Rattle.string_ops.specs.Listed.{IsShort, AreSmall, IsListed, IsMachine}
use Rattle.string_ops.specs.Same.{same_rows, same_lasts}
use Rattle.string_ops.proofs.ListedLemmas.{IsFunction, follows_function, listed_machine}

same_function : IsFunction same_rows same_lasts (λ s. 0 ≡ s) (λ s text. text)
same_function =
    record {
      stop = λ s v. ([], ap same_lasts (sym v), refl);
      step = λ s byte v h. ((0, Same ∷ []), ap (λ (x : ℕ). same_rows x byte) (sym v), refl, λ text. refl);
    }

same_small : (most : ℕ) → 1 ≤ most → AreSmall same_rows same_lasts most
same_small most h =
    record {
      few = λ s byte. elim (cases_Bool (0 == s)) [ inl t ↦ rw t (omega arith) | inr f ↦ rw f (omega arith) ];
      moves = λ s byte. elim (cases_Bool (0 == s)) [
        | inl t ↦ rw t (All-cons (λ (p : ℕ × List Out). IsShort most p.1) (0, Same ∷ []) [] (refl, omega arith) (All-nil (λ (p : ℕ × List Out). IsShort most p.1)))
        | inr f ↦ rw f (All-nil (λ (p : ℕ × List Out). IsShort most p.1))
      ];
      ends = λ s. elim (cases_Bool (0 == s)) [
        | inl t ↦ rw t (All-cons (IsShort most) [] [] (refl, omega arith) (All-nil (IsShort most)))
        | inr f ↦ rw f (All-nil (IsShort most))
      ];
    }

pub same_is_machine : (table : Table) → IsListed table 1 same_rows same_lasts → IsMachine table 0 (λ input output. output ≡ input)
same_is_machine table listed =
    listed_machine table 1 same_rows same_lasts 0 (λ input output. output ≡ input) listed (same_small 8 (omega arith)) (omega arith)
    (λ input output bytes. follows_function same_rows same_lasts (λ s. 0 ≡ s) (λ s text. text) same_function 0 refl input output bytes)
