-- The machine of the first byte follows `ucfirst`.
use Rattle.std.proofs.Common.{◌≡◌, ◌==◌, ℕ, ◌+◌, ◌<◌, List, [], ◌∷◌, ◌++◌, map, refl, sym, ap, subst, arith, inl, inr, if◌then◌else◌}
use Rattle.std.proofs.lemmas.Bool.{cases_eq, cond_both}
use Rattle.std.proofs.lemmas.List.Elements.{All-cons, All-nil}
use Rattle.string_functions.specs.Case.{first_upper_of}
use Rattle.fst_core.specs.declared.out.Out.{Out}
use Rattle.fst_core.specs.declared.out.Out.TheVariants.{Same}
use Rattle.fst_core.specs.declared.table.Table.{Table}
use Rattle.string_ops.specs.declared.bytewise.Bytewise.TheVariants.{Upper}
use Rattle.string_ops.specs.Listed.{IsShort, AreSmall, IsListed, IsMachine, byte_of}
use Rattle.string_ops.specs.Bytewise.{outs_of}
use Rattle.string_ops.specs.First.{first_row, first_last, first_rows, first_lasts}
use Rattle.string_ops.proofs.ListedLemmas.{IsFunction, follows_function, listed_machine}
use Rattle.string_ops.proofs.PlanFunctions.{below_small, below_function}
use Rattle.string_ops.proofs.BytewiseLemmas.{upper_writes, short_outs}

-- what is left to be put out from each state
abbrev first_from : ℕ → List ℕ → List ℕ
first_from s text = if s == 0 then first_upper_of text else text

abbrev first_put : ℕ → ℕ → List Out
first_put s b = if s == 0 then outs_of Upper b else Same ∷ []

at_state : (P : ℕ → Type 0) (s : ℕ) → s < 2 → P 0 → P 1 → P s
at_state P s inside zero one =
    elim (cases_eq s 0) [ inl e ↦ subst P (sym e) zero | inr n0 ↦ let e : 1 ≡ s = omega (arith, inside, n0) in subst P e one ]

first_function : IsFunction first_rows first_lasts (λ s. s < 2) first_from
first_function =
    below_function 2 (λ s b. 1) first_put first_from (λ s b inside below. omega arith) (λ s inside. at_state (λ n. [] ≡ first_from n []) s inside refl refl) (λ s b inside below.
    at_state (λ n. (text : List ℕ) → map (byte_of b) (first_put n b) ++ text ≡ first_from n (b ∷ text)) s inside (λ text. ap (λ (front : List ℕ). front ++ text) (upper_writes b below)) (λ text. refl))

first_small : AreSmall first_rows first_lasts 8
first_small =
    below_small 2 first_row first_last 8 (record {
      few = λ s byte. omega arith;
      moves = λ s byte. All-cons (λ (p : ℕ × List Out). IsShort 8 p.1) (1, first_put s byte) [] (cond_both (s == 0) _ _ (IsShort 8) (λ _. short_outs Upper byte) (λ _. (refl, omega arith))) (All-nil (λ (p : ℕ × List Out). IsShort 8 p.1));
      ends = λ s. All-cons (IsShort 8) [] [] (refl, omega arith) (All-nil (IsShort 8));
    })

pub first_is_machine : (table : Table) → IsListed table 2 first_rows first_lasts → IsMachine table 0 (λ input output. output ≡ first_upper_of input)
first_is_machine table listed =
    listed_machine table 2 first_rows first_lasts 0 (λ input output. output ≡ first_upper_of input) listed first_small (omega arith)
    (λ input output bytes. follows_function first_rows first_lasts (λ s. s < 2) first_from first_function 0 (omega arith) input output bytes)
