-- The ranges of the first productions.
use Rattle.std.proofs.Common.{◌≡◌, ◌≤◌, ◌+◌, ℕ, List, length, Some, slice_get, inl, inr, sym, ◌∙◌, ap, subst, arith}
use Rattle.std.proofs.lemmas.Bool.{cases_eq}
use Rattle.std.proofs.lemmas.Option.{same_Some}
use Rattle.cfg_grammar.specs.declared.production.Production.{Production}
use Rattle.cfg_grammar.specs.Bytes.{HasBytes, FirstHaveBytes}

-- one production more
pub first_more : (ps : List Production) (n : ℕ) (p : Production) → slice_get ps n ≡ Some p → FirstHaveBytes ps n → HasBytes p → FirstHaveBytes ps (n + 1)
first_more ps n p at before here k q lt found range on = elim (cases_eq k n) [
  | inl same ↦ (let own : q ≡ p = same_Some q p (sym found ∙ (ap (slice_get ps) same ∙ at)) in subst (λ (x : Production). HasBytes x) (sym own) here range on)
  | inr other ↦ before k q (omega arith) found range on
]

pub first_all : (ps : List Production) (n : ℕ) → length ps ≤ n → FirstHaveBytes ps n → FirstHaveBytes ps (length ps)
first_all ps n le before k q lt found = before k q (omega arith) found
