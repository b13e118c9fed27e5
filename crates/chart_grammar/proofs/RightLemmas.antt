-- What stands for outputs, where there is one.
use Rattle.std.proofs.Common.{◌≡◌, ℕ, zero, suc, refl}
use Rattle.cfg_grammar.specs.declared.symbol.Symbol.{Symbol}
use Rattle.cfg_grammar.specs.declared.production.Right.TheVariants.{One, Two}
use Rattle.chart_grammar.specs.Lifts.{nt_of, front_right, front_by, end_by}

pub front_right_some : (n : ℕ) → (n ≡ 0 → ⊥) → One (nt_of n) ≡ front_right n
front_right_some zero h = absurd (h refl)
front_right_some (suc n) h = refl

pub front_by_some : (n : ℕ) (last : Symbol) → (n ≡ 0 → ⊥) → Two (nt_of n) last ≡ front_by n last
front_by_some zero last h = absurd (h refl)
front_by_some (suc n) last h = refl

pub end_by_some : (passage n : ℕ) → (n ≡ 0 → ⊥) → Two (nt_of passage) (nt_of n) ≡ end_by passage n
end_by_some passage zero h = absurd (h refl)
end_by_some passage (suc n) h = refl
