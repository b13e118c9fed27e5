-- Small cases of the definitions.
use Rattle.std.proofs.Common.{◌≡◌, ℕ, zero, suc, true, false, List, [], ◌∷◌, ◌+◌, length, Contains, Some, None, refl, ap, arith}
use Rattle.text_base.specs.declared.page_token.PageToken.{PageToken}
use Rattle.text_base.specs.declared.page_token.PageToken.TheVariants.{Text}
use Rattle.cfg_grammar.specs.declared.symbol.Symbol.TheVariants.{Token}
use Rattle.cfg_grammar.specs.declared.production.Right.TheVariants.{Empty, One}
use Rattle.summary_decision.specs.Using.{key_of}
use Rattle.summary_decision.specs.Beginning.{IsBegun}

-- of 5 nonterminals: 2 stands on the side; no nonterminal does; the left side is not useful
listed : key_of 5 true (Some 2) ≡ 2
listed = refl

not_listed : key_of 5 true None ≡ 5
not_listed = refl

useless : key_of 5 false (Some 2) ≡ 5
useless = refl

-- with the length for a sum: the empty right side gives 0; one text gives 1, and not 0
begun : IsBegun (λ (ts : List PageToken). length ts) (λ (m n : ℕ). m + n) ((3, 0) ∷ []) 3 Empty
begun = (0, omega arith, refl)

not_begun : IsBegun (λ (ts : List PageToken). length ts) (λ (m n : ℕ). m + n) ((3, 0) ∷ []) 3 (One (Token Text)) → ⊥
not_begun h = none (h 1 refl)
  where
    none : Contains {X = ℕ × ℕ} ((3, 0) ∷ []) (3, 1) → ⊥
    none (zero, l, e) = let f : 0 ≡ 1 = ap (λ (p : ℕ × ℕ). p.1) e in absurd (omega (arith, f))
    none (suc n, l, e) = absurd (omega (arith, l))
