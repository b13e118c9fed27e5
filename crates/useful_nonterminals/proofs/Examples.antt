-- Small grammars: which nonterminals are useful, and which are not.
use Rattle.std.proofs.Common.{◌≡◌, ℕ, zero, suc, List, [], ◌∷◌, Contains, refl, ap, arith}
use Rattle.text_base.specs.declared.letter.Letter.TheVariants.{OfToken}
use Rattle.text_base.specs.declared.page_token.PageToken.TheVariants.{Text, Blank}
use Rattle.cfg_grammar.specs.declared.symbol.Symbol.TheVariants.{Token, Nt}
use Rattle.cfg_grammar.specs.declared.production.Right.{Right}
use Rattle.cfg_grammar.specs.declared.production.Right.TheVariants.{Empty, One, Two}
use Rattle.cfg_grammar.specs.declared.production.Production.{Production}
use Rattle.cfg_grammar.specs.Derives.{Derives}
use Rattle.useful_nonterminals.specs.Follows.{Follows}
use Rattle.useful_nonterminals.specs.Useful.{IsProductive, IsUseful}

-- 0 becomes 1 and a text, 1 becomes nothing; 2 becomes a blank, and stands only beside 3, of which there is no production
abbrev small : List Production
small =
    (record { left = record { 0 = 0 }; right = Two (Nt (record { 0 = 1 })) (Token Text) })
    ∷ (record { left = record { 0 = 1 }; right = Empty })
    ∷ (record { left = record { 0 = 0 }; right = Two (Nt (record { 0 = 2 })) (Nt (record { 0 = 3 })) })
    ∷ (record { left = record { 0 = 2 }; right = One (Token Blank) })
    ∷ []

one_derives : Derives small (Nt (record { 0 = 1 })) []
one_derives = Derives.by_empty (record { 0 = 1 }) (1, omega arith, refl)

two_derives : Derives small (Nt (record { 0 = 2 })) (OfToken Blank ∷ [])
two_derives = Derives.by_one (record { 0 = 2 }) (Token Blank) (OfToken Blank ∷ []) (3, omega arith, refl) (Derives.by_token Blank)

start_derives : Derives small (Nt (record { 0 = 0 })) (OfToken Text ∷ [])
start_derives = Derives.by_two (record { 0 = 0 }) (Nt (record { 0 = 1 })) (Token Text) [] (OfToken Text ∷ []) (0, omega arith, refl) one_derives (Derives.by_token Text)

one_is_useful : IsUseful small (record { 0 = 0 }) (record { 0 = 1 })
one_is_useful = IsUseful.as_first (record { 0 = 0 }) (record { 0 = 1 }) (Token Text) [] (OfToken Text ∷ []) (IsUseful.at_start (OfToken Text ∷ []) start_derives) (0, omega arith, refl) one_derives (Derives.by_token Text)

-- 3 derives nothing
no_production : (r : Right) → Contains small (record { left = record { 0 = 3 }; right = r }) → ⊥
no_production r (zero, l, e) = let n : 0 ≡ 3 = ap (λ (p : Production). p.left.0) e in absurd (omega (arith, n))
no_production r (suc zero, l, e) = let n : 1 ≡ 3 = ap (λ (p : Production). p.left.0) e in absurd (omega (arith, n))
no_production r (suc (suc zero), l, e) = let n : 0 ≡ 3 = ap (λ (p : Production). p.left.0) e in absurd (omega (arith, n))
no_production r (suc (suc (suc zero)), l, e) = let n : 2 ≡ 3 = ap (λ (p : Production). p.left.0) e in absurd (omega (arith, n))
no_production r (suc (suc (suc (suc n))), l, e) = absurd (omega (arith, l))

three_derives_nothing : IsProductive small (record { 0 = 3 }) → ⊥
three_derives_nothing (w, Derives.by_empty left c) = no_production Empty c
three_derives_nothing (w, Derives.by_one left a v c d) = no_production (One a) c
three_derives_nothing (w, Derives.by_two left a b u v c d e) = no_production (Two a b) c

-- a rule that asks for its own conclusion gives nothing
circular : (n : ℕ) → Follows [] ((record { first = 0; second = 0; conclusion = 0 }) ∷ []) n → ⊥
circular n (Follows.by_fact k c) = absurd (omega (arith, c.1))
circular n (Follows.by_rule a b k c f g) = circular a f
