-- Small grammars: which nonterminals are useful, and which pairs there are.
use Rattle.std.proofs.Common.{◌≡◌, ℕ, true, List, [], ◌∷◌, length, nat_eq, refl, arith}
use Rattle.text_base.specs.declared.letter.Letter.TheVariants.{OfByte, OfToken}
use Rattle.text_base.specs.declared.page_token.PageToken.{PageToken}
use Rattle.text_base.specs.declared.page_token.PageToken.TheVariants.{Text, Blank}
use Rattle.cfg_grammar.specs.declared.symbol.Symbol.TheVariants.{Token, Nt}
use Rattle.cfg_grammar.specs.declared.production.Right.TheVariants.{Empty, One, Two}
use Rattle.cfg_grammar.specs.declared.production.Production.{Production}
use Rattle.cfg_grammar.specs.Derives.{Derives, DerivesIn}
use Rattle.useful_nonterminals.specs.Useful.{IsUseful}
use Rattle.summary_decision.specs.declared.verdict.Verdict.TheVariants.{Yes, Pairs}
use Rattle.summary_decision.specs.Pairs.{tokens_in, IsPair}
use Rattle.summary_decision.specs.Verdicts.{IsVerdict}

-- the tokens of a sentence
some_tokens : tokens_in (OfToken Blank ∷ OfByte 65 ∷ OfToken Text ∷ []) ≡ Blank ∷ Text ∷ []
some_tokens = refl

-- 0 becomes 1 and a text, 1 becomes nothing; 2 derives something and is not useful, since it only stands beside 3, which
-- derives nothing
abbrev small : List Production
small =
    (record { left = record { 0 = 0 }; right = Two (Nt (record { 0 = 1 })) (Token Text) })
    ∷ (record { left = record { 0 = 1 }; right = Empty })
    ∷ (record { left = record { 0 = 0 }; right = Two (Nt (record { 0 = 2 })) (Nt (record { 0 = 3 })) })
    ∷ (record { left = record { 0 = 2 }; right = One (Token Blank) })
    ∷ []

one_empty : DerivesIn small (Nt (record { 0 = 1 })) [] 1
one_empty = DerivesIn.by_empty (record { 0 = 1 }) (1, omega arith, refl)

one_derives : Derives small (Nt (record { 0 = 1 })) []
one_derives = Derives.by_empty (record { 0 = 1 }) (1, omega arith, refl)

start_derives : Derives small (Nt (record { 0 = 0 })) (OfToken Text ∷ [])
start_derives = Derives.by_two (record { 0 = 0 }) (Nt (record { 0 = 1 })) (Token Text) [] (OfToken Text ∷ []) (0, omega arith, refl) one_derives (Derives.by_token Text)

-- so the pair of 1 and the sum of no token is there from height 1
one_pair : IsPair (λ (ts : List PageToken). length ts) small (record { 0 = 0 }) 1 (record { 0 = 1 }) 0
one_pair =
    record {
      useful = IsUseful.as_first (record { 0 = 0 }) (record { 0 = 1 }) (Token Text) [] (OfToken Text ∷ []) (IsUseful.at_start (OfToken Text ∷ []) start_derives) (0, omega arith, refl) one_derives (Derives.by_token Text);
      sentence = [];
      derived = (1, omega arith, one_empty);
      same = refl;
    }

-- where every sum is whole the answer is yes; where that of one token is not, it is not yes; a count within the limit is no
-- answer
is_yes : IsVerdict (λ (ts : List PageToken). length ts) (λ (n : ℕ). true) (λ (n : ℕ). n) small (record { 0 = 0 }) 3 Yes
is_yes w d = refl

is_not_yes : IsVerdict (λ (ts : List PageToken). length ts) (λ (n : ℕ). nat_eq n 0) (λ (n : ℕ). n) small (record { 0 = 0 }) 3 Yes → ⊥
is_not_yes h = let e : nat_eq 1 0 ≡ true = h (OfToken Text ∷ []) start_derives in cc

within_the_limit : IsVerdict (λ (ts : List PageToken). length ts) (λ (n : ℕ). true) (λ (n : ℕ). n) small (record { 0 = 0 }) 3 (Pairs 3 1) → ⊥
within_the_limit v = absurd (omega (arith, v.0))
