-- A small grammar: its short sentences and their pairs.
use Rattle.std.proofs.Common.{◌≡◌, ℕ, Bool, true, List, [], ◌∷◌, length, nat_eq, refl, arith, inl, inr}
use Rattle.text_base.specs.declared.letter.Letter.{Letter}
use Rattle.text_base.specs.declared.letter.Letter.TheVariants.{OfByte, OfToken}
use Rattle.text_base.specs.declared.page_token.PageToken.{PageToken}
use Rattle.text_base.specs.declared.page_token.PageToken.TheVariants.{Text, Blank}
use Rattle.cfg_grammar.specs.declared.symbol.Symbol.TheVariants.{Token, Nt}
use Rattle.cfg_grammar.specs.declared.production.Right.TheVariants.{Empty, Two}
use Rattle.cfg_grammar.specs.declared.production.Production.{Production}
use Rattle.cfg_grammar.specs.Derives.{Derives}
use Rattle.derivations.specs.Nodes.{most}
use Rattle.derivations.specs.Lawful.{byte_count}
use Rattle.useful_nonterminals.specs.Useful.{IsUseful}
use Rattle.short_sentences.specs.declared.answer.ShortAnswer.TheVariants.{Whole, Pairs}
use Rattle.short_sentences.specs.ShortPairs.{IsWithin, IsShortPair, AreShorterWhole}
use Rattle.short_sentences.specs.ShortAnswers.{IsShortAnswer}

-- a token is no byte
two_bytes : byte_count (OfToken Text ∷ OfByte 120 ∷ OfToken Blank ∷ OfByte 121 ∷ []) ≡ 2
two_bytes = refl

-- a sentence of one byte is within 1 and not within 0; any sentence is within the largest u64
within_one : IsWithin (OfByte 120 ∷ OfToken Text ∷ []) 1
within_one = inl (omega arith)

not_within_none : IsWithin (OfByte 120 ∷ OfToken Text ∷ []) 0 → ⊥
not_within_none (inl few) = absurd (omega (arith, few))
not_within_none (inr large) = absurd (omega (arith, large))

within_most : (w : List Letter) → IsWithin w most
within_most w = inr refl

-- 0 becomes nothing, or 1 and a text; 1 becomes nothing
abbrev small : List Production
small =
    (record { left = record { 0 = 0 }; right = Empty })
    ∷ (record { left = record { 0 = 0 }; right = Two (Nt (record { 0 = 1 })) (Token Text) })
    ∷ (record { left = record { 0 = 1 }; right = Empty })
    ∷ []

abbrev token_count : List PageToken → ℕ
token_count ts = length ts

abbrev has_none : ℕ → Bool
has_none n = nat_eq n 0

start_derives : Derives small (Nt (record { 0 = 0 })) (OfToken Text ∷ [])
start_derives = Derives.by_two (record { 0 = 0 }) (Nt (record { 0 = 1 })) (Token Text) [] (OfToken Text ∷ []) (1, omega arith, refl)
    (Derives.by_empty (record { 0 = 1 }) (2, omega arith, refl)) (Derives.by_token Text)

-- a sentence of no bytes with a token has its pair within no bytes
start_pair : IsShortPair token_count small (record { 0 = 0 }) 0 (record { 0 = 0 }) 1
start_pair =
    record {
      useful = IsUseful.at_start (OfToken Text ∷ []) start_derives;
      sentence = OfToken Text ∷ [];
      derived = start_derives;
      short = inl (omega arith);
      same = refl;
    }

-- no sentence is shorter than nothing; that of a token is shorter than one byte
none_shorter : AreShorterWhole token_count has_none small (record { 0 = 0 }) 0
none_shorter w less d = absurd (omega (arith, less))

some_shorter : AreShorterWhole token_count has_none small (record { 0 = 0 }) 1 → ⊥
some_shorter h = let e : nat_eq 1 0 ≡ true = h (OfToken Text ∷ []) (omega arith) start_derives in cc

not_all_whole : IsShortAnswer token_count has_none (λ (n : ℕ). n) small (record { 0 = 0 }) 3 Whole → ⊥
not_all_whole h = let e : nat_eq 1 0 ≡ true = h (OfToken Text ∷ []) start_derives in cc

-- a count within the limit is no answer
within_the_limit : IsShortAnswer token_count has_none (λ (n : ℕ). n) small (record { 0 = 0 }) 3 (Pairs 3 0) → ⊥
within_the_limit v = absurd (omega (arith, v.0))
