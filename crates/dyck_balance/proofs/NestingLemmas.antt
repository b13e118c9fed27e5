-- Where nothing is left to match.
use Rattle.std.proofs.Common.{◌≡◌, ◌↔◌, ℕ, ◌⊎◌, inl, inr, List, [], ◌∷◌, ◌++◌, refl, sym, ap, append-nil}
use Rattle.std.specs.Prelude.{IsTrue}
use Rattle.text_base.specs.declared.page_token.PageToken.{PageToken}
use Rattle.tag_sums.specs.Nesting.{Nest, torn, nest, match_tags, nest_of, is_balanced, IsNested}
use Rattle.tag_sums.proofs.NestLemmas.{whole_nested}

pub rest_joins : (ca oa cb ob : List ℕ) → (oa ≡ []) ⊎ (cb ≡ []) → match_tags ca oa cb ob ≡ nest (ca ++ cb) (ob ++ oa)
rest_joins ca [] cb ob h = ap (nest (ca ++ cb)) (sym (append-nil ob))
rest_joins ca (q ∷ oa) [] ob h = ap (λ l. nest l (ob ++ q ∷ oa)) (sym (append-nil ca))
rest_joins ca (q ∷ oa) (s ∷ cb) ob (inl h) = cc
rest_joins ca (q ∷ oa) (s ∷ cb) ob (inr h) = cc

balanced_to : (a : Nest) → IsTrue (is_balanced a) → a ≡ nest [] []
balanced_to torn h = cc
balanced_to (nest [] []) h = refl
balanced_to (nest [] (q ∷ o)) h = cc
balanced_to (nest (s ∷ c) o) h = cc

balanced_from : (a : Nest) → a ≡ nest [] [] → IsTrue (is_balanced a)
balanced_from torn h = cc
balanced_from (nest [] []) h = refl
balanced_from (nest [] (q ∷ o)) h = cc
balanced_from (nest (s ∷ c) o) h = cc

pub whole_is_nested : (tokens : List PageToken) → IsTrue (is_balanced (nest_of tokens)) ↔ IsNested tokens
whole_is_nested tokens = (λ h. (whole_nested tokens).0 (balanced_to (nest_of tokens) h), λ h. balanced_from (nest_of tokens) ((whole_nested tokens).1 h))
