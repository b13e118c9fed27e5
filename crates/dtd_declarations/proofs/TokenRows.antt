-- The tokens of a text, one after another.
use Rattle.std.proofs.Common.{◌≡◌, ◌∙◌, ℕ, zero, suc, ◌+◌, ◌≤◌, List, [], ◌∷◌, ◌++◌, drop, refl, sym, ap, arith, append_assoc, append-nil}
use Rattle.std.specs.Prelude.{pred}
use Rattle.std.proofs.lemmas.List.{map-append}
use Rattle.dtd_declarations.specs.declared.token.Token.{Token as CodeToken}
use Rattle.dtd_declarations.specs.TokenViews.{token_of, tokens_of}
use Rattle.dtd_texts.specs.Tokens.{Token, token_at, token_length, tokens_behind, tokens}

pub behind_is : (n : ℕ) (bytes : List ℕ) → tokens_behind n bytes ≡ tokens (drop n bytes)
unfolding tokens_behind
behind_is zero [] = refl
behind_is zero (b ∷ bytes) = refl
behind_is (suc n) [] = refl
behind_is (suc n) (b ∷ bytes) = behind_is n bytes

-- the first token, and then those of the bytes behind it
pub tokens_first : (n b : ℕ) (bytes : List ℕ) → n ≡ token_length b bytes → 1 ≤ n → tokens (b ∷ bytes) ≡ token_at b bytes ∷ tokens (drop n (b ∷ bytes))
unfolding tokens_behind
tokens_first zero b bytes e h = absurd (omega (arith, h))
tokens_first (suc n) b bytes e h = ap (λ ts. token_at b bytes ∷ ts) (ap (λ k. tokens_behind (pred k) bytes) (sym e) ∙ behind_is n bytes)

pub no_tokens : tokens [] ≡ []
unfolding tokens_behind
no_tokens = refl

-- the tokens so far and those of what is left are all
pub row_more : (done whole : List Token) (t : Token) (n b : ℕ) (text bytes rest : List ℕ) → text ≡ b ∷ bytes → t ≡ token_at b bytes → n ≡ token_length b bytes → 1 ≤ n → rest ≡ drop n text
    → done ++ tokens text ≡ whole → (done ++ t ∷ []) ++ tokens rest ≡ whole
row_more done whole t n b text bytes rest e is long some behind so_far =
    append_assoc done (t ∷ []) (tokens rest)
    ∙ ap (λ r. done ++ t ∷ tokens r) (behind ∙ ap (drop n) e)
    ∙ ap (λ x. done ++ x ∷ tokens (drop n (b ∷ bytes))) is
    ∙ ap (λ ts. done ++ ts) (sym (tokens_first n b bytes long some))
    ∙ ap (λ x. done ++ tokens x) (sym e)
    ∙ so_far

pub row_end : (done whole : List Token) (text : List ℕ) → text ≡ [] → done ++ tokens text ≡ whole → done ≡ whole
row_end done whole text e so_far = sym (append-nil done) ∙ ap (λ ts. done ++ ts) (sym no_tokens ∙ ap tokens (sym e)) ∙ so_far

pub row_pushed : (done now : List CodeToken) (whole : List Token) (t : CodeToken) (n b : ℕ) (text bytes rest : List ℕ) → now ≡ done ++ t ∷ [] → text ≡ b ∷ bytes → token_of t ≡ token_at b bytes → n ≡ token_length b bytes → 1 ≤ n → rest ≡ drop n text
    → tokens_of done ++ tokens text ≡ whole → tokens_of now ++ tokens rest ≡ whole
row_pushed done now whole t n b text bytes rest pushed e is long some behind so_far =
    ap (λ ts. tokens_of ts ++ tokens rest) pushed
    ∙ ap (λ x. x ++ tokens rest) (map-append token_of done (t ∷ []))
    ∙ row_more (tokens_of done) whole (token_of t) n b text bytes rest e is long some behind so_far
