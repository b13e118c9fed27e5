-- Where a step goes wrong, so does what follows it.
use Rattle.std.proofs.Common.{◌≡◌, ◌∙◌, ℕ, zero, suc, ◌+◌, ◌<◌, ◌≤◌, List, [], ◌∷◌, length, drop, get_or, refl, sym, ap, subst, arith, add-one}
use Rattle.dtd_declarations.specs.declared.token.Token.{Token as CodeToken}
use Rattle.dtd_declarations.specs.TokenViews.{token_of, tokens_of}
use Rattle.std.specs.Prelude.{Result}
use Rattle.dtd_texts.specs.Tokens.{Token}
use Rattle.dtd_texts.specs.Went.{Went, leads, then_go, all_steps}
use Rattle.dtd_declarations.specs.Views.{WentWrong, Gives}
use Rattle.dtd_declarations.specs.declared.fault.Fault.{Fault}
use Rattle.dtd_declarations.specs.declared.fault.Fault.TheVariants.{Refused, LeftOut, TooDeep, Undeclared, Memory}

pub passed_on : {S T : Type 0} (fault : Fault) (w : Went S) (f : S → Went T) → WentWrong fault w → WentWrong fault (then_go w f)
passed_on Refused w f e = rw e refl
passed_on LeftOut w f e = rw e refl
passed_on TooDeep w f e = rw e refl
passed_on (Undeclared name) w f e = rw e refl
passed_on Memory w f e = tt

-- In a loop over tokens: the step goes on, goes wrong, or there is no token left.

pub steps_on : {S : Type 0} (step : S → Token → Went S) (s next : S) (t : Token) (text ts : List Token) (whole : Went S) → text ≡ t ∷ ts → step s t ≡ leads next
    → all_steps step s text ≡ whole → all_steps step next ts ≡ whole
unfolding all_steps
steps_on step s next t text ts whole e is so_far =
    ap (λ w. then_go w (λ n. all_steps step n ts)) (sym is) ∙ ap (all_steps step s) (sym e) ∙ so_far

pub steps_wrong : {S T : Type 0} (step : S → Token → Went S) (s : S) (t : Token) (text ts : List Token) (whole : Went S) (end : S → Went T) (fault : Fault) → text ≡ t ∷ ts
    → WentWrong fault (step s t) → all_steps step s text ≡ whole → WentWrong fault (then_go whole end)
unfolding all_steps
steps_wrong step s t text ts whole end fault e wrong so_far =
    passed_on fault whole end (subst (WentWrong fault) (ap (all_steps step s) (sym e) ∙ so_far) (passed_on fault (step s t) (λ n. all_steps step n ts) wrong))

pub steps_end : {S T : Type 0} (step : S → Token → Went S) (s : S) (text : List Token) (whole : Went S) (end : S → Went T) → text ≡ []
    → all_steps step s text ≡ whole → end s ≡ then_go whole end
unfolding all_steps
steps_end step s text whole end e so_far = ap (λ w. then_go w end) (ap (all_steps step s) (sym e) ∙ so_far)

pub token_from : (xs : List CodeToken) (i : ℕ) (d : CodeToken) → i < length xs → tokens_of (drop i xs) ≡ token_of (get_or xs i d) ∷ tokens_of (drop (i + 1) xs)
token_from [] i d h = absurd (omega (arith, h))
token_from (y ∷ ys) zero d h = refl
token_from (y ∷ ys) (suc i) d h = rw add-one (rw add-one at (token_from ys i d (omega (arith, h))))

pub token_none : (xs : List CodeToken) (i : ℕ) → length xs ≤ i → tokens_of (drop i xs) ≡ []
token_none [] zero h = refl
token_none [] (suc i) h = refl
token_none (y ∷ ys) zero h = absurd (omega (arith, h))
token_none (y ∷ ys) (suc i) h = token_none ys i (omega (arith, h))

-- an answer is what is led to, by another name
pub gives_by : {A S : Type 0} (view : A → S) (r : Result A Fault) (w v : Went S) → w ≡ v → Gives view r w → Gives view r v
gives_by view r w v e h = subst (Gives view r) e h
