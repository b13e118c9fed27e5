-- Names of parameters, and texts.
use Rattle.std.proofs.Common.{◌≡◌, ℕ, ◌+◌, ◌<◌, Bool, true, false, List, [], ◌∷◌, ◌++◌, length, refl, ap, ◌∙◌, sym, subst, arith, inl, inr}
use Rattle.std.specs.Prelude.{◌≢◌, ◌==◌, ◌&&◌, ◌||◌, not, max, map, nat_eq, if◌then◌else◌, ◌⊎◌, Result, Ok, Err, MatchResult, is_ok}
use Rattle.std.specs.List.{list_any}
use Rattle.std.specs.Str.{IsUtf8, IsValidUpTo}
use Rattle.std.specs.Str.Lossy.{utf8_valid_len}
use Rattle.std.specs.Cmp.Lexicographic.{pointwise}
use Rattle.std.proofs.lemmas.Str.{utf8_valid_len-IsUtf8, utf8_valid_len-IsValidUpTo}
use Rattle.std.proofs.lemmas.Bool.{eq-eqb, false≢true}
use Rattle.std.proofs.lemmas.Bool.Decides.{eqb_tells}
use Rattle.std.proofs.lemmas.List.{map-append}
use Rattle.indexmap.specs.IndexSet.{insert_key}
use Rattle.php_syntax.specs.declared.tree.Param.{Param}
use Rattle.php_syntax.specs.Trees.{params_of_list, maybe_of}
use Rattle.script_grammar.specs.Rules.{is_new_name, is_utf8}
use Rattle.php_syntax.specs.Height.{params_height, maybe_height}
use Rattle.stmt_builder.specs.Names.{ParametersAre}
use Rattle.stmt_builder.proofs.RowLemmas.{max_three}

-- a text is UTF-8 or not
pub text_is : (t : List ℕ) → IsUtf8 t → true ≡ is_utf8 t
text_is t h = sym (eq-eqb _ _ (utf8_valid_len-IsUtf8 t h))

differs : (a b : ℕ) → a < b → ((a == b) ≡ true) × (a ≡ b) ⊎ ((a == b) ≡ false) × (a ≢ b) → false ≡ (a == b)
differs a b h (inl e) = absurd (omega (arith, h, e.1))
differs a b h (inr e) = sym e.0

pub no_text : (t : List ℕ) (n : ℕ) → IsValidUpTo t n → false ≡ is_utf8 t
no_text t n h = let short : utf8_valid_len t < length t = subst (λ k. k < length t) (sym (utf8_valid_len-IsValidUpTo t n h)) h.short in differs _ _ short (eqb_tells _ _)

pub text_test : {S E : Type 0} (t : List ℕ) (P : S → Type 0) (up : E → ℕ) (r : Result S E) → MatchResult r (λ s. P s × IsUtf8 t) (λ e. ¬ (IsUtf8 t) × IsValidUpTo t (up e)) → is_ok r ≡ is_utf8 t
text_test t P up (Ok s) h = text_is t h.1
text_test t P up (Err e) h = no_text t (up e) h.1

-- whether a name is new
neither : (a b : Bool) → not (a || b) ≡ (not a && not b)
neither true b = refl
neither false b = refl

pub new_name : (x : List ℕ) (ps : List Param) → not (list_any (pointwise nat_eq x) (map (λ p. p.name) ps)) ≡ is_new_name x (params_of_list ps)
new_name x [] = refl
new_name x (p ∷ ps) = neither (pointwise nat_eq x p.name) (list_any (pointwise nat_eq x) (map (λ q. q.name) ps)) ∙ ap (λ b. not (pointwise nat_eq x p.name) && b) (new_name x ps)

-- a name that is new goes last
goes_last : (test : Bool) (names : List (List ℕ)) (x : List ℕ) → not test ≡ true → (if test then names else (names ++ x ∷ [])) ≡ names ++ x ∷ []
goes_last true names x e = absurd (false≢true e)
goes_last false names x e = refl

pub inserted : (x : List ℕ) (ps : List Param) (names : List (List ℕ)) → names ≡ map (λ p. p.name) ps → not (list_any (pointwise nat_eq x) names) ≡ true
    → (p : Param) → p.name ≡ x → insert_key (pointwise nat_eq) names x ≡ map (λ q. q.name) (ps ++ p ∷ [])
inserted x ps names e new p is =
    goes_last (list_any (pointwise nat_eq x) names) names x new ∙ ap (λ ns. ns ++ x ∷ []) e ∙ ap (λ y. map (λ q. q.name) ps ++ y ∷ []) (sym is) ∙ sym (map-append (λ q. q.name) ps (p ∷ []))

-- the height of parameters and one more
pub params_height_push : (ps : List Param) (p : Param) → params_height (params_of_list (ps ++ p ∷ [])) ≡ max (params_height (params_of_list ps)) (maybe_height (maybe_of p.default) + 1)
params_height_push [] p = omega arith
params_height_push (q ∷ ps) p =
    ap (λ h. max (1 + maybe_height (maybe_of q.default)) h) (params_height_push ps p) ∙ sym (max_three (1 + maybe_height (maybe_of q.default)) (params_height (params_of_list ps)) (maybe_height (maybe_of p.default) + 1))

pub parameters_are : (ps more : List Param) (names keys : List (List ℕ)) (h high : ℕ) (p : Param) (x : List ℕ) (own : ℕ) (b : Bool) → ParametersAre ps names h → b ≡ not (list_any (pointwise nat_eq x) names) → b ≡ true → p.name ≡ x → own ≡ maybe_height (maybe_of p.default)
    → more ≡ ps ++ p ∷ [] → keys ≡ insert_key (pointwise nat_eq) names x → high ≡ max h (own + 1) → ParametersAre more keys high
parameters_are ps more names keys h high p x own b are added new same is items inserts highest = record {
  named = inserts ∙ inserted x ps names are.named (sym added ∙ new) p same ∙ ap (map (λ q. q.name)) (sym items);
  high = highest ∙ ap (λ k. max k (own + 1)) are.high ∙ ap (λ k. max (params_height (params_of_list ps)) (k + 1)) is ∙ sym (params_height_push ps p) ∙ ap (λ qs. params_height (params_of_list qs)) (sym items);
}

-- what the set said of a name
pub said_new : (x y : List ℕ) (ps qs : List Param) (names : List (List ℕ)) (b : Bool) → names ≡ map (λ p. p.name) ps → ps ≡ qs → y ≡ x → b ≡ not (list_any (pointwise nat_eq y) names) → is_new_name x (params_of_list qs) ≡ b
said_new x y ps qs names b named is same added =
    sym (added ∙ ap (λ ns. not (list_any (pointwise nat_eq y) ns)) named ∙ new_name y ps ∙ ap (λ z. is_new_name z (params_of_list ps)) same ∙ ap (λ rs. is_new_name x (params_of_list rs)) is)
