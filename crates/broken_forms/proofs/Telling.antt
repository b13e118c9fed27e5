-- Expressions that tell languages of bytes, part by part.
use Rattle.std.proofs.Common.{◌≡◌, ◌⊎◌, inl, inr, ℕ, Bool, true, List, [], ◌∷◌, ◌++◌, refl, sym, ◌∙◌, ap, subst}
use Rattle.std.specs.Prelude.{nat_lt}
use Rattle.std.specs.List.{list_all}
use Rattle.derivatives.specs.Expressions.{Expr, range, chain, either, star, Matches, is_chain, is_left, is_right, is_over, is_more}
use Rattle.derivatives.specs.Derivatives.{chain_of, either_of}
use Rattle.derivatives.proofs.NormalForms.{chain_shown, chain_made, either_shown, either_made}
use Rattle.page_model.specs.Parts.{is_quote}
use Rattle.page_forms.specs.Quotes.{quoted}
use Rattle.page_forms.specs.Words.{word}
use Rattle.page_forms.proofs.QuotedForms.{either_quote}
use Rattle.page_forms.proofs.Spelling.{Spells, Chained, Runs, over, further, joins_is, joins_all, put_together, word_shown, word_made, ascii_bytes}

-- the expression matches exactly the texts of the language
pub record Tells (e : Expr) (L : List ℕ → Type 0) : Type 0 where
  pub shown : (w : List ℕ) → Matches e w → L w
  pub made : (w : List ℕ) → L w → Matches e w

pub tells_as : {e : Expr} {A B : List ℕ → Type 0} → Tells e A → ((w : List ℕ) → A w → B w) → ((w : List ℕ) → B w → A w) → Tells e B
tells_as s f g = record { shown = λ w d. f w (s.shown w d); made = λ w b. s.made w (g w b) }

pub tells_chain : {x y : Expr} {A B : List ℕ → Type 0} → Tells x A → Tells y B → Tells (chain_of x y) (Chained A B)
tells_chain {x} {y} {A} {B} s t = record { shown = λ w d. shown_at (chain_shown x y d); made = λ w c. chain_made x y (made_at w c) }
  where
    shown_at : {w : List ℕ} → Matches (chain x y) w → Chained A B w
    shown_at (is_chain {u = u} {v = v} j d e) = record { first = u; second = v; begins = s.shown u d; goes_on = t.shown v e; is = joins_is j }

    made_at : (w : List ℕ) → Chained A B w → Matches (chain x y) w
    made_at w c = subst (λ (z : List ℕ). Matches (chain x y) z) c.is (is_chain (joins_all c.first c.second) (s.made c.first c.begins) (t.made c.second c.goes_on))

pub tells_either : {x y : Expr} {A B : List ℕ → Type 0} → Tells x A → Tells y B → Tells (either_of x y) (λ w. A w ⊎ B w)
tells_either {x} {y} {A} {B} s t = record { shown = λ w d. shown_at (either_shown x y d); made = λ w c. either_made x y (made_at w c) }
  where
    shown_at : {w : List ℕ} → Matches (either x y) w → A w ⊎ B w
    shown_at (is_left {w = w} d) = inl (s.shown w d)
    shown_at (is_right {w = w} d) = inr (t.shown w d)

    made_at : (w : List ℕ) → A w ⊎ B w → Matches (either x y) w
    made_at w (inl a) = is_left (s.made w a)
    made_at w (inr b) = is_right (t.made w b)

pub tells_star : {x : Expr} {A : List ℕ → Type 0} → Tells x A → Tells (star x) (Runs A)
tells_star {x} {A} s = record { shown = λ w d. shown_at d; made = λ w r. made_at r }
  where
    shown_at : {w : List ℕ} → Matches (star x) w → Runs A w
    shown_at is_over = over
    shown_at (is_more {u = u} j d e) = subst (Runs A) (joins_is j) (further (s.shown u d) (shown_at e))

    made_at : {w : List ℕ} → Runs A w → Matches (star x) w
    made_at over = is_over
    made_at (further {first = first} {more = more} a r) = is_more (joins_all first more) (s.made first a) (made_at r)

pub tells_word : (u : List ℕ) → Tells (word u) (λ w. u ≡ w)
tells_word u = record { shown = λ w d. sym (word_shown u d); made = λ w e. subst (λ (z : List ℕ). Matches (word u) z) e (word_made u) }

-- what spells characters of ASCII tells their bytes
pub tells_spelled : {e : Expr} {L : List ℕ → Type 0} → Spells e L → ((cs : List ℕ) → L cs → list_all (λ c. nat_lt c 128) cs ≡ true) → Tells e L
tells_spelled {e} {L} s low = record {
  shown = λ w d. let p = s.shown w d in subst L (sym (ascii_bytes p.characters (low p.characters p.are)) ∙ p.is) p.are;
  made = λ w l. subst (λ (z : List ℕ). Matches e z) (ascii_bytes w (low w l)) (s.made w l);
}

-- a text in quotes, by what stands in them
pub record Quoted (L : ℕ → List ℕ → Type 0) (w : List ℕ) : Type 0 where
  pub quote : ℕ
  pub text : List ℕ
  pub quoted : is_quote quote ≡ true
  pub between : L quote text
  pub is : quote ∷ (text ++ quote ∷ []) ≡ w

abbrev In : (ℕ → List ℕ → Type 0) → ℕ → List ℕ → Type 0
In L q = Chained (λ w. q ∷ [] ≡ w) (Chained (L q) (λ w. q ∷ [] ≡ w))

pub tells_quoted : (between : ℕ → Expr) (L : ℕ → List ℕ → Type 0) → ((q : ℕ) → is_quote q ≡ true → Tells (between q) (L q)) → Tells (quoted between) (Quoted L)
tells_quoted between L s =
    tells_as
    (tells_either (tells_chain (tells_word (34 ∷ [])) (tells_chain (s 34 refl) (tells_word (34 ∷ []))))
    (tells_chain (tells_word (39 ∷ [])) (tells_chain (s 39 refl) (tells_word (39 ∷ [])))))
    into from
  where
    closed : (q : ℕ) → is_quote q ≡ true → (w : List ℕ) → In L q w → Quoted L w
    closed q h w k = let c = k.goes_on in record { quote = q; text = c.first; quoted = h; between = c.begins; is = put_together k.begins (put_together refl c.goes_on c.is) k.is }

    into : (w : List ℕ) → In L 34 w ⊎ In L 39 w → Quoted L w
    into w (inl k) = closed 34 refl w k
    into w (inr k) = closed 39 refl w k

    opened : (q r : ℕ) (text : List ℕ) → q ≡ r → L q text → In L r (q ∷ (text ++ q ∷ []))
    opened q r text e l =
        subst (λ (z : ℕ). In L z (q ∷ (text ++ q ∷ []))) e
        (record { first = q ∷ []; second = text ++ q ∷ []; begins = refl; goes_on = record { first = text; second = q ∷ []; begins = l; goes_on = refl; is = refl }; is = refl })

    by : (q : ℕ) (text : List ℕ) → L q text → (q ≡ 34) ⊎ (q ≡ 39) → In L 34 (q ∷ (text ++ q ∷ [])) ⊎ In L 39 (q ∷ (text ++ q ∷ []))
    by q text l (inl e) = inl (opened q 34 text e l)
    by q text l (inr e) = inr (opened q 39 text e l)

    from : (w : List ℕ) → Quoted L w → In L 34 w ⊎ In L 39 w
    from w k = subst (λ (z : List ℕ). In L 34 z ⊎ In L 39 z) k.is (by k.quote k.text k.between (either_quote k.quote k.quoted))
