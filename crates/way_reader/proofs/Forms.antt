-- Ways that are the forms as a whole have their texts.
use Rattle.std.proofs.Common.{◌≡◌, inl, inr, ℕ, List, [], ◌∷◌, refl, sym, ◌∙◌, ap, subst}
use Rattle.text_base.specs.declared.page_token.PageToken.{PageToken}
use Rattle.derivatives.specs.Expressions.{Expr, Joins, at_once, on, Matches}
use Rattle.derivatives.specs.Standing.{expr_at}
use Rattle.derivatives.specs.declared.arena.Arena.{Arena}
use Rattle.derivatives.proofs.NormalForms.{ends_there}
use Rattle.page_model.specs.Places.{Place}
use Rattle.page_forms.specs.Forms.{Form, IsOfOne}
use Rattle.partial_derivatives.specs.declared.part.Part.{Part}
use Rattle.partial_derivatives.specs.declared.part.Part.TheVariants.{Whole}
use Rattle.partial_derivatives.specs.Parts.{InTurn, all_over, goes_on}
use Rattle.way_reader.specs.declared.way.Way.{Way}
use Rattle.way_reader.specs.Laws.{IsOfSome, AreWhole, WholeFormsHaveTexts}

nothing_behind : {u w : List ℕ} → Joins u [] w → u ≡ w
nothing_behind at_once = refl
nothing_behind (on {b = b} j) = ap (λ (v : List ℕ). b ∷ v) (nothing_behind j)

alone_shown : (a : Arena) (n : ℕ) (w : List ℕ) → InTurn a (Whole n ∷ []) w → Matches (expr_at a n) w
alone_shown a n w (goes_on j d all_over) = subst (λ (v : List ℕ). Matches (expr_at a n) v) (nothing_behind j) d

alone_made : (a : Arena) (n : ℕ) (w : List ℕ) → Matches (expr_at a n) w → InTurn a (Whole n ∷ []) w
alone_made a n w d = goes_on (ends_there w) d all_over

shown : (a : Arena) (ways : List Way) (fs : List Form) → AreWhole a ways fs → (w : List ℕ) (t : List PageToken) (p : Place) → IsOfSome a ways w t p → IsOfOne fs w t p
shown a [] [] h w t p k = k
shown a [] (f ∷ fs) h w t p k = absurd h
shown a (way ∷ ways) [] h w t p k = absurd h
shown a (way ∷ ways) (f ∷ fs) h w t p (inl m) = inl (
  subst (λ (e : Expr). Matches e w) h.0.is (alone_shown a h.0.number w (subst (λ (ps : List Part). InTurn a ps w) h.0.parts m.0)),
  sym h.0.tokens ∙ m.1,
  sym h.0.leads ∙ m.2,
)
shown a (way ∷ ways) (f ∷ fs) h w t p (inr k) = inr (shown a ways fs h.1 w t p k)

made : (a : Arena) (ways : List Way) (fs : List Form) → AreWhole a ways fs → (w : List ℕ) (t : List PageToken) (p : Place) → IsOfOne fs w t p → IsOfSome a ways w t p
made a [] [] h w t p k = k
made a [] (f ∷ fs) h w t p k = absurd h
made a (way ∷ ways) [] h w t p k = absurd h
made a (way ∷ ways) (f ∷ fs) h w t p (inl m) = inl (
  subst (λ (ps : List Part). InTurn a ps w) (sym h.0.parts) (alone_made a h.0.number w (subst (λ (e : Expr). Matches e w) (sym h.0.is) m.0)),
  h.0.tokens ∙ m.1,
  h.0.leads ∙ m.2,
)
made a (way ∷ ways) (f ∷ fs) h w t p (inr k) = inr (made a ways fs h.1 w t p k)

pub whole_forms : WholeFormsHaveTexts
whole_forms fs a starts h place w t p = (
  λ k. shown a (starts place) (fs place) (h place) w t p k,
  λ k. made a (starts place) (fs place) (h place) w t p k,
)
