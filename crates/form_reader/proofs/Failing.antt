-- No form is live exactly where no piece can come of the text.
use Rattle.std.proofs.Common.{◌≡◌, ◌⊎◌, inl, inr, ℕ, Bool, true, false, List, [], ◌∷◌, ◌++◌, refl, sym, ◌∙◌, ap, subst}
use Rattle.text_base.specs.declared.page_token.PageToken.{PageToken}
use Rattle.dtd_model.specs.Table.{Table}
use Rattle.derivatives.specs.Expressions.{Expr, nothing, Matches}
use Rattle.derivatives.specs.Derivatives as derivatives
use Rattle.derivatives.specs.Derivatives.{is_full, Normal, lives}
use Rattle.derivatives.proofs.Living.{stays_normal, some_text}
use Rattle.page_model.specs.PageTokens.{IsLawful, piece_bytes, piece_tokens}
use Rattle.page_model.specs.Pieces.{Piece, after}
use Rattle.page_model.specs.Places.{Place}
use Rattle.page_forms.specs.Forms.{Form, forms, IsOfOne}
use Rattle.page_forms.specs.Laws.{AreNormal}
use Rattle.page_forms.proofs.Normality.{forms_are_normal, something_full}
use Rattle.page_forms.proofs.PageForms.{pieces_are_spelled}
use Rattle.form_reader.specs.FormReader.{kept, live_behind, live_all}
use Rattle.form_reader.specs.Laws.{IsLawfulTable, FailsAtOnce}
use Rattle.form_reader.proofs.Reading.{live_shown, live_made}

all_shown : (bs : List ℕ) (fs : List Form) (v : List ℕ) (t : List PageToken) (p : Place) → IsOfOne (live_all bs fs) v t p → IsOfOne fs (bs ++ v) t p
all_shown [] fs v t p k = k
all_shown (b ∷ bs) fs v t p k = live_shown b fs (bs ++ v) t p (all_shown bs (live_behind b fs) v t p k)

all_made : (bs : List ℕ) (fs : List Form) (v : List ℕ) (t : List PageToken) (p : Place) → IsOfOne fs (bs ++ v) t p → IsOfOne (live_all bs fs) v t p
all_made [] fs v t p k = k
all_made (b ∷ bs) fs v t p k = all_made bs (live_behind b fs) v t p (live_made b fs (bs ++ v) t p k)

-- no part of them is nothing
abbrev AreFull : List Form → Type 0
AreFull [] = Unit {0}
AreFull (f ∷ fs) = (is_full f.expression ≡ true) × AreFull fs

full_normal : (fs : List Form) → AreFull fs → AreNormal fs
full_normal [] a = tt
full_normal (f ∷ fs) a = (lives {e = f.expression} a.0, full_normal fs a.1)

full_behind : (b : ℕ) (fs : List Form) → AreNormal fs → AreFull (live_behind b fs)
full_behind b [] n = tt
full_behind b (f ∷ fs) n = at (derivatives.after b f.expression) (stays_normal f.expression n.0 (b ∷ [])) (full_behind b fs n.1)
  where
    at : (e : Expr) → Normal e → AreFull (live_behind b fs) → AreFull (kept e f (live_behind b fs))
    at nothing m a = a
    at e m a = (something_full m refl, a)

full_all : (bs : List ℕ) (fs : List Form) → AreFull fs → AreFull (live_all bs fs)
full_all [] fs a = a
full_all (b ∷ bs) fs a = full_all bs (live_behind b fs) (full_behind b fs (full_normal fs a))

-- a form that is live is one of which some text is left
some_left : (g : Form) (gs : List Form) → AreFull (g ∷ gs) → (w : List ℕ) × IsOfOne (g ∷ gs) w g.tokens g.leads_to
some_left g gs a = let s = some_text g.expression a.0 in (s.0, inl (s.1, refl, refl))

pub fails_at_once : FailsAtOnce
fails_at_once table h place b bs = (λ e p more l i. no_more e p more l i, λ n. at (live_all (b ∷ bs) (forms table place)) refl full n)
  where
    full : AreFull (live_all (b ∷ bs) (forms table place))
    full = full_all bs (live_behind b (forms table place)) (full_behind b (forms table place) (forms_are_normal table place))

    no_more : live_all (b ∷ bs) (forms table place) ≡ [] → (p : Piece) (more : List ℕ) → IsLawful table place p → piece_bytes p ≡ (b ∷ bs) ++ more → ⊥
    no_more e p more l i =
        let k = (pieces_are_spelled table h place ((b ∷ bs) ++ more) (piece_tokens table p) (after place p)).1 (p, l, i, refl, refl) in
        subst (λ (z : List Form). IsOfOne z more (piece_tokens table p) (after place p)) e (all_made (b ∷ bs) (forms table place) more (piece_tokens table p) (after place p) k)

    at : (gs : List Form) → live_all (b ∷ bs) (forms table place) ≡ gs → AreFull gs → ((p : Piece) (more : List ℕ) → IsLawful table place p → piece_bytes p ≡ (b ∷ bs) ++ more → ⊥) → gs ≡ []
    at [] e a n = refl
    at (g ∷ gs) e a n =
        let s = some_left g gs a in
        let k = all_shown (b ∷ bs) (forms table place) s.0 g.tokens g.leads_to (subst (λ (z : List Form). IsOfOne z s.0 g.tokens g.leads_to) (sym e) s.1) in
        let q = (pieces_are_spelled table h place ((b ∷ bs) ++ s.0) g.tokens g.leads_to).0 k in
        absurd (n q.0 s.0 q.1 q.2)
