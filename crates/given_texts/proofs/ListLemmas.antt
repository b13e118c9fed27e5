-- Rows and their productions, one after another.
use Rattle.std.proofs.Common.{◌≡◌, ℕ, ◌+◌, ◌<◌, inl, inr, List, [], ◌∷◌, ◌++◌, length, get_or, take, sym, subst}
use Rattle.std.specs.Prelude.{Contains}
use Rattle.std.proofs.lemmas.List.{take_more}
use Rattle.std.proofs.lemmas.List.Elements.{Contains-append_left, Contains-append_right, Contains-append_cases}
use Rattle.string_functions.proofs.Members.{Contains-nil, Contains-cons_cases, Contains-head}
use Rattle.cfg_grammar.specs.declared.production.Production.{Production}
use Rattle.given_texts.specs.Rows.{Row, IsFor, AreFor}

pub no_rows : AreFor [] []
no_rows = record { each = λ p h. Contains-nil p h; all = λ row h. Contains-nil row h }

only : {X : Type 0} (y x : X) → Contains (y ∷ []) x → y ≡ x
only y x h =
    elim (Contains-cons_cases y [] x h) [
      | inl e ↦ e
      | inr none ↦ Contains-nil x none
    ]

pub one_more : (rows : List Row) (ps : List Production) (row : Row) (p : Production) → AreFor rows ps → IsFor row p → AreFor (rows ++ row ∷ []) (ps ++ p ∷ [])
one_more rows ps row p are is = record {
  each = λ q h. elim (Contains-append_cases ps (p ∷ []) q h) [
    | inl old ↦ let r = are.each q old in (r.0, Contains-append_left rows (row ∷ []) r.0 r.1, r.2)
    | inr new ↦ (row, Contains-append_right rows (row ∷ []) row (Contains-head row []), subst (λ z. IsFor row z) (only p q new) is)
  ];
  all = λ r h. elim (Contains-append_cases rows (row ∷ []) r h) [
    | inl old ↦ let q = are.all r old in (q.0, Contains-append_left ps (p ∷ []) q.0 q.1, q.2)
    | inr new ↦ (p, Contains-append_right ps (p ∷ []) p (Contains-head p []), subst (λ z. IsFor z p) (only row r new) is)
  ];
}

pub next_row : (rows : List Row) (i : ℕ) (d : Row) (ps new : List Production) (p : Production) → i < length rows → AreFor (take i rows) ps → IsFor (get_or rows i d) p → new ≡ ps ++ p ∷ [] → AreFor (take (i + 1) rows) new
next_row rows i d ps new p h are is e =
    subst (λ z. AreFor z new) (sym (take_more rows i d h)) (subst (λ z. AreFor (take i rows ++ get_or rows i d ∷ []) z) (sym e) (one_more (take i rows) ps (get_or rows i d) p are is))

pub whole : (rows : List Row) (i : ℕ) (ps : List Production) → take i rows ≡ rows → AreFor (take i rows) ps → AreFor rows ps
whole rows i ps e h = subst (λ z. AreFor z ps) e h
