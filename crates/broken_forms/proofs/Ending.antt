-- No loose piece goes on where another ends, and loose pages are coarse ones.
use Rattle.std.proofs.Common.{◌≡◌, ◌⊎◌, inl, inr, ℕ, ◌<◌, Bool, true, false, List, [], ◌∷◌, ◌++◌, refl, sym, ◌∙◌, ap, subst, append-nil, arith}
use Rattle.std.specs.Prelude.{◌==◌, ◌&&◌, ◌||◌, not}
use Rattle.std.specs.Char.{encode_utf8}
use Rattle.std.specs.List.{list_all}
use Rattle.std.specs.Str.{encode_utf8_all}
use Rattle.std.proofs.lemmas.Bool.Decides.{nat_tests}
use Rattle.std.proofs.lemmas.Str.{encode_same, encode_ascii}
use Rattle.dtd_model.specs.Table.{Table}
use Rattle.derivatives.specs.Expressions.{Matches, star, is_over}
use Rattle.page_model.specs.Broken.{IsLoose, AreLoose, loose_bytes, loose_then, Broken}
use Rattle.page_model.specs.PageTokens.{IsLawful, piece_bytes}
use Rattle.page_model.specs.Parts.{is_plain}
use Rattle.page_model.specs.Pieces.{Piece, mark, declaration, doctype, start_tag, empty_tag, end_tag, leaf, after}
use Rattle.page_model.specs.Places.{Place, at_beginning}
use Rattle.page_model.proofs.Encoding.{some_bytes}
use Rattle.page_model.proofs.Once.{one_of_bytes}
use Rattle.page_forms.proofs.Spelling.{joins_all}
use Rattle.coarse_forms.specs.CoarseForms.{coarse_form}
use Rattle.coarse_forms.specs.Laws.{OfBytes}
use Rattle.coarse_forms.proofs.Scanning.{coarse_ends_once}
use Rattle.coarse_forms.proofs.Within.{stars_join}
use Rattle.broken_forms.specs.Laws.{LooseEndOnce, CoarseAreBroken}
use Rattle.broken_forms.proofs.Bytes.{bytes_apart}
use Rattle.broken_forms.proofs.Pieces.{bare, IsCoarse, IsCharacter, IsOfKind, coarse, single, kind, all_coarse, same_bytes}

-- a character that is no `<` and no `&` does not begin as a coarse piece does that begins so
other_head : (c b : ℕ) (u v : List ℕ) → is_plain c ≡ true → (b ≡ 60) ⊎ (b ≡ 38) → encode_utf8_all (c ∷ []) ++ u ≡ b ∷ v → ⊥
other_head c b u v h o e = at o
  where
    same : b < 128 → c ≡ b
    same l =
        (encode_same c b u v (ap (λ (z : List ℕ). z ++ u) (sym (append-nil (encode_utf8 c))) ∙ e ∙ sym (ap (λ (z : List ℕ). z ++ v) (encode_ascii b l)))).0

    not_less : (c : ℕ) → is_plain c ≡ true → c ≡ 60 → ⊥
    not_less c h e = absurd (let z : is_plain 60 ≡ true = subst (λ (x : ℕ). is_plain x ≡ true) e h in no z)
      where
        no : false ≡ true → ⊥
        no e = cc

    not_and : (c : ℕ) → is_plain c ≡ true → c ≡ 38 → ⊥
    not_and c h e = absurd (let z : is_plain 38 ≡ true = subst (λ (x : ℕ). is_plain x ≡ true) e h in no z)
      where
        no : false ≡ true → ⊥
        no e = cc

    at : (b ≡ 60) ⊎ (b ≡ 38) → ⊥
    at (inl q) = not_less c h (same (omega (arith, q)) ∙ q)
    at (inr q) = not_and c h (same (omega (arith, q)) ∙ q)

abbrev EndsThere : Place → Piece → Piece → List ℕ → Type 0
EndsThere place p q more = (more ≡ []) × (after place p ≡ after place q)

by_kinds : (table : Table) (place : Place) (p q : Piece) (more : List ℕ) → IsOfKind table place p → IsOfKind table place q → loose_bytes p ++ more ≡ loose_bytes q → EndsThere place p q more
by_kinds table place p q more (coarse c) (coarse d) e =
    (coarse_ends_once (loose_bytes p) more c.matches (subst (λ (z : List ℕ). Matches coarse_form z) (sym e) d.matches), c.leads ∙ sym d.leads)
by_kinds table place p q more (coarse c) (single d l) e =
    absurd (other_head d.code c.first [] (c.rest ++ more) d.plain c.head (append-nil (encode_utf8_all (d.code ∷ [])) ∙ d.is ∙ sym e ∙ sym (ap (λ (z : List ℕ). z ++ more) c.is)))
by_kinds table place p q more (single c l) (coarse d) e =
    absurd (other_head c.code d.first more d.rest c.plain d.head (ap (λ (z : List ℕ). z ++ more) c.is ∙ e ∙ sym d.is))
by_kinds table place p q more (single c l) (single d m) e =
    let o = one_of_bytes place p q more [] l.is m.is (ap (λ (z : List ℕ). z ++ more) (sym (same_bytes table place p l)) ∙ e ∙ same_bytes table place q m ∙ sym (append-nil (piece_bytes q))) in
    (o.rest, ap (after place) o.piece)

pub loose_end_once : LooseEndOnce
loose_end_once table place p q more l m b e =
    by_kinds table place p q more (kind table place p l (bytes_apart (loose_bytes p) more (subst OfBytes (sym e) b)).0) (kind table place q m b) e

pub loose_have_bytes : (table : Table) (place : Place) (p : Piece) → IsLoose table place p → OfBytes (loose_bytes p) → loose_bytes p ≡ [] → ⊥
loose_have_bytes table place p l b e = at (kind table place p l b)
  where
    at : IsOfKind table place p → ⊥
    at (coarse c) = some c.first c.rest (c.is ∙ e)
      where
        some : (b : ℕ) (w : List ℕ) → b ∷ w ≡ [] → ⊥
        some b w e = cc
    at (single c l) = some_bytes c.code [] (c.is ∙ e)

coarse_then : (table : Table) (place : Place) (ps : List Piece) → AreLoose table place ps → OfBytes (loose_then ps) → Matches (star coarse_form) (loose_then ps)
coarse_then table place [] l b = is_over
coarse_then table place (p ∷ ps) l b =
    let o = bytes_apart (loose_bytes p) (loose_then ps) b in
    stars_join (all_coarse (kind table place p l.0 o.0)) (joins_all (loose_bytes p) (loose_then ps)) (coarse_then table (after place p) ps l.1 o.1)

pub coarse_are_broken : CoarseAreBroken
coarse_are_broken table page b none ps l e =
    none (subst (λ (z : List ℕ). Matches (star coarse_form) z) e (coarse_then table at_beginning ps l (subst OfBytes (sym e) b)))
