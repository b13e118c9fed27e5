-- What the readers tell.
use Rattle.std.proofs.Common.{◌≡◌, ◌⊎◌, inl, inr, ℕ, ◌<◌, List, [], ◌∷◌, ◌++◌, refl, sym, ◌∙◌, ap, subst}
use Rattle.std.specs.Prelude.{◌↔◌, All, nat_lt}
use Rattle.std.specs.List.{list_all}
use Rattle.std.proofs.lemmas.Bool.{and_from, lt-ltb}
use Rattle.std.proofs.lemmas.List.Elements.{All-head, All-tail}
use Rattle.text_base.specs.declared.page_token.PageToken.{PageToken}
use Rattle.dtd_model.specs.Table.{Table}
use Rattle.derivatives.specs.Expressions.{Matches, star, is_over, is_more}
use Rattle.derivatives.specs.declared.arena.Arena.{Arena}
use Rattle.page_model.specs.Broken.{AreLoose, loose_bytes, loose_then, Broken}
use Rattle.page_model.specs.Pieces.{Piece, after}
use Rattle.page_model.specs.Places.{Place, at_beginning}
use Rattle.piece_steps.specs.Languages.{AllLawful, spelled_then}
use Rattle.page_forms.proofs.Spelling.{joins_is, joins_all}
use Rattle.coarse_forms.specs.CoarseForms.{coarse_form}
use Rattle.coarse_forms.specs.Languages.{coarse_language, coarse_forms}
use Rattle.coarse_forms.specs.Laws.{OfBytes}
use Rattle.coarse_forms.proofs.Scanning.{coarse_ends_once, coarse_has_bytes}
use Rattle.broken_forms.specs.LooseForms.{loose_forms}
use Rattle.broken_forms.specs.Laws.{loose_language}
use Rattle.broken_forms.proofs.Bytes.{bytes_apart}
use Rattle.broken_forms.proofs.Ending.{loose_end_once, loose_have_bytes}
use Rattle.broken_forms.proofs.Pieces.{loose_pieces_are_spelled}
use Rattle.way_reader.specs.Cuts.{IsCut, Tells}
use Rattle.way_reader.specs.declared.way.Way.{Way}
use Rattle.way_reader.specs.Laws.{IsOfPiece, HavePieces, HaveTexts}
use Rattle.way_reader.proofs.Cuts.{tells_cuts}
use Rattle.broken_readers.specs.Laws.{IsCoarselyBroken, LooseTellsBroken, CoarseTellsBroken}

pub of_bytes : (page : List ℕ) → All (λ byte. byte < 256) page → OfBytes page
of_bytes [] h = refl
of_bytes (b ∷ page) h =
    and_from (nat_lt b 256) (list_all (λ b. nat_lt b 256) page) (lt-ltb b 256 (All-head (λ byte. byte < 256) b page h)) (of_bytes page (All-tail (λ byte. byte < 256) b page h))

told_as : {P Q : Type 0} {tokens : List PageToken} → P ↔ Q → Tells P tokens → Tells Q tokens
told_as e t = (t.0, t.1, (λ q. t.2.0 (e.1 q), λ h. e.0 (t.2.1 h)))

-- Loose pieces.

module _ (table : Table) where
  loose_pieces : (a : Arena) (starts : Place → List Way) → HaveTexts (loose_forms table) a starts → HavePieces (loose_language table) a starts
  loose_pieces a starts f = record {
    texts = λ place w tokens to. (
      λ k. (loose_pieces_are_spelled table place w tokens to).0 ((f place w tokens to).0 k),
      λ k. (f place w tokens to).1 ((loose_pieces_are_spelled table place w tokens to).1 k),
    );
    filled = λ place p l e. loose_have_bytes table place p l.0 l.1 e;
    alone = λ place p q v l m e. let o = loose_end_once table place p q v l.0 m.0 m.1 e in (o.0, refl, o.1);
  }

  from_lawful : (place : Place) (ps : List Piece) → AllLawful (loose_language table) place ps → AreLoose table place ps
  from_lawful place [] h = tt
  from_lawful place (p ∷ ps) h = (h.0.0, from_lawful (after place p) ps h.1)

  to_lawful : (place : Place) (ps : List Piece) → AreLoose table place ps → OfBytes (loose_then ps) → AllLawful (loose_language table) place ps
  to_lawful place [] h b = tt
  to_lawful place (p ∷ ps) h b = let o = bytes_apart (loose_bytes p) (loose_then ps) b in ((h.0, o.0), to_lawful (after place p) ps h.1 o.1)

  bytes_same : (ps : List Piece) → spelled_then (loose_language table) ps [] ≡ loose_then ps
  bytes_same [] = refl
  bytes_same (p ∷ ps) = ap (λ (w : List ℕ). loose_bytes p ++ w) (bytes_same ps)

  broken_uncut : (page : List ℕ) → OfBytes page → (IsCut (loose_language table) page → ⊥) ↔ Broken table page
  broken_uncut page b = (
    λ none ps h e. none (ps, to_lawful at_beginning ps h (subst OfBytes (sym e) b), bytes_same ps ∙ e),
    λ broken c. broken c.0 (from_lawful at_beginning c.0 c.1) (sym (bytes_same c.0) ∙ c.2),
  )

pub loose_tells_broken : LooseTellsBroken
loose_tells_broken table a starts f page b =
    told_as (broken_uncut table page (of_bytes page b)) (tells_cuts (loose_language table) a starts (loose_pieces table a starts f) (λ q. refl) page b)

-- Coarse pieces.

coarse_pieces : (a : Arena) (starts : Place → List Way) → HaveTexts coarse_forms a starts → HavePieces coarse_language a starts
coarse_pieces a starts f = record {
  texts = λ place w tokens to. (λ k. into place w tokens to ((f place w tokens to).0 k), λ k. (f place w tokens to).1 (from place w tokens to k));
  filled = λ place w d e. coarse_has_bytes (subst (λ (z : List ℕ). Matches coarse_form z) e d);
  alone = λ place u w v d m e. (coarse_ends_once u v d (subst (λ (z : List ℕ). Matches coarse_form z) (sym e) m), refl, refl);
}
  where
    into : (place : Place) (w : List ℕ) (tokens : List PageToken) (to : Place) → (Matches coarse_form w × ([] ≡ tokens) × (at_beginning ≡ to)) ⊎ ⊥ → IsOfPiece coarse_language place w tokens to
    into place w tokens to (inl k) = (w, k.0, refl, k.1, k.2)
    into place w tokens to (inr k) = absurd k

    from : (place : Place) (w : List ℕ) (tokens : List PageToken) (to : Place) → IsOfPiece coarse_language place w tokens to → (Matches coarse_form w × ([] ≡ tokens) × (at_beginning ≡ to)) ⊎ ⊥
    from place w tokens to q = inl (subst (λ (z : List ℕ). Matches coarse_form z) q.2 q.1, q.3, q.4)

cut_matches : (place : Place) (ws : List (List ℕ)) → AllLawful coarse_language place ws → Matches (star coarse_form) (spelled_then coarse_language ws [])
cut_matches place [] h = is_over
cut_matches place (w ∷ ws) h = is_more (joins_all w (spelled_then coarse_language ws [])) h.0 (cut_matches at_beginning ws h.1)

record AreCut (place : Place) (page : List ℕ) : Type 0 where
  pieces : List (List ℕ)
  lawful : AllLawful coarse_language place pieces
  spelled : spelled_then coarse_language pieces [] ≡ page

matches_cut : (place : Place) {page : List ℕ} → Matches (star coarse_form) page → AreCut place page
matches_cut place is_over = record { pieces = []; lawful = tt; spelled = refl }
matches_cut place (is_more {u = u} j d e) =
    let c = matches_cut at_beginning e in
    record { pieces = u ∷ c.pieces; lawful = (d, c.lawful); spelled = ap (λ (w : List ℕ). u ++ w) c.spelled ∙ joins_is j }

coarse_uncut : (page : List ℕ) → (IsCut coarse_language page → ⊥) ↔ IsCoarselyBroken page
coarse_uncut page = (
  λ none d. let c = matches_cut at_beginning d in none (c.pieces, c.lawful, c.spelled),
  λ broken c. broken (subst (λ (z : List ℕ). Matches (star coarse_form) z) c.2 (cut_matches at_beginning c.0 c.1)),
)

pub coarse_tells_broken : CoarseTellsBroken
coarse_tells_broken a starts f page b = told_as (coarse_uncut page) (tells_cuts coarse_language a starts (coarse_pieces a starts f) (λ q. refl) page b)
