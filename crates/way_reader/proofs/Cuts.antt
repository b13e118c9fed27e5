-- Where no piece has tokens, the reader puts out one bad token over a page that is not pieces in turn, and nothing over another.
use Rattle.std.proofs.Common.{◌≡◌, ℕ, ◌<◌, true, false, List, [], ◌∷◌, ◌++◌, Some, refl, sym, ◌∙◌, ap}
use Rattle.std.specs.Prelude.{All}
use Rattle.text_base.specs.declared.page_token.PageToken.{PageToken}
use Rattle.derivatives.specs.declared.arena.Arena.{Arena}
use Rattle.page_model.specs.Places.{Place, at_beginning}
use Rattle.piece_steps.specs.Languages.{Language, behind_all, spelled_then, tokens_then, NoPiece, left_tokens, HasTokens}
use Rattle.piece_steps.specs.Readers.{all_tokens}
use Rattle.piece_steps.proofs.Whole.{tokens_are_read}
use Rattle.way_reader.specs.Cuts.{IsCut, told, Tells, way_tokens}
use Rattle.way_reader.specs.declared.way.Way.{Way}
use Rattle.way_reader.specs.Laws.{HavePieces}
use Rattle.way_reader.specs.Ways.{way_reader}
use Rattle.way_reader.proofs.Reading.{pieces_are_read}
use Rattle.way_reader.proofs.Same.{puts_the_same}

module _ {Q : Type 0} (l : Language Place Q PageToken) (a : Arena) (starts : Place → List Way) (h : HavePieces l a starts) (silent : (q : Q) → l.tokens q ≡ []) where
  untold : (qs : List Q) (more : List PageToken) → tokens_then l qs more ≡ more
  untold [] more = refl
  untold (q ∷ qs) more = ap (λ (ts : List PageToken). ts ++ tokens_then l qs more) (silent q) ∙ untold qs more

  -- what the reader of pieces puts out
  abbrev put : List ℕ → List PageToken
  put page = all_tokens (way_reader a starts) (Some ((way_reader a starts).first at_beginning)) page

  none_at_end : (place : Place) → NoPiece l place []
  none_at_end place q rest lawful e = h.filled place q lawful (nothing_before (l.spell q) rest e)
    where
      nothing_before : (u v : List ℕ) → u ++ v ≡ [] → u ≡ []
      nothing_before [] v e = refl
      nothing_before (b ∷ u) v e = cc

  cut_puts_nothing : (page : List ℕ) → IsCut l page → put page ≡ []
  cut_puts_nothing page c =
      let t : HasTokens l (way_reader a starts).bad at_beginning page [] = record { pieces = c.0; rest = []; lawful = c.1; spelled = c.2; none = λ q rest m e. none_at_end (behind_all l at_beginning c.0) q rest m e; are = untold c.0 [] } in
      sym ((tokens_are_read l (way_reader a starts) (pieces_are_read l a starts h) at_beginning page []).0 t)

  tells_put : (page : List ℕ) → Tells (IsCut l page → ⊥) (put page)
  tells_put page = at t.rest t.spelled (sym t.are ∙ untold t.pieces (left_tokens (way_reader a starts).bad t.rest))
    where
      t : HasTokens l (way_reader a starts).bad at_beginning page (put page)
      t = (tokens_are_read l (way_reader a starts) (pieces_are_read l a starts h) at_beginning page (put page)).1 refl

      at : (rest : List ℕ) → spelled_then l t.pieces rest ≡ page → put page ≡ left_tokens (way_reader a starts).bad rest → Tells (IsCut l page → ⊥) (put page)
      at [] s e = (true, e, (λ none. absurd (none (t.pieces, t.lawful, s)), λ z. cc))
      at (b ∷ bs) s e = (false, e, (λ none. refl, λ z c. let w : told true ≡ told false = sym (cut_puts_nothing page c) ∙ e in cc))

  pub tells_cuts : (page : List ℕ) → All (λ byte. byte < 256) page → Tells (IsCut l page → ⊥) (way_tokens a starts page)
  tells_cuts page bytes = let t = tells_put page in (t.0, puts_the_same a starts page bytes ∙ t.1, t.2)
