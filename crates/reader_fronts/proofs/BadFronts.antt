-- Behind a bad front nothing makes a difference to the tokens.
use Rattle.std.proofs.Common.{◌≡◌, ℕ, List, [], ◌∷◌, ◌++◌, refl, sym, ◌∙◌, ap, append-nil, append_assoc}
use Rattle.text_base.specs.declared.page_token.PageToken.{PageToken}
use Rattle.dtd_model.specs.Table.{Table}
use Rattle.page_model.specs.PageTokens.{PageTokens, IsLawful, NoPiece, piece_bytes, bytes_then, tokens_then, left_tokens}
use Rattle.page_model.specs.Parts.{character}
use Rattle.page_model.specs.Pieces.{Piece, leaf, after_all}
use Rattle.page_model.specs.Places.{Place, at_beginning, behind_mark, behind}
use Rattle.page_model.specs.Fronts.{bad, CanGoOn, HasFront}

module _ (table : Table) where
  -- a letter may stand at each place
  letter : (place : Place) → IsLawful table place (leaf (character 97))
  letter at_beginning = record { is = (refl, refl); allowed = refl }
  letter behind_mark = record { is = (refl, refl); allowed = refl }
  letter (behind k) = record { is = (refl, refl); allowed = refl }

  goes_on : (place : Place) → CanGoOn table place []
  goes_on place =
      (piece_bytes (leaf (character 97)), leaf (character 97), [], letter place, append-nil (piece_bytes (leaf (character 97))))

  spelled_more : (ps : List Piece) (rest more : List ℕ) → bytes_then ps (rest ++ more) ≡ bytes_then ps rest ++ more
  spelled_more [] rest more = refl
  spelled_more (p ∷ ps) rest more =
      ap (λ (x : List ℕ). piece_bytes p ++ x) (spelled_more ps rest more) ∙ sym (append_assoc (piece_bytes p) (bytes_then ps rest) more)

  left_more : (place : Place) (rest more : List ℕ) → (CanGoOn table place rest → ⊥) → left_tokens (rest ++ more) ≡ left_tokens rest
  left_more place [] more none = absurd (none (goes_on place))
  left_more place (b ∷ bs) more none = refl

  none_more : (place : Place) (rest more : List ℕ) → (CanGoOn table place rest → ⊥) → NoPiece table place (rest ++ more)
  none_more place rest more none p left lawful e = none (more, p, left, lawful, e)

  -- the tokens of the lawful pieces, and one for the rest
  abbrev pub tokens_of : (bytes : List ℕ) → HasFront table bytes bad → List PageToken
  tokens_of bytes f = tokens_then table f.pieces (left_tokens f.rest)

  pub with_more : (bytes more : List ℕ) (f : HasFront table bytes bad) → PageTokens table (bytes ++ more) (tokens_of bytes f)
  with_more bytes more f = record {
    pieces = f.pieces;
    rest = f.rest ++ more;
    lawful = f.lawful;
    spelled = spelled_more f.pieces f.rest more ∙ ap (λ (x : List ℕ). x ++ more) f.spelled;
    none = none_more (after_all at_beginning f.pieces) f.rest more f.stands;
    are = ap (tokens_then table f.pieces) (left_more (after_all at_beginning f.pieces) f.rest more f.stands);
  }

  pub alone : (bytes : List ℕ) (f : HasFront table bytes bad) → PageTokens table bytes (tokens_of bytes f)
  alone bytes f = record {
    pieces = f.pieces;
    rest = f.rest;
    lawful = f.lawful;
    spelled = f.spelled;
    none = f.none;
    are = refl;
  }
