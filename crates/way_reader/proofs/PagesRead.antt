-- The reader by ways reads the pieces of a page, and puts out its tokens.
use Rattle.std.proofs.Common.{◌≡◌, ℕ, List, [], ◌∷◌, ◌++◌, Some, refl, sym, ◌∙◌, ap, append-nil}
use Rattle.std.specs.Str.{encode_utf8_all}
use Rattle.byte_readers.specs.Reading.{tokens_over}
use Rattle.dtd_model.specs.Table.{Table}
use Rattle.derivatives.specs.declared.arena.Arena.{Arena}
use Rattle.piece_steps.specs.Readers.{all_tokens}
use Rattle.piece_steps.proofs.Whole.{tokens_are_read}
use Rattle.page_model.specs.PageTokens.{IsLawful, piece_bytes, piece_tokens}
use Rattle.page_model.specs.Pieces.{Piece, piece_then, after}
use Rattle.page_model.specs.Places.{Place, at_beginning}
use Rattle.page_model.proofs.Encoding.{some_bytes}
use Rattle.page_model.proofs.Once.{some_character, one_of_bytes}
use Rattle.page_forms.proofs.PageForms.{pieces_are_spelled}
use Rattle.form_reader.specs.FormReader.{form_reader, byte_language}
use Rattle.form_reader.specs.Laws.{IsLawfulTable}
use Rattle.form_reader.proofs.Reading.{forms_are_read}
use Rattle.form_reader.proofs.Tokens.{page_tokens_are_read}
use Rattle.way_reader.specs.declared.way.Way.{Way}
use Rattle.way_reader.specs.Ways.{way_reader, first_state, next_state, tokens_at, tokens_behind}
use Rattle.way_reader.specs.Laws.{HavePieces, HaveForms, WaysAreRead, PagesAreRead}
use Rattle.way_reader.proofs.Reading.{pieces_are_read}
use Rattle.way_reader.proofs.Same.{puts_the_same}

-- each piece has some byte
filled : (table : Table) (place : Place) (p : Piece) → IsLawful table place p → piece_bytes p ≡ [] → ⊥
filled table place p l e = at (piece_then p []) refl e
  where
    at : (cs : List ℕ) → piece_then p [] ≡ cs → encode_utf8_all cs ≡ [] → ⊥
    at [] s q = some_character place p [] l.is s
    at (c ∷ cs) s q = some_bytes c (encode_utf8_all cs) q

-- and none goes on where another ends
alone : (table : Table) (place : Place) (p q : Piece) (v : List ℕ) → IsLawful table place p → IsLawful table place q → piece_bytes p ++ v ≡ piece_bytes q
    → (v ≡ []) × (piece_tokens table p ≡ piece_tokens table q) × (after place p ≡ after place q)
alone table place p q v l m e =
    let o = one_of_bytes place p q v [] l.is m.is (e ∙ sym (append-nil (piece_bytes q))) in
    (o.rest, ap (piece_tokens table) o.piece, ap (after place) o.piece)

have_pieces : (table : Table) → IsLawfulTable table → (a : Arena) (starts : Place → List Way) → HaveForms table a starts → HavePieces (byte_language table) a starts
have_pieces table h a starts f = record {
  texts = λ place w tokens to. (
    λ k. (pieces_are_spelled table h place w tokens to).0 ((f place w tokens to).0 k),
    λ k. (f place w tokens to).1 ((pieces_are_spelled table h place w tokens to).1 k),
  );
  filled = λ place p l e. filled table place p l e;
  alone = λ place p q v l m e. alone table place p q v l m e;
}

pub ways_are_read : WaysAreRead
ways_are_read table h a starts f = pieces_are_read (byte_language table) a starts (have_pieces table h a starts f)

-- the reader by forms puts out the same over each text
alike : (table : Table) → IsLawfulTable table → (a : Arena) (starts : Place → List Way) → HaveForms table a starts → (text : List ℕ)
    → all_tokens (form_reader table) (Some ((form_reader table).first at_beginning)) text ≡ all_tokens (way_reader a starts) (Some ((way_reader a starts).first at_beginning)) text
alike table h a starts f text =
    let t = all_tokens (form_reader table) (Some ((form_reader table).first at_beginning)) text in
    (tokens_are_read (byte_language table) (way_reader a starts) (ways_are_read table h a starts f) at_beginning text t).0
    ((tokens_are_read (byte_language table) (form_reader table) (forms_are_read table h) at_beginning text t).1 refl)

pub pages_are_read : PagesAreRead
pages_are_read table h a starts f page bytes =
    (page_tokens_are_read table h page (tokens_over (next_state a starts) (tokens_at a starts) (tokens_behind a starts) first_state page)).1
    (puts_the_same a starts page bytes ∙ sym (alike table h a starts f page))
