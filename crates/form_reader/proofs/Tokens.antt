-- The tokens of a page are those of its pieces as a language of bytes.
use Rattle.std.proofs.Common.{◌≡◌, ℕ, List, [], ◌∷◌, ◌++◌, refl, sym, ◌∙◌, ap, subst}
use Rattle.text_base.specs.declared.page_token.PageToken.{PageToken}
use Rattle.text_base.specs.declared.page_token.PageToken.TheVariants as token
use Rattle.dtd_model.specs.Table.{Table}
use Rattle.page_model.specs.PageTokens as page
use Rattle.page_model.specs.Pieces.{Piece, after, after_all}
use Rattle.page_model.specs.Places.{Place, at_beginning}
use Rattle.piece_steps.specs.Languages as language
use Rattle.piece_steps.proofs.Whole.{tokens_are_read}
use Rattle.form_reader.specs.FormReader.{form_reader, byte_language}
use Rattle.form_reader.specs.Laws.{PageTokensAreRead}
use Rattle.form_reader.proofs.Reading.{forms_are_read}

place_same : (table : Table) (ps : List Piece) (place : Place) → language.behind_all (byte_language table) place ps ≡ after_all place ps
place_same table [] place = refl
place_same table (p ∷ ps) place = place_same table ps (after place p)

bytes_same : (table : Table) (ps : List Piece) (rest : List ℕ) → language.spelled_then (byte_language table) ps rest ≡ page.bytes_then ps rest
bytes_same table [] rest = refl
bytes_same table (p ∷ ps) rest = ap (λ (w : List ℕ). page.piece_bytes p ++ w) (bytes_same table ps rest)

tokens_same : (table : Table) (ps : List Piece) (more : List PageToken) → language.tokens_then (byte_language table) ps more ≡ page.tokens_then table ps more
tokens_same table [] more = refl
tokens_same table (p ∷ ps) more = ap (λ (ts : List PageToken). page.piece_tokens table p ++ ts) (tokens_same table ps more)

left_same : (rest : List ℕ) → language.left_tokens token.Bad rest ≡ page.left_tokens rest
left_same [] = refl
left_same (b ∷ bytes) = refl

to_lawful : (table : Table) (ps : List Piece) (place : Place) → page.AreLawful table place ps → language.AllLawful (byte_language table) place ps
to_lawful table [] place h = tt
to_lawful table (p ∷ ps) place h = (h.0, to_lawful table ps (after place p) h.1)

from_lawful : (table : Table) (ps : List Piece) (place : Place) → language.AllLawful (byte_language table) place ps → page.AreLawful table place ps
from_lawful table [] place h = tt
from_lawful table (p ∷ ps) place h = (h.0, from_lawful table ps (after place p) h.1)

to_page : (table : Table) (bytes : List ℕ) (tokens : List PageToken) → language.HasTokens (byte_language table) token.Bad at_beginning bytes tokens → page.PageTokens table bytes tokens
to_page table bytes tokens t = record {
  pieces = t.pieces;
  rest = t.rest;
  lawful = from_lawful table t.pieces at_beginning t.lawful;
  spelled = sym (bytes_same table t.pieces t.rest) ∙ t.spelled;
  none = subst (λ (p : Place). page.NoPiece table p t.rest) (place_same table t.pieces at_beginning) (λ p rest h e. t.none p rest h e);
  are = ap (page.tokens_then table t.pieces) (sym (left_same t.rest)) ∙ sym (tokens_same table t.pieces (language.left_tokens token.Bad t.rest)) ∙ t.are;
}

from_page : (table : Table) (bytes : List ℕ) (tokens : List PageToken) → page.PageTokens table bytes tokens → language.HasTokens (byte_language table) token.Bad at_beginning bytes tokens
from_page table bytes tokens t = record {
  pieces = t.pieces;
  rest = t.rest;
  lawful = to_lawful table t.pieces at_beginning t.lawful;
  spelled = bytes_same table t.pieces t.rest ∙ t.spelled;
  none = λ p rest h e. t.none p rest (subst (λ (q : Place). page.IsLawful table q p) (place_same table t.pieces at_beginning) h) e;
  are = tokens_same table t.pieces (language.left_tokens token.Bad t.rest) ∙ ap (page.tokens_then table t.pieces) (left_same t.rest) ∙ t.are;
}

pub page_tokens_are_read : PageTokensAreRead
page_tokens_are_read table h bytes tokens =
    let l = tokens_are_read (byte_language table) (form_reader table) (forms_are_read table h) at_beginning bytes tokens in
    (λ t. l.0 (from_page table bytes tokens t), λ e. to_page table bytes tokens (l.1 e))
