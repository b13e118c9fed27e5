-- Tokens of small pages, and pages and tokens that are refused.
use Rattle.std.proofs.Common.{◌≡◌, ◌⊎◌, inl, inr, ℕ, List, [], ◌∷◌, ◌++◌, Option, Some, None, refl, sym, ◌∙◌, ap, codes, append_assoc}
use Rattle.std.specs.Str.{encode_utf8_all}
use Rattle.std.specs.Char.{encode_utf8}
use Rattle.text_base.specs.declared.page_token.PageToken.TheVariants as token
use Rattle.dtd_model.specs.Mini.{mini_table}
use Rattle.dtd_model.specs.Table.{Table}
use Rattle.page_model.specs.PageTokens.{NoPiece, PageTokens}
use Rattle.page_model.specs.Parts.{Tag, character}
use Rattle.page_model.specs.Pieces.{Piece, start_tag, leaf, piece_then}
use Rattle.page_model.specs.Places.{Place, at_beginning, behind}
use Rattle.page_model.specs.TokenTree.{Trees, no_trees, single, tree, trees_then, roots}
use Rattle.page_model.specs.TokenTree as flat
use Rattle.page_model.specs.Valid.{Valid, blank, text, remark}
use Rattle.page_model.specs.Cutting.{cut_at}
use Rattle.page_model.specs.Reading.{piece_at, markup_at, open_at, all_attributes, attribute_at}
use Rattle.page_model.proofs.CutLemmas.{cut_read}
use Rattle.page_model.proofs.Appended.{piece_more}
use Rattle.page_model.proofs.ByTokens.{valid_by_tokens}
use Rattle.page_model.proofs.Encoding.{some_bytes}
use Rattle.page_model.proofs.Once.{further, Further}

-- where nothing is read, no lawful piece stands
pub none_there : (d : Table) (place : Place) (cs : List ℕ) → cut_at d place cs ≡ None → NoPiece d place (encode_utf8_all cs)
none_there d place cs none p rest h e = at (further (piece_then p []) cs rest [] (e ∙ sym (append_none (encode_utf8_all cs))))
  where
    append_none : (xs : List ℕ) → xs ++ [] ≡ xs
    append_none [] = refl
    append_none (x ∷ xs) = ap (λ (ys : List ℕ). x ∷ ys) (append_none xs)

    missed : (ys : List ℕ) → piece_then p ys ≡ cs → ⊥
    missed ys s = let z : Piece × List ℕ = (p, ys) in let f : None ≡ Some z = sym none ∙ ap (cut_at d place) (sym s) ∙ cut_read d place p ys h in cc

    no_more : (zs : List ℕ) → [] ≡ encode_utf8_all zs ++ rest → zs ≡ []
    no_more [] s = refl
    no_more (z ∷ zs) s = absurd (some_bytes z (encode_utf8_all zs ++ rest) (sym (append_assoc (encode_utf8 z) (encode_utf8_all zs) rest) ∙ sym s))

    at : Further (piece_then p []) cs rest [] ⊎ Further cs (piece_then p []) [] rest → ⊥
    at (inl f) = missed [] (f.1 ∙ ap (λ (w : List ℕ). cs ++ w) (no_more f.0 f.2) ∙ append_none cs)
    at (inr f) = missed f.0 (piece_more p f.0 ∙ sym f.1)

-- the empty page has no tokens, and is not valid
pub empty_tokens : PageTokens mini_table [] []
unfolding mini_table cut_at piece_at
empty_tokens = record { pieces = []; rest = []; lawful = tt; spelled = refl; none = none_there mini_table at_beginning [] refl; are = refl }

no_root : (before : Option Trees) (trees : Trees) → flat.prolog_then before (trees_then trees []) ≡ [] → roots trees ≡ 0 ∷ [] → ⊥
no_root None no_trees e r = cc
no_root None (single blank more) e r = cc
no_root None (single text more) e r = cc
no_root None (single remark more) e r = cc
no_root None (tree n inside more) e r = cc
no_root (Some no_trees) trees e r = cc
no_root (Some (single blank more)) trees e r = cc
no_root (Some (single text more)) trees e r = cc
no_root (Some (single remark more)) trees e r = cc
no_root (Some (tree n inside more)) trees e r = cc

pub empty_page : Valid mini_table [] → ⊥
unfolding mini_table
empty_page v = let t = (valid_by_tokens mini_table [] [] empty_tokens).0 v in no_root t.before t.trees t.flat t.root

-- `<p` is the one token `Bad`
pub open_tag : PageTokens mini_table (codes "<p") (token.Bad ∷ [])
unfolding mini_table cut_at piece_at markup_at open_at all_attributes attribute_at encode_utf8
open_tag = record { pieces = []; rest = codes "<p"; lawful = tt; spelled = refl; none = none_there mini_table at_beginning (codes "<p") refl; are = refl }

plain_tag : List ℕ → Tag
plain_tag name = record { name = name; attributes = []; space = [] }

-- `<p>]]>` ends in two characters of text and `Bad`
pub section_end : PageTokens mini_table (codes "<p>]]>") (token.Start (record { 0 = 2 }) ∷ token.Text ∷ token.Text ∷ token.Bad ∷ [])
unfolding mini_table cut_at piece_at encode_utf8 plain_tag
section_end = record {
  pieces = start_tag (plain_tag (codes "p")) ∷ leaf (character 93) ∷ leaf (character 93) ∷ [];
  rest = codes ">";
  lawful = (
    record { is = record { named = refl; attributes = tt; blank_space = refl }; allowed = refl },
    (record { is = (refl, refl); allowed = refl }, (record { is = (refl, refl); allowed = refl }, tt)),
  );
  spelled = refl;
  none = none_there mini_table (behind 2) (codes ">") refl;
  are = refl;
}
