-- The lawful piece at the head is found, and nothing else.
use Rattle.std.proofs.Common.{◌≡◌, ℕ, Bool, true, false, not, List, Some, refl, ◌∙◌, ap, subst}
use Rattle.std.proofs.lemmas.Bool.{and_parts, and_from}
use Rattle.xml_text.specs.Characters.{is_character}
use Rattle.dtd_model.specs.Table.{Table}
use Rattle.page_model.specs.Attributes.{is_allowed}
use Rattle.page_model.specs.PageTokens.{IsLawful}
use Rattle.page_model.specs.Parts.{Leaf, character, reference, section, comment, instruction, IsLeaf}
use Rattle.page_model.specs.Prolog.{Identifier, no_identifier, system, public, IsIdentifier}
use Rattle.page_model.specs.Pieces.{Piece, mark, declaration, doctype, start_tag, empty_tag, end_tag, leaf, piece_then, may_follow, IsPiece}
use Rattle.page_model.specs.Places.{Place}
use Rattle.page_model.specs.Cutting.{is_fit, kept, cut_at}
use Rattle.page_model.specs.Reading.{piece_at}
use Rattle.page_model.specs.Right.{identifier_is_right, leaf_is_right, is_right}
use Rattle.page_model.proofs.AttributeLemmas.{attributes_right, empty_some}
use Rattle.page_model.proofs.ReadLemmas.{piece_read}
use Rattle.page_model.proofs.ScanLemmas.{then_is, came}
use Rattle.page_model.proofs.SoundLemmas.{IsAt, piece_is}

identifier_right : (i : Identifier) → IsIdentifier i → identifier_is_right i ≡ true
identifier_right no_identifier h = refl
identifier_right (system s t l) h = and_from _ _ (and_from _ _ (empty_some s h.0.some) (empty_some t h.1.some)) h.2.pass
identifier_right (public s t l u m) h =
    and_from _ _ (and_from _ _ (and_from _ _ (and_from _ _ (empty_some s h.0.some) (empty_some t h.1.some)) h.2.pass) (empty_some u h.3.some)) h.4.pass

leaf_right : (l : Leaf) → IsLeaf l → leaf_is_right l ≡ true
leaf_right (character c) h = (and_parts (is_character c) _ h).0
leaf_right (reference r) h = h
leaf_right (section text) h = h.characters
leaf_right (comment text) h = h.characters
leaf_right (instruction target text) h = and_from _ _ (and_from _ _ (ap not h.not_reserved) h.apart) h.characters

pub piece_right : (place : Place) (p : Piece) → IsPiece place p → is_right place p ≡ true
piece_right place mark h = refl
piece_right place (declaration d) h = and_from _ _ (and_from _ _ h.0 (attributes_right d.attributes h.1.attributes)) h.1.in_order
piece_right place (doctype d) h = and_from _ _ (empty_some d.space h.apart.some) (identifier_right d.identifier h.identifier)
piece_right place (start_tag tag) h = attributes_right tag.attributes h.attributes
piece_right place (empty_tag tag) h = attributes_right tag.attributes h.attributes
piece_right place (end_tag name space) h = refl
piece_right place (leaf l) h = and_from (may_follow place l) (leaf_is_right l) h.0 (leaf_right l h.1)

pub record IsCut (table : Table) (place : Place) (cs : List ℕ) (p : Piece) (rest : List ℕ) : Type 0 where
  pub lawful : IsLawful table place p
  pub is : piece_then p rest ≡ cs

pub cut_is : (table : Table) (place : Place) (cs : List ℕ) (z : Piece × List ℕ) → cut_at table place cs ≡ Some z → IsCut table place cs z.0 z.1
unfolding cut_at
cut_is table place cs z e =
    let m = came (piece_at place cs) (λ found. kept (is_fit table place found.0) found) z e in
    at m.from (piece_is place cs m.from m.was) (is_fit table place m.from.0) refl m.gives
  where
    at : (y : Piece × List ℕ) → IsAt place cs y.0 y.1 → (b : Bool) → is_fit table place y.0 ≡ b → kept b y ≡ Some z → IsCut table place cs z.0 z.1
    at y i true f g =
        let same : y ≡ z = cc in
        let p = and_parts (is_right place y.0) (is_allowed table y.0) f in
        subst (λ (z : Piece × List ℕ). IsCut table place cs z.0 z.1) same (record { lawful = record { is = i.right p.0; allowed = p.1 }; is = i.is })
    at y i false f g = cc

pub cut_read : (table : Table) (place : Place) (p : Piece) (rest : List ℕ) → IsLawful table place p → (let z : Piece × List ℕ = (p, rest) in cut_at table place (piece_then p rest) ≡ Some z)
unfolding cut_at
cut_read table place p rest h =
    let z : Piece × List ℕ = (p, rest) in
    then_is (piece_at place (piece_then p rest)) z (λ found. kept (is_fit table place found.0) found) (piece_read place p rest h.is)
    ∙ ap (λ (b : Bool). kept b z) (and_from (is_right place p) (is_allowed table p) (piece_right place p h.is) h.allowed)
