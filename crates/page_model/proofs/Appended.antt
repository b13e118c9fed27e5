-- What a piece spells before a rest is what it spells alone, and the rest.
use Rattle.std.proofs.Common.{◌≡◌, ℕ, List, [], ◌∷◌, ◌++◌, refl, sym, ◌∙◌, ap, append_assoc, codes}
use Rattle.std.specs.Str.{encode_utf8_all}
use Rattle.std.proofs.lemmas.Str.{encodes-append}
use Rattle.dtd_model.specs.References.{decimal, hexadecimal, entity}
use Rattle.page_model.specs.PageTokens.{piece_bytes, bytes_then}
use Rattle.page_model.specs.Parts.{Attribute, attribute_then, attributes_then, Tag, tag_then, Leaf, character, reference, section, comment, instruction, leaf_then}
use Rattle.page_model.specs.Prolog.{Identifier, no_identifier, system, public, identifier_then}
use Rattle.page_model.specs.Pieces.{Piece, mark, declaration, doctype, start_tag, empty_tag, end_tag, leaf, piece_then, pieces_then}

attribute_more : (a : Attribute) (xs ys : List ℕ) → attribute_then a (xs ++ ys) ≡ attribute_then a xs ++ ys
attribute_more a xs ys = sym (simp append_assoc)

attributes_more : (as' : List Attribute) (xs ys : List ℕ) → attributes_then as' (xs ++ ys) ≡ attributes_then as' xs ++ ys
attributes_more [] xs ys = refl
attributes_more (a ∷ more) xs ys = ap (attribute_then a) (attributes_more more xs ys) ∙ attribute_more a (attributes_then more xs) ys

tag_more : (tag : Tag) (xs ys : List ℕ) → tag_then tag (xs ++ ys) ≡ tag_then tag xs ++ ys
tag_more tag xs ys =
    ap (λ (w : List ℕ). tag.name ++ attributes_then tag.attributes w) (sym (append_assoc tag.space xs ys))
    ∙ ap (λ (w : List ℕ). tag.name ++ w) (attributes_more tag.attributes (tag.space ++ xs) ys)
    ∙ sym (append_assoc tag.name (attributes_then tag.attributes (tag.space ++ xs)) ys)

identifier_more : (i : Identifier) (xs ys : List ℕ) → identifier_then i (xs ++ ys) ≡ identifier_then i xs ++ ys
identifier_more no_identifier xs ys = refl
identifier_more (system s t l) xs ys = sym (simp append_assoc)
identifier_more (public s t l u m) xs ys = sym (simp append_assoc)

leaf_more : (l : Leaf) (rest : List ℕ) → leaf_then l rest ≡ leaf_then l [] ++ rest
leaf_more (character c) rest = refl
leaf_more (reference (decimal digits)) rest = sym (simp append_assoc)
leaf_more (reference (hexadecimal digits)) rest = sym (simp append_assoc)
leaf_more (reference (entity name)) rest = sym (simp append_assoc)
leaf_more (section text) rest = sym (simp append_assoc)
leaf_more (comment text) rest = sym (simp append_assoc)
leaf_more (instruction target text) rest = sym (simp append_assoc)

pub piece_more : (p : Piece) (rest : List ℕ) → piece_then p rest ≡ piece_then p [] ++ rest
piece_more mark rest = refl
piece_more (declaration d) rest =
    ap (λ (w : List ℕ). codes "<?xml" ++ attributes_then d.attributes w) (sym (append_assoc d.space (codes "?>") rest))
    ∙ ap (λ (w : List ℕ). codes "<?xml" ++ w) (attributes_more d.attributes (d.space ++ codes "?>") rest)
piece_more (doctype d) rest =
    ap (λ (w : List ℕ). codes "<!DOCTYPE" ++ (d.space ++ (codes "html" ++ identifier_then d.identifier w))) (sym (append_assoc d.end_space (62 ∷ []) rest))
    ∙ ap (λ (w : List ℕ). codes "<!DOCTYPE" ++ (d.space ++ (codes "html" ++ w))) (identifier_more d.identifier (d.end_space ++ 62 ∷ []) rest)
    ∙ sym (simp append_assoc)
piece_more (start_tag tag) rest = ap (λ (w : List ℕ). 60 ∷ w) (tag_more tag (62 ∷ []) rest)
piece_more (empty_tag tag) rest = ap (λ (w : List ℕ). 60 ∷ w) (tag_more tag (47 ∷ 62 ∷ []) rest)
piece_more (end_tag name space) rest = sym (simp append_assoc)
piece_more (leaf l) rest = leaf_more l rest

-- the bytes of pieces are those of what they spell
pub bytes_are : (ps : List Piece) → bytes_then ps [] ≡ encode_utf8_all (pieces_then ps [])
bytes_are [] = refl
bytes_are (p ∷ ps) =
    ap (λ (w : List ℕ). piece_bytes p ++ w) (bytes_are ps)
    ∙ sym (encodes-append (piece_then p []) (pieces_then ps []))
    ∙ ap encode_utf8_all (sym (piece_more p (pieces_then ps [])))
