-- Bytes have one cutting into pieces.
use Rattle.std.proofs.Common.{◌≡◌, ◌⊎◌, inl, inr, ℕ, List, [], ◌∷◌, ◌++◌, Some, refl, sym, ◌∙◌, ap, subst, append_assoc}
use Rattle.std.specs.Str.{encode_utf8_all}
use Rattle.std.specs.Char.{encode_utf8}
use Rattle.std.proofs.lemmas.Str.{encode_same}
use Rattle.text_base.specs.declared.page_token.PageToken.{PageToken}
use Rattle.dtd_model.specs.Table.{Table}
use Rattle.page_model.specs.PageTokens.{AreLawful, piece_bytes, bytes_then, NoPiece, left_tokens, tokens_then, piece_tokens}
use Rattle.page_model.specs.Pieces.{Piece, piece_then, pieces_then, IsPiece, ArePieces, after, after_all}
use Rattle.page_model.specs.Places.{Place, at_beginning}
use Rattle.page_model.specs.Reading.{piece_at}
use Rattle.page_model.proofs.ReadLemmas.{piece_read}
use Rattle.page_model.proofs.Encoding.{encoded_once}
use Rattle.page_model.proofs.Appended.{piece_more}

pub record Same (p q : Piece) (xs ys : List ℕ) : Type 0 where
  pub piece : p ≡ q
  pub rest : xs ≡ ys

pair_same : (a b : Piece × List ℕ) → Some a ≡ Some b → Same a.0 b.0 a.1 b.1
pair_same a b e = let s : a ≡ b = cc in record { piece = ap (λ (z : Piece × List ℕ). z.0) s; rest = ap (λ (z : Piece × List ℕ). z.1) s }

pub one_piece : (place : Place) (p q : Piece) (xs ys : List ℕ) → IsPiece place p → IsPiece place q → piece_then p xs ≡ piece_then q ys → Same p q xs ys
one_piece place p q xs ys h g e = pair_same (p, xs) (q, ys) (sym (piece_read place p xs h) ∙ ap (piece_at place) e ∙ piece_read place q ys g)

-- a piece has a character
pub some_character : (place : Place) (p : Piece) (xs : List ℕ) → IsPiece place p → piece_then p xs ≡ [] → ⊥
unfolding piece_at
some_character place p xs h e = let r = sym (ap (piece_at place) e) ∙ piece_read place p xs h in cc

pub one_cutting : (place : Place) (ps qs : List Piece) → ArePieces place ps → ArePieces place qs → pieces_then ps [] ≡ pieces_then qs [] → ps ≡ qs
one_cutting place [] [] h g e = refl
one_cutting place [] (q ∷ qs) h g e = absurd (some_character place q (pieces_then qs []) g.0 (sym e))
one_cutting place (p ∷ ps) [] h g e = absurd (some_character place p (pieces_then ps []) h.0 e)
one_cutting place (p ∷ ps) (q ∷ qs) h g e =
    let s = one_piece place p q (pieces_then ps []) (pieces_then qs []) h.0 g.0 e in
    let more = one_cutting (after place p) ps qs h.1 (subst (λ (x : Piece). ArePieces (after place x) qs) (sym s.piece) g.1) s.rest in
    ap (λ (x : Piece). x ∷ ps) s.piece ∙ ap (λ (xs : List Piece). q ∷ xs) more

-- Bytes that begin with the characters of two texts: one goes on with the other.
abbrev pub Further : List ℕ → List ℕ → List ℕ → List ℕ → Type 0
Further xs ys us vs = (cs : List ℕ) × (xs ≡ ys ++ cs) × (vs ≡ encode_utf8_all cs ++ us)

pub further : (xs ys us vs : List ℕ) → encode_utf8_all xs ++ us ≡ encode_utf8_all ys ++ vs → Further xs ys us vs ⊎ Further ys xs vs us
further xs [] us vs e = inl (xs, refl, sym e)
further [] (y ∷ ys) us vs e = inr (y ∷ ys, refl, e)
further (x ∷ xs) (y ∷ ys) us vs e =
    let s = encode_same x y (encode_utf8_all xs ++ us) (encode_utf8_all ys ++ vs) (let g : encode_utf8 x ++ (encode_utf8_all xs ++ us) ≡ encode_utf8 y ++ (encode_utf8_all ys ++ vs) = sym (append_assoc (encode_utf8 x) (encode_utf8_all xs) us) ∙ e ∙ append_assoc (encode_utf8 y) (encode_utf8_all ys) vs in g) in
    put (further xs ys us vs s.1) s.0
  where
    put : Further xs ys us vs ⊎ Further ys xs vs us → x ≡ y → Further (x ∷ xs) (y ∷ ys) us vs ⊎ Further (y ∷ ys) (x ∷ xs) vs us
    put (inl f) s = inl (f.0, ap (λ (z : ℕ). z ∷ xs) s ∙ ap (λ (zs : List ℕ). y ∷ zs) f.1, f.2)
    put (inr f) s = inr (f.0, ap (λ (z : ℕ). z ∷ ys) (sym s) ∙ ap (λ (zs : List ℕ). x ∷ zs) f.1, f.2)

pub one_of_bytes : (place : Place) (p q : Piece) (us vs : List ℕ) → IsPiece place p → IsPiece place q → piece_bytes p ++ us ≡ piece_bytes q ++ vs → Same p q us vs
one_of_bytes place p q us vs h g e = at (further (piece_then p []) (piece_then q []) us vs e)
  where
    at : Further (piece_then p []) (piece_then q []) us vs ⊎ Further (piece_then q []) (piece_then p []) vs us → Same p q us vs
    at (inl f) =
        let s = one_piece place p q [] f.0 h g (f.1 ∙ sym (piece_more q f.0)) in
        record { piece = s.piece; rest = sym (f.2 ∙ ap (λ (w : List ℕ). encode_utf8_all w ++ us) (sym s.rest)) }
    at (inr f) =
        let s = one_piece place q p [] f.0 g h (f.1 ∙ sym (piece_more p f.0)) in
        record { piece = sym s.piece; rest = f.2 ∙ ap (λ (w : List ℕ). encode_utf8_all w ++ vs) (sym s.rest) }

-- and so they have one list of tokens
pub tokens_once : (table : Table) (place : Place) (ps qs : List Piece) (us vs : List ℕ) → AreLawful table place ps → AreLawful table place qs → NoPiece table (after_all place ps) us → NoPiece table (after_all place qs) vs
    → bytes_then ps us ≡ bytes_then qs vs → tokens_then table ps (left_tokens us) ≡ tokens_then table qs (left_tokens vs)
tokens_once table place [] [] us vs h g n m e = ap left_tokens e
tokens_once table place [] (q ∷ qs) us vs h g n m e = absurd (n q (bytes_then qs vs) g.0 (sym e))
tokens_once table place (p ∷ ps) [] us vs h g n m e = absurd (m p (bytes_then ps us) h.0 e)
tokens_once table place (p ∷ ps) (q ∷ qs) us vs h g n m e =
    let s = one_of_bytes place p q (bytes_then ps us) (bytes_then qs vs) h.0.is g.0.is e in
    let more = tokens_once table (after place p) ps qs us vs h.1 (subst (λ (x : Piece). AreLawful table (after place x) qs) (sym s.piece) g.1) n (subst (λ (x : Piece). NoPiece table (after_all (after place x) qs) vs) (sym s.piece) m) s.rest in
    ap (λ (x : Piece). tokens_then table (x ∷ ps) (left_tokens us)) s.piece ∙ ap (λ (ts : List PageToken). piece_tokens table q ++ ts) more

pub bytes_once : (ps qs : List Piece) → ArePieces at_beginning ps → ArePieces at_beginning qs → encode_utf8_all (pieces_then ps []) ≡ encode_utf8_all (pieces_then qs []) → ps ≡ qs
bytes_once ps qs h g e = one_cutting at_beginning ps qs h g (encoded_once _ _ e)
