-- Characters are told by their UTF-8.
use Rattle.std.proofs.Common.{◌≡◌, ℕ, ◌+◌, List, [], ◌∷◌, ◌++◌, refl, sym, ◌∙◌, ap, length, length-append, arith}
use Rattle.std.specs.Str.{encode_utf8_all}
use Rattle.std.specs.Char.{encode_utf8}
use Rattle.std.proofs.lemmas.Str.{encode_same, length-encode, len_utf8_bounds}

pub some_bytes : (c : ℕ) (rest : List ℕ) → encode_utf8 c ++ rest ≡ [] → ⊥
some_bytes c rest e =
    let l : length (encode_utf8 c ++ rest) ≡ length (encode_utf8 c) + length rest = length-append (encode_utf8 c) rest in
    let z : length (encode_utf8 c ++ rest) ≡ 0 = ap length e in
    let m = length-encode c in
    let b = (len_utf8_bounds c).0 in
    omega arith

pub encoded_once : (xs ys : List ℕ) → encode_utf8_all xs ≡ encode_utf8_all ys → xs ≡ ys
encoded_once [] [] e = refl
encoded_once [] (y ∷ ys) e = absurd (some_bytes y (encode_utf8_all ys) (sym e))
encoded_once (x ∷ xs) [] e = absurd (some_bytes x (encode_utf8_all xs) e)
encoded_once (x ∷ xs) (y ∷ ys) e =
    let s = encode_same x y (encode_utf8_all xs) (encode_utf8_all ys) e in
    ap (λ (z : ℕ). z ∷ xs) s.0 ∙ ap (λ (zs : List ℕ). y ∷ zs) (encoded_once xs ys s.1)
