-- Which character bytes are the UTF-8 of.
use Rattle.std.proofs.Common.{◌≡◌, ℕ, Bool, true, false, ◌&&◌, List, [], ◌∷◌, ◌++◌, Some, None, refl, sym, ◌∙◌, ap, subst, append-nil, arith, length}
use Rattle.std.specs.Prelude.{if◌then◌else◌, bytes_eq}
use Rattle.std.specs.Char.{encode_utf8, IsScalar}
use Rattle.std.specs.Str.{chars, IsUtf8, encode_utf8_all}
use Rattle.std.proofs.lemmas.Slice.Eq.{bytes_eq-Decides}
use Rattle.std.proofs.lemmas.Str.{IsUtf8-encode, IsUtf8-past_char, chars_from_encodes, chars_past_char}
use Rattle.xml_text.specs.Characters.{is_character}
use Rattle.character_steps.specs.Bytes.{only, decoded}
use Rattle.byte_stepping.specs.Views.{alone}

-- a character of XML is no surrogate and not beyond the last
is_scalar : (c : ℕ) → is_character c ≡ true → IsScalar c
is_scalar c h = grind arith

-- bytes that are no UTF-8 are that of no character
pub none_decoded : (bytes : List ℕ) → ¬ (IsUtf8 bytes) → decoded bytes ≡ None
unfolding decoded
none_decoded bytes other = at (chars bytes)
  where
    by : (c : ℕ) (x y : Bool) → is_character c ≡ x → bytes_eq (encode_utf8 c) bytes ≡ y → (if x && y then Some c else None) ≡ None
    by c true true h e = absurd (other (subst IsUtf8 ((bytes_eq-Decides (encode_utf8 c) bytes).0 e) (IsUtf8-encode c (is_scalar c h))))
    by c true false h e = refl
    by c false y h e = refl

    at : (cs : List ℕ) → only cs bytes ≡ None
    at [] = refl
    at (c ∷ []) = by c (is_character c) (bytes_eq (encode_utf8 c) bytes) refl refl
    at (c ∷ d ∷ cs) = refl

-- no bytes are that of none either
pub empty_decoded : (bytes : List ℕ) → length bytes ≡ 0 → None ≡ decoded bytes
unfolding decoded chars
empty_decoded [] e = refl
empty_decoded (b ∷ bytes) e = absurd (omega arith)

-- one character
one_decoded : (bytes : List ℕ) (c : ℕ) → IsUtf8 bytes → bytes ≡ encode_utf8 c ++ [] → decoded bytes ≡ (if is_character c then Some c else None)
unfolding decoded
one_decoded bytes c u e =
    let is : encode_utf8 c ≡ bytes = sym (e ∙ append-nil (encode_utf8 c)) in
    let read : (c ∷ []) ≡ chars bytes = chars_from_encodes (c ∷ []) bytes u (append-nil (encode_utf8 c) ∙ is) in
    ap (λ (cs : List ℕ). only cs bytes) (sym read)
    ∙ ap (λ (b : Bool). if is_character c && b then Some c else None) ((bytes_eq-Decides (encode_utf8 c) bytes).1 is)
    ∙ by (is_character c)
  where
    by : (x : Bool) → (if x && true then Some c else None) ≡ (if x then Some c else None)
    by true = refl
    by false = refl

-- more than one
more_decoded : (bytes rest : List ℕ) (c b : ℕ) → IsUtf8 bytes → bytes ≡ encode_utf8 c ++ b ∷ rest → decoded bytes ≡ None
unfolding decoded
more_decoded bytes rest c b u e =
    ap (λ (cs : List ℕ). only cs bytes) (chars_past_char bytes (b ∷ rest) c u e) ∙ at (IsUtf8-past_char bytes (b ∷ rest) c u e)
  where
    by : (cs : List ℕ) → encode_utf8_all cs ≡ b ∷ rest → cs ≡ chars (b ∷ rest) → only (c ∷ chars (b ∷ rest)) bytes ≡ None
    by [] f q = cc
    by (d ∷ cs) f q = ap (λ (ds : List ℕ). only (c ∷ ds) bytes) (sym q)

    at : IsUtf8 (b ∷ rest) → only (c ∷ chars (b ∷ rest)) bytes ≡ None
    at v = by v.0 v.1.1 (chars_from_encodes v.0 (b ∷ rest) v v.1.1)

-- a character at the head
pub head_decoded : (bytes behind : List ℕ) (c : ℕ) → IsUtf8 bytes → bytes ≡ encode_utf8 c ++ behind → alone c behind ≡ decoded bytes
head_decoded bytes [] c u e = sym (one_decoded bytes c u e)
head_decoded bytes (b ∷ behind) c u e = sym (more_decoded bytes behind c b u e)
