-- Characters and their bytes: those of ASCII are their bytes, and each byte of another is 128 or more.
use Rattle.std.proofs.Common.{◌≡◌, ◌⊎◌, inl, inr, ℕ, suc, ◌≤◌, ◌<◌, Bool, true, List, [], ◌∷◌, ◌++◌, refl, sym, ◌∙◌, ap, length, append-nil, arith}
use Rattle.std.specs.Prelude.{nat_le, nat_lt, get_or}
use Rattle.std.specs.Char.{encode_utf8}
use Rattle.std.specs.List.{list_all}
use Rattle.std.specs.Str.{encode_utf8_all}
use Rattle.std.proofs.lemmas.Bool.{and_parts, and_from, cases_lt, le-leb, ltb-true}
use Rattle.std.proofs.lemmas.Bool.Decides.{nat_tests}
use Rattle.std.proofs.lemmas.Str.{encode_ascii, inside_one}
use Rattle.xml_text.specs.Characters.{is_blank}
use Rattle.xml_text.specs.Names.{in_name}

pub ascii_then : (test : ℕ → Bool) → ((c : ℕ) → test c ≡ true → c < 128) → (xs rest : List ℕ) → list_all test xs ≡ true → encode_utf8_all (xs ++ rest) ≡ xs ++ encode_utf8_all rest
ascii_then test low [] rest h = refl
ascii_then test low (c ∷ cs) rest h =
    let p = and_parts (test c) (list_all test cs) h in
    ap (λ (w : List ℕ). w ++ encode_utf8_all (cs ++ rest)) (encode_ascii c (low c p.0)) ∙ ap (λ (w : List ℕ). c ∷ w) (ascii_then test low cs rest p.1)

pub word_then : (word rest : List ℕ) → list_all (λ c. nat_lt c 128) word ≡ true → encode_utf8_all (word ++ rest) ≡ word ++ encode_utf8_all rest
word_then word rest h = ascii_then (λ c. nat_lt c 128) (λ c e. ltb-true c 128 e) word rest h

pub low_blank : (c : ℕ) → is_blank c ≡ true → c < 128
low_blank c e = grind (arith, nat_tests)

pub low_name : (c : ℕ) → in_name c ≡ true → c < 128
low_name c e = grind (arith, nat_tests)

all_from : (test : ℕ → Bool) (xs : List ℕ) → ((i : ℕ) → i < length xs → test (get_or xs i 0) ≡ true) → list_all test xs ≡ true
all_from test [] h = refl
all_from test (x ∷ xs) h = and_from (test x) (list_all test xs) (h 0 (omega arith)) (all_from test xs (λ i l. h (suc i) (omega arith)))

pub high_bytes : (c : ℕ) → 128 ≤ c → list_all (nat_le 128) (encode_utf8 c) ≡ true
high_bytes c h = all_from (nat_le 128) (encode_utf8 c) (λ i l. at i l (cases_lt (get_or (encode_utf8 c) i 0) 128))
  where
    at : (i : ℕ) → i < length (encode_utf8 c) → (get_or (encode_utf8 c) i 0 < 128) ⊎ (128 ≤ get_or (encode_utf8 c) i 0) → nat_le 128 (get_or (encode_utf8 c) i 0) ≡ true
    at i l (inl s) = let e = inside_one c [] (encode_utf8 c) i (sym (append-nil (encode_utf8 c))) l s in absurd (omega arith)
    at i l (inr m) = le-leb 128 (get_or (encode_utf8 c) i 0) m
