-- Which bytes are a character of several bytes, by ranges.
use Rattle.std.proofs.Common.{◌≡◌, ◌⊎◌, inl, inr, ℕ, ◌+◌, ◌-◌, ◌*◌, ◌/◌, ◌%◌, ◌≤◌, ◌<◌, Bool, true, false, ◌&&◌, not, nat_le, List, [], ◌∷◌, Option, Some, None, refl, sym, ◌∙◌, ap, subst, arith}
use Rattle.std.specs.Prelude.{◌==◌}
use Rattle.std.specs.Char.{encode_utf8}
use Rattle.std.specs.Int.{is_in_range}
use Rattle.std.proofs.lemmas.Bool.{cases_lt}
use Rattle.std.proofs.lemmas.Bool.Decides.{nat_tests}
use Rattle.std.proofs.lemmas.Str.{encode_ascii}
use Rattle.xml_text.specs.Characters.{is_character}
use Rattle.character_steps.specs.Bytes.{decoded, is_second, continues}
use Rattle.character_steps.proofs.Begun.{decoded_is, decoded_whole}

-- a character of two, of three or of four bytes (RFC 3629, 4), without U+FFFE and U+FFFF
abbrev pub is_whole : List ℕ → Bool
is_whole [] = false
is_whole (a ∷ []) = false
is_whole (a ∷ b ∷ []) = is_in_range 0xC2 0xDF a && continues b
is_whole (a ∷ b ∷ c ∷ []) = is_in_range 0xE0 0xEF a && is_second a b && (continues c && not (a == 0xEF && b == 0xBF && nat_le 0xBE c))
is_whole (a ∷ b ∷ c ∷ d ∷ []) = is_in_range 0xF0 0xF4 a && is_second a b && (continues c && continues d)
is_whole (a ∷ b ∷ c ∷ d ∷ e ∷ bytes) = false

two_whole : (c : ℕ) → 128 ≤ c → c < 2048 → is_whole ((192 + c / 64) ∷ (128 + c % 64) ∷ []) ≡ true
two_whole c low high = grind (arith, nat_tests)

three_whole : (c : ℕ) → 2048 ≤ c → c < 65536 → is_character c ≡ true → is_whole ((224 + c / 4096) ∷ (128 + c / 64 % 64) ∷ (128 + c % 64) ∷ []) ≡ true
three_whole c low high h = grind (arith, nat_tests)

four_whole : (c : ℕ) → 65536 ≤ c → c < 1114112 → is_whole ((240 + c / 262144) ∷ (128 + c / 4096 % 64) ∷ (128 + c / 64 % 64) ∷ (128 + c % 64) ∷ []) ≡ true
four_whole c low high = grind (arith, nat_tests)

-- the character that they are
two_of : (a b : ℕ) → is_whole (a ∷ b ∷ []) ≡ true → (c : ℕ) × (128 ≤ c) × (c < 2048) × (a ≡ 192 + c / 64) × (b ≡ 128 + c % 64)
two_of a b h =
    let p : (0xC2 ≤ a) × (a ≤ 0xDF) × (0x80 ≤ b) × (b ≤ 0xBF) =
    (grind (arith, nat_tests), grind (arith, nat_tests), grind (arith, nat_tests), grind (arith, nat_tests)) in
    ((a - 192) * 64 + (b - 128), omega arith, omega arith, omega arith, omega arith)

three_of : (a b c : ℕ) → is_whole (a ∷ b ∷ c ∷ []) ≡ true
    → (n : ℕ) × (2048 ≤ n) × (n < 65536) × (is_character n ≡ true) × (a ≡ 224 + n / 4096) × (b ≡ 128 + n / 64 % 64) × (c ≡ 128 + n % 64)
three_of a b c h =
    let p : (0xE0 ≤ a) × (a ≤ 0xEF) × (0x80 ≤ b) × (b ≤ 0xBF) × (0x80 ≤ c) × (c ≤ 0xBF) = (
      grind (arith, nat_tests),
      grind (arith, nat_tests),
      grind (arith, nat_tests),
      grind (arith, nat_tests),
      grind (arith, nat_tests),
      grind (arith, nat_tests),
    ) in
    let n : ℕ = (a - 224) * 4096 + ((b - 128) * 64 + (c - 128)) in
    (n, grind (arith, nat_tests), omega arith, grind (arith, nat_tests), omega arith, omega arith, omega arith)

four_of : (a b c d : ℕ) → is_whole (a ∷ b ∷ c ∷ d ∷ []) ≡ true
    → (n : ℕ) × (65536 ≤ n) × (n < 1114112) × (a ≡ 240 + n / 262144) × (b ≡ 128 + n / 4096 % 64) × (c ≡ 128 + n / 64 % 64) × (d ≡ 128 + n % 64)
four_of a b c d h =
    let p : (0xF0 ≤ a) × (a ≤ 0xF4) × (0x80 ≤ b) × (b ≤ 0xBF) × (0x80 ≤ c) × (c ≤ 0xBF) × (0x80 ≤ d) × (d ≤ 0xBF) = (
      grind (arith, nat_tests),
      grind (arith, nat_tests),
      grind (arith, nat_tests),
      grind (arith, nat_tests),
      grind (arith, nat_tests),
      grind (arith, nat_tests),
      grind (arith, nat_tests),
      grind (arith, nat_tests),
    ) in
    let n : ℕ = (a - 240) * 262144 + ((b - 128) * 4096 + ((c - 128) * 64 + (d - 128))) in
    (n, grind (arith, nat_tests), grind (arith, nat_tests), omega arith, omega arith, omega arith, omega arith)

encode_two : (c : ℕ) → 128 ≤ c → c < 2048 → encode_utf8 c ≡ (192 + c / 64) ∷ (128 + c % 64) ∷ []
unfolding encode_utf8
encode_two c low high = grind (arith, nat_tests)

encode_three : (c : ℕ) → 2048 ≤ c → c < 65536 → encode_utf8 c ≡ (224 + c / 4096) ∷ (128 + c / 64 % 64) ∷ (128 + c % 64) ∷ []
unfolding encode_utf8
encode_three c low high = grind (arith, nat_tests)

encode_four : (c : ℕ) → 65536 ≤ c → encode_utf8 c ≡ (240 + c / 262144) ∷ (128 + c / 4096 % 64) ∷ (128 + c / 64 % 64) ∷ (128 + c % 64) ∷ []
unfolding encode_utf8
encode_four c low = grind (arith, nat_tests)

-- A character of XML is read back from its bytes, and nothing else is.

pub decoded_character : (c : ℕ) (bytes : List ℕ) → is_character c ≡ true → encode_utf8 c ≡ bytes → decoded bytes ≡ Some c
decoded_character c bytes h e = subst (λ (w : List ℕ). decoded w ≡ Some c) e (decoded_whole c h)

-- The bytes of a character of several bytes are whole.

of_several : (c : ℕ) → 128 ≤ c → is_character c ≡ true → is_whole (encode_utf8 c) ≡ true
of_several c low h = at (cases_lt c 2048) (cases_lt c 65536)
  where
    last : is_character c ≡ true → c < 1114112
    last h = grind (arith, nat_tests)

    at : (c < 2048) ⊎ (2048 ≤ c) → (c < 65536) ⊎ (65536 ≤ c) → is_whole (encode_utf8 c) ≡ true
    at (inl l) m = ap is_whole (encode_two c low l) ∙ two_whole c low l
    at (inr l) (inl m) = ap is_whole (encode_three c l m) ∙ three_whole c l m h
    at (inr l) (inr m) = ap is_whole (encode_four c m) ∙ four_whole c m (last h)

-- no whole character, and so none at all
pub none_decoded : (a b : ℕ) (bytes : List ℕ) → is_whole (a ∷ b ∷ bytes) ≡ false → decoded (a ∷ b ∷ bytes) ≡ None
none_decoded a b bytes h = at (decoded (a ∷ b ∷ bytes)) refl
  where
    at : (o : Option ℕ) → decoded (a ∷ b ∷ bytes) ≡ o → o ≡ None
    at None q = refl
    at (Some c) q =
        let d = decoded_is (a ∷ b ∷ bytes) c q in
        elim (cases_lt c 128) [
          | inl l ↦ let z : c ∷ [] ≡ a ∷ b ∷ bytes = sym (encode_ascii c l) ∙ d.is in cc
          | inr l ↦ let z : false ≡ true = sym h ∙ ap is_whole (sym d.is) ∙ of_several c l d.character in cc
        ]

-- a whole one is a character of several bytes
pub record IsSeveral (bytes : List ℕ) : Type 0 where
  pub c : ℕ
  pub several : 128 ≤ c
  pub character : is_character c ≡ true
  pub is : decoded bytes ≡ Some c

several_two : (c : ℕ) → 128 ≤ c → c < 2048 → is_character c ≡ true
several_two c low high = grind (arith, nat_tests)

several_four : (c : ℕ) → 65536 ≤ c → c < 1114112 → is_character c ≡ true
several_four c low high = grind (arith, nat_tests)

pub is_several : (bytes : List ℕ) → is_whole bytes ≡ true → IsSeveral bytes
is_several [] h = cc
is_several (a ∷ []) h = cc
is_several (a ∷ b ∷ []) h =
    let n = two_of a b h in
    let e : encode_utf8 n.0 ≡ a ∷ b ∷ [] = encode_two n.0 n.1 n.2 ∙ (cc (n.3, n.4)) in
    record { c = n.0; several = n.1; character = several_two n.0 n.1 n.2; is = decoded_character n.0 (a ∷ b ∷ []) (several_two n.0 n.1 n.2) e }
is_several (a ∷ b ∷ c ∷ []) h =
    let n = three_of a b c h in
    let e : encode_utf8 n.0 ≡ a ∷ b ∷ c ∷ [] = encode_three n.0 n.1 n.2 ∙ (cc (n.4, n.5, n.6)) in
    record { c = n.0; several = omega (arith, n.1); character = n.3; is = decoded_character n.0 (a ∷ b ∷ c ∷ []) n.3 e }
is_several (a ∷ b ∷ c ∷ d ∷ []) h =
    let n = four_of a b c d h in
    let e : encode_utf8 n.0 ≡ a ∷ b ∷ c ∷ d ∷ [] = encode_four n.0 n.1 ∙ (cc (n.3, n.4, n.5, n.6)) in
    let character : is_character n.0 ≡ true = several_four n.0 n.1 n.2 in
    record { c = n.0; several = omega (arith, n.1); character = character; is = decoded_character n.0 (a ∷ b ∷ c ∷ d ∷ []) character e }
is_several (a ∷ b ∷ c ∷ d ∷ e ∷ bytes) h = cc
