-- Behind the first bytes of a character some more make one of XML.
use Rattle.std.proofs.Common.{◌≡◌, ◌⊎◌, inl, inr, ℕ, ◌+◌, ◌*◌, ◌-◌, ◌/◌, ◌%◌, ◌≤◌, ◌<◌, true, ◌&&◌, nat_lt, nat_le, List, [], ◌∷◌, ◌++◌, refl, sym, ◌∙◌, ap, arith}
use Rattle.std.specs.Char.{encode_utf8}
use Rattle.std.specs.Int.{is_in_range}
use Rattle.std.proofs.lemmas.Bool.{and_parts, leb-true, cases_lt, ltb-true, ltb-false, cond_both}
use Rattle.std.proofs.lemmas.Bool.Decides.{nat_tests}
use Rattle.xml_text.specs.Characters.{is_character}
use Rattle.character_steps.specs.Bytes.{is_second, is_begun, continues}

-- the bytes with more behind them are a character
pub record Completed (u : List ℕ) : Type 0 where
  pub c : ℕ
  pub m : ℕ
  pub others : List ℕ
  pub character : is_character c ≡ true
  pub is : encode_utf8 c ≡ u ++ m ∷ others

encode_two : (c : ℕ) → 128 ≤ c → c < 2048 → encode_utf8 c ≡ (192 + c / 64) ∷ (128 + c % 64) ∷ []
unfolding encode_utf8
encode_two c low high =
    cond_both (nat_lt c 128) _ _ (λ (w : List ℕ). w ≡ (192 + c / 64) ∷ (128 + c % 64) ∷ [])
    (λ e. let l = ltb-true c 128 e in absurd (omega arith))
    (λ e128. cond_both (nat_lt c 2048) _ _ (λ (w : List ℕ). w ≡ (192 + c / 64) ∷ (128 + c % 64) ∷ [])
    (λ e. refl)
    (λ e. let l = ltb-false c 2048 e in absurd (omega arith)))

encode_three : (c : ℕ) → 2048 ≤ c → c < 65536 → encode_utf8 c ≡ (224 + c / 4096) ∷ (128 + c / 64 % 64) ∷ (128 + c % 64) ∷ []
unfolding encode_utf8
encode_three c low high =
    cond_both (nat_lt c 128) _ _ (λ (w : List ℕ). w ≡ (224 + c / 4096) ∷ (128 + c / 64 % 64) ∷ (128 + c % 64) ∷ [])
    (λ e. let l = ltb-true c 128 e in absurd (omega arith))
    (λ e128. cond_both (nat_lt c 2048) _ _ (λ (w : List ℕ). w ≡ (224 + c / 4096) ∷ (128 + c / 64 % 64) ∷ (128 + c % 64) ∷ [])
    (λ e. let l = ltb-true c 2048 e in absurd (omega arith))
    (λ e2048. cond_both (nat_lt c 65536) _ _ (λ (w : List ℕ). w ≡ (224 + c / 4096) ∷ (128 + c / 64 % 64) ∷ (128 + c % 64) ∷ [])
    (λ e. refl)
    (λ e. let l = ltb-false c 65536 e in absurd (omega arith))))

encode_four : (c : ℕ) → 65536 ≤ c → encode_utf8 c ≡ (240 + c / 262144) ∷ (128 + c / 4096 % 64) ∷ (128 + c / 64 % 64) ∷ (128 + c % 64) ∷ []
unfolding encode_utf8
encode_four c low =
    cond_both (nat_lt c 128) _ _ (λ (w : List ℕ). w ≡ (240 + c / 262144) ∷ (128 + c / 4096 % 64) ∷ (128 + c / 64 % 64) ∷ (128 + c % 64) ∷ [])
    (λ e. let l = ltb-true c 128 e in absurd (omega arith))
    (λ e128. cond_both (nat_lt c 2048) _ _ (λ (w : List ℕ). w ≡ (240 + c / 262144) ∷ (128 + c / 4096 % 64) ∷ (128 + c / 64 % 64) ∷ (128 + c % 64) ∷ [])
    (λ e. let l = ltb-true c 2048 e in absurd (omega arith))
    (λ e2048. cond_both (nat_lt c 65536) _ _ (λ (w : List ℕ). w ≡ (240 + c / 262144) ∷ (128 + c / 4096 % 64) ∷ (128 + c / 64 % 64) ∷ (128 + c % 64) ∷ [])
    (λ e. let l = ltb-true c 65536 e in absurd (omega arith))
    (λ e. refl)))

two_same : (x y a b : ℕ) → x ≡ a → y ≡ b → x ∷ y ∷ [] ≡ a ∷ b ∷ []
two_same x y a b p q = cc

three_same : (x y z a b d : ℕ) → x ≡ a → y ≡ b → z ≡ d → x ∷ y ∷ z ∷ [] ≡ a ∷ b ∷ d ∷ []
three_same x y z a b d p q r = cc

four_same : (x y z t a b d e : ℕ) → x ≡ a → y ≡ b → z ≡ d → t ≡ e → x ∷ y ∷ z ∷ t ∷ [] ≡ a ∷ b ∷ d ∷ e ∷ []
four_same x y z t a b d e p q r s = cc

low_character : (c : ℕ) → 128 ≤ c → c < 55296 → is_character c ≡ true
low_character c l m = grind (arith, nat_tests)

middle_character : (c : ℕ) → 57344 ≤ c → c ≤ 65472 → is_character c ≡ true
middle_character c l m = grind (arith, nat_tests)

high_character : (c : ℕ) → 65536 ≤ c → c < 1114112 → is_character c ≡ true
high_character c l m = grind (arith, nat_tests)

two_at : (a k : ℕ) → a ≡ 192 + k → 2 ≤ k → k ≤ 31 → Completed (a ∷ [])
two_at a k e low high =
    let l : 128 ≤ k * 64 = omega arith in
    let h : k * 64 < 2048 = omega arith in
    record {
      c = k * 64;
      m = 128;
      others = [];
      character = low_character (k * 64) l (omega arith);
      is = encode_two (k * 64) l h ∙ two_same (192 + (k * 64) / 64) (128 + (k * 64) % 64) a 128 (omega arith) (omega arith);
    }

-- three bytes, the last of which is the least
three_is : (a b k j : ℕ) → a ≡ 224 + k → b ≡ 128 + j → j ≤ 63 → k ≤ 15 → 2048 ≤ k * 4096 + j * 64 → encode_utf8 (k * 4096 + j * 64) ≡ a ∷ b ∷ 128 ∷ []
three_is a b k j p q low high large =
    encode_three (k * 4096 + j * 64) large (omega arith)
    ∙ three_same (224 + (k * 4096 + j * 64) / 4096) (128 + (k * 4096 + j * 64) / 64 % 64) (128 + (k * 4096 + j * 64) % 64) a b 128 (omega arith) (omega arith) (omega arith)

three_character : (k j : ℕ) → j ≤ 63 → k ≤ 15 → 2048 ≤ k * 4096 + j * 64 → (k ≡ 13 → j ≤ 31) → is_character (k * 4096 + j * 64) ≡ true
three_character k j low high large none = at (cases_lt (k * 4096 + j * 64) 55296)
  where
    above : 55296 ≤ k * 4096 + j * 64 → 57344 ≤ k * 4096 + j * 64
    above l = by (cases_lt k 14)
      where
        by : (k < 14) ⊎ (14 ≤ k) → 57344 ≤ k * 4096 + j * 64
        by (inl m) = let same : k ≡ 13 = omega arith in let n = none same in absurd (omega arith)
        by (inr m) = omega arith

    at : (k * 4096 + j * 64 < 55296) ⊎ (55296 ≤ k * 4096 + j * 64) → is_character (k * 4096 + j * 64) ≡ true
    at (inl l) = low_character (k * 4096 + j * 64) (omega arith) l
    at (inr l) = middle_character (k * 4096 + j * 64) (above l) (omega arith)

-- four bytes, the last of which is the least
four_is : (a b d k j i : ℕ) → a ≡ 240 + k → b ≡ 128 + j → d ≡ 128 + i → i ≤ 63 → j ≤ 63 → k ≤ 4 → 65536 ≤ k * 262144 + j * 4096 + i * 64
    → encode_utf8 (k * 262144 + j * 4096 + i * 64) ≡ a ∷ b ∷ d ∷ 128 ∷ []
four_is a b d k j i p q r l m n large =
    encode_four (k * 262144 + j * 4096 + i * 64) large
    ∙ four_same (240 + (k * 262144 + j * 4096 + i * 64) / 262144) (128 + (k * 262144 + j * 4096 + i * 64) / 4096 % 64) (128 + (k * 262144 + j * 4096 + i * 64) / 64 % 64)
    (128 + (k * 262144 + j * 4096 + i * 64) % 64) a b d 128 (omega arith) (omega arith) (omega arith) (omega arith)

-- what the second byte says
second_low : (a b : ℕ) → is_second a b ≡ true → 128 ≤ b
second_low a b h = grind (arith, nat_tests)

second_high : (a b : ℕ) → is_second a b ≡ true → b ≤ 191
second_high a b h = grind (arith, nat_tests)

second_three : (b : ℕ) → is_second 224 b ≡ true → 160 ≤ b
second_three b h = grind (arith, nat_tests)

second_surrogate : (b : ℕ) → is_second 237 b ≡ true → b ≤ 159
second_surrogate b h = grind (arith, nat_tests)

second_four : (b : ℕ) → is_second 240 b ≡ true → 144 ≤ b
second_four b h = grind (arith, nat_tests)

second_last : (b : ℕ) → is_second 244 b ≡ true → b ≤ 143
second_last b h = grind (arith, nat_tests)

first_of_three : (a : ℕ) → 224 ≤ a → a ≤ 239 → Completed (a ∷ [])
first_of_three a l m = at (cases_lt a 225)
  where
    at : (a < 225) ⊎ (225 ≤ a) → Completed (a ∷ [])
    at (inl i) = record { c = 0 * 4096 + 32 * 64; m = 160; others = 128 ∷ []; character = refl; is = three_is a 160 0 32 (omega arith) refl (omega arith) (omega arith) (omega arith) }
    at (inr i) =
        let large : 2048 ≤ (a - 224) * 4096 + 0 * 64 = omega arith in
        record {
          c = (a - 224) * 4096 + 0 * 64;
          m = 128;
          others = 128 ∷ [];
          character = three_character (a - 224) 0 (omega arith) (omega arith) large (λ e. omega arith);
          is = three_is a 128 (a - 224) 0 (omega arith) refl (omega arith) (omega arith) large;
        }

first_of_four : (a : ℕ) → 240 ≤ a → a ≤ 244 → Completed (a ∷ [])
first_of_four a l m = at (cases_lt a 241)
  where
    at : (a < 241) ⊎ (241 ≤ a) → Completed (a ∷ [])
    at (inl i) = record {
      c = 0 * 262144 + 16 * 4096 + 0 * 64;
      m = 144;
      others = 128 ∷ 128 ∷ [];
      character = refl;
      is = four_is a 144 128 0 16 0 (omega arith) refl refl (omega arith) (omega arith) (omega arith) (omega arith);
    }
    at (inr i) =
        let large : 65536 ≤ (a - 240) * 262144 + 0 * 4096 + 0 * 64 = omega arith in
        record {
          c = (a - 240) * 262144 + 0 * 4096 + 0 * 64;
          m = 128;
          others = 128 ∷ 128 ∷ [];
          character = high_character ((a - 240) * 262144 + 0 * 4096 + 0 * 64) large (omega arith);
          is = four_is a 128 128 (a - 240) 0 0 (omega arith) refl refl (omega arith) (omega arith) (omega arith) large;
        }

one_begun : (a : ℕ) → 0xC2 ≤ a → a ≤ 0xF4 → Completed (a ∷ [])
one_begun a l m = at (cases_lt a 224) (cases_lt a 240)
  where
    at : (a < 224) ⊎ (224 ≤ a) → (a < 240) ⊎ (240 ≤ a) → Completed (a ∷ [])
    at (inl i) j = two_at a (a - 192) (omega arith) (omega arith) (omega arith)
    at (inr i) (inl j) = first_of_three a i (omega arith)
    at (inr i) (inr j) = first_of_four a j m

second_of_three : (a b : ℕ) → 0xE0 ≤ a → a ≤ 239 → is_second a b ≡ true → Completed (a ∷ b ∷ [])
second_of_three a b l m h =
    let low = second_low a b h in
    let high = second_high a b h in
    let large : 2048 ≤ (a - 224) * 4096 + (b - 128) * 64 = large_so (cases_lt a 225) in
    record {
      c = (a - 224) * 4096 + (b - 128) * 64;
      m = 128;
      others = [];
      character = three_character (a - 224) (b - 128) (omega arith) (omega arith) large (λ e. none e);
      is = three_is a b (a - 224) (b - 128) (omega arith) (omega arith) (omega arith) (omega arith) large;
    }
  where
    large_so : (a < 225) ⊎ (225 ≤ a) → 2048 ≤ (a - 224) * 4096 + (b - 128) * 64
    large_so (inl i) =
        let same : a ≡ 224 = omega arith in
        let z = second_three b (ap (λ (k : ℕ). is_second k b) (sym same) ∙ h) in
        omega arith
    large_so (inr i) = omega arith

    none : a - 224 ≡ 13 → b - 128 ≤ 31
    none e =
        let same : a ≡ 237 = omega arith in
        let z = second_surrogate b (ap (λ (k : ℕ). is_second k b) (sym same) ∙ h) in
        omega arith

-- four bytes, of which the third may be the least
pub four_bounds : (a b : ℕ) → 240 ≤ a → a ≤ 0xF4 → is_second a b ≡ true → (i : ℕ) → i ≤ 63
    → (65536 ≤ (a - 240) * 262144 + (b - 128) * 4096 + i * 64) × ((a - 240) * 262144 + (b - 128) * 4096 + i * 64 < 1114112)
four_bounds a b l m h i small = (least (cases_lt a 241), most (cases_lt a 244))
  where
    least : (a < 241) ⊎ (241 ≤ a) → 65536 ≤ (a - 240) * 262144 + (b - 128) * 4096 + i * 64
    least (inl j) =
        let same : a ≡ 240 = omega arith in
        let z = second_four b (ap (λ (k : ℕ). is_second k b) (sym same) ∙ h) in
        omega arith
    least (inr j) = omega arith

    most : (a < 244) ⊎ (244 ≤ a) → (a - 240) * 262144 + (b - 128) * 4096 + i * 64 < 1114112
    most (inl j) = let z = second_high a b h in omega arith
    most (inr j) =
        let same : a ≡ 244 = omega arith in
        let z = second_last b (ap (λ (k : ℕ). is_second k b) (sym same) ∙ h) in
        omega arith

four_whole : (a b d : ℕ) → 240 ≤ a → a ≤ 0xF4 → is_second a b ≡ true → 128 ≤ d → d ≤ 191
    → (is_character ((a - 240) * 262144 + (b - 128) * 4096 + (d - 128) * 64) ≡ true) × (encode_utf8 ((a - 240) * 262144 + (b - 128) * 4096 + (d - 128) * 64) ≡ a ∷ b ∷ d ∷ 128 ∷ [])
four_whole a b d l m h low high =
    let bounds = four_bounds a b l m h (d - 128) (omega arith) in
    let second_least = second_low a b h in
    let second_most = second_high a b h in (
      high_character ((a - 240) * 262144 + (b - 128) * 4096 + (d - 128) * 64) bounds.0 bounds.1,
      four_is a b d (a - 240) (b - 128) (d - 128) (omega arith) (omega arith) (omega arith) (omega arith) (omega arith) (omega arith) bounds.0,
    )

pub begun_completes : (a : ℕ) (u : List ℕ) → is_begun (a ∷ u) ≡ true → Completed (a ∷ u)
unfolding is_begun
begun_completes a [] h = let p = and_parts (nat_le 0xC2 a) (nat_le a 0xF4) h in one_begun a (leb-true 0xC2 a p.0) (leb-true a 0xF4 p.1)
begun_completes a (b ∷ []) h =
    let p = and_parts (is_in_range 0xE0 0xF4 a) (is_second a b) h in
    let q = and_parts (nat_le 0xE0 a) (nat_le a 0xF4) p.0 in
    at (cases_lt a 240) (leb-true 0xE0 a q.0) (leb-true a 0xF4 q.1) p.1
  where
    at : (a < 240) ⊎ (240 ≤ a) → 0xE0 ≤ a → a ≤ 0xF4 → is_second a b ≡ true → Completed (a ∷ b ∷ [])
    at (inl i) l m s = second_of_three a b l (omega arith) s
    at (inr i) l m s =
        let w = four_whole a b 128 i m s (omega arith) (omega arith) in
        record { c = (a - 240) * 262144 + (b - 128) * 4096 + (128 - 128) * 64; m = 128; others = 128 ∷ []; character = w.0; is = w.1 }
begun_completes a (b ∷ d ∷ []) h =
    let p = and_parts (is_in_range 0xF0 0xF4 a && is_second a b) (continues d) h in
    let q = and_parts (is_in_range 0xF0 0xF4 a) (is_second a b) p.0 in
    let r = and_parts (nat_le 0xF0 a) (nat_le a 0xF4) q.0 in
    let s = and_parts (nat_le 0x80 d) (nat_le d 0xBF) p.1 in
    let w = four_whole a b d (leb-true 0xF0 a r.0) (leb-true a 0xF4 r.1) q.1 (leb-true 0x80 d s.0) (leb-true d 0xBF s.1) in
    record { c = (a - 240) * 262144 + (b - 128) * 4096 + (d - 128) * 64; m = 128; others = []; character = w.0; is = w.1 }
begun_completes a (b ∷ d ∷ e ∷ u) h = cc
