-- The characters of XML by their bytes.
use Rattle.std.proofs.Common.{◌≡◌, ℕ, ◌+◌, ◌-◌, ◌*◌, ◌/◌, ◌%◌, ◌<◌, ◌≤◌, true, List, [], ◌∷◌, refl, arith}
use Rattle.std.proofs.lemmas.Bool.{lt-ltb, le-ltb}
use Rattle.std.proofs.lemmas.Bool.Decides.{nat_tests}
use Rattle.std.proofs.lemmas.Str.{encode_ascii}
use Rattle.std.specs.Char.{encode_utf8}
use Rattle.xml_text.specs.Characters.{is_character}

-- the bytes of a character of XML
pub record IsOfCharacter (w : List ℕ) : Type 0 where
  pub code : ℕ
  pub is : is_character code ≡ true
  pub bytes : encode_utf8 code ≡ w

low : (c : ℕ) → 0x20 ≤ c → c ≤ 0xD7FF → is_character c ≡ true
low c l h = grind (arith, nat_tests)

high : (c : ℕ) → 0xE000 ≤ c → c ≤ 0xFFFD → is_character c ≡ true
high c l h = grind (arith, nat_tests)

highest : (c : ℕ) → 0x10000 ≤ c → c ≤ 0x10FFFF → is_character c ≡ true
highest c l h = grind (arith, nat_tests)

pub one_byte : (b : ℕ) → is_character b ≡ true → b < 128 → IsOfCharacter (b ∷ [])
one_byte b is h = record { code = b; is = is; bytes = encode_ascii b h }

pub tab : (b : ℕ) → 0x09 ≤ b → b ≤ 0x0A → IsOfCharacter (b ∷ [])
tab b l h = one_byte b (grind (arith, nat_tests)) (omega arith)

pub carriage : (b : ℕ) → 0x0D ≤ b → b ≤ 0x0D → IsOfCharacter (b ∷ [])
carriage b l h = one_byte b (grind (arith, nat_tests)) (omega arith)

pub printable : (b : ℕ) → 0x20 ≤ b → b ≤ 0x7F → IsOfCharacter (b ∷ [])
printable b l h = one_byte b (low b l (omega arith)) (omega arith)

two_bytes : (b c x : ℕ) → 0xC2 ≤ b → b ≤ 0xDF → 0x80 ≤ c → c ≤ 0xBF → x ≡ (b - 192) * 64 + (c - 128) → IsOfCharacter (b ∷ c ∷ [])
unfolding encode_utf8
two_bytes b c x lo hi above below is =
    let one : 192 + x / 64 ≡ b = omega arith in
    let two : 128 + x % 64 ≡ c = omega arith in
    let spells : encode_utf8 x ≡ b ∷ c ∷ [] = rw (le-ltb x 128 (omega arith), lt-ltb x 2048 (omega arith)) cc in
    record { code = x; is = low x (omega arith) (omega arith); bytes = spells }

pub of_two : (b c : ℕ) → 0xC2 ≤ b → b ≤ 0xDF → 0x80 ≤ c → c ≤ 0xBF → IsOfCharacter (b ∷ c ∷ [])
of_two b c lo hi above below = two_bytes b c ((b - 192) * 64 + (c - 128)) lo hi above below refl

three_bytes : (b c d x : ℕ) → 0xE0 ≤ b → b ≤ 0xEF → 0x80 ≤ c → c ≤ 0xBF → 0x80 ≤ d → d ≤ 0xBF → x ≡ ((b - 224) * 64 + (c - 128)) * 64 + (d - 128) → 2048 ≤ x → is_character x ≡ true → IsOfCharacter (b ∷ c ∷ d ∷ [])
unfolding encode_utf8
three_bytes b c d x lo hi clow chigh dlow dhigh is least good =
    let one : 224 + x / 4096 ≡ b = omega arith in
    let two : 128 + x / 64 % 64 ≡ c = omega arith in
    let three : 128 + x % 64 ≡ d = omega arith in
    let spells : encode_utf8 x ≡ b ∷ c ∷ d ∷ [] = rw (le-ltb x 128 (omega arith), le-ltb x 2048 least, lt-ltb x 65536 (omega arith)) cc in
    record { code = x; is = good; bytes = spells }

abbrev code_of_three : ℕ → ℕ → ℕ → ℕ
code_of_three b c d = ((b - 224) * 64 + (c - 128)) * 64 + (d - 128)

pub of_e0 : (b c d : ℕ) → 0xE0 ≤ b → b ≤ 0xE0 → 0xA0 ≤ c → c ≤ 0xBF → 0x80 ≤ d → d ≤ 0xBF → IsOfCharacter (b ∷ c ∷ d ∷ [])
of_e0 b c d lo hi clow chigh dlow dhigh = three_bytes b c d (code_of_three b c d) lo (omega arith) (omega arith) chigh dlow dhigh refl (omega arith) (low (code_of_three b c d) (omega arith) (omega arith))

pub of_e1 : (b c d : ℕ) → 0xE1 ≤ b → b ≤ 0xEC → 0x80 ≤ c → c ≤ 0xBF → 0x80 ≤ d → d ≤ 0xBF → IsOfCharacter (b ∷ c ∷ d ∷ [])
of_e1 b c d lo hi clow chigh dlow dhigh = three_bytes b c d (code_of_three b c d) (omega arith) (omega arith) clow chigh dlow dhigh refl (omega arith) (low (code_of_three b c d) (omega arith) (omega arith))

pub of_ed : (b c d : ℕ) → 0xED ≤ b → b ≤ 0xED → 0x80 ≤ c → c ≤ 0x9F → 0x80 ≤ d → d ≤ 0xBF → IsOfCharacter (b ∷ c ∷ d ∷ [])
of_ed b c d lo hi clow chigh dlow dhigh = three_bytes b c d (code_of_three b c d) (omega arith) (omega arith) clow (omega arith) dlow dhigh refl (omega arith) (low (code_of_three b c d) (omega arith) (omega arith))

pub of_ee : (b c d : ℕ) → 0xEE ≤ b → b ≤ 0xEE → 0x80 ≤ c → c ≤ 0xBF → 0x80 ≤ d → d ≤ 0xBF → IsOfCharacter (b ∷ c ∷ d ∷ [])
of_ee b c d lo hi clow chigh dlow dhigh = three_bytes b c d (code_of_three b c d) (omega arith) (omega arith) clow chigh dlow dhigh refl (omega arith) (high (code_of_three b c d) (omega arith) (omega arith))

pub of_ef : (b c d : ℕ) → 0xEF ≤ b → b ≤ 0xEF → 0x80 ≤ c → c ≤ 0xBE → 0x80 ≤ d → d ≤ 0xBF → IsOfCharacter (b ∷ c ∷ d ∷ [])
of_ef b c d lo hi clow chigh dlow dhigh = three_bytes b c d (code_of_three b c d) (omega arith) (omega arith) clow (omega arith) dlow dhigh refl (omega arith) (high (code_of_three b c d) (omega arith) (omega arith))

pub of_ef_bf : (b c d : ℕ) → 0xEF ≤ b → b ≤ 0xEF → 0xBF ≤ c → c ≤ 0xBF → 0x80 ≤ d → d ≤ 0xBD → IsOfCharacter (b ∷ c ∷ d ∷ [])
of_ef_bf b c d lo hi clow chigh dlow dhigh = three_bytes b c d (code_of_three b c d) (omega arith) (omega arith) (omega arith) chigh dlow (omega arith) refl (omega arith) (high (code_of_three b c d) (omega arith) (omega arith))

four_bytes : (b c d e x : ℕ) → 0xF0 ≤ b → b ≤ 0xF4 → 0x80 ≤ c → c ≤ 0xBF → 0x80 ≤ d → d ≤ 0xBF → 0x80 ≤ e → e ≤ 0xBF → x ≡ (((b - 240) * 64 + (c - 128)) * 64 + (d - 128)) * 64 + (e - 128) → 65536 ≤ x → x ≤ 0x10FFFF → IsOfCharacter (b ∷ c ∷ d ∷ e ∷ [])
unfolding encode_utf8
four_bytes b c d e x lo hi clow chigh dlow dhigh elow ehigh is least most =
    let one : 240 + x / 262144 ≡ b = omega arith in
    let two : 128 + x / 4096 % 64 ≡ c = omega arith in
    let three : 128 + x / 64 % 64 ≡ d = omega arith in
    let four : 128 + x % 64 ≡ e = omega arith in
    let spells : encode_utf8 x ≡ b ∷ c ∷ d ∷ e ∷ [] = rw (le-ltb x 128 (omega arith), le-ltb x 2048 (omega arith), le-ltb x 65536 least) cc in
    record { code = x; is = highest x least most; bytes = spells }

abbrev code_of_four : ℕ → ℕ → ℕ → ℕ → ℕ
code_of_four b c d e = (((b - 240) * 64 + (c - 128)) * 64 + (d - 128)) * 64 + (e - 128)

pub of_f0 : (b c d e : ℕ) → 0xF0 ≤ b → b ≤ 0xF0 → 0x90 ≤ c → c ≤ 0xBF → 0x80 ≤ d → d ≤ 0xBF → 0x80 ≤ e → e ≤ 0xBF → IsOfCharacter (b ∷ c ∷ d ∷ e ∷ [])
of_f0 b c d e lo hi clow chigh dlow dhigh elow ehigh = four_bytes b c d e (code_of_four b c d e) lo (omega arith) (omega arith) chigh dlow dhigh elow ehigh refl (omega arith) (omega arith)

pub of_f1 : (b c d e : ℕ) → 0xF1 ≤ b → b ≤ 0xF3 → 0x80 ≤ c → c ≤ 0xBF → 0x80 ≤ d → d ≤ 0xBF → 0x80 ≤ e → e ≤ 0xBF → IsOfCharacter (b ∷ c ∷ d ∷ e ∷ [])
of_f1 b c d e lo hi clow chigh dlow dhigh elow ehigh = four_bytes b c d e (code_of_four b c d e) (omega arith) (omega arith) clow chigh dlow dhigh elow ehigh refl (omega arith) (omega arith)

pub of_f4 : (b c d e : ℕ) → 0xF4 ≤ b → b ≤ 0xF4 → 0x80 ≤ c → c ≤ 0x8F → 0x80 ≤ d → d ≤ 0xBF → 0x80 ≤ e → e ≤ 0xBF → IsOfCharacter (b ∷ c ∷ d ∷ e ∷ [])
of_f4 b c d e lo hi clow chigh dlow dhigh elow ehigh = four_bytes b c d e (code_of_four b c d e) (omega arith) hi clow (omega arith) dlow dhigh elow ehigh refl (omega arith) (omega arith)
