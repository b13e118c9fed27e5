-- The first bytes of a character are told from whole characters and from other bytes.
use Rattle.std.proofs.Common.{◌≡◌, ◌⊎◌, inl, inr, ℕ, ◌+◌, ◌/◌, ◌%◌, ◌≤◌, ◌<◌, Bool, true, false, ◌&&◌, nat_lt, nat_le, nat_eq, List, [], ◌∷◌, ◌++◌, Option, Some, None, refl, sym, ◌∙◌, ap, subst, arith, append-nil}
use Rattle.std.specs.Prelude.{if◌then◌else◌, bytes_eq}
use Rattle.std.specs.Char.{encode_utf8, IsScalar}
use Rattle.std.specs.Int.{is_in_range}
use Rattle.std.specs.Str.{chars, encode_utf8_all}
use Rattle.std.proofs.lemmas.Bool.{and_parts, and_from, le-leb, ltb-true, ltb-false, cond_both}
use Rattle.std.proofs.lemmas.Slice.Eq.{bytes_eq-Decides}
use Rattle.std.proofs.lemmas.Str.{IsUtf8-encode, chars_from_encodes, encode_same, encode_ascii}
use Rattle.std.proofs.Math.Utf8.{scalar_cases}
use Rattle.xml_text.specs.Characters.{is_character}
use Rattle.character_steps.specs.Bytes.{only, decoded, is_second, is_begun}

-- a character of XML is no surrogate and not beyond the last
pub is_scalar : (c : ℕ) → is_character c ≡ true → IsScalar c
is_scalar c h = grind arith

one_is : (c : ℕ) (bytes : List ℕ) → is_character c ≡ true → bytes_eq (encode_utf8 c) bytes ≡ true → only (c ∷ []) bytes ≡ Some c
one_is c bytes h e = ap (λ (b : Bool). if b then Some c else None) (and_from (is_character c) (bytes_eq (encode_utf8 c) bytes) h e)

-- a whole character is read back
pub decoded_whole : (c : ℕ) → is_character c ≡ true → decoded (encode_utf8 c) ≡ Some c
unfolding decoded
decoded_whole c h =
    let one : encode_utf8_all (c ∷ []) ≡ encode_utf8 c = append-nil (encode_utf8 c) in
    let read : (c ∷ []) ≡ chars (encode_utf8 c) = chars_from_encodes (c ∷ []) (encode_utf8 c) (IsUtf8-encode c (is_scalar c h)) one in
    ap (λ (cs : List ℕ). only cs (encode_utf8 c)) (sym read) ∙ one_is c (encode_utf8 c) h ((bytes_eq-Decides (encode_utf8 c) (encode_utf8 c)).1 refl)

pub record Decoded (bytes : List ℕ) (c : ℕ) : Type 0 where
  pub is : encode_utf8 c ≡ bytes
  pub character : is_character c ≡ true

-- and nothing else
pub decoded_is : (bytes : List ℕ) (c : ℕ) → decoded bytes ≡ Some c → Decoded bytes c
unfolding decoded
decoded_is bytes c e = at (chars bytes) e
  where
    same : (x y : ℕ) → (let z : Option ℕ = Some x in z ≡ Some y) → x ≡ y
    same x y e = cc

    by : (d : ℕ) (b : Bool) → (is_character d && bytes_eq (encode_utf8 d) bytes) ≡ b → (if b then Some d else None) ≡ Some c → Decoded bytes c
    by d true h e =
        let p = and_parts (is_character d) (bytes_eq (encode_utf8 d) bytes) h in
        subst (Decoded bytes) (same d c e) (record { is = (bytes_eq-Decides (encode_utf8 d) bytes).0 p.1; character = p.0 })
    by d false h e = cc

    at : (cs : List ℕ) → only cs bytes ≡ Some c → Decoded bytes c
    at [] e = cc
    at (d ∷ []) e = by d (is_character d && bytes_eq (encode_utf8 d) bytes) refl e
    at (d ∷ f ∷ cs) e = cc

-- some bytes of a character are no whole one
pub decoded_part : (c : ℕ) (u : List ℕ) (b : ℕ) (v : List ℕ) → u ++ b ∷ v ≡ encode_utf8 c → decoded u ≡ None
decoded_part c u b v e = at (decoded u) refl
  where
    at : (o : Option ℕ) → decoded u ≡ o → o ≡ None
    at None q = refl
    at (Some d) q =
        let is = (decoded_is u d q).is in
        let s = encode_same d c (b ∷ v) [] (ap (λ (w : List ℕ). w ++ b ∷ v) is ∙ e ∙ sym (append-nil (encode_utf8 c))) in
        let z : b ∷ v ≡ [] = s.1 in
        cc

-- The bytes of a character, class by class.

within : (low high b : ℕ) → low ≤ b → b ≤ high → is_in_range low high b ≡ true
within low high b p q = and_from (nat_le low b) (nat_le b high) (le-leb low b p) (le-leb b high q)

abbrev Part : List ℕ → Type 0
Part bytes = (u : List ℕ) (b : ℕ) (v : List ℕ) → u ++ b ∷ v ≡ bytes → is_begun u ≡ true

parts_one : (x : ℕ) → Part (x ∷ [])
unfolding is_begun
parts_one x [] b v e = refl
parts_one x (a ∷ []) b v e = cc
parts_one x (a ∷ d ∷ u) b v e = cc

parts_two : (x y : ℕ) → is_begun (x ∷ []) ≡ true → Part (x ∷ y ∷ [])
unfolding is_begun
parts_two x y h [] b v e = refl
parts_two x y h (a ∷ []) b v e = let q : x ≡ a = cc in ap (λ (z : ℕ). is_begun (z ∷ [])) (sym q) ∙ h
parts_two x y h (a ∷ d ∷ []) b v e = cc
parts_two x y h (a ∷ d ∷ f ∷ u) b v e = cc

parts_three : (x y z : ℕ) → is_begun (x ∷ []) ≡ true → is_begun (x ∷ y ∷ []) ≡ true → Part (x ∷ y ∷ z ∷ [])
unfolding is_begun
parts_three x y z h g [] b v e = refl
parts_three x y z h g (a ∷ []) b v e = let q : x ≡ a = cc in ap (λ (w : ℕ). is_begun (w ∷ [])) (sym q) ∙ h
parts_three x y z h g (a ∷ d ∷ []) b v e = let q : x ≡ a = cc in let r : y ≡ d = cc in ap (λ (w : ℕ). is_begun (w ∷ d ∷ [])) (sym q) ∙ ap (λ (w : ℕ). is_begun (x ∷ w ∷ [])) (sym r) ∙ g
parts_three x y z h g (a ∷ d ∷ f ∷ []) b v e = cc
parts_three x y z h g (a ∷ d ∷ f ∷ k ∷ u) b v e = cc

parts_four : (x y z t : ℕ) → is_begun (x ∷ []) ≡ true → is_begun (x ∷ y ∷ []) ≡ true → is_begun (x ∷ y ∷ z ∷ []) ≡ true → Part (x ∷ y ∷ z ∷ t ∷ [])
unfolding is_begun
parts_four x y z t h g k [] b v e = refl
parts_four x y z t h g k (a ∷ []) b v e = let q : x ≡ a = cc in ap (λ (w : ℕ). is_begun (w ∷ [])) (sym q) ∙ h
parts_four x y z t h g k (a ∷ d ∷ []) b v e = let q : x ≡ a = cc in let r : y ≡ d = cc in ap (λ (w : ℕ). is_begun (w ∷ d ∷ [])) (sym q) ∙ ap (λ (w : ℕ). is_begun (x ∷ w ∷ [])) (sym r) ∙ g
parts_four x y z t h g k (a ∷ d ∷ f ∷ []) b v e =
    let q : x ≡ a = cc in let r : y ≡ d = cc in let s : z ≡ f = cc in
    ap (λ (w : ℕ). is_begun (w ∷ d ∷ f ∷ [])) (sym q) ∙ ap (λ (w : ℕ). is_begun (x ∷ w ∷ f ∷ [])) (sym r) ∙ ap (λ (w : ℕ). is_begun (x ∷ y ∷ w ∷ [])) (sym s) ∙ k
parts_four x y z t h g k (a ∷ d ∷ f ∷ m ∷ []) b v e = cc
parts_four x y z t h g k (a ∷ d ∷ f ∷ m ∷ n ∷ u) b v e = cc

two_of : (c : ℕ) → 128 ≤ c → c < 2048 → Part ((192 + c / 64) ∷ (128 + c % 64) ∷ [])
unfolding is_begun
two_of c low high = parts_two (192 + c / 64) (128 + c % 64) (within 0xC2 0xF4 (192 + c / 64) (omega arith) (omega arith))

abbrev lowest : ℕ → ℕ
lowest a = if nat_eq a 0xE0 then 0xA0 else (if nat_eq a 0xF0 then 0x90 else 0x80)

abbrev highest : ℕ → ℕ
highest a = if nat_eq a 0xED then 0x9F else (if nat_eq a 0xF4 then 0x8F else 0xBF)

second : (a b : ℕ) → (a ≡ 0xE0 → 0xA0 ≤ b) → (a ≡ 0xF0 → 0x90 ≤ b) → 0x80 ≤ b → (a ≡ 0xED → b ≤ 0x9F) → (a ≡ 0xF4 → b ≤ 0x8F) → b ≤ 0xBF → is_second a b ≡ true
second a b p q r s t u = within (lowest a) (highest a) b (low (nat_eq a 0xE0) refl (nat_eq a 0xF0) refl) (high (nat_eq a 0xED) refl (nat_eq a 0xF4) refl)
  where
    is_it : (n m : ℕ) → nat_eq n m ≡ true → n ≡ m
    is_it n m e = grind arith

    low : (x : Bool) → nat_eq a 0xE0 ≡ x → (y : Bool) → nat_eq a 0xF0 ≡ y → (if x then 0xA0 else (if y then 0x90 else 0x80)) ≤ b
    low true e y f = p (is_it a 0xE0 e)
    low false e true f = q (is_it a 0xF0 f)
    low false e false f = r

    high : (x : Bool) → nat_eq a 0xED ≡ x → (y : Bool) → nat_eq a 0xF4 ≡ y → b ≤ (if x then 0x9F else (if y then 0x8F else 0xBF))
    high true e y f = s (is_it a 0xED e)
    high false e true f = t (is_it a 0xF4 f)
    high false e false f = u

surrogate : (c : ℕ) → c < 65536 → (c < 55296) ⊎ (57344 ≤ c) → 224 + c / 4096 ≡ 0xED → 128 + c / 64 % 64 ≤ 0x9F
surrogate c high (inl l) e = omega arith
surrogate c high (inr l) e = omega arith

three_of : (c : ℕ) → 2048 ≤ c → c < 65536 → (c < 55296) ⊎ (57344 ≤ c) → Part ((224 + c / 4096) ∷ (128 + c / 64 % 64) ∷ (128 + c % 64) ∷ [])
unfolding is_begun
three_of c low high none =
    let seconds : is_second (224 + c / 4096) (128 + c / 64 % 64) ≡ true = second (224 + c / 4096) (128 + c / 64 % 64) (λ e. omega arith) (λ e. omega arith) (omega arith) (surrogate c high none) (λ e. omega arith) (omega arith) in
    parts_three (224 + c / 4096) (128 + c / 64 % 64) (128 + c % 64)
    (within 0xC2 0xF4 (224 + c / 4096) (omega arith) (omega arith))
    (and_from _ _ (within 0xE0 0xF4 (224 + c / 4096) (omega arith) (omega arith)) seconds)

four_of : (c : ℕ) → 65536 ≤ c → c < 1114112 → Part ((240 + c / 262144) ∷ (128 + c / 4096 % 64) ∷ (128 + c / 64 % 64) ∷ (128 + c % 64) ∷ [])
unfolding is_begun
four_of c low high =
    let first : is_in_range 0xF0 0xF4 (240 + c / 262144) ≡ true = within 0xF0 0xF4 (240 + c / 262144) (omega arith) (omega arith) in
    let seconds : is_second (240 + c / 262144) (128 + c / 4096 % 64) ≡ true = second (240 + c / 262144) (128 + c / 4096 % 64) (λ e. omega arith) (λ e. omega arith) (omega arith) (λ e. omega arith) (λ e. omega arith) (omega arith) in
    parts_four (240 + c / 262144) (128 + c / 4096 % 64) (128 + c / 64 % 64) (128 + c % 64)
    (within 0xC2 0xF4 (240 + c / 262144) (omega arith) (omega arith))
    (and_from _ _ (within 0xE0 0xF4 (240 + c / 262144) (omega arith) (omega arith)) seconds)
    (and_from _ _ (and_from _ _ first seconds) (within 0x80 0xBF (128 + c / 64 % 64) (omega arith) (omega arith)))

-- the first bytes of a character, but not all, are begun
pub begun_part : (c : ℕ) → is_character c ≡ true → Part (encode_utf8 c)
unfolding encode_utf8
begun_part c h =
    let cases = scalar_cases c (is_scalar c h) in
    cond_both (nat_lt c 128) _ _ Part
    (λ e. parts_one c)
    (λ e128. cond_both (nat_lt c 2048) _ _ Part
    (λ e. two_of c (ltb-false c 128 e128) (ltb-true c 2048 e))
    (λ e2048. cond_both (nat_lt c 65536) _ _ Part
    (λ e. three_of c (ltb-false c 2048 e2048) (ltb-true c 65536 e) (elim cases [ inl l ↦ inl l | inr l ↦ inr l.0 ]))
    (λ e65536. four_of c (ltb-false c 65536 e65536) (elim cases [ inl l ↦ omega arith | inr l ↦ l.1 ]))))

-- of several bytes only from 128 on, and their first byte is no ASCII
pub one_byte : (c : ℕ) → c < 128 → encode_utf8 c ≡ c ∷ []
one_byte c l = encode_ascii c l
