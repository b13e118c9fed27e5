-- The states of the machine tell UTF-8.
use Rattle.std.proofs.Common.{◌≡◌, ℕ, zero, suc, ◌+◌, ◌-◌, ◌*◌, ◌/◌, ◌%◌, ◌<◌, ◌≤◌, ◌⊎◌, true, nat_lt, nat_le, nat_eq, List, [], ◌∷◌, ◌++◌, length, Option, Some, None, refl, sym, ◌∙◌, ap, subst, inl, inr, arith}
use Rattle.std.proofs.lemmas.Bool.{lt-ltb, le-ltb, le-leb, ltb-true, ltb-false, leb-true, ne_eqb, eqb-true, eqb-false, cases_lt, cases_eq, cond_both, and_parts}
use Rattle.std.specs.Prelude.{IsUtf8, encode_utf8_all}
use Rattle.std.specs.Str.{all_scalars}
use Rattle.std.specs.Char.{IsScalar, encode_utf8}
use Rattle.std.proofs.Math.Utf8.{scalar, scalar_cases, low_scalar}
use Rattle.std.proofs.lemmas.Str.{IsUtf8-encode, IsUtf8-append, IsUtf8-nil, encode_ascii}
use Rattle.string_ops.specs.Html.{is_between, to_between, after_first_byte, utf8_after, IsUtf8From}

-- a byte between the two leads on
to_between-within : (low high to b : ℕ) → low ≤ b → b ≤ high → to_between low high to b ≡ Some to
to_between-within low high to b below above = rw (le-leb low b below, le-leb b high above) refl

-- where each kind of first byte leads
first_of_one : (b : ℕ) → b < 128 → after_first_byte b ≡ Some 0
first_of_one b h = rw (lt-ltb b 0x80 h) refl

first_of_two : (b : ℕ) → 0xC2 ≤ b → b < 0xE0 → after_first_byte b ≡ Some 1
first_of_two b low high = rw (le-ltb b 0x80 (omega arith), le-ltb b 0xC2 low, lt-ltb b 0xE0 high) refl

first_of_three : (b : ℕ) → 0xE0 < b → b < 0xF0 → (b ≡ 0xED → ⊥) → after_first_byte b ≡ Some 2
first_of_three b low high other =
    rw (le-ltb b 0x80 (omega arith), le-ltb b 0xC2 (omega arith), le-ltb b 0xE0 (omega arith), ne_eqb b 0xE0 (λ e. omega (arith, e)), ne_eqb b 0xED other, lt-ltb b 0xF0 high) refl

first_of_four : (b : ℕ) → 0xF0 < b → b < 0xF4 → after_first_byte b ≡ Some 3
first_of_four b low high =
    rw (le-ltb b 0x80 (omega arith), le-ltb b 0xC2 (omega arith), le-ltb b 0xE0 (omega arith), ne_eqb b 0xE0 (λ e. omega (arith, e)), ne_eqb b 0xED (λ e. omega (arith, e)), le-ltb b 0xF0 (omega arith), ne_eqb b 0xF0 (λ e. omega (arith, e)), lt-ltb b 0xF4 high) refl

-- over the bytes of one character
over_one : (c : ℕ) (rest : List ℕ) → c < 128 → IsUtf8From 0 rest → IsUtf8From 0 (c ∷ rest)
over_one c rest small h = (0, first_of_one c small, h)

over_two : (c : ℕ) (rest : List ℕ) → 128 ≤ c → c < 2048 → IsUtf8From 0 rest → IsUtf8From 0 ((192 + c / 64) ∷ (128 + c % 64) ∷ rest)
over_two c rest low high h =
    let first : after_first_byte (192 + c / 64) ≡ Some 1 = first_of_two (192 + c / 64) (omega arith) (omega arith) in
    let second : to_between 0x80 0xBF 0 (128 + c % 64) ≡ Some 0 = to_between-within 0x80 0xBF 0 (128 + c % 64) (omega arith) (omega arith) in
    (1, first, (0, second, h))

over_three : (c : ℕ) (rest : List ℕ) → 2048 ≤ c → c < 65536 → (c < 55296) ⊎ (57344 ≤ c) → IsUtf8From 0 rest → IsUtf8From 0 ((224 + c / 4096) ∷ (128 + c / 64 % 64) ∷ (128 + c % 64) ∷ rest)
over_three c rest low high none h =
    let third : to_between 0x80 0xBF 0 (128 + c % 64) ≡ Some 0 = to_between-within 0x80 0xBF 0 (128 + c % 64) (omega arith) (omega arith) in
    elim (cases_eq (c / 4096) 0) [
      | inl e ↦
          let first : after_first_byte (224 + c / 4096) ≡ Some 4 = rw e refl in
          let second : to_between 0xA0 0xBF 1 (128 + c / 64 % 64) ≡ Some 1 = to_between-within 0xA0 0xBF 1 (128 + c / 64 % 64) (omega arith) (omega arith) in
          (4, first, (1, second, (0, third, h)))
      | inr some ↦ elim (cases_eq (c / 4096) 13) [
        | inl e ↦
            let first : after_first_byte (224 + c / 4096) ≡ Some 5 = rw e refl in
            let second : to_between 0x80 0x9F 1 (128 + c / 64 % 64) ≡ Some 1 = to_between-within 0x80 0x9F 1 (128 + c / 64 % 64) (omega arith) (omega arith) in
            (5, first, (1, second, (0, third, h)))
        | inr other ↦
            let first : after_first_byte (224 + c / 4096) ≡ Some 2 = first_of_three (224 + c / 4096) (omega arith) (omega arith) (λ e. other (omega (arith, e))) in
            let second : to_between 0x80 0xBF 1 (128 + c / 64 % 64) ≡ Some 1 = to_between-within 0x80 0xBF 1 (128 + c / 64 % 64) (omega arith) (omega arith) in
            (2, first, (1, second, (0, third, h)))
      ]
    ]

over_four : (c : ℕ) (rest : List ℕ) → 65536 ≤ c → c < 1114112 → IsUtf8From 0 rest → IsUtf8From 0 ((240 + c / 262144) ∷ (128 + c / 4096 % 64) ∷ (128 + c / 64 % 64) ∷ (128 + c % 64) ∷ rest)
over_four c rest low high h =
    let third : to_between 0x80 0xBF 1 (128 + c / 64 % 64) ≡ Some 1 = to_between-within 0x80 0xBF 1 (128 + c / 64 % 64) (omega arith) (omega arith) in
    let fourth : to_between 0x80 0xBF 0 (128 + c % 64) ≡ Some 0 = to_between-within 0x80 0xBF 0 (128 + c % 64) (omega arith) (omega arith) in
    elim (cases_eq (c / 262144) 0) [
      | inl e ↦
          let first : after_first_byte (240 + c / 262144) ≡ Some 6 = rw e refl in
          let second : to_between 0x90 0xBF 2 (128 + c / 4096 % 64) ≡ Some 2 = to_between-within 0x90 0xBF 2 (128 + c / 4096 % 64) (omega arith) (omega arith) in
          (6, first, (2, second, (1, third, (0, fourth, h))))
      | inr some ↦ elim (cases_eq (c / 262144) 4) [
        | inl e ↦
            let first : after_first_byte (240 + c / 262144) ≡ Some 7 = rw e refl in
            let second : to_between 0x80 0x8F 2 (128 + c / 4096 % 64) ≡ Some 2 = to_between-within 0x80 0x8F 2 (128 + c / 4096 % 64) (omega arith) (omega arith) in
            (7, first, (2, second, (1, third, (0, fourth, h))))
        | inr other ↦
            let first : after_first_byte (240 + c / 262144) ≡ Some 3 = first_of_four (240 + c / 262144) (omega arith) (omega arith) in
            let second : to_between 0x80 0xBF 2 (128 + c / 4096 % 64) ≡ Some 2 = to_between-within 0x80 0xBF 2 (128 + c / 4096 % 64) (omega arith) (omega arith) in
            (3, first, (2, second, (1, third, (0, fourth, h))))
      ]
    ]

-- over one character
over_char : (c : ℕ) (rest : List ℕ) → IsScalar c → IsUtf8From 0 rest → IsUtf8From 0 (encode_utf8 c ++ rest)
unfolding encode_utf8
over_char c rest scalar h =
    let P : List ℕ → Type 0 = λ bytes. IsUtf8From 0 (bytes ++ rest) in
    cond_both (nat_lt c 128) _ _ P
    (λ e. over_one c rest (ltb-true c 128 e) h)
    (λ e128. cond_both (nat_lt c 2048) _ _ P
    (λ e. over_two c rest (ltb-false c 128 e128) (ltb-true c 2048 e) h)
    (λ e2048. cond_both (nat_lt c 65536) _ _ P
    (λ e. over_three c rest (ltb-false c 2048 e2048) (ltb-true c 65536 e) (elim (scalar_cases c scalar) [ inl l ↦ inl l | inr l ↦ inr l.0 ]) h)
    (λ e65536. over_four c rest (ltb-false c 65536 e65536) (elim (scalar_cases c scalar) [ inl l ↦ omega arith | inr l ↦ l.1 ]) h)))

-- whole characters are read
pub IsUtf8From-encodes : (cs : List ℕ) → all_scalars cs ≡ true → IsUtf8From 0 (encode_utf8_all cs)
IsUtf8From-encodes [] h = refl
IsUtf8From-encodes (c ∷ cs) h =
    let both = and_parts (scalar c) (all_scalars cs) h in
    over_char c (encode_utf8_all cs) both.0 (IsUtf8From-encodes cs both.1)

-- where the bytes lie that lead on
between-to_between : (low high to b t : ℕ) → to_between low high to b ≡ Some t → (low ≤ b) × (b ≤ high) × (t ≡ to)
between-to_between low high to b t =
    let P : Option ℕ → Type 0 = λ o. o ≡ Some t → (low ≤ b) × (b ≤ high) × (t ≡ to) in
    cond_both (is_between low high b) (Some to) None P
    (λ e. λ is. let both = and_parts (nat_le low b) (nat_le b high) e in (leb-true low b both.0, leb-true b high both.1, cc))
    (λ e. λ is. cc)

-- which first bytes lead where
data FirstByte (b : ℕ) : ℕ → Type 0 where
  whole : b < 0x80 → FirstByte b 0
  of_two : 0xC2 ≤ b → b < 0xE0 → FirstByte b 1
  of_three : 0xE0 < b → b < 0xF0 → FirstByte b 2
  of_four : 0xF0 < b → b < 0xF4 → FirstByte b 3
  is_e0 : b ≡ 0xE0 → FirstByte b 4
  is_ed : b ≡ 0xED → FirstByte b 5
  is_f0 : b ≡ 0xF0 → FirstByte b 6
  is_f4 : b ≡ 0xF4 → FirstByte b 7

first_byte : (b t : ℕ) → after_first_byte b ≡ Some t → (FirstByte b t) × (t ≡ 2 → b ≡ 0xED → ⊥)
first_byte b t =
    let F : ℕ → Type 0 = λ n. (FirstByte b n) × (n ≡ 2 → b ≡ 0xED → ⊥) in
    let P : Option ℕ → Type 0 = λ o. o ≡ Some t → F t in
    cond_both (nat_lt b 0x80) _ _ P (λ e. λ is. let at : 0 ≡ t = cc in subst F at (whole (ltb-true b 0x80 e), λ n. absurd (omega (arith, n))))
    (λ e80. cond_both (nat_lt b 0xC2) _ _ P (λ e. λ is. cc)
    (λ ec2. cond_both (nat_lt b 0xE0) _ _ P (λ e. λ is. let at : 1 ≡ t = cc in subst F at (of_two (ltb-false b 0xC2 ec2) (ltb-true b 0xE0 e), λ n. absurd (omega (arith, n))))
    (λ ee0. cond_both (nat_eq b 0xE0) _ _ P (λ e. λ is. let at : 4 ≡ t = cc in subst F at (is_e0 (eqb-true b 0xE0 e), λ n. absurd (omega (arith, n))))
    (λ n0. cond_both (nat_eq b 0xED) _ _ P (λ e. λ is. let at : 5 ≡ t = cc in subst F at (is_ed (eqb-true b 0xED e), λ n. absurd (omega (arith, n))))
    (λ nd. cond_both (nat_lt b 0xF0) _ _ P (λ e. λ is. let at : 2 ≡ t = cc in subst F at (of_three (above_e0 b (ltb-false b 0xE0 ee0) (eqb-false b 0xE0 n0)) (ltb-true b 0xF0 e), λ n. eqb-false b 0xED nd))
    (λ ef0. cond_both (nat_eq b 0xF0) _ _ P (λ e. λ is. let at : 6 ≡ t = cc in subst F at (is_f0 (eqb-true b 0xF0 e), λ n. absurd (omega (arith, n))))
    (λ nf0. cond_both (nat_lt b 0xF4) _ _ P (λ e. λ is. let at : 3 ≡ t = cc in subst F at (of_four (above_f0 b (ltb-false b 0xF0 ef0) (eqb-false b 0xF0 nf0)) (ltb-true b 0xF4 e), λ n. absurd (omega (arith, n))))
    (λ ef4. cond_both (nat_eq b 0xF4) _ _ P (λ e. λ is. let at : 7 ≡ t = cc in subst F at (is_f4 (eqb-true b 0xF4 e), λ n. absurd (omega (arith, n))))
    (λ nf4. λ is. cc)))))))))
  where
    above_e0 : (b : ℕ) → 0xE0 ≤ b → (b ≡ 0xE0 → ⊥) → 0xE0 < b
    above_e0 b low other = omega (arith, other)

    above_f0 : (b : ℕ) → 0xF0 ≤ b → (b ≡ 0xF0 → ⊥) → 0xF0 < b
    above_f0 b low other = omega (arith, other)

-- the next byte, in a state behind the first byte of a character
pub record NextByte (low high to : ℕ) (rest : List ℕ) : Type 0 where
  pub byte : ℕ
  pub others : List ℕ
  pub is : rest ≡ byte ∷ others
  pub above : low ≤ byte
  pub below : byte ≤ high
  pub on : IsUtf8From to others

next_byte : (s low high to : ℕ) → ((b : ℕ) → utf8_after s b ≡ to_between low high to b) → (s ≡ 0 → ⊥) → (rest : List ℕ) → IsUtf8From s rest → NextByte low high to rest
next_byte s low high to means inner [] h = absurd (inner h)
next_byte s low high to means inner (b ∷ rest) h =
    let within = between-to_between low high to b h.0 (sym (means b) ∙ h.1) in
    record { byte = b; others = rest; is = refl; above = within.0; below = within.1; on = subst (λ (t : ℕ). IsUtf8From t rest) within.2 h.2 }

high_scalar : (x : ℕ) → 57344 ≤ x → x < 1114112 → IsScalar x
high_scalar x least most = rw (le-ltb x 55296 (omega arith), le-leb 57344 x least, lt-ltb x 1114112 most) refl

-- the bytes of one character
two_bytes : (b c x : ℕ) → 0xC2 ≤ b → b < 0xE0 → 0x80 ≤ c → c ≤ 0xBF → x ≡ (b - 192) * 64 + (c - 128) → IsUtf8 (b ∷ c ∷ [])
unfolding encode_utf8
two_bytes b c x low high above below is =
    let one : 192 + x / 64 ≡ b = omega arith in
    let two : 128 + x % 64 ≡ c = omega arith in
    let spells : encode_utf8 x ≡ b ∷ c ∷ [] = rw (le-ltb x 128 (omega arith), lt-ltb x 2048 (omega arith)) cc in
    subst IsUtf8 spells (IsUtf8-encode x (low_scalar x (omega arith)))

three_bytes : (b c d x : ℕ) → 0xE0 ≤ b → b < 0xF0 → 0x80 ≤ c → c ≤ 0xBF → 0x80 ≤ d → d ≤ 0xBF → x ≡ ((b - 224) * 64 + (c - 128)) * 64 + (d - 128) → 2048 ≤ x → IsScalar x → IsUtf8 (b ∷ c ∷ d ∷ [])
unfolding encode_utf8
three_bytes b c d x low high clow chigh dlow dhigh is least scalar =
    let one : 224 + x / 4096 ≡ b = omega arith in
    let two : 128 + x / 64 % 64 ≡ c = omega arith in
    let three : 128 + x % 64 ≡ d = omega arith in
    let spells : encode_utf8 x ≡ b ∷ c ∷ d ∷ [] = rw (le-ltb x 128 (omega arith), le-ltb x 2048 least, lt-ltb x 65536 (omega arith)) cc in
    subst IsUtf8 spells (IsUtf8-encode x scalar)

four_bytes : (b c d e x : ℕ) → 0xF0 ≤ b → b < 0xF5 → 0x80 ≤ c → c ≤ 0xBF → 0x80 ≤ d → d ≤ 0xBF → 0x80 ≤ e → e ≤ 0xBF → x ≡ (((b - 240) * 64 + (c - 128)) * 64 + (d - 128)) * 64 + (e - 128) → 65536 ≤ x → x < 1114112 → IsUtf8 (b ∷ c ∷ d ∷ e ∷ [])
unfolding encode_utf8
four_bytes b c d e x low high clow chigh dlow dhigh elow ehigh is least most =
    let one : 240 + x / 262144 ≡ b = omega arith in
    let two : 128 + x / 4096 % 64 ≡ c = omega arith in
    let three : 128 + x / 64 % 64 ≡ d = omega arith in
    let four : 128 + x % 64 ≡ e = omega arith in
    let spells : encode_utf8 x ≡ b ∷ c ∷ d ∷ e ∷ [] = rw (le-ltb x 128 (omega arith), le-ltb x 2048 (omega arith), le-ltb x 65536 least) cc in
    subst IsUtf8 spells (IsUtf8-encode x (high_scalar x (omega arith) most))

-- behind each kind of first byte
IsUtf8Below : ℕ → Type 0
IsUtf8Below n = (text : List ℕ) → length text ≤ n → IsUtf8From 0 text → IsUtf8 text

behind_two : (n b : ℕ) (rest : List ℕ) → 0xC2 ≤ b → b < 0xE0 → length rest ≤ n → IsUtf8Below n → IsUtf8From 1 rest → IsUtf8 (b ∷ rest)
unfolding IsUtf8Below
behind_two n b rest low high fits below h =
    let second = next_byte 1 0x80 0xBF 0 (λ _. refl) (λ e. omega (arith, e)) rest h in
    let short : length second.others ≤ n = omega (arith, ap length second.is) in
    let char = two_bytes b second.byte ((b - 192) * 64 + (second.byte - 128)) low high second.above second.below refl in
    subst (λ (text : List ℕ). IsUtf8 (b ∷ text)) (sym second.is) (IsUtf8-append (b ∷ second.byte ∷ []) second.others char (below second.others short second.on))

-- the rest of three bytes, where the second lies between the two
behind_three : (s low high n b : ℕ) (rest : List ℕ) → ((c : ℕ) → utf8_after s c ≡ to_between low high 1 c) → (s ≡ 0 → ⊥) → 0x80 ≤ low → high ≤ 0xBF → 0xE0 ≤ b → b < 0xF0 → ((c d : ℕ) → low ≤ c → c ≤ high → 0x80 ≤ d → d ≤ 0xBF → (2048 ≤ ((b - 224) * 64 + (c - 128)) * 64 + (d - 128)) × IsScalar (((b - 224) * 64 + (c - 128)) * 64 + (d - 128))) → length rest ≤ n → IsUtf8Below n → IsUtf8From s rest → IsUtf8 (b ∷ rest)
unfolding IsUtf8Below
behind_three s low high n b rest means inner least most blow bhigh fair fits below h =
    let second = next_byte s low high 1 means inner rest h in
    let third = next_byte 1 0x80 0xBF 0 (λ _. refl) (λ e. omega (arith, e)) second.others second.on in
    let long : length rest ≡ suc (length second.others) = ap length second.is in
    let longer : length second.others ≡ suc (length third.others) = ap length third.is in
    let short : length third.others ≤ n = omega arith in
    let code = fair second.byte third.byte second.above second.below third.above third.below in
    let char = three_bytes b second.byte third.byte (((b - 224) * 64 + (second.byte - 128)) * 64 + (third.byte - 128)) blow bhigh (omega (arith, second.above)) (omega (arith, second.below)) third.above third.below refl code.0 code.1 in
    let whole : b ∷ rest ≡ b ∷ second.byte ∷ third.byte ∷ third.others = ap (λ (text : List ℕ). b ∷ text) (second.is ∙ ap (λ (text : List ℕ). second.byte ∷ text) third.is) in
    subst IsUtf8 (sym whole) (IsUtf8-append (b ∷ second.byte ∷ third.byte ∷ []) third.others char (below third.others short third.on))

behind_four : (s low high n b : ℕ) (rest : List ℕ) → ((c : ℕ) → utf8_after s c ≡ to_between low high 2 c) → (s ≡ 0 → ⊥) → 0x80 ≤ low → high ≤ 0xBF → 0xF0 ≤ b → b < 0xF5 → ((c d e : ℕ) → low ≤ c → c ≤ high → 0x80 ≤ d → d ≤ 0xBF → 0x80 ≤ e → e ≤ 0xBF → (65536 ≤ (((b - 240) * 64 + (c - 128)) * 64 + (d - 128)) * 64 + (e - 128)) × ((((b - 240) * 64 + (c - 128)) * 64 + (d - 128)) * 64 + (e - 128) < 1114112)) → length rest ≤ n → IsUtf8Below n → IsUtf8From s rest → IsUtf8 (b ∷ rest)
unfolding IsUtf8Below
behind_four s low high n b rest means inner least most blow bhigh fair fits below h =
    let second = next_byte s low high 2 means inner rest h in
    let third = next_byte 2 0x80 0xBF 1 (λ _. refl) (λ e. omega (arith, e)) second.others second.on in
    let fourth = next_byte 1 0x80 0xBF 0 (λ _. refl) (λ e. omega (arith, e)) third.others third.on in
    let long : length rest ≡ suc (length second.others) = ap length second.is in
    let longer : length second.others ≡ suc (length third.others) = ap length third.is in
    let longest : length third.others ≡ suc (length fourth.others) = ap length fourth.is in
    let short : length fourth.others ≤ n = omega arith in
    let code = fair second.byte third.byte fourth.byte second.above second.below third.above third.below fourth.above fourth.below in
    let char = four_bytes b second.byte third.byte fourth.byte ((((b - 240) * 64 + (second.byte - 128)) * 64 + (third.byte - 128)) * 64 + (fourth.byte - 128)) blow bhigh (omega (arith, second.above)) (omega (arith, second.below)) third.above third.below fourth.above fourth.below refl code.0 code.1 in
    let whole : b ∷ rest ≡ b ∷ second.byte ∷ third.byte ∷ fourth.byte ∷ fourth.others = ap (λ (text : List ℕ). b ∷ text) (second.is ∙ ap (λ (text : List ℕ). second.byte ∷ text) (third.is ∙ ap (λ (text : List ℕ). third.byte ∷ text) fourth.is)) in
    subst IsUtf8 (sym whole) (IsUtf8-append (b ∷ second.byte ∷ third.byte ∷ fourth.byte ∷ []) fourth.others char (below fourth.others short fourth.on))

behind_first : (n b t : ℕ) (rest : List ℕ) → FirstByte b t → (t ≡ 2 → b ≡ 0xED → ⊥) → length rest ≤ n → IsUtf8Below n → IsUtf8From t rest → IsUtf8 (b ∷ rest)
unfolding IsUtf8Below
behind_first n b _ rest (whole small) other fits below h =
    IsUtf8-append (b ∷ []) rest (subst IsUtf8 (encode_ascii b small) (IsUtf8-encode b (low_scalar b (omega arith)))) (below rest fits h)
behind_first n b _ rest (of_two low high) other fits below h = behind_two n b rest low high fits below h
behind_first n b _ rest (of_three low high) other fits below h =
    behind_three 2 0x80 0xBF n b rest (λ _. refl) (λ e. omega (arith, e)) (omega arith) (omega arith) (omega arith) high (fair b low high (other refl)) fits below h
  where
    fair : (b : ℕ) → 0xE0 < b → b < 0xF0 → (b ≡ 0xED → ⊥) → (c d : ℕ) → 0x80 ≤ c → c ≤ 0xBF → 0x80 ≤ d → d ≤ 0xBF → (2048 ≤ ((b - 224) * 64 + (c - 128)) * 64 + (d - 128)) × IsScalar (((b - 224) * 64 + (c - 128)) * 64 + (d - 128))
    fair b low high other c d clow chigh dlow dhigh = (
      omega arith,
      elim (cases_lt b 0xED) [
        | inl l ↦ low_scalar (((b - 224) * 64 + (c - 128)) * 64 + (d - 128)) (omega arith)
        | inr l ↦ high_scalar (((b - 224) * 64 + (c - 128)) * 64 + (d - 128)) (omega (arith, other)) (omega arith)
      ],
    )
behind_first n b _ rest (of_four low high) other fits below h =
    behind_four 3 0x80 0xBF n b rest (λ _. refl) (λ e. omega (arith, e)) (omega arith) (omega arith) (omega arith) (omega arith) (λ c d e clow chigh dlow dhigh elow ehigh. (omega arith, omega arith)) fits below h
behind_first n b _ rest (is_e0 is) other fits below h =
    behind_three 4 0xA0 0xBF n b rest (λ _. refl) (λ e. omega (arith, e)) (omega arith) (omega arith) (omega arith) (omega arith) (λ c d clow chigh dlow dhigh. (omega arith, low_scalar (((b - 224) * 64 + (c - 128)) * 64 + (d - 128)) (omega arith))) fits below h
behind_first n b _ rest (is_ed is) other fits below h =
    behind_three 5 0x80 0x9F n b rest (λ _. refl) (λ e. omega (arith, e)) (omega arith) (omega arith) (omega arith) (omega arith) (λ c d clow chigh dlow dhigh. (omega arith, low_scalar (((b - 224) * 64 + (c - 128)) * 64 + (d - 128)) (omega arith))) fits below h
behind_first n b _ rest (is_f0 is) other fits below h =
    behind_four 6 0x90 0xBF n b rest (λ _. refl) (λ e. omega (arith, e)) (omega arith) (omega arith) (omega arith) (omega arith) (λ c d e clow chigh dlow dhigh elow ehigh. (omega arith, omega arith)) fits below h
behind_first n b _ rest (is_f4 is) other fits below h =
    behind_four 7 0x80 0x8F n b rest (λ _. refl) (λ e. omega (arith, e)) (omega arith) (omega arith) (omega arith) (omega arith) (λ c d e clow chigh dlow dhigh elow ehigh. (omega arith, omega arith)) fits below h

below_length : (n : ℕ) → IsUtf8Below n
unfolding IsUtf8Below
below_length n [] fits h = IsUtf8-nil
below_length zero (b ∷ rest) fits h = absurd (omega (arith, fits))
below_length (suc n) (b ∷ rest) fits h =
    let first = first_byte b h.0 h.1 in
    behind_first n b h.0 rest first.0 first.1 (omega (arith, fits)) (below_length n) h.2

-- what is read to the end is whole characters
pub IsUtf8-from_states : (text : List ℕ) → IsUtf8From 0 text → IsUtf8 text
unfolding IsUtf8Below
IsUtf8-from_states text h = below_length (length text) text (omega arith) h

pub states_from_IsUtf8 : (text : List ℕ) → IsUtf8 text → IsUtf8From 0 text
states_from_IsUtf8 text h = subst (λ (bytes : List ℕ). IsUtf8From 0 bytes) h.1.1 (IsUtf8From-encodes h.0 h.1.0)
