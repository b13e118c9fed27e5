-- A character is spelled by its bytes.
use Rattle.std.proofs.Common.{◌≡◌, ◌⊎◌, inl, inr, ℕ, ◌+◌, ◌/◌, ◌%◌, ◌<◌, ◌≤◌, Bool, true, false, List, [], ◌∷◌, ◌++◌, refl, sym, ◌∙◌, ap, subst, arith, append-nil}
use Rattle.std.specs.Prelude.{nat_lt, nat_le, not, ◌==◌, ◌&&◌}
use Rattle.std.specs.Char.{encode_utf8}
use Rattle.std.specs.Str.{encode_utf8_all}
use Rattle.std.proofs.lemmas.Bool.{lt-ltb, ltb-true, ltb-false, leb-true, le-leb, and_parts, and_from, cases_lt, cond_both, ne_eqb, not_from_false}
use Rattle.std.proofs.lemmas.Bool.Decides.{nat_tests}
use Rattle.std.proofs.lemmas.Str.{encode_ascii}
use Rattle.xml_text.specs.Characters.{is_character}
use Rattle.derivatives.specs.Expressions.{Expr, range, chain, either, Joins, at_once, on, Matches, is_empty, is_byte, is_chain, is_left, is_right}
use Rattle.derivatives.proofs.NormalForms.{chain_shown, chain_made, either_shown, either_made}
use Rattle.page_forms.specs.Words.{in_turn, by_rows, later_byte, low_rows, middle_rows, high_rows, beyond_ascii, ascii, character_of, other_than}
use Rattle.page_forms.proofs.Characters.{IsOfCharacter, of_two, of_e0, of_e1, of_ed, of_ee, of_ef, of_ef_bf, of_f0, of_f1, of_f4}
use Rattle.byte_forms.proofs.ByteLemmas.{Between, range_shown}
use Rattle.page_forms.proofs.Classes.{spells_ascii}
use Rattle.page_forms.proofs.Spelling.{Spells, Spelled, One, joins_is, spells_as, spells_either}

-- the bytes lie in these ranges, one in each
abbrev pub AreIn : List (ℕ × ℕ) → List ℕ → Type 0
AreIn [] [] = Unit {0}
AreIn [] (b ∷ bs) = ⊥
AreIn (r ∷ rs) [] = ⊥
AreIn (r ∷ rs) (b ∷ bs) = (r.0 ≤ b) × (b ≤ r.1) × AreIn rs bs

turn_shown : (rs : List (ℕ × ℕ)) {w : List ℕ} → Matches (in_turn rs) w → AreIn rs w
turn_shown [] is_empty = tt
turn_shown (r ∷ rs) d = at (chain_shown (range r.0 r.1) (in_turn rs) d) (λ v f. turn_shown rs f)
  where
    at : {w : List ℕ} → Matches (chain (range r.0 r.1) (in_turn rs)) w → ((v : List ℕ) → Matches (in_turn rs) v → AreIn rs v) → AreIn (r ∷ rs) w
    at (is_chain {v = v} j d f) rest =
        let p = range_shown r.0 r.1 d in subst (λ (z : List ℕ). AreIn (r ∷ rs) z) (ap (λ (z : List ℕ). z ++ v) p.is ∙ joins_is j) (p.above, p.below, rest v f)

turn_made : (rs : List (ℕ × ℕ)) (w : List ℕ) → AreIn rs w → Matches (in_turn rs) w
turn_made [] [] p = is_empty
turn_made [] (b ∷ bs) p = absurd p
turn_made (r ∷ rs) [] p = absurd p
turn_made (r ∷ rs) (b ∷ bs) p =
    chain_made (range r.0 r.1) (in_turn rs)
    (is_chain (on at_once) (is_byte (and_from (nat_le r.0 b) (nat_le b r.1) (le-leb r.0 b p.0) (le-leb b r.1 p.1))) (turn_made rs bs p.2))

-- by one of the rows
abbrev pub InRows : List (List (ℕ × ℕ)) → List ℕ → Type 0
InRows [] w = ⊥
InRows (row ∷ rows) w = AreIn row w ⊎ InRows rows w

pub rows_shown : (rows : List (List (ℕ × ℕ))) {w : List ℕ} → Matches (by_rows rows) w → InRows rows w
rows_shown [] d = elim d [ ]
rows_shown (row ∷ rows) d = at (either_shown (in_turn row) (by_rows rows) d) (λ v f. rows_shown rows f)
  where
    at : {w : List ℕ} → Matches (either (in_turn row) (by_rows rows)) w → ((v : List ℕ) → Matches (by_rows rows) v → InRows rows v) → InRows (row ∷ rows) w
    at (is_left d) rest = inl (turn_shown row d)
    at (is_right {w = w} d) rest = inr (rest w d)

pub rows_made : (rows : List (List (ℕ × ℕ))) (w : List ℕ) → InRows rows w → Matches (by_rows rows) w
rows_made [] w p = absurd p
rows_made (row ∷ rows) w (inl p) = either_made (in_turn row) (by_rows rows) (is_left (turn_made row w p))
rows_made (row ∷ rows) w (inr p) = either_made (in_turn row) (by_rows rows) (is_right (rows_made rows w p))

-- From bytes to a character.

-- the bytes of a character beyond ASCII
pub record IsBeyond (w : List ℕ) : Type 0 where
  pub code : ℕ
  pub beyond : 128 ≤ code
  pub is : is_character code ≡ true
  pub bytes : encode_utf8 code ≡ w

several : {b c : ℕ} {w : List ℕ} → IsOfCharacter (b ∷ c ∷ w) → IsBeyond (b ∷ c ∷ w)
several {b} {c} {w} p = record { code = p.code; beyond = at (cases_lt p.code 128); is = p.is; bytes = p.bytes }
  where
    at : (p.code < 128) ⊎ (128 ≤ p.code) → 128 ≤ p.code
    at (inl l) = let z : p.code ∷ [] ≡ b ∷ c ∷ w = sym (encode_ascii p.code l) ∙ p.bytes in cc
    at (inr l) = l

pub in_two : (r s : ℕ × ℕ) → ((b c : ℕ) → r.0 ≤ b → b ≤ r.1 → s.0 ≤ c → c ≤ s.1 → IsOfCharacter (b ∷ c ∷ [])) → (w : List ℕ) → AreIn (r ∷ s ∷ []) w → IsBeyond w
in_two r s f [] p = absurd p
in_two r s f (b ∷ []) p = absurd p.2
in_two r s f (b ∷ c ∷ []) p = several (f b c p.0 p.1 p.2.0 p.2.1)
in_two r s f (b ∷ c ∷ d ∷ w) p = absurd p.2.2

pub in_three : (r s t : ℕ × ℕ) → ((b c d : ℕ) → r.0 ≤ b → b ≤ r.1 → s.0 ≤ c → c ≤ s.1 → t.0 ≤ d → d ≤ t.1 → IsOfCharacter (b ∷ c ∷ d ∷ [])) → (w : List ℕ) → AreIn (r ∷ s ∷ t ∷ []) w → IsBeyond w
in_three r s t f [] p = absurd p
in_three r s t f (b ∷ []) p = absurd p.2
in_three r s t f (b ∷ c ∷ []) p = absurd p.2.2
in_three r s t f (b ∷ c ∷ d ∷ []) p = several (f b c d p.0 p.1 p.2.0 p.2.1 p.2.2.0 p.2.2.1)
in_three r s t f (b ∷ c ∷ d ∷ e ∷ w) p = absurd p.2.2.2

in_four : (r s t u : ℕ × ℕ) → ((b c d e : ℕ) → r.0 ≤ b → b ≤ r.1 → s.0 ≤ c → c ≤ s.1 → t.0 ≤ d → d ≤ t.1 → u.0 ≤ e → e ≤ u.1 → IsOfCharacter (b ∷ c ∷ d ∷ e ∷ []))
    → (w : List ℕ) → AreIn (r ∷ s ∷ t ∷ u ∷ []) w → IsBeyond w
in_four r s t u f [] p = absurd p
in_four r s t u f (b ∷ []) p = absurd p.2
in_four r s t u f (b ∷ c ∷ []) p = absurd p.2.2
in_four r s t u f (b ∷ c ∷ d ∷ []) p = absurd p.2.2.2
in_four r s t u f (b ∷ c ∷ d ∷ e ∷ []) p = several (f b c d e p.0 p.1 p.2.0 p.2.1 p.2.2.0 p.2.2.1 p.2.2.2.0 p.2.2.2.1)
in_four r s t u f (b ∷ c ∷ d ∷ e ∷ g ∷ w) p = absurd p.2.2.2.2

pub high_shown : (w : List ℕ) → InRows high_rows w → IsBeyond w
high_shown w (inl p) = in_four (0xF0, 0xF0) (0x90, 0xBF) later_byte later_byte of_f0 w p
high_shown w (inr (inl p)) = in_four (0xF1, 0xF3) later_byte later_byte later_byte of_f1 w p
high_shown w (inr (inr (inl p))) = in_four (0xF4, 0xF4) (0x80, 0x8F) later_byte later_byte of_f4 w p
high_shown w (inr (inr (inr p))) = absurd p

beyond_shown : (w : List ℕ) → InRows (low_rows ++ (middle_rows ++ high_rows)) w → IsBeyond w
beyond_shown w (inl p) = in_two (0xC2, 0xDF) later_byte of_two w p
beyond_shown w (inr (inl p)) = in_three (0xE0, 0xE0) (0xA0, 0xBF) later_byte of_e0 w p
beyond_shown w (inr (inr (inl p))) = in_three (0xE1, 0xEC) later_byte later_byte of_e1 w p
beyond_shown w (inr (inr (inr (inl p)))) = in_three (0xED, 0xED) (0x80, 0x9F) later_byte of_ed w p
beyond_shown w (inr (inr (inr (inr (inl p))))) = in_three (0xEE, 0xEE) later_byte later_byte of_ee w p
beyond_shown w (inr (inr (inr (inr (inr (inl p)))))) = in_three (0xEF, 0xEF) (0x80, 0xBE) later_byte of_ef w p
beyond_shown w (inr (inr (inr (inr (inr (inr (inl p))))))) = in_three (0xEF, 0xEF) (0xBF, 0xBF) (0x80, 0xBD) of_ef_bf w p
beyond_shown w (inr (inr (inr (inr (inr (inr (inr p))))))) = high_shown w p

-- From a character to its bytes.

abbrev All : List ℕ → Type 0
All w = InRows (low_rows ++ (middle_rows ++ high_rows)) w

two_made : (c : ℕ) → 128 ≤ c → c < 2048 → All ((192 + c / 64) ∷ (128 + c % 64) ∷ [])
two_made c l h = inl (omega arith, omega arith, (omega arith, omega arith, tt))

pub no_surrogate : (c : ℕ) → is_character c ≡ true → 0xD800 ≤ c → 0xE000 ≤ c
no_surrogate c h l = grind (arith, nat_tests)

pub no_last : (c : ℕ) → is_character c ≡ true → c < 65536 → c ≤ 0xFFFD
no_last c h l = grind (arith, nat_tests)

pub at_most : (c : ℕ) → is_character c ≡ true → c ≤ 0x10FFFF
at_most c h = grind (arith, nat_tests)

below_surrogates : (c b x : ℕ) → is_character c ≡ true → b ≡ 224 + c / 4096 → x ≡ 128 + c / 64 % 64 → 0xED ≤ b → b < 0xEE → x ≤ 0x9F
below_surrogates c b x is bi xi l h =
    elim (cases_lt c 0xD800) [
      | inl low ↦ omega (arith, bi, xi)
      | inr high ↦ let far = no_surrogate c is high in omega (arith, bi, xi)
    ]

below_fffe : (c b x d : ℕ) → is_character c ≡ true → c < 65536 → b ≡ 224 + c / 4096 → x ≡ 128 + c / 64 % 64 → d ≡ 128 + c % 64 → 0xEF ≤ b → 0xBF ≤ x → d ≤ 0xBD
below_fffe c b x d is most bi xi di l h = let far = no_last c is most in omega (arith, bi, xi, di)

three_made : (c b x d : ℕ) → c < 65536 → 2048 ≤ c → is_character c ≡ true → b ≡ 224 + c / 4096 → x ≡ 128 + c / 64 % 64 → d ≡ 128 + c % 64 → All (b ∷ x ∷ d ∷ [])
three_made c b x d most least is bi xi di =
    let dl : 0x80 ≤ d = omega (arith, di) in
    let dh : d ≤ 0xBF = omega (arith, di) in
    let xl : 0x80 ≤ x = omega (arith, xi) in
    let xh : x ≤ 0xBF = omega (arith, xi) in
    elim (cases_lt b 0xE1) [
      | inl e0 ↦ inr (inl (omega (arith, bi), omega arith, (omega (arith, bi, xi), xh, (dl, dh, tt))))
      | inr e1 ↦ elim (cases_lt b 0xED) [
        | inl low ↦ inr (inr (inl (e1, omega arith, (xl, xh, (dl, dh, tt)))))
        | inr ed ↦ elim (cases_lt b 0xEE) [
          | inl low ↦ inr (inr (inr (inl (ed, omega arith, (xl, below_surrogates c b x is bi xi ed low, (dl, dh, tt))))))
          | inr ee ↦ elim (cases_lt b 0xEF) [
            | inl low ↦ inr (inr (inr (inr (inl (ee, omega arith, (xl, xh, (dl, dh, tt)))))))
            | inr ef ↦ elim (cases_lt x 0xBF) [
              | inl small ↦ inr (inr (inr (inr (inr (inl (ef, omega (arith, bi), (xl, omega arith, (dl, dh, tt))))))))
              | inr bf ↦ inr (inr (inr (inr (inr (inr (inl (ef, omega (arith, bi), (bf, xh, (dl, below_fffe c b x d is most bi xi di ef bf, tt)))))))))
            ]
          ]
        ]
      ]
    ]

four_made : (c b x d e : ℕ) → 65536 ≤ c → c ≤ 0x10FFFF → b ≡ 240 + c / 262144 → x ≡ 128 + c / 4096 % 64 → d ≡ 128 + c / 64 % 64 → e ≡ 128 + c % 64 → InRows high_rows (b ∷ x ∷ d ∷ e ∷ [])
four_made c b x d e least most bi xi di ei =
    let el : 0x80 ≤ e = omega (arith, ei) in
    let eh : e ≤ 0xBF = omega (arith, ei) in
    let dl : 0x80 ≤ d = omega (arith, di) in
    let dh : d ≤ 0xBF = omega (arith, di) in
    let xl : 0x80 ≤ x = omega (arith, xi) in
    let xh : x ≤ 0xBF = omega (arith, xi) in
    elim (cases_lt b 0xF1) [
      | inl f0 ↦ inl (omega (arith, bi), omega arith, (omega (arith, bi, xi), xh, (dl, dh, (el, eh, tt))))
      | inr f1 ↦ elim (cases_lt b 0xF4) [
        | inl low ↦ inr (inl (f1, omega arith, (xl, xh, (dl, dh, (el, eh, tt)))))
        | inr f4 ↦ inr (inr (inl (f4, omega (arith, bi), (xl, omega (arith, bi, xi), (dl, dh, (el, eh, tt))))))
      ]
    ]

pub beyond_made : (c : ℕ) → 128 ≤ c → is_character c ≡ true → All (encode_utf8 c)
unfolding encode_utf8
beyond_made c least is =
    cond_both (nat_lt c 128) _ _ All
    (λ e. absurd (let l = ltb-true c 128 e in omega arith))
    (λ e128. cond_both (nat_lt c 2048) _ _ All
    (λ e. two_made c least (ltb-true c 2048 e))
    (λ e2048. cond_both (nat_lt c 65536) _ _ All
    (λ e. three_made c (224 + c / 4096) (128 + c / 64 % 64) (128 + c % 64) (ltb-true c 65536 e) (ltb-false c 2048 e2048) is refl refl refl)
    (λ e65536. inr (inr (inr (inr (inr (inr (inr (four_made c (240 + c / 262144) (128 + c / 4096 % 64) (128 + c / 64 % 64) (128 + c % 64) (ltb-false c 65536 e65536) (at_most c is) refl refl refl refl))))))))))

pub spells_beyond : Spells beyond_ascii (One (λ c. nat_le 128 c && is_character c))
unfolding beyond_ascii
spells_beyond = record { shown = λ w d. shown_at w (beyond_shown w (rows_shown (low_rows ++ (middle_rows ++ high_rows)) d)); made = λ cs o. made_at cs o }
  where
    shown_at : (w : List ℕ) → IsBeyond w → Spelled (One (λ c. nat_le 128 c && is_character c)) w
    shown_at w p = record {
      characters = p.code ∷ [];
      are = record { character = p.code; passes = and_from (nat_le 128 p.code) (is_character p.code) (le-leb 128 p.code p.beyond) p.is; is = refl };
      is = append-nil (encode_utf8 p.code) ∙ p.bytes;
    }

    made_at : (cs : List ℕ) → One (λ c. nat_le 128 c && is_character c) cs → Matches (by_rows (low_rows ++ (middle_rows ++ high_rows))) (encode_utf8_all cs)
    made_at cs o =
        let p = and_parts (nat_le 128 o.character) (is_character o.character) o.passes in
        subst (λ (z : List ℕ). Matches (by_rows (low_rows ++ (middle_rows ++ high_rows))) z) (sym (append-nil (encode_utf8 o.character)) ∙ ap encode_utf8_all o.is)
        (rows_made (low_rows ++ (middle_rows ++ high_rows)) (encode_utf8 o.character) (beyond_made o.character (leb-true 128 o.character p.0) p.1))

-- a character of XML that passes
abbrev pub IsCharacterOf : (ℕ → Bool) → List ℕ → Type 0
IsCharacterOf test = One (λ c. is_character c && test c)

pub spells_character : (test : ℕ → Bool) → ((c : ℕ) → 128 ≤ c → test c ≡ true) → Spells (character_of test) (IsCharacterOf test)
spells_character test all = spells_as (spells_either (spells_ascii (λ c. is_character c && test c)) spells_beyond) into from
  where
    into : (cs : List ℕ) → One (λ c. nat_lt c 128 && (is_character c && test c)) cs ⊎ One (λ c. nat_le 128 c && is_character c) cs → IsCharacterOf test cs
    into cs (inl o) = record { character = o.character; passes = (and_parts (nat_lt o.character 128) (is_character o.character && test o.character) o.passes).1; is = o.is }
    into cs (inr o) =
        let p = and_parts (nat_le 128 o.character) (is_character o.character) o.passes in
        record { character = o.character; passes = and_from (is_character o.character) (test o.character) p.1 (all o.character (leb-true 128 o.character p.0)); is = o.is }

    from : (cs : List ℕ) → IsCharacterOf test cs → One (λ c. nat_lt c 128 && (is_character c && test c)) cs ⊎ One (λ c. nat_le 128 c && is_character c) cs
    from cs o = at (cases_lt o.character 128)
      where
        at : (o.character < 128) ⊎ (128 ≤ o.character) → One (λ c. nat_lt c 128 && (is_character c && test c)) cs ⊎ One (λ c. nat_le 128 c && is_character c) cs
        at (inl l) = inl (record { character = o.character; passes = and_from (nat_lt o.character 128) (is_character o.character && test o.character) (lt-ltb o.character 128 l) o.passes; is = o.is })
        at (inr l) =
            let p = and_parts (is_character o.character) (test o.character) o.passes in
            inr (record { character = o.character; passes = and_from (nat_le 128 o.character) (is_character o.character) (le-leb 128 o.character l) p.0; is = o.is })

-- a character that is not this one
abbrev pub Other : ℕ → List ℕ → Type 0
Other c = IsCharacterOf (λ d. not (d == c))

pub spells_other : (c : ℕ) → c < 128 → Spells (other_than c) (Other c)
spells_other c h = spells_character (λ d. not (d == c)) (λ d l. not_from_false (d == c) (ne_eqb d c (λ e. absurd (omega (arith, e, h, l)))))
