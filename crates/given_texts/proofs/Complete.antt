-- Whatever a nonterminal stands for is derived.
use Rattle.std.proofs.Common.{◌≡◌, inl, inr, ℕ, ◌+◌, ◌/◌, ◌%◌, ◌<◌, ◌≤◌, true, nat_lt, List, [], ◌∷◌, ◌++◌, Some, None, map, refl, sym, ◌∙◌, ap, subst, arith, append_assoc, append-nil}
use Rattle.std.specs.Prelude.{Contains, encode_utf8_all, chars}
use Rattle.std.specs.List.{list_all}
use Rattle.std.specs.Char.{encode_utf8}
use Rattle.std.proofs.lemmas.Bool.{ltb-true, ltb-false, cases_lt, cond_both, and_parts}
use Rattle.std.proofs.lemmas.Bool.Decides.{nat_tests}
use Rattle.std.proofs.lemmas.List.{map-append}
use Rattle.std.proofs.lemmas.Str.{encodes-chars}
use Rattle.text_base.specs.declared.byte_range.ByteRange.{ByteRange}
use Rattle.text_base.specs.declared.letter.Letter.TheVariants.{OfByte}
use Rattle.text_base.specs.ByteRange.{InRange}
use Rattle.cfg_grammar.specs.declared.symbol.Symbol.TheVariants.{Range, Nt}
use Rattle.cfg_grammar.specs.declared.production.Right.{Right}
use Rattle.cfg_grammar.specs.declared.production.Right.TheVariants.{One, Two}
use Rattle.cfg_grammar.specs.declared.production.Production.{Production}
use Rattle.cfg_grammar.specs.Derives.{Derives}
use Rattle.xml_text.specs.Characters.{is_character}
use Rattle.xml_text.specs.Texts.{IsText}
use Rattle.given_texts.specs.declared.text_rows.TheConstants.{ROWS}
use Rattle.given_texts.specs.Rows.{AreAll}

production_is : (p : Production) (n : ℕ) (r : Right) → p.left.0 ≡ n → p.right ≡ r → p ≡ record { left = record { 0 = n }; right = r }
production_is p n r e f = ap (λ z. record { left = record { 0 = z }; right = p.right }) e ∙ ap (λ z. record { left = record { 0 = n }; right = z }) f

module _ (ps : List Production) (all : AreAll ps) where
  -- the nonterminal derives the text
  abbrev pub T : ℕ → List ℕ → Type 0
  T n w = Derives ps (Nt (record { 0 = n })) (map OfByte w)

  in_range : (r : ByteRange) (lo hi b : ℕ) → r.lo ≡ lo → r.hi ≡ hi → lo ≤ b → b ≤ hi → InRange r b
  in_range r lo hi b e f l h = (omega (arith, e), omega (arith, f))

  pub last : (n lo hi b : ℕ) → Contains ROWS (n, lo, hi, None) → lo ≤ b → b ≤ hi → T n (b ∷ [])
  last n lo hi b has l h =
      let p = all.rows (n, lo, hi, None) has in
      let is = p.2 in
      let same : p.0 ≡ record { left = record { 0 = n }; right = One (Range is.1) } = production_is p.0 n (One (Range is.1)) is.0 is.4 in
      Derives.by_one (record { 0 = n }) (Range is.1) (OfByte b ∷ []) (subst (λ z. Contains ps z) same p.1) (Derives.by_range is.1 b (in_range is.1 lo hi b is.2 is.3 l h))

  pub next : (n lo hi m b : ℕ) (w : List ℕ) → Contains ROWS (n, lo, hi, Some m) → lo ≤ b → b ≤ hi → T m w → T n (b ∷ w)
  next n lo hi m b w has l h t =
      let p = all.rows (n, lo, hi, Some m) has in
      let is = p.2 in
      let same : p.0 ≡ record { left = record { 0 = n }; right = Two (Range is.1) (Nt (record { 0 = m })) } = production_is p.0 n (Two (Range is.1) (Nt (record { 0 = m }))) is.0 is.4 in
      Derives.by_two (record { 0 = n }) (Range is.1) (Nt (record { 0 = m })) (OfByte b ∷ []) (map OfByte w) (subst (λ z. Contains ps z) same p.1) (Derives.by_range is.1 b (in_range is.1 lo hi b is.2 is.3 l h)) t

  -- bytes in the middle of a character
  pub middle_1 : (b : ℕ) → 0x80 ≤ b → b ≤ 0xBF → T 2 (b ∷ [])
  middle_1 b l h = last 2 0x80 0xBF b (12, omega arith, refl) l h

  pub middle_2 : (b c : ℕ) → 0x80 ≤ b → b ≤ 0xBF → 0x80 ≤ c → c ≤ 0xBF → T 3 (b ∷ c ∷ [])
  middle_2 b c l h cl ch = next 3 0x80 0xBF 2 b (c ∷ []) (13, omega arith, refl) l h (middle_1 c cl ch)

  pub middle_3 : (b c d : ℕ) → 0x80 ≤ b → b ≤ 0xBF → 0x80 ≤ c → c ≤ 0xBF → 0x80 ≤ d → d ≤ 0xBF → T 4 (b ∷ c ∷ d ∷ [])
  middle_3 b c d l h cl ch dl dh = next 4 0x80 0xBF 3 b (c ∷ d ∷ []) (14, omega arith, refl) l h (middle_2 c d cl ch dl dh)

  -- a character by its number of bytes
  ascii : (c : ℕ) → is_character c ≡ true → c < 128 → T 1 (c ∷ [])
  ascii c is h =
      elim (cases_lt c 0x0B) [
        | inl low ↦ last 1 0x09 0x0A c (0, omega arith, refl) (at_least c is) (omega arith)
        | inr more ↦ elim (cases_lt c 0x20) [
          | inl low ↦ last 1 0x0D 0x0D c (1, omega arith, refl) (at_least_d c is more) (at_most_d c is low)
          | inr high ↦ last 1 0x20 0x7F c (2, omega arith, refl) high (omega arith)
        ]
      ]
    where
      at_least : (c : ℕ) → is_character c ≡ true → 0x09 ≤ c
      at_least c h = grind (arith, nat_tests)

      at_least_d : (c : ℕ) → is_character c ≡ true → 0x0B ≤ c → 0x0D ≤ c
      at_least_d c h l = grind (arith, nat_tests)

      at_most_d : (c : ℕ) → is_character c ≡ true → c < 0x20 → c ≤ 0x0D
      at_most_d c h l = grind (arith, nat_tests)

  of_two : (c : ℕ) → 128 ≤ c → c < 2048 → T 1 ((192 + c / 64) ∷ (128 + c % 64) ∷ [])
  of_two c l h = next 1 0xC2 0xDF 2 (192 + c / 64) ((128 + c % 64) ∷ []) (3, omega arith, refl) (omega arith) (omega arith) (middle_1 (128 + c % 64) (omega arith) (omega arith))

  three_from : (c b x d : ℕ) → c < 65536 → 2048 ≤ c → is_character c ≡ true → b ≡ 224 + c / 4096 → x ≡ 128 + c / 64 % 64 → d ≡ 128 + c % 64 → T 1 (b ∷ x ∷ d ∷ [])
  three_from c b x d most least is bi xi di =
      elim (cases_lt b 0xE1) [
        | inl e0 ↦ next 1 0xE0 0xE0 5 b (x ∷ d ∷ []) (4, omega arith, refl) (omega (arith, bi)) (omega arith)
            (next 5 0xA0 0xBF 2 x (d ∷ []) (15, omega arith, refl) (omega (arith, bi, xi)) (omega (arith, xi)) (middle_1 d (omega (arith, di)) (omega (arith, di))))
        | inr e1 ↦ elim (cases_lt b 0xED) [
          | inl low ↦ next 1 0xE1 0xEC 3 b (x ∷ d ∷ []) (5, omega arith, refl) e1 (omega arith) (middle_2 x d (omega (arith, xi)) (omega (arith, xi)) (omega (arith, di)) (omega (arith, di)))
          | inr ed ↦ elim (cases_lt b 0xEE) [
            | inl low ↦ next 1 0xED 0xED 6 b (x ∷ d ∷ []) (6, omega arith, refl) ed (omega arith)
                (next 6 0x80 0x9F 2 x (d ∷ []) (16, omega arith, refl) (omega (arith, xi)) (below_surrogates c b x is bi xi ed low) (middle_1 d (omega (arith, di)) (omega (arith, di))))
            | inr ee ↦ elim (cases_lt b 0xEF) [
              | inl low ↦ next 1 0xEE 0xEE 3 b (x ∷ d ∷ []) (7, omega arith, refl) ee (omega arith) (middle_2 x d (omega (arith, xi)) (omega (arith, xi)) (omega (arith, di)) (omega (arith, di)))
              | inr ef ↦ next 1 0xEF 0xEF 7 b (x ∷ d ∷ []) (8, omega arith, refl) ef (omega (arith, bi)) (elim (cases_lt x 0xBF) [
                | inl small ↦ next 7 0x80 0xBE 2 x (d ∷ []) (17, omega arith, refl) (omega (arith, xi)) (omega arith) (middle_1 d (omega (arith, di)) (omega (arith, di)))
                | inr bf ↦ next 7 0xBF 0xBF 8 x (d ∷ []) (18, omega arith, refl) bf (omega (arith, xi)) (last 8 0x80 0xBD d (19, omega arith, refl) (omega (arith, di)) (below_fffe c b x d is most bi xi di ef bf))
              ])
            ]
          ]
        ]
      ]
    where
      no_surrogate : (c : ℕ) → is_character c ≡ true → 0xD800 ≤ c → 0xE000 ≤ c
      no_surrogate c h l = grind (arith, nat_tests)

      no_last : (c : ℕ) → is_character c ≡ true → c < 65536 → c ≤ 0xFFFD
      no_last c h l = grind (arith, nat_tests)

      below_surrogates : (c b x : ℕ) → is_character c ≡ true → b ≡ 224 + c / 4096 → x ≡ 128 + c / 64 % 64 → 0xED ≤ b → b < 0xEE → x ≤ 0x9F
      below_surrogates c b x is bi xi l h =
          elim (cases_lt c 0xD800) [
            | inl low ↦ omega (arith, bi, xi)
            | inr high ↦ let far = no_surrogate c is high in omega (arith, bi, xi)
          ]

      below_fffe : (c b x d : ℕ) → is_character c ≡ true → c < 65536 → b ≡ 224 + c / 4096 → x ≡ 128 + c / 64 % 64 → d ≡ 128 + c % 64 → 0xEF ≤ b → 0xBF ≤ x → d ≤ 0xBD
      below_fffe c b x d is most bi xi di l h = let far = no_last c is most in omega (arith, bi, xi, di)

  four_from : (c b x d e : ℕ) → 65536 ≤ c → c ≤ 0x10FFFF → b ≡ 240 + c / 262144 → x ≡ 128 + c / 4096 % 64 → d ≡ 128 + c / 64 % 64 → e ≡ 128 + c % 64 → T 1 (b ∷ x ∷ d ∷ e ∷ [])
  four_from c b x d e least most bi xi di ei =
      elim (cases_lt b 0xF1) [
        | inl f0 ↦ next 1 0xF0 0xF0 9 b (x ∷ d ∷ e ∷ []) (9, omega arith, refl) (omega (arith, bi)) (omega arith)
            (next 9 0x90 0xBF 3 x (d ∷ e ∷ []) (20, omega arith, refl) (omega (arith, bi, xi)) (omega (arith, xi)) behind)
        | inr f1 ↦ elim (cases_lt b 0xF4) [
          | inl low ↦ next 1 0xF1 0xF3 4 b (x ∷ d ∷ e ∷ []) (10, omega arith, refl) f1 (omega arith) (middle_3 x d e (omega (arith, xi)) (omega (arith, xi)) (omega (arith, di)) (omega (arith, di)) (omega (arith, ei)) (omega (arith, ei)))
          | inr f4 ↦ next 1 0xF4 0xF4 10 b (x ∷ d ∷ e ∷ []) (11, omega arith, refl) f4 (omega (arith, bi))
              (next 10 0x80 0x8F 3 x (d ∷ e ∷ []) (21, omega arith, refl) (omega (arith, xi)) (omega (arith, bi, xi)) behind)
        ]
      ]
    where
      behind : T 3 (d ∷ e ∷ [])
      behind = middle_2 d e (omega (arith, di)) (omega (arith, di)) (omega (arith, ei)) (omega (arith, ei))

  -- each character
  pub character : (c : ℕ) → is_character c ≡ true → T 1 (encode_utf8 c)
  unfolding encode_utf8
  character c is =
      cond_both (nat_lt c 128) _ _ (λ z. T 1 z)
      (λ e. ascii c is (ltb-true c 128 e))
      (λ e128. cond_both (nat_lt c 2048) _ _ (λ z. T 1 z)
      (λ e. of_two c (ltb-false c 128 e128) (ltb-true c 2048 e))
      (λ e2048. cond_both (nat_lt c 65536) _ _ (λ z. T 1 z)
      (λ e. three_from c (224 + c / 4096) (128 + c / 64 % 64) (128 + c % 64) (ltb-true c 65536 e) (ltb-false c 2048 e2048) is refl refl refl)
      (λ e65536. four_from c (240 + c / 262144) (128 + c / 4096 % 64) (128 + c / 64 % 64) (128 + c % 64) (ltb-false c 65536 e65536) (at_most c is) refl refl refl refl)))
    where
      at_most : (c : ℕ) → is_character c ≡ true → c ≤ 0x10FFFF
      at_most c h = grind (arith, nat_tests)

  -- characters behind one another
  pub nothing : T 0 []
  nothing = Derives.by_empty (record { 0 = 0 }) (all.ends 0 (0, omega arith, refl))

  one_more : (v w : List ℕ) → T 0 v → T 1 w → T 0 (v ++ w)
  one_more v w t u =
      subst (λ z. Derives ps (Nt (record { 0 = 0 })) z) (sym (map-append OfByte v w)) (Derives.by_two (record { 0 = 0 }) (Nt (record { 0 = 0 })) (Nt (record { 0 = 1 })) (map OfByte v) (map OfByte w) all.more t u)

  characters_behind : (cs : List ℕ) (v : List ℕ) → list_all is_character cs ≡ true → T 0 v → T 0 (v ++ encode_utf8_all cs)
  characters_behind [] v h t = subst (λ z. T 0 z) (sym (append-nil v)) t
  characters_behind (c ∷ cs) v h t =
      let parts = and_parts (is_character c) (list_all is_character cs) h in
      subst (λ z. T 0 z) (append_assoc v (encode_utf8 c) (encode_utf8_all cs)) (characters_behind cs (v ++ encode_utf8 c) parts.1 (one_more v (encode_utf8 c) t (character c parts.0)))

  pub text : (w : List ℕ) → IsText w → T 0 w
  text w is = subst (λ z. T 0 z) (encodes-chars w is.utf8) (characters_behind (chars w) [] is.characters nothing)
