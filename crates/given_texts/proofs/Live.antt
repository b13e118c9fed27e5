-- Integers are derived, and each symbol derives something.
use Rattle.std.proofs.Common.{◌≡◌, inl, inr, ℕ, zero, suc, ◌+◌, ◌<◌, ◌≤◌, true, List, [], ◌∷◌, Option, Some, None, map, length, refl, sym, subst, arith}
use Rattle.std.specs.Prelude.{⊤, Contains}
use Rattle.std.specs.List.{list_all}
use Rattle.std.specs.Char.{is_ascii_digit}
use Rattle.std.proofs.lemmas.Bool.{and_parts}
use Rattle.std.proofs.lemmas.Bool.Decides.{nat_tests}
use Rattle.string_functions.proofs.Members.{Contains-nil, Contains-cons_cases}
use Rattle.text_base.specs.declared.byte_range.ByteRange.{ByteRange}
use Rattle.text_base.specs.declared.letter.Letter.TheVariants.{OfByte}
use Rattle.cfg_grammar.specs.declared.symbol.Symbol.{Symbol}
use Rattle.cfg_grammar.specs.declared.symbol.Symbol.TheVariants.{Range, Nt}
use Rattle.cfg_grammar.specs.declared.production.Production.{Production}
use Rattle.cfg_grammar.specs.Below.{symbols_of}
use Rattle.cfg_grammar.specs.Derives.{Derives}
use Rattle.least_sets.specs.Integers.{IsCounting, IsInteger, zero_text, above, below}
use Rattle.given_texts.specs.declared.text_rows.TheConstants.{ROWS, ENDS}
use Rattle.given_texts.specs.Rows.{Row, right_with, IsOne, AreAll}
use Rattle.given_texts.proofs.Complete as complete

-- the rows of digits, by how many may be behind
row_of_digit : (k : ℕ) → k < 18 → Contains ROWS (suc (13 + k), 0x30, 0x39, Some (13 + k))
row_of_digit zero h = (26, omega arith, refl)
row_of_digit (suc zero) h = (27, omega arith, refl)
row_of_digit (suc (suc zero)) h = (28, omega arith, refl)
row_of_digit (suc (suc (suc zero))) h = (29, omega arith, refl)
row_of_digit (suc (suc (suc (suc zero)))) h = (30, omega arith, refl)
row_of_digit (suc (suc (suc (suc (suc zero))))) h = (31, omega arith, refl)
row_of_digit (suc (suc (suc (suc (suc (suc zero)))))) h = (32, omega arith, refl)
row_of_digit (suc (suc (suc (suc (suc (suc (suc zero))))))) h = (33, omega arith, refl)
row_of_digit (suc (suc (suc (suc (suc (suc (suc (suc zero)))))))) h = (34, omega arith, refl)
row_of_digit (suc (suc (suc (suc (suc (suc (suc (suc (suc zero))))))))) h = (35, omega arith, refl)
row_of_digit (suc (suc (suc (suc (suc (suc (suc (suc (suc (suc zero)))))))))) h = (36, omega arith, refl)
row_of_digit (suc (suc (suc (suc (suc (suc (suc (suc (suc (suc (suc zero))))))))))) h = (37, omega arith, refl)
row_of_digit (suc (suc (suc (suc (suc (suc (suc (suc (suc (suc (suc (suc zero)))))))))))) h = (38, omega arith, refl)
row_of_digit (suc (suc (suc (suc (suc (suc (suc (suc (suc (suc (suc (suc (suc zero))))))))))))) h = (39, omega arith, refl)
row_of_digit (suc (suc (suc (suc (suc (suc (suc (suc (suc (suc (suc (suc (suc (suc zero)))))))))))))) h = (40, omega arith, refl)
row_of_digit (suc (suc (suc (suc (suc (suc (suc (suc (suc (suc (suc (suc (suc (suc (suc zero))))))))))))))) h = (41, omega arith, refl)
row_of_digit (suc (suc (suc (suc (suc (suc (suc (suc (suc (suc (suc (suc (suc (suc (suc (suc zero)))))))))))))))) h = (42, omega arith, refl)
row_of_digit (suc (suc (suc (suc (suc (suc (suc (suc (suc (suc (suc (suc (suc (suc (suc (suc (suc zero))))))))))))))))) h = (43, omega arith, refl)
row_of_digit (suc (suc (suc (suc (suc (suc (suc (suc (suc (suc (suc (suc (suc (suc (suc (suc (suc (suc k)))))))))))))))))) h = absurd (omega (arith, h))

end_of_digits : (k : ℕ) → k ≤ 18 → Contains ENDS (13 + k)
end_of_digits zero h = (1, omega arith, refl)
end_of_digits (suc zero) h = (2, omega arith, refl)
end_of_digits (suc (suc zero)) h = (3, omega arith, refl)
end_of_digits (suc (suc (suc zero))) h = (4, omega arith, refl)
end_of_digits (suc (suc (suc (suc zero)))) h = (5, omega arith, refl)
end_of_digits (suc (suc (suc (suc (suc zero))))) h = (6, omega arith, refl)
end_of_digits (suc (suc (suc (suc (suc (suc zero)))))) h = (7, omega arith, refl)
end_of_digits (suc (suc (suc (suc (suc (suc (suc zero))))))) h = (8, omega arith, refl)
end_of_digits (suc (suc (suc (suc (suc (suc (suc (suc zero)))))))) h = (9, omega arith, refl)
end_of_digits (suc (suc (suc (suc (suc (suc (suc (suc (suc zero))))))))) h = (10, omega arith, refl)
end_of_digits (suc (suc (suc (suc (suc (suc (suc (suc (suc (suc zero)))))))))) h = (11, omega arith, refl)
end_of_digits (suc (suc (suc (suc (suc (suc (suc (suc (suc (suc (suc zero))))))))))) h = (12, omega arith, refl)
end_of_digits (suc (suc (suc (suc (suc (suc (suc (suc (suc (suc (suc (suc zero)))))))))))) h = (13, omega arith, refl)
end_of_digits (suc (suc (suc (suc (suc (suc (suc (suc (suc (suc (suc (suc (suc zero))))))))))))) h = (14, omega arith, refl)
end_of_digits (suc (suc (suc (suc (suc (suc (suc (suc (suc (suc (suc (suc (suc (suc zero)))))))))))))) h = (15, omega arith, refl)
end_of_digits (suc (suc (suc (suc (suc (suc (suc (suc (suc (suc (suc (suc (suc (suc (suc zero))))))))))))))) h = (16, omega arith, refl)
end_of_digits (suc (suc (suc (suc (suc (suc (suc (suc (suc (suc (suc (suc (suc (suc (suc (suc zero)))))))))))))))) h = (17, omega arith, refl)
end_of_digits (suc (suc (suc (suc (suc (suc (suc (suc (suc (suc (suc (suc (suc (suc (suc (suc (suc zero))))))))))))))))) h = (18, omega arith, refl)
end_of_digits (suc (suc (suc (suc (suc (suc (suc (suc (suc (suc (suc (suc (suc (suc (suc (suc (suc (suc zero)))))))))))))))))) h = (19, omega arith, refl)
end_of_digits (suc (suc (suc (suc (suc (suc (suc (suc (suc (suc (suc (suc (suc (suc (suc (suc (suc (suc (suc k))))))))))))))))))) h = absurd (omega (arith, h))

module _ (ps : List Production) (all : AreAll ps) where
  abbrev pub T : ℕ → List ℕ → Type 0
  T n w = complete.T ps all n w

  none : (n : ℕ) → Contains ENDS n → T n []
  none n h = Derives.by_empty (record { 0 = n }) (all.ends n h)

  low : (b : ℕ) → is_ascii_digit b ≡ true → 0x30 ≤ b
  low b h = grind (arith, nat_tests)

  high : (b : ℕ) → is_ascii_digit b ≡ true → b ≤ 0x39
  high b h = grind (arith, nat_tests)

  digits : (k : ℕ) (w : List ℕ) → k ≤ 18 → list_all is_ascii_digit w ≡ true → length w ≤ k → T (13 + k) w
  digits k [] most are few = none (13 + k) (end_of_digits k most)
  digits zero (b ∷ w) most are few = absurd (omega (arith, few))
  digits (suc k) (b ∷ w) most are few =
      let parts = and_parts (is_ascii_digit b) (list_all is_ascii_digit w) are in
      let number : suc (13 + k) ≡ 13 + suc k = omega arith in
      subst (λ z. T z (b ∷ w)) number (complete.next ps all (suc (13 + k)) 0x30 0x39 (13 + k) b w (row_of_digit k (omega (arith, most))) (low b parts.0) (high b parts.0) (digits k w (omega (arith, most)) parts.1 (omega (arith, few))))

  counting : (w : List ℕ) → IsCounting w → T 12 w
  counting w c =
      subst (λ z. T 12 z) (sym c.is) (complete.next ps all 12 0x31 0x39 31 c.first c.more (25, omega arith, refl) c.least c.most (digits 18 c.more (omega arith) c.digits c.few))

  pub integer : (w : List ℕ) → IsInteger w → T 11 w
  integer _ zero_text = complete.last ps all 11 0x30 0x30 48 (22, omega arith, refl) (omega arith) (omega arith)
  integer w (above _ c) =
      subst (λ z. T 11 z) (sym c.is) (complete.next ps all 11 0x31 0x39 31 c.first c.more (24, omega arith, refl) c.least c.most (digits 18 c.more (omega arith) c.digits c.few))
  integer _ (below t c) = complete.next ps all 11 0x2D 0x2D 12 45 t (23, omega arith, refl) (omega arith) (omega arith) (counting t c)

  -- what is behind a byte derives something
  abbrev IsLive : ℕ → Type 0
  IsLive n = (w : List ℕ) × T n w

  abbrev NextIsLive : Option ℕ → Type 0
  NextIsLive None = ⊤
  NextIsLive (Some n) = IsLive n

  abbrev AreLive : List Row → Type 0
  AreLive [] = ⊤
  AreLive (row ∷ rows) = NextIsLive row.3 × AreLive rows

  live_in : (rows : List Row) → AreLive rows → (row : Row) → Contains rows row → NextIsLive row.3
  live_in [] live row h = Contains-nil row h
  live_in (r ∷ rows) live row h =
      elim (Contains-cons_cases r rows row h) [
        | inl e ↦ subst (λ z. NextIsLive z.3) e live.0
        | inr later ↦ live_in rows live.1 row later
      ]

  live_2 : IsLive 2
  live_2 = (0x80 ∷ [], complete.middle_1 ps all 0x80 (omega arith) (omega arith))

  live_3 : IsLive 3
  live_3 = (0x80 ∷ 0x80 ∷ [], complete.middle_2 ps all 0x80 0x80 (omega arith) (omega arith) (omega arith) (omega arith))

  live_4 : IsLive 4
  live_4 = (0x80 ∷ 0x80 ∷ 0x80 ∷ [], complete.middle_3 ps all 0x80 0x80 0x80 (omega arith) (omega arith) (omega arith) (omega arith) (omega arith) (omega arith))

  live_5 : IsLive 5
  live_5 = (0xA0 ∷ live_2.0, complete.next ps all 5 0xA0 0xBF 2 0xA0 live_2.0 (15, omega arith, refl) (omega arith) (omega arith) live_2.1)

  live_6 : IsLive 6
  live_6 = (0x80 ∷ live_2.0, complete.next ps all 6 0x80 0x9F 2 0x80 live_2.0 (16, omega arith, refl) (omega arith) (omega arith) live_2.1)

  live_7 : IsLive 7
  live_7 = (0x80 ∷ live_2.0, complete.next ps all 7 0x80 0xBE 2 0x80 live_2.0 (17, omega arith, refl) (omega arith) (omega arith) live_2.1)

  live_8 : IsLive 8
  live_8 = (0x80 ∷ [], complete.last ps all 8 0x80 0xBD 0x80 (19, omega arith, refl) (omega arith) (omega arith))

  live_9 : IsLive 9
  live_9 = (0x90 ∷ live_3.0, complete.next ps all 9 0x90 0xBF 3 0x90 live_3.0 (20, omega arith, refl) (omega arith) (omega arith) live_3.1)

  live_10 : IsLive 10
  live_10 = (0x80 ∷ live_3.0, complete.next ps all 10 0x80 0x8F 3 0x80 live_3.0 (21, omega arith, refl) (omega arith) (omega arith) live_3.1)

  live_12 : IsLive 12
  live_12 = (49 ∷ [], complete.next ps all 12 0x31 0x39 31 49 [] (25, omega arith, refl) (omega arith) (omega arith) (digits 18 [] (omega arith) refl (omega arith)))

  live_digits : (k : ℕ) → k ≤ 18 → IsLive (13 + k)
  live_digits k most = ([], none (13 + k) (end_of_digits k most))

  all_live : AreLive ROWS
  all_live = (tt, (tt, (tt, (live_2, (live_5, (live_3, (live_6, (live_3, (live_7, (live_9, (live_4, (live_10, (tt, (live_2, (live_3, (live_2, (live_2, (live_2, (live_8, (tt, (live_3, (live_3, (tt, (live_12, (live_digits 18 (omega arith), (live_digits 18 (omega arith), (live_digits 0 (omega arith), (live_digits 1 (omega arith), (live_digits 2 (omega arith), (live_digits 3 (omega arith), (live_digits 4 (omega arith), (live_digits 5 (omega arith), (live_digits 6 (omega arith), (live_digits 7 (omega arith), (live_digits 8 (omega arith), (live_digits 9 (omega arith), (live_digits 10 (omega arith), (live_digits 11 (omega arith), (live_digits 12 (omega arith), (live_digits 13 (omega arith), (live_digits 14 (omega arith), (live_digits 15 (omega arith), (live_digits 16 (omega arith), (live_digits 17 (omega arith), tt))))))))))))))))))))))))))))))))))))))))))))

  row_live : (row : Row) → Contains ROWS row → (n : ℕ) → row.3 ≡ Some n → IsLive n
  row_live row h n e = subst NextIsLive e (live_in ROWS all_live row h)

  abbrev HasSome : Symbol → Type 0
  HasSome s = (w : List ℕ) × Derives ps s (map OfByte w)

  range_live : (r : ByteRange) → HasSome (Range r)
  range_live r = (r.lo ∷ [], Derives.by_range r r.lo (omega arith, r.ordered))

  row_symbols : (row : Row) → Contains ROWS row → (next : Option ℕ) → row.3 ≡ next → (r : ByteRange) (s : Symbol) → Contains (symbols_of (right_with r next)) s → HasSome s
  row_symbols row h None e r s c =
      elim (Contains-cons_cases (Range r) [] s c) [
        | inl f ↦ subst HasSome f (range_live r)
        | inr none ↦ Contains-nil s none
      ]
  row_symbols row h (Some n) e r s c =
      elim (Contains-cons_cases (Range r) (Nt (record { 0 = n }) ∷ []) s c) [
        | inl f ↦ subst HasSome f (range_live r)
        | inr later ↦ elim (Contains-cons_cases (Nt (record { 0 = n })) [] s later) [
          | inl f ↦ subst HasSome f (row_live row h n e)
          | inr none ↦ Contains-nil s none
        ]
      ]

  more_symbols : (s : Symbol) → Contains (Nt (record { 0 = 0 }) ∷ Nt (record { 0 = 1 }) ∷ []) s → HasSome s
  more_symbols s c =
      elim (Contains-cons_cases (Nt (record { 0 = 0 })) (Nt (record { 0 = 1 }) ∷ []) s c) [
        | inl f ↦ subst HasSome f ([], complete.nothing ps all)
        | inr later ↦ elim (Contains-cons_cases (Nt (record { 0 = 1 })) [] s later) [
          | inl f ↦ subst HasSome f (9 ∷ [], complete.last ps all 1 0x09 0x0A 9 (0, omega arith, refl) (omega arith) (omega arith))
          | inr none ↦ Contains-nil s none
        ]
      ]

  pub symbols_live : (p : Production) → IsOne p → (s : Symbol) → Contains (symbols_of p.right) s → HasSome s
  symbols_live _ (IsOne.an_end n h) s c = Contains-nil s c
  symbols_live _ IsOne.more s c = more_symbols s c
  symbols_live p (IsOne.a_row row _ h is) s c = row_symbols row h row.3 refl is.1 s (subst (λ z. Contains (symbols_of z) s) is.4 c)
