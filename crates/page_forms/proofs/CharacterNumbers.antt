-- Numbers of characters.
use Rattle.std.proofs.Common.{◌≡◌, ◌⊎◌, inl, inr, ℕ, zero, suc, ◌+◌, ◌*◌, ◌<◌, ◌≤◌, Bool, true, false, List, [], ◌∷◌, ◌++◌, refl, sym, ◌∙◌, ap, subst, arith}
use Rattle.std.specs.Prelude.{nat_eq, ◌&&◌, codes}
use Rattle.std.specs.Char.{is_ascii_digit, is_ascii_hexdigit, digit_value}
use Rattle.std.specs.List.{list_all}
use Rattle.std.proofs.lemmas.Bool.{and_parts, and_from, eqb-true, cases_lt}
use Rattle.std.proofs.lemmas.Bool.Decides.{nat_tests}
use Rattle.std.proofs.lemmas.List.Folds.{list_all-append}
use Rattle.xml_text.specs.Characters.{is_character}
use Rattle.dtd_model.specs.References.{number_written, is_some}
use Rattle.derivatives.specs.Expressions.{nothing, Matches}
use Rattle.page_forms.specs.References.{Rows, one_of_rows, number_form, decimal_rows, hexadecimal_rows, decimal_form, hexadecimal_form}
use Rattle.page_forms.specs.Remarks.{times}
use Rattle.page_forms.proofs.Numbers.{IsBase, AreAsMany, AreDigits, Within, AreBounds, in_order, spells_from_to}
use Rattle.page_forms.proofs.OneCharacter.{no_surrogate, no_last, at_most}
use Rattle.page_forms.proofs.Spelling.{Spells, Spelled, Chained, spells_chain, spells_either, spells_as}
use Rattle.page_forms.proofs.UpTo.{Same, spells_same}

-- digits of the number of a character
pub record IsNumber (base : ℕ) (is_digit : ℕ → Bool) (cs : List ℕ) : Type 0 where
  pub some : is_some cs ≡ true
  pub digits : list_all is_digit cs ≡ true
  pub character : is_character (number_written base 0 cs) ≡ true

-- as many zeros
abbrev noughts : List ℕ → List ℕ
noughts [] = []
noughts (d ∷ ds) = 48 ∷ noughts ds

-- as many of another digit
abbrev tops : ℕ → List ℕ → List ℕ
tops c [] = []
tops c (d ∷ ds) = c ∷ tops c ds

-- the first digit is no zero
abbrev BeginsHigh : List ℕ → Type 0
BeginsHigh [] = Unit {0}
BeginsHigh (c ∷ cs) = nat_eq 48 c ≡ false

-- zeros, and what does not begin with one
record Stripped (cs : List ℕ) : Type 0 where
  count : ℕ
  core : List ℕ
  high : BeginsHigh core
  is : times 48 count ++ core ≡ cs

stripped : (cs : List ℕ) → Stripped cs
stripped [] = record { count = 0; core = []; high = tt; is = refl }
stripped (c ∷ cs) = at (nat_eq 48 c) refl (stripped cs)
  where
    at : (b : Bool) → nat_eq 48 c ≡ b → Stripped cs → Stripped (c ∷ cs)
    at true e s = record { count = suc s.count; core = s.core; high = s.high; is = ap (λ (z : List ℕ). 48 ∷ z) s.is ∙ ap (λ (z : ℕ). z ∷ cs) (eqb-true 48 c e) }
    at false e s = record { count = 0; core = c ∷ cs; high = e; is = refl }

as_some : (bound cs : List ℕ) → is_some bound ≡ true → AreAsMany bound cs → is_some cs ≡ true
as_some [] cs h m = absurd (no h)
  where
    no : false ≡ true → ⊥
    no e = cc
as_some (d ∷ ds) [] h m = absurd m
as_some (d ∷ ds) (c ∷ cs) h m = refl

module _ (base : ℕ) (is_digit : ℕ → Bool) (known : IsBase base is_digit) where
  least_digits : (ds : List ℕ) (m n : ℕ) → m ≤ n → number_written base m (noughts ds) ≤ number_written base n ds
  least_digits [] m n l = l
  least_digits (d ∷ ds) m n l = least_digits ds (m * base + 0) (n * base + digit_value d) (known.up m n 0 (digit_value d) l (omega arith))

  most_digits : (ds : List ℕ) (m n : ℕ) → list_all is_digit ds ≡ true → m ≤ n → number_written base m ds ≤ number_written base n (tops known.top ds)
  most_digits [] m n a l = l
  most_digits (d ∷ ds) m n a l =
      let p = and_parts (is_digit d) (list_all is_digit ds) a in
      most_digits ds (m * base + digit_value d) (n * base + digit_value known.top) p.1 (known.up m n (digit_value d) (digit_value known.top) l (known.under d p.0))

  -- a number with so many digits
  pub record Sized (c : ℕ) (ds : List ℕ) : Type 0 where
    pub least : number_written base (0 * base + 1) (noughts ds) ≤ number_written base 0 (c ∷ ds)
    pub most : number_written base 0 (c ∷ ds) ≤ number_written base 0 (tops known.top (c ∷ ds))

  pub sized : (c : ℕ) (ds : List ℕ) → nat_eq 48 c ≡ false → list_all is_digit (c ∷ ds) ≡ true → Sized c ds
  sized c ds h a =
      let p = and_parts (is_digit c) (list_all is_digit ds) a in
      record {
        least = least_digits ds (0 * base + 1) (0 * base + digit_value c) (known.up 0 0 1 (digit_value c) (omega arith) (known.some c p.0 h));
        most = most_digits (c ∷ ds) 0 0 a (omega arith);
      }

  pub grown : (ds : List ℕ) (n : ℕ) → n ≤ number_written base n ds
  grown [] n = omega arith
  grown (d ∷ ds) n = let l = known.grows n (digit_value d) in let m = grown ds (n * base + digit_value d) in omega (arith, l, m)

  -- zeros in front make no difference
  nought_front : (k : ℕ) (cs : List ℕ) → number_written base 0 (times 48 k ++ cs) ≡ number_written base 0 cs
  nought_front zero cs = refl
  nought_front (suc k) cs = ap (λ (n : ℕ). number_written base n (times 48 k ++ cs)) known.nought ∙ nought_front k cs

  front_digits : (k : ℕ) (cs : List ℕ) → list_all is_digit cs ≡ true → list_all is_digit (times 48 k ++ cs) ≡ true
  front_digits zero cs a = a
  front_digits (suc k) cs a = and_from (is_digit 48) (list_all is_digit (times 48 k ++ cs)) known.nought_digit (front_digits k cs a)

  core_digits : (k : ℕ) (cs : List ℕ) → list_all is_digit (times 48 k ++ cs) ≡ true → list_all is_digit cs ≡ true
  core_digits zero cs a = a
  core_digits (suc k) cs a = core_digits k cs (and_parts (is_digit 48) (list_all is_digit (times 48 k ++ cs)) a).1

  front_some : (k : ℕ) (cs : List ℕ) → is_some cs ≡ true → is_some (times 48 k ++ cs) ≡ true
  front_some zero cs h = h
  front_some (suc k) cs h = refl

  -- a row: two bounds, between which all are numbers of characters
  pub record IsRow (low high : List ℕ) : Type 0 where
    pub bounds : AreBounds base is_digit known low high
    pub some : is_some low ≡ true
    pub characters : (v : ℕ) → number_written base 0 low ≤ v → v ≤ number_written base 0 high → is_character v ≡ true

  abbrev pub AreRows : Rows → Type 0
  AreRows [] = Unit {0}
  AreRows (row ∷ rows) = IsRow row.0 row.1 × AreRows rows

  abbrev pub InOne : Rows → List ℕ → Type 0
  InOne [] cs = ⊥
  InOne (row ∷ rows) cs = Within base is_digit known 0 row.0 row.1 cs ⊎ InOne rows cs

  nothing_spelled : Spells nothing (λ cs. ⊥)
  nothing_spelled = record { shown = λ w d. shown_at d; made = λ cs a. absurd a }
    where
      shown_at : {w : List ℕ} → Matches nothing w → Spelled (λ cs. ⊥) w
      shown_at d = elim d [ ]

  spells_rows : (rows : Rows) → AreRows rows → Spells (one_of_rows is_digit rows) (InOne rows)
  spells_rows [] a = nothing_spelled
  spells_rows (row ∷ rows) a = spells_either (spells_from_to base is_digit known row.0 row.1 a.0.bounds 0) (spells_rows rows a.1)

  row_number : (rows : Rows) → AreRows rows → (cs : List ℕ) → InOne rows cs → IsNumber base is_digit cs
  row_number [] a cs i = absurd i
  row_number (row ∷ rows) a cs (inl w) = record {
    some = as_some row.0 cs a.0.some w.are.as_many;
    digits = w.are.digits;
    character = a.0.characters (number_written base 0 cs) w.least w.most;
  }
  row_number (row ∷ rows) a cs (inr i) = row_number rows a.1 cs i

  -- each number of a character without zeros before it is one of a row
  abbrev pub HasRow : Rows → Type 0
  HasRow rows = (core : List ℕ) → BeginsHigh core → list_all is_digit core ≡ true → is_character (number_written base 0 core) ≡ true → InOne rows core

  number_into : (rows : Rows) → AreRows rows → (cs : List ℕ) → Chained (Same 48) (InOne rows) cs → IsNumber base is_digit cs
  number_into rows a cs k =
      let s = k.begins in
      let n = row_number rows a k.second k.goes_on in
      subst (IsNumber base is_digit) (ap (λ (z : List ℕ). z ++ k.second) s.is ∙ k.is) (record {
        some = front_some s.count k.second n.some;
        digits = front_digits s.count k.second n.digits;
        character = ap is_character (nought_front s.count k.second) ∙ n.character;
      })

  number_from : (rows : Rows) → HasRow rows → (cs : List ℕ) → IsNumber base is_digit cs → Chained (Same 48) (InOne rows) cs
  number_from rows has cs n = at (stripped cs)
    where
      at : Stripped cs → Chained (Same 48) (InOne rows) cs
      at s =
          let m = subst (IsNumber base is_digit) (sym s.is) n in
          record {
            first = times 48 s.count;
            second = s.core;
            begins = record { count = s.count; is = refl };
            goes_on = has s.core s.high (core_digits s.count s.core m.digits) (ap is_character (sym (nought_front s.count s.core)) ∙ m.character);
            is = s.is;
          }

  pub spells_number : (rows : Rows) → AreRows rows → HasRow rows → Spells (number_form is_digit rows) (IsNumber base is_digit)
  spells_number rows a has = spells_as (spells_chain (spells_same 48 refl) (spells_rows rows a)) (number_into rows a) (number_from rows has)

-- Decimal and hexadecimal digits.

pub decimal : IsBase 10 is_ascii_digit
decimal = record {
  small = λ c h. small c h;
  value = λ c h. value c h;
  higher = λ m n d e l h. omega (arith, l, h);
  next = λ n d e l. omega (arith, l);
  up = λ m n d e l h. omega (arith, l, h);
  grows = λ n d. omega arith;
  nought = refl;
  nought_digit = refl;
  some = λ c h e. some c h e;
  top = 57;
  under = λ c h. under c h;
}
  where
    small : (c : ℕ) → is_ascii_digit c ≡ true → c < 128
    small c h = grind (arith, nat_tests)

    value : (c : ℕ) → is_ascii_digit c ≡ true → digit_value c < 10
    value c h = grind (arith, nat_tests)

    under : (c : ℕ) → is_ascii_digit c ≡ true → digit_value c ≤ 9
    under c h = grind (arith, nat_tests)

    some : (c : ℕ) → is_ascii_digit c ≡ true → nat_eq 48 c ≡ false → 1 ≤ digit_value c
    some c h e = grind (arith, nat_tests)

pub hexadecimal : IsBase 16 is_ascii_hexdigit
hexadecimal = record {
  small = λ c h. small c h;
  value = λ c h. value c h;
  higher = λ m n d e l h. omega (arith, l, h);
  next = λ n d e l. omega (arith, l);
  up = λ m n d e l h. omega (arith, l, h);
  grows = λ n d. omega arith;
  nought = refl;
  nought_digit = refl;
  some = λ c h e. some c h e;
  top = 70;
  under = λ c h. under c h;
}
  where
    small : (c : ℕ) → is_ascii_hexdigit c ≡ true → c < 128
    small c h = grind (arith, nat_tests)

    value : (c : ℕ) → is_ascii_hexdigit c ≡ true → digit_value c < 16
    value c h = grind (arith, nat_tests)

    under : (c : ℕ) → is_ascii_hexdigit c ≡ true → digit_value c ≤ 15
    under c h = grind (arith, nat_tests)

    some : (c : ℕ) → is_ascii_hexdigit c ≡ true → nat_eq 48 c ≡ false → 1 ≤ digit_value c
    some c h e = grind (arith, nat_tests)

-- Rows.

low_one : (v : ℕ) → 32 ≤ v → v ≤ 0xD7FF → is_character v ≡ true
low_one v l h = grind (arith, nat_tests)

middle_one : (v : ℕ) → 0xE000 ≤ v → v ≤ 0xFFFD → is_character v ≡ true
middle_one v l h = grind (arith, nat_tests)

high_one : (v : ℕ) → 0x10000 ≤ v → v ≤ 0x10FFFF → is_character v ≡ true
high_one v l h = grind (arith, nat_tests)

tab_one : (v : ℕ) → 9 ≤ v → v ≤ 10 → is_character v ≡ true
tab_one v l h = grind (arith, nat_tests)

return_one : (v : ℕ) → 13 ≤ v → v ≤ 13 → is_character v ≡ true
return_one v l h = grind (arith, nat_tests)

-- the lowest numbers of characters
lowest : (v : ℕ) → is_character v ≡ true → v < 32 → ((9 ≤ v) × (v ≤ 10)) ⊎ ((13 ≤ v) × (v ≤ 13))
lowest v h l = at (cases_lt v 11)
  where
    first : (v : ℕ) → is_character v ≡ true → 9 ≤ v
    first v h = grind (arith, nat_tests)

    second : (v : ℕ) → is_character v ≡ true → v < 32 → 11 ≤ v → 13 ≤ v
    second v h l m = grind (arith, nat_tests)

    third : (v : ℕ) → is_character v ≡ true → v < 32 → v ≤ 13
    third v h l = grind (arith, nat_tests)

    at : (v < 11) ⊎ (11 ≤ v) → ((9 ≤ v) × (v ≤ 10)) ⊎ ((13 ≤ v) × (v ≤ 13))
    at (inl s) = inl (first v h, omega (arith, s))
    at (inr s) = inr (second v h l s, third v h l)

-- those about the surrogates
upper : (v : ℕ) → is_character v ≡ true → (v ≤ 0xD7FF) ⊎ (((0xE000 ≤ v) × (v ≤ 0xFFFD)) ⊎ (0x10000 ≤ v))
upper v h = at (cases_lt v 0xD800) (cases_lt v 0x10000)
  where
    at : (v < 0xD800) ⊎ (0xD800 ≤ v) → (v < 0x10000) ⊎ (0x10000 ≤ v) → (v ≤ 0xD7FF) ⊎ (((0xE000 ≤ v) × (v ≤ 0xFFFD)) ⊎ (0x10000 ≤ v))
    at (inl l) s = inl (omega (arith, l))
    at (inr l) (inl s) = inr (inl (no_surrogate v h l, no_last v h s))
    at (inr l) (inr s) = inr (inr s)

decimal_row : (low high : List ℕ) → list_all is_ascii_digit low ≡ true → list_all is_ascii_digit high ≡ true → in_order 10 is_ascii_digit decimal low high ≡ true → AreAsMany low high → is_some low ≡ true
    → ((v : ℕ) → number_written 10 0 low ≤ v → v ≤ number_written 10 0 high → is_character v ≡ true) → IsRow 10 is_ascii_digit decimal low high
decimal_row low high a b o m s c = record { bounds = record { as_many = m; first = a; second = b; ordered = o }; some = s; characters = c }

hexadecimal_row : (low high : List ℕ) → list_all is_ascii_hexdigit low ≡ true → list_all is_ascii_hexdigit high ≡ true → in_order 16 is_ascii_hexdigit hexadecimal low high ≡ true → AreAsMany low high → is_some low ≡ true
    → ((v : ℕ) → number_written 16 0 low ≤ v → v ≤ number_written 16 0 high → is_character v ≡ true) → IsRow 16 is_ascii_hexdigit hexadecimal low high
hexadecimal_row low high a b o m s c = record { bounds = record { as_many = m; first = a; second = b; ordered = o }; some = s; characters = c }

decimal_are : AreRows 10 is_ascii_digit decimal decimal_rows
decimal_are =
    (decimal_row (codes "9") (codes "9") refl refl refl tt refl (λ v l h. tab_one v l (omega (arith, h))), (decimal_row (codes "10") (codes "10") refl refl refl tt refl (λ v l h. tab_one v (omega (arith, l)) h), (decimal_row (codes "13") (codes "13") refl refl refl tt refl (λ v l h. return_one v l h), (decimal_row (codes "32") (codes "99") refl refl refl tt refl (λ v l h. low_one v l (omega (arith, h))), (decimal_row (codes "100") (codes "999") refl refl refl tt refl (λ v l h. low_one v (omega (arith, l)) (omega (arith, h))), (decimal_row (codes "1000") (codes "9999") refl refl refl tt refl (λ v l h. low_one v (omega (arith, l)) (omega (arith, h))), (decimal_row (codes "10000") (codes "55295") refl refl refl tt refl (λ v l h. low_one v (omega (arith, l)) h), (decimal_row (codes "57344") (codes "65533") refl refl refl tt refl (λ v l h. middle_one v l h), (decimal_row (codes "65536") (codes "99999") refl refl refl tt refl (λ v l h. high_one v l (omega (arith, h))), (decimal_row (codes "100000") (codes "999999") refl refl refl tt refl (λ v l h. high_one v (omega (arith, l)) (omega (arith, h))), (decimal_row (codes "1000000") (codes "1114111") refl refl refl tt refl (λ v l h. high_one v (omega (arith, l)) h), tt)))))))))))

hexadecimal_are : AreRows 16 is_ascii_hexdigit hexadecimal hexadecimal_rows
hexadecimal_are =
    (hexadecimal_row (codes "9") (codes "A") refl refl refl tt refl (λ v l h. tab_one v l h), (hexadecimal_row (codes "D") (codes "D") refl refl refl tt refl (λ v l h. return_one v l h), (hexadecimal_row (codes "20") (codes "FF") refl refl refl tt refl (λ v l h. low_one v l (omega (arith, h))), (hexadecimal_row (codes "100") (codes "FFF") refl refl refl tt refl (λ v l h. low_one v (omega (arith, l)) (omega (arith, h))), (hexadecimal_row (codes "1000") (codes "D7FF") refl refl refl tt refl (λ v l h. low_one v (omega (arith, l)) h), (hexadecimal_row (codes "E000") (codes "FFFD") refl refl refl tt refl (λ v l h. middle_one v l h), (hexadecimal_row (codes "10000") (codes "FFFFF") refl refl refl tt refl (λ v l h. high_one v l (omega (arith, h))), (hexadecimal_row (codes "100000") (codes "10FFFF") refl refl refl tt refl (λ v l h. high_one v (omega (arith, l)) h), tt))))))))

-- a number without zeros before it, by how many digits it has
abbrev decimal_in : List ℕ → Type 0
decimal_in cs = InOne 10 is_ascii_digit decimal decimal_rows cs

decimal_1 : (c0 : ℕ) → list_all is_ascii_digit (c0 ∷ []) ≡ true → (v : ℕ) → number_written 10 0 (c0 ∷ []) ≡ v → is_character v ≡ true → 1 ≤ v → v ≤ 9 → decimal_in (c0 ∷ [])
decimal_1 c0 a v e h l m = at (lowest v h (omega (arith, m)))
  where
    at : ((9 ≤ v) × (v ≤ 10)) ⊎ ((13 ≤ v) × (v ≤ 13)) → decimal_in (c0 ∷ [])
    at (inl p) = inl (record { are = record { as_many = tt; digits = a }; least = let q = p.0 in omega (arith, e, q); most = omega (arith, e, m) })
    at (inr p) = absurd (let q = p.0 in omega (arith, q, m))

decimal_2 : (c0 c1 : ℕ) → list_all is_ascii_digit (c0 ∷ c1 ∷ []) ≡ true → (v : ℕ) → number_written 10 0 (c0 ∷ c1 ∷ []) ≡ v → is_character v ≡ true → 10 ≤ v → v ≤ 99 → decimal_in (c0 ∷ c1 ∷ [])
decimal_2 c0 c1 a v e h l m = split (cases_lt v 32)
  where
    at : ((9 ≤ v) × (v ≤ 10)) ⊎ ((13 ≤ v) × (v ≤ 13)) → decimal_in (c0 ∷ c1 ∷ [])
    at (inl p) = inr (inl (record { are = record { as_many = tt; digits = a }; least = omega (arith, e, l); most = let q = p.1 in omega (arith, e, q) }))
    at (inr p) = inr (inr (inl (record { are = record { as_many = tt; digits = a }; least = let q = p.0 in omega (arith, e, q); most = let q = p.1 in omega (arith, e, q) })))

    split : (v < 32) ⊎ (32 ≤ v) → decimal_in (c0 ∷ c1 ∷ [])
    split (inl s) = at (lowest v h s)
    split (inr s) = inr (inr (inr (inl (record { are = record { as_many = tt; digits = a }; least = omega (arith, e, s); most = omega (arith, e, m) }))))

decimal_3 : (c0 c1 c2 : ℕ) → list_all is_ascii_digit (c0 ∷ c1 ∷ c2 ∷ []) ≡ true → (v : ℕ) → number_written 10 0 (c0 ∷ c1 ∷ c2 ∷ []) ≡ v → is_character v ≡ true → 100 ≤ v → v ≤ 999 → decimal_in (c0 ∷ c1 ∷ c2 ∷ [])
decimal_3 c0 c1 c2 a v e h l m = inr (inr (inr (inr (inl (record { are = record { as_many = tt; digits = a }; least = omega (arith, e, l); most = omega (arith, e, m) })))))

decimal_4 : (c0 c1 c2 c3 : ℕ) → list_all is_ascii_digit (c0 ∷ c1 ∷ c2 ∷ c3 ∷ []) ≡ true → (v : ℕ) → number_written 10 0 (c0 ∷ c1 ∷ c2 ∷ c3 ∷ []) ≡ v → is_character v ≡ true → 1000 ≤ v → v ≤ 9999 → decimal_in (c0 ∷ c1 ∷ c2 ∷ c3 ∷ [])
decimal_4 c0 c1 c2 c3 a v e h l m = inr (inr (inr (inr (inr (inl (record { are = record { as_many = tt; digits = a }; least = omega (arith, e, l); most = omega (arith, e, m) }))))))

decimal_5 : (c0 c1 c2 c3 c4 : ℕ) → list_all is_ascii_digit (c0 ∷ c1 ∷ c2 ∷ c3 ∷ c4 ∷ []) ≡ true → (v : ℕ) → number_written 10 0 (c0 ∷ c1 ∷ c2 ∷ c3 ∷ c4 ∷ []) ≡ v → is_character v ≡ true → 10000 ≤ v → v ≤ 99999 → decimal_in (c0 ∷ c1 ∷ c2 ∷ c3 ∷ c4 ∷ [])
decimal_5 c0 c1 c2 c3 c4 a v e h l m = at (upper v h)
  where
    at : (v ≤ 0xD7FF) ⊎ (((0xE000 ≤ v) × (v ≤ 0xFFFD)) ⊎ (0x10000 ≤ v)) → decimal_in (c0 ∷ c1 ∷ c2 ∷ c3 ∷ c4 ∷ [])
    at (inl p) = inr (inr (inr (inr (inr (inr (inl (record { are = record { as_many = tt; digits = a }; least = omega (arith, e, l); most = omega (arith, e, p) })))))))
    at (inr (inl p)) = inr (inr (inr (inr (inr (inr (inr (inl (record { are = record { as_many = tt; digits = a }; least = let q = p.0 in omega (arith, e, q); most = let q = p.1 in omega (arith, e, q) }))))))))
    at (inr (inr p)) = inr (inr (inr (inr (inr (inr (inr (inr (inl (record { are = record { as_many = tt; digits = a }; least = omega (arith, e, p); most = omega (arith, e, m) })))))))))

decimal_6 : (c0 c1 c2 c3 c4 c5 : ℕ) → list_all is_ascii_digit (c0 ∷ c1 ∷ c2 ∷ c3 ∷ c4 ∷ c5 ∷ []) ≡ true → (v : ℕ) → number_written 10 0 (c0 ∷ c1 ∷ c2 ∷ c3 ∷ c4 ∷ c5 ∷ []) ≡ v → is_character v ≡ true → 100000 ≤ v → v ≤ 999999 → decimal_in (c0 ∷ c1 ∷ c2 ∷ c3 ∷ c4 ∷ c5 ∷ [])
decimal_6 c0 c1 c2 c3 c4 c5 a v e h l m = inr (inr (inr (inr (inr (inr (inr (inr (inr (inl (record { are = record { as_many = tt; digits = a }; least = omega (arith, e, l); most = omega (arith, e, m) }))))))))))

decimal_7 : (c0 c1 c2 c3 c4 c5 c6 : ℕ) → list_all is_ascii_digit (c0 ∷ c1 ∷ c2 ∷ c3 ∷ c4 ∷ c5 ∷ c6 ∷ []) ≡ true → (v : ℕ) → number_written 10 0 (c0 ∷ c1 ∷ c2 ∷ c3 ∷ c4 ∷ c5 ∷ c6 ∷ []) ≡ v → is_character v ≡ true → 1000000 ≤ v → v ≤ 9999999 → decimal_in (c0 ∷ c1 ∷ c2 ∷ c3 ∷ c4 ∷ c5 ∷ c6 ∷ [])
decimal_7 c0 c1 c2 c3 c4 c5 c6 a v e h l m = let t = at_most v h in inr (inr (inr (inr (inr (inr (inr (inr (inr (inr (inl (record { are = record { as_many = tt; digits = a }; least = omega (arith, e, l); most = omega (arith, e, t) })))))))))))

decimal_has : HasRow 10 is_ascii_digit decimal decimal_rows
unfolding decimal
decimal_has [] b a h = absurd (no h)
  where
    no : is_character 0 ≡ true → ⊥
    no e = cc
decimal_has (c0 ∷ []) b a h = let s = sized 10 is_ascii_digit decimal c0 ([]) b a in decimal_1 c0 a (number_written 10 0 (c0 ∷ [])) refl h s.least s.most
decimal_has (c0 ∷ c1 ∷ []) b a h = let s = sized 10 is_ascii_digit decimal c0 (c1 ∷ []) b a in decimal_2 c0 c1 a (number_written 10 0 (c0 ∷ c1 ∷ [])) refl h s.least s.most
decimal_has (c0 ∷ c1 ∷ c2 ∷ []) b a h = let s = sized 10 is_ascii_digit decimal c0 (c1 ∷ c2 ∷ []) b a in decimal_3 c0 c1 c2 a (number_written 10 0 (c0 ∷ c1 ∷ c2 ∷ [])) refl h s.least s.most
decimal_has (c0 ∷ c1 ∷ c2 ∷ c3 ∷ []) b a h = let s = sized 10 is_ascii_digit decimal c0 (c1 ∷ c2 ∷ c3 ∷ []) b a in decimal_4 c0 c1 c2 c3 a (number_written 10 0 (c0 ∷ c1 ∷ c2 ∷ c3 ∷ [])) refl h s.least s.most
decimal_has (c0 ∷ c1 ∷ c2 ∷ c3 ∷ c4 ∷ []) b a h = let s = sized 10 is_ascii_digit decimal c0 (c1 ∷ c2 ∷ c3 ∷ c4 ∷ []) b a in decimal_5 c0 c1 c2 c3 c4 a (number_written 10 0 (c0 ∷ c1 ∷ c2 ∷ c3 ∷ c4 ∷ [])) refl h s.least s.most
decimal_has (c0 ∷ c1 ∷ c2 ∷ c3 ∷ c4 ∷ c5 ∷ []) b a h = let s = sized 10 is_ascii_digit decimal c0 (c1 ∷ c2 ∷ c3 ∷ c4 ∷ c5 ∷ []) b a in decimal_6 c0 c1 c2 c3 c4 c5 a (number_written 10 0 (c0 ∷ c1 ∷ c2 ∷ c3 ∷ c4 ∷ c5 ∷ [])) refl h s.least s.most
decimal_has (c0 ∷ c1 ∷ c2 ∷ c3 ∷ c4 ∷ c5 ∷ c6 ∷ []) b a h = let s = sized 10 is_ascii_digit decimal c0 (c1 ∷ c2 ∷ c3 ∷ c4 ∷ c5 ∷ c6 ∷ []) b a in decimal_7 c0 c1 c2 c3 c4 c5 c6 a (number_written 10 0 (c0 ∷ c1 ∷ c2 ∷ c3 ∷ c4 ∷ c5 ∷ c6 ∷ [])) refl h s.least s.most
decimal_has (c0 ∷ c1 ∷ c2 ∷ c3 ∷ c4 ∷ c5 ∷ c6 ∷ c7 ∷ more) b a h =
    absurd (too_high (number_written 10 0 (c0 ∷ c1 ∷ c2 ∷ c3 ∷ c4 ∷ c5 ∷ c6 ∷ c7 ∷ [])) (number_written 10 0 (c0 ∷ c1 ∷ c2 ∷ c3 ∷ c4 ∷ c5 ∷ c6 ∷ c7 ∷ more)) (sized 10 is_ascii_digit decimal c0 (c1 ∷ c2 ∷ c3 ∷ c4 ∷ c5 ∷ c6 ∷ c7 ∷ []) b (front a)).least (grown 10 is_ascii_digit decimal more (number_written 10 0 (c0 ∷ c1 ∷ c2 ∷ c3 ∷ c4 ∷ c5 ∷ c6 ∷ c7 ∷ []))) (at_most (number_written 10 0 (c0 ∷ c1 ∷ c2 ∷ c3 ∷ c4 ∷ c5 ∷ c6 ∷ c7 ∷ more)) h))
  where
    too_high : (v w : ℕ) → 10000000 ≤ v → v ≤ w → w ≤ 0x10FFFF → ⊥
    too_high v w l m t = omega (arith, l, m, t)

    front : list_all is_ascii_digit (c0 ∷ c1 ∷ c2 ∷ c3 ∷ c4 ∷ c5 ∷ c6 ∷ c7 ∷ more) ≡ true → list_all is_ascii_digit (c0 ∷ c1 ∷ c2 ∷ c3 ∷ c4 ∷ c5 ∷ c6 ∷ c7 ∷ []) ≡ true
    front a = (and_parts (list_all is_ascii_digit (c0 ∷ c1 ∷ c2 ∷ c3 ∷ c4 ∷ c5 ∷ c6 ∷ c7 ∷ [])) (list_all is_ascii_digit more) (sym (list_all-append is_ascii_digit (c0 ∷ c1 ∷ c2 ∷ c3 ∷ c4 ∷ c5 ∷ c6 ∷ c7 ∷ []) more) ∙ a)).0

-- a number without zeros before it, by how many digits it has
abbrev hexadecimal_in : List ℕ → Type 0
hexadecimal_in cs = InOne 16 is_ascii_hexdigit hexadecimal hexadecimal_rows cs

hexadecimal_1 : (c0 : ℕ) → list_all is_ascii_hexdigit (c0 ∷ []) ≡ true → (v : ℕ) → number_written 16 0 (c0 ∷ []) ≡ v → is_character v ≡ true → 1 ≤ v → v ≤ 15 → hexadecimal_in (c0 ∷ [])
hexadecimal_1 c0 a v e h l m = at (lowest v h (omega (arith, m)))
  where
    at : ((9 ≤ v) × (v ≤ 10)) ⊎ ((13 ≤ v) × (v ≤ 13)) → hexadecimal_in (c0 ∷ [])
    at (inl p) = inl (record { are = record { as_many = tt; digits = a }; least = let q = p.0 in omega (arith, e, q); most = let q = p.1 in omega (arith, e, q) })
    at (inr p) = inr (inl (record { are = record { as_many = tt; digits = a }; least = let q = p.0 in omega (arith, e, q); most = let q = p.1 in omega (arith, e, q) }))

hexadecimal_2 : (c0 c1 : ℕ) → list_all is_ascii_hexdigit (c0 ∷ c1 ∷ []) ≡ true → (v : ℕ) → number_written 16 0 (c0 ∷ c1 ∷ []) ≡ v → is_character v ≡ true → 16 ≤ v → v ≤ 255 → hexadecimal_in (c0 ∷ c1 ∷ [])
hexadecimal_2 c0 c1 a v e h l m = split (cases_lt v 32)
  where
    none : ((9 ≤ v) × (v ≤ 10)) ⊎ ((13 ≤ v) × (v ≤ 13)) → ⊥
    none (inl p) = let q = p.1 in omega (arith, q, l)
    none (inr p) = let q = p.1 in omega (arith, q, l)

    split : (v < 32) ⊎ (32 ≤ v) → hexadecimal_in (c0 ∷ c1 ∷ [])
    split (inl s) = absurd (none (lowest v h s))
    split (inr s) = inr (inr (inl (record { are = record { as_many = tt; digits = a }; least = omega (arith, e, s); most = omega (arith, e, m) })))

hexadecimal_3 : (c0 c1 c2 : ℕ) → list_all is_ascii_hexdigit (c0 ∷ c1 ∷ c2 ∷ []) ≡ true → (v : ℕ) → number_written 16 0 (c0 ∷ c1 ∷ c2 ∷ []) ≡ v → is_character v ≡ true → 256 ≤ v → v ≤ 4095 → hexadecimal_in (c0 ∷ c1 ∷ c2 ∷ [])
hexadecimal_3 c0 c1 c2 a v e h l m = inr (inr (inr (inl (record { are = record { as_many = tt; digits = a }; least = omega (arith, e, l); most = omega (arith, e, m) }))))

hexadecimal_4 : (c0 c1 c2 c3 : ℕ) → list_all is_ascii_hexdigit (c0 ∷ c1 ∷ c2 ∷ c3 ∷ []) ≡ true → (v : ℕ) → number_written 16 0 (c0 ∷ c1 ∷ c2 ∷ c3 ∷ []) ≡ v → is_character v ≡ true → 4096 ≤ v → v ≤ 65535 → hexadecimal_in (c0 ∷ c1 ∷ c2 ∷ c3 ∷ [])
hexadecimal_4 c0 c1 c2 c3 a v e h l m = at (upper v h)
  where
    at : (v ≤ 0xD7FF) ⊎ (((0xE000 ≤ v) × (v ≤ 0xFFFD)) ⊎ (0x10000 ≤ v)) → hexadecimal_in (c0 ∷ c1 ∷ c2 ∷ c3 ∷ [])
    at (inl p) = inr (inr (inr (inr (inl (record { are = record { as_many = tt; digits = a }; least = omega (arith, e, l); most = omega (arith, e, p) })))))
    at (inr (inl p)) = inr (inr (inr (inr (inr (inl (record { are = record { as_many = tt; digits = a }; least = let q = p.0 in omega (arith, e, q); most = let q = p.1 in omega (arith, e, q) }))))))
    at (inr (inr p)) = absurd (omega (arith, p, m))

hexadecimal_5 : (c0 c1 c2 c3 c4 : ℕ) → list_all is_ascii_hexdigit (c0 ∷ c1 ∷ c2 ∷ c3 ∷ c4 ∷ []) ≡ true → (v : ℕ) → number_written 16 0 (c0 ∷ c1 ∷ c2 ∷ c3 ∷ c4 ∷ []) ≡ v → is_character v ≡ true → 65536 ≤ v → v ≤ 1048575 → hexadecimal_in (c0 ∷ c1 ∷ c2 ∷ c3 ∷ c4 ∷ [])
hexadecimal_5 c0 c1 c2 c3 c4 a v e h l m = inr (inr (inr (inr (inr (inr (inl (record { are = record { as_many = tt; digits = a }; least = omega (arith, e, l); most = omega (arith, e, m) })))))))

hexadecimal_6 : (c0 c1 c2 c3 c4 c5 : ℕ) → list_all is_ascii_hexdigit (c0 ∷ c1 ∷ c2 ∷ c3 ∷ c4 ∷ c5 ∷ []) ≡ true → (v : ℕ) → number_written 16 0 (c0 ∷ c1 ∷ c2 ∷ c3 ∷ c4 ∷ c5 ∷ []) ≡ v → is_character v ≡ true → 1048576 ≤ v → v ≤ 16777215 → hexadecimal_in (c0 ∷ c1 ∷ c2 ∷ c3 ∷ c4 ∷ c5 ∷ [])
hexadecimal_6 c0 c1 c2 c3 c4 c5 a v e h l m = let t = at_most v h in inr (inr (inr (inr (inr (inr (inr (inl (record { are = record { as_many = tt; digits = a }; least = omega (arith, e, l); most = omega (arith, e, t) }))))))))

hexadecimal_has : HasRow 16 is_ascii_hexdigit hexadecimal hexadecimal_rows
unfolding hexadecimal
hexadecimal_has [] b a h = absurd (no h)
  where
    no : is_character 0 ≡ true → ⊥
    no e = cc
hexadecimal_has (c0 ∷ []) b a h = let s = sized 16 is_ascii_hexdigit hexadecimal c0 ([]) b a in hexadecimal_1 c0 a (number_written 16 0 (c0 ∷ [])) refl h s.least s.most
hexadecimal_has (c0 ∷ c1 ∷ []) b a h = let s = sized 16 is_ascii_hexdigit hexadecimal c0 (c1 ∷ []) b a in hexadecimal_2 c0 c1 a (number_written 16 0 (c0 ∷ c1 ∷ [])) refl h s.least s.most
hexadecimal_has (c0 ∷ c1 ∷ c2 ∷ []) b a h = let s = sized 16 is_ascii_hexdigit hexadecimal c0 (c1 ∷ c2 ∷ []) b a in hexadecimal_3 c0 c1 c2 a (number_written 16 0 (c0 ∷ c1 ∷ c2 ∷ [])) refl h s.least s.most
hexadecimal_has (c0 ∷ c1 ∷ c2 ∷ c3 ∷ []) b a h = let s = sized 16 is_ascii_hexdigit hexadecimal c0 (c1 ∷ c2 ∷ c3 ∷ []) b a in hexadecimal_4 c0 c1 c2 c3 a (number_written 16 0 (c0 ∷ c1 ∷ c2 ∷ c3 ∷ [])) refl h s.least s.most
hexadecimal_has (c0 ∷ c1 ∷ c2 ∷ c3 ∷ c4 ∷ []) b a h = let s = sized 16 is_ascii_hexdigit hexadecimal c0 (c1 ∷ c2 ∷ c3 ∷ c4 ∷ []) b a in hexadecimal_5 c0 c1 c2 c3 c4 a (number_written 16 0 (c0 ∷ c1 ∷ c2 ∷ c3 ∷ c4 ∷ [])) refl h s.least s.most
hexadecimal_has (c0 ∷ c1 ∷ c2 ∷ c3 ∷ c4 ∷ c5 ∷ []) b a h = let s = sized 16 is_ascii_hexdigit hexadecimal c0 (c1 ∷ c2 ∷ c3 ∷ c4 ∷ c5 ∷ []) b a in hexadecimal_6 c0 c1 c2 c3 c4 c5 a (number_written 16 0 (c0 ∷ c1 ∷ c2 ∷ c3 ∷ c4 ∷ c5 ∷ [])) refl h s.least s.most
hexadecimal_has (c0 ∷ c1 ∷ c2 ∷ c3 ∷ c4 ∷ c5 ∷ c6 ∷ more) b a h =
    absurd (too_high (number_written 16 0 (c0 ∷ c1 ∷ c2 ∷ c3 ∷ c4 ∷ c5 ∷ c6 ∷ [])) (number_written 16 0 (c0 ∷ c1 ∷ c2 ∷ c3 ∷ c4 ∷ c5 ∷ c6 ∷ more)) (sized 16 is_ascii_hexdigit hexadecimal c0 (c1 ∷ c2 ∷ c3 ∷ c4 ∷ c5 ∷ c6 ∷ []) b (front a)).least (grown 16 is_ascii_hexdigit hexadecimal more (number_written 16 0 (c0 ∷ c1 ∷ c2 ∷ c3 ∷ c4 ∷ c5 ∷ c6 ∷ []))) (at_most (number_written 16 0 (c0 ∷ c1 ∷ c2 ∷ c3 ∷ c4 ∷ c5 ∷ c6 ∷ more)) h))
  where
    too_high : (v w : ℕ) → 16777216 ≤ v → v ≤ w → w ≤ 0x10FFFF → ⊥
    too_high v w l m t = omega (arith, l, m, t)

    front : list_all is_ascii_hexdigit (c0 ∷ c1 ∷ c2 ∷ c3 ∷ c4 ∷ c5 ∷ c6 ∷ more) ≡ true → list_all is_ascii_hexdigit (c0 ∷ c1 ∷ c2 ∷ c3 ∷ c4 ∷ c5 ∷ c6 ∷ []) ≡ true
    front a = (and_parts (list_all is_ascii_hexdigit (c0 ∷ c1 ∷ c2 ∷ c3 ∷ c4 ∷ c5 ∷ c6 ∷ [])) (list_all is_ascii_hexdigit more) (sym (list_all-append is_ascii_hexdigit (c0 ∷ c1 ∷ c2 ∷ c3 ∷ c4 ∷ c5 ∷ c6 ∷ []) more) ∙ a)).0

pub spells_decimal : Spells decimal_form (IsNumber 10 is_ascii_digit)
unfolding decimal_form
spells_decimal = spells_number 10 is_ascii_digit decimal decimal_rows decimal_are decimal_has

pub spells_hexadecimal : Spells hexadecimal_form (IsNumber 16 is_ascii_hexdigit)
unfolding hexadecimal_form
spells_hexadecimal = spells_number 16 is_ascii_hexdigit hexadecimal hexadecimal_rows hexadecimal_are hexadecimal_has
