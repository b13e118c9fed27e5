-- The kinds of either base.
use Rattle.std.proofs.Common.{◌≡◌, ℕ, ◌+◌, ◌*◌, ◌<◌, Bool, true, List, [], ◌∷◌, codes, refl, sym, ◌∙◌, ap, arith}
use Rattle.std.specs.List.{list_all}
use Rattle.std.specs.Char.{is_ascii_digit, is_ascii_hexdigit, digit_value}
use Rattle.std.proofs.lemmas.Bool.{and_parts}
use Rattle.std.proofs.lemmas.Bool.Decides.{nat_tests}
use Rattle.xml_text.specs.Characters.{is_character}
use Rattle.number_kinds.specs.Kinds.{kind_in, decimal_kind, hexadecimal_kind}
use Rattle.number_kinds.specs.Laws.{AreAlike, LeadsOn, DecimalKinds, HexadecimalKinds}
use Rattle.number_kinds.specs.declared.rows.TheConstants.{DECIMAL_ROWS, HEXADECIMAL_ROWS}
use Rattle.number_kinds.proofs.RowLemmas.{Base, leads_on}
use Rattle.number_kinds.proofs.Told.{all_told, coded, one_kind}

ten : Base
ten = record {
  base = 10;
  top = 9;
  low = λ a n d l. omega arith;
  high = λ n b d l small. omega arith;
  grows = λ n d. omega arith;
}

sixteen : Base
sixteen = record {
  base = 16;
  top = 15;
  low = λ a n d l. omega arith;
  high = λ n b d l small. omega arith;
  grows = λ n d. omega arith;
}

module _ (base : ℕ) (kind : ℕ → ℕ) (is_digit : ℕ → Bool) (small : (c : ℕ) → is_digit c ≡ true → digit_value c < base)
    (leads : (n : ℕ) → LeadsOn base kind n) where
  -- numbers of one kind lead to numbers of one kind
  one_more : (n m d : ℕ) → d < base → kind n ≡ kind m → kind (n * base + d) ≡ kind (m * base + d)
  one_more n m d l e = sym ((leads n).digits d l) ∙ ap (λ (k : ℕ). kind (k * base + d)) e ∙ (leads m).digits d l

  all_alike : (n m : ℕ) → kind n ≡ kind m → AreAlike base is_digit n m
  all_alike n m e [] f = sym (leads n).good ∙ ap is_character e ∙ (leads m).good
  all_alike n m e (c ∷ cs) f =
      let parts = and_parts (is_digit c) (list_all is_digit cs) f in
      all_alike (n * base + digit_value c) (m * base + digit_value c) (one_more n m (digit_value c) (small c parts.0) e) cs parts.1

pub ten_leads : (n : ℕ) → LeadsOn 10 decimal_kind n
unfolding ten
ten_leads n = leads_on ten DECIMAL_ROWS refl n

pub sixteen_leads : (n : ℕ) → LeadsOn 16 hexadecimal_kind n
unfolding sixteen
sixteen_leads n = leads_on sixteen HEXADECIMAL_ROWS refl n

pub small_decimal : (c : ℕ) → is_ascii_digit c ≡ true → digit_value c < 10
small_decimal c e = grind (arith, nat_tests)

pub small_hexadecimal : (c : ℕ) → is_ascii_hexdigit c ≡ true → digit_value c < 16
small_hexadecimal c e = grind (arith, nat_tests)

-- digits that tell the kinds apart
abbrev decimal_tries : List (List ℕ)
decimal_tries = [] ∷ codes "5534" ∷ codes "000" ∷ codes "534" ∷ codes "0" ∷ codes "4" ∷ codes "00" ∷ codes "96" ∷ codes "00000" ∷ codes "6" ∷ codes "34" ∷ codes "999" ∷ codes "0000" ∷ codes "5999" ∷ codes "99999" ∷ []

abbrev hexadecimal_tries : List (List ℕ)
hexadecimal_tries = [] ∷ codes "5534" ∷ codes "fff" ∷ codes "0" ∷ codes "00" ∷ codes "e" ∷ codes "fe" ∷ []

module _ (base : ℕ) (rows : List (ℕ × ℕ)) (is_digit : ℕ → Bool) (small : (c : ℕ) → is_digit c ≡ true → digit_value c < base)
    (leads : (n : ℕ) → LeadsOn base (kind_in rows) n) (tries : List (List ℕ)) (are : list_all (list_all is_digit) tries ≡ true)
    (all : all_told (coded base is_digit tries rows) ≡ true) where
  -- as its number
  of_kind : (n : ℕ) → AreAlike base is_digit (kind_in rows n) n
  of_kind n = all_alike base (kind_in rows) is_digit small leads (kind_in rows n) n (leads n).same

  exact : (n m : ℕ) → AreAlike base is_digit n m → kind_in rows n ≡ kind_in rows m
  exact n m a = one_kind base is_digit tries rows all are n m (λ digits f. of_kind n digits f ∙ a digits f ∙ sym (of_kind m digits f))

pub decimal_kinds : DecimalKinds
decimal_kinds = record {
  leads = ten_leads;
  alike = λ n m. (
    all_alike 10 decimal_kind is_ascii_digit small_decimal ten_leads n m,
    exact 10 DECIMAL_ROWS is_ascii_digit small_decimal ten_leads decimal_tries refl refl n m,
  );
}

pub hexadecimal_kinds : HexadecimalKinds
hexadecimal_kinds = record {
  leads = sixteen_leads;
  alike = λ n m. (
    all_alike 16 hexadecimal_kind is_ascii_hexdigit small_hexadecimal sixteen_leads n m,
    exact 16 HEXADECIMAL_ROWS is_ascii_hexdigit small_hexadecimal sixteen_leads hexadecimal_tries refl refl n m,
  );
}
