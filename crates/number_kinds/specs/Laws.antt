-- What the kinds are, and what a reader that goes digit by digit is to know of them, as statements.
use Rattle.std.specs.Prelude.{◌≡◌, ◌↔◌, ℕ, ◌+◌, ◌*◌, ◌<◌, Bool, true, nat_le, min, List}
use Rattle.std.specs.List.{list_all}
use Rattle.std.specs.Char.{is_ascii_digit, is_ascii_hexdigit}
use Rattle.xml_text.specs.Characters.{is_character}
use Rattle.dtd_model.specs.References.{number_written}
use Rattle.number_kinds.specs.Kinds.{decimal_kind, hexadecimal_kind}

-- with the same digits behind them, or none, both numbers are those of characters, or neither is
abbrev pub AreAlike : ℕ → (ℕ → Bool) → ℕ → ℕ → Type 0
AreAlike base is_digit n m =
    (digits : List ℕ) → list_all is_digit digits ≡ true
    → is_character (number_written base n digits) ≡ is_character (number_written base m digits)

-- the number of its kind is a character's where it is one, and one digit more leads to numbers of one kind; all over 0x10FFFF are of one
pub record LeadsOn (base : ℕ) (kind : ℕ → ℕ) (n : ℕ) : Type 0 where
  pub digits : (d : ℕ) → d < base → kind (kind n * base + d) ≡ kind (n * base + d)
  pub good : is_character (kind n) ≡ is_character n
  pub within : nat_le (kind n) 0x10FFFF ≡ nat_le n 0x10FFFF
  pub same : kind (kind n) ≡ kind n
  pub capped : kind (min n 0x110000) ≡ kind n

-- of decimal numbers: those are of one kind that are alike, and no others
pub record DecimalKinds : Type 0 where
  pub leads : (n : ℕ) → LeadsOn 10 decimal_kind n
  pub alike : (n m : ℕ) → (decimal_kind n ≡ decimal_kind m) ↔ AreAlike 10 is_ascii_digit n m

-- of hexadecimal numbers
pub record HexadecimalKinds : Type 0 where
  pub leads : (n : ℕ) → LeadsOn 16 hexadecimal_kind n
  pub alike : (n m : ℕ) → (hexadecimal_kind n ≡ hexadecimal_kind m) ↔ AreAlike 16 is_ascii_hexdigit n m
