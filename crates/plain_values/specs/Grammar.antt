-- Numeric texts by the grammar that the PHP manual gives ("Numeric strings").
use Rattle.std.specs.Prelude.{◌≡◌, ℕ, ℤ, true, ◌⊎◌, List, [], ◌∷◌, ◌++◌}
use Rattle.std.specs.List.{list_all}
use Rattle.std.specs.Str.Parse.{signed_digits_value}
use Rattle.plain_values.specs.Numeric.{is_blank, is_numeral, is_exponent_mark}

-- WHITESPACES: blanks, or nothing
abbrev pub AreBlanks : List ℕ → Type 0
AreBlanks bs = list_all is_blank bs ≡ true

-- a plus, a minus, or nothing
abbrev pub IsSign : List ℕ → Type 0
IsSign s = (s ≡ []) ⊎ ((s ≡ 43 ∷ []) ⊎ (s ≡ 45 ∷ []))

-- LNUM: decimal digits, at least one
abbrev pub IsLnum : List ℕ → Type 0
IsLnum ds = is_numeral ds ≡ true

-- DNUM: such digits with a dot before, among or behind them
pub record IsDnum (m : List ℕ) : Type 0 where
  pub front : List ℕ
  pub back : List ℕ
  pub parts : m ≡ front ++ 46 ∷ back
  pub digits : IsLnum (front ++ back)

-- an LNUM or a DNUM
abbrev pub IsMantissa : List ℕ → Type 0
IsMantissa m = IsLnum m ⊎ IsDnum m

-- EXPONENT_DNUM: an LNUM or a DNUM, an `e` or `E`, a sign or none, and an LNUM
pub record IsExponentDnum (u : List ℕ) : Type 0 where
  pub mantissa : List ℕ
  pub mark : ℕ
  pub sign : List ℕ
  pub digits : List ℕ
  pub parts : u ≡ mantissa ++ mark ∷ (sign ++ digits)
  pub before : IsMantissa mantissa
  pub marked : is_exponent_mark mark ≡ true
  pub signed : IsSign sign
  pub behind : IsLnum digits

-- blanks on both sides, and a sign or none, of what the record's user asks of the rest
pub record IsNumberText (Rest : List ℕ → Type 0) (text body : List ℕ) : Type 0 where
  pub blanks : List ℕ
  pub sign : List ℕ
  pub rest : List ℕ
  pub more_blanks : List ℕ
  pub parts : text ≡ blanks ++ (body ++ more_blanks)
  pub signed_parts : body ≡ sign ++ rest
  pub before : AreBlanks blanks
  pub behind : AreBlanks more_blanks
  pub signed : IsSign sign
  pub asked : Rest rest

-- INT_NUM_STR, with its number
abbrev pub IsIntegerText : List ℕ → ℤ → Type 0
IsIntegerText text z = (body : List ℕ) × IsNumberText IsLnum text body × (z ≡ signed_digits_value 10 body)

-- FLOAT_NUM_STR
abbrev pub IsFloatText : List ℕ → Type 0
IsFloatText text = (body : List ℕ) × IsNumberText (λ u. IsDnum u ⊎ IsExponentDnum u) text body
