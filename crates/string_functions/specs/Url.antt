-- Encoding for URLs (PHP manual, urlencode and rawurlencode; RFC 3986, 2.1 and 2.3).
use Rattle.std.specs.Prelude.{ℕ, ◌+◌, ◌/◌, ◌%◌, Bool, ◌==◌, nat_le, nat_lt, ◌||◌, ◌&&◌, List, [], ◌∷◌, if◌then◌else◌, flat_map}

-- an ASCII letter or digit
abbrev pub is_letter_or_digit : ℕ → Bool
is_letter_or_digit b = (nat_le 65 b && nat_le b 90) || (nat_le 97 b && nat_le b 122) || (nat_le 48 b && nat_le b 57)

-- a byte that `urlencode` keeps: a letter, a digit, `-`, `_` or `.`
abbrev pub is_kept_in_url : ℕ → Bool
is_kept_in_url b = is_letter_or_digit b || b == 45 || b == 95 || b == 46

-- the hexadecimal digit of a number below 16, in upper case
abbrev pub hex_digit : ℕ → ℕ
hex_digit n = if nat_lt n 10 then 48 + n else 55 + n

-- `%` and the two hexadecimal digits of the byte
abbrev pub percent_of_byte : ℕ → List ℕ
percent_of_byte b = 37 ∷ hex_digit (b / 16) ∷ hex_digit (b % 16) ∷ []

-- what `urlencode` writes for a byte: `+` for the space
abbrev pub url_of_byte : ℕ → List ℕ
url_of_byte b = if is_kept_in_url b then b ∷ [] else (if b == 32 then 43 ∷ [] else percent_of_byte b)

-- `urlencode(text)`
abbrev pub url_of : List ℕ → List ℕ
url_of text = flat_map url_of_byte text

-- what `rawurlencode` writes for a byte: `~` is kept too, and the space is as other bytes
abbrev pub raw_url_of_byte : ℕ → List ℕ
raw_url_of_byte b = if is_kept_in_url b || b == 126 then b ∷ [] else percent_of_byte b

-- `rawurlencode(text)`
abbrev pub raw_url_of : List ℕ → List ℕ
raw_url_of text = flat_map raw_url_of_byte text
