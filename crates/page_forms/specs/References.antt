-- References as expressions (XML 1.0, 4.1).
use Rattle.std.specs.Prelude.{ℕ, Bool, ◌==◌, ◌&&◌, nat_lt, if◌then◌else◌, List, [], ◌∷◌, codes}
use Rattle.std.specs.Char.{is_ascii_digit, is_ascii_hexdigit, digit_value}
use Rattle.xml_text.specs.Names.{is_name}
use Rattle.dtd_model.specs.References.{known_entities}
use Rattle.derivatives.specs.Expressions.{Expr, nothing, empty, range, star}
use Rattle.derivatives.specs.Derivatives.{chain_of, either_of}
use Rattle.page_forms.specs.Words.{word, one_of_words, ascii}

-- a digit of the value of this one
abbrev pub equal_to : (ℕ → Bool) → ℕ → Expr
equal_to is_digit d = ascii (λ c. is_digit c && digit_value c == digit_value d)

-- a digit of a higher value
abbrev pub above : (ℕ → Bool) → ℕ → Expr
above is_digit d = ascii (λ c. is_digit c && nat_lt (digit_value d) (digit_value c))

-- a digit of a lower value
abbrev pub below : (ℕ → Bool) → ℕ → Expr
below is_digit d = ascii (λ c. is_digit c && nat_lt (digit_value c) (digit_value d))

-- a digit of a value between those of two
abbrev pub inside : (ℕ → Bool) → ℕ → ℕ → Expr
inside is_digit d e = ascii (λ c. is_digit c && (nat_lt (digit_value d) (digit_value c) && nat_lt (digit_value c) (digit_value e)))

-- as many digits as these
abbrev pub as_many : (ℕ → Bool) → List ℕ → Expr
as_many is_digit [] = empty
as_many is_digit (d ∷ ds) = chain_of (ascii is_digit) (as_many is_digit ds)

-- as many, which write this number or a higher one
abbrev pub at_least : (ℕ → Bool) → List ℕ → Expr
at_least is_digit [] = empty
at_least is_digit (d ∷ ds) = either_of (chain_of (equal_to is_digit d) (at_least is_digit ds)) (chain_of (above is_digit d) (as_many is_digit ds))

-- as many, which write this number or a lower one
abbrev pub at_most : (ℕ → Bool) → List ℕ → Expr
at_most is_digit [] = empty
at_most is_digit (d ∷ ds) = either_of (chain_of (equal_to is_digit d) (at_most is_digit ds)) (chain_of (below is_digit d) (as_many is_digit ds))

-- as many, which write a number from the one to the other
abbrev pub from_to : (ℕ → Bool) → List ℕ → List ℕ → Expr
from_to is_digit [] es = empty
from_to is_digit (d ∷ ds) [] = nothing
from_to is_digit (d ∷ ds) (e ∷ es) = if digit_value d == digit_value e
    then chain_of (equal_to is_digit d) (from_to is_digit ds es)
    else either_of (chain_of (equal_to is_digit d) (at_least is_digit ds))
    (either_of (chain_of (inside is_digit d e) (as_many is_digit ds)) (chain_of (equal_to is_digit e) (at_most is_digit es)))

-- from one number to another, by their digits
abbrev pub Rows : Type 0
Rows = List (List ℕ × List ℕ)

-- a number of one of these rows
abbrev pub one_of_rows : (ℕ → Bool) → Rows → Expr
one_of_rows is_digit [] = nothing
one_of_rows is_digit (row ∷ rows) = either_of (from_to is_digit row.0 row.1) (one_of_rows is_digit rows)

-- the same, maybe behind zeros
abbrev pub number_form : (ℕ → Bool) → Rows → Expr
number_form is_digit rows = chain_of (star (range 48 48)) (one_of_rows is_digit rows)

-- the numbers of characters (XML 1.0, 2.2, Char) without zeros before them, by how many digits they have
abbrev pub decimal_rows : Rows
decimal_rows =
    (codes "9", codes "9") ∷ (codes "10", codes "10") ∷ (codes "13", codes "13") ∷ (codes "32", codes "99") ∷ (codes "100", codes "999")
    ∷ (codes "1000", codes "9999") ∷ (codes "10000", codes "55295") ∷ (codes "57344", codes "65533") ∷ (codes "65536", codes "99999")
    ∷ (codes "100000", codes "999999") ∷ (codes "1000000", codes "1114111") ∷ []

-- the same by hexadecimal digits
abbrev pub hexadecimal_rows : Rows
hexadecimal_rows =
    (codes "9", codes "A") ∷ (codes "D", codes "D") ∷ (codes "20", codes "FF") ∷ (codes "100", codes "FFF") ∷ (codes "1000", codes "D7FF")
    ∷ (codes "E000", codes "FFFD") ∷ (codes "10000", codes "FFFFF") ∷ (codes "100000", codes "10FFFF") ∷ []

-- the number of a character in decimal digits
unfoldable pub decimal_form : Expr
decimal_form = number_form is_ascii_digit decimal_rows

-- the same in hexadecimal digits
unfoldable pub hexadecimal_form : Expr
hexadecimal_form = number_form is_ascii_hexdigit hexadecimal_rows

-- the name of a declared entity, or of one that needs no declaration
abbrev pub entity_form : List (List ℕ) → Expr
entity_form entities = either_of (one_of_words is_name known_entities) (one_of_words is_name entities)

-- `&`, what is between, and `;`; where a name is meant, it is one of these entities or needs no declaration
unfoldable pub reference_form : List (List ℕ) → Expr
reference_form entities =
    chain_of (word (codes "&"))
    (chain_of (either_of (chain_of (word (codes "#")) (either_of decimal_form (chain_of (word (codes "x")) hexadecimal_form))) (entity_form entities)) (word (codes ";")))
