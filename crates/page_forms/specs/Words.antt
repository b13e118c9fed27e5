-- Words, classes of bytes, characters and names as expressions over bytes.
use Rattle.std.specs.Prelude.{ℕ, zero, suc, Bool, true, false, not, ◌==◌, ◌&&◌, if◌then◌else◌, List, [], ◌∷◌, ◌++◌, Option, Some, None}
use Rattle.xml_text.specs.Characters.{is_blank, is_character}
use Rattle.xml_text.specs.Names.{begins_name, in_name, is_name}
use Rattle.derivatives.specs.Expressions.{Expr, nothing, empty, range, star}
use Rattle.derivatives.specs.Derivatives.{chain_of, either_of}
use Rattle.byte_forms.specs.Ranges.{ranges_below}

-- exactly these bytes
abbrev pub word : List ℕ → Expr
word [] = empty
word (b ∷ bs) = chain_of (range b b) (word bs)

-- one of the words that pass a test
abbrev pub one_of_words : (List ℕ → Bool) → List (List ℕ) → Expr
one_of_words test [] = nothing
one_of_words test (w ∷ ws) = if test w then either_of (word w) (one_of_words test ws) else one_of_words test ws

-- a byte of ASCII that passes a test
unfoldable pub ascii : (ℕ → Bool) → Expr
ascii test = ranges_below test 128 None nothing

-- from each of these ranges one byte, in their order
abbrev pub in_turn : List (ℕ × ℕ) → Expr
in_turn [] = empty
in_turn (r ∷ rs) = chain_of (range r.0 r.1) (in_turn rs)

-- by one of these rows of ranges
abbrev pub by_rows : List (List (ℕ × ℕ)) → Expr
by_rows [] = nothing
by_rows (row ∷ rows) = either_of (in_turn row) (by_rows rows)

-- The characters of XML beyond ASCII, by their bytes (XML 1.0, 2.2; RFC 3629, 4).

-- a byte behind the first of a character
abbrev pub later_byte : ℕ × ℕ
later_byte = (0x80, 0xBF)

-- U+0080 to U+EFFF, without surrogates
abbrev pub low_rows : List (List (ℕ × ℕ))
low_rows =
    ((0xC2, 0xDF) ∷ later_byte ∷ []) ∷ ((0xE0, 0xE0) ∷ (0xA0, 0xBF) ∷ later_byte ∷ []) ∷ ((0xE1, 0xEC) ∷ later_byte ∷ later_byte ∷ [])
    ∷ ((0xED, 0xED) ∷ (0x80, 0x9F) ∷ later_byte ∷ []) ∷ ((0xEE, 0xEE) ∷ later_byte ∷ later_byte ∷ []) ∷ []

-- U+F000 to U+FFFD
abbrev pub middle_rows : List (List (ℕ × ℕ))
middle_rows = ((0xEF, 0xEF) ∷ (0x80, 0xBE) ∷ later_byte ∷ []) ∷ ((0xEF, 0xEF) ∷ (0xBF, 0xBF) ∷ (0x80, 0xBD) ∷ []) ∷ []

-- U+F000 to U+FFFD but for U+FEFF
abbrev pub rows_but_mark : List (List (ℕ × ℕ))
rows_but_mark =
    ((0xEF, 0xEF) ∷ (0x80, 0xBA) ∷ later_byte ∷ []) ∷ ((0xEF, 0xEF) ∷ (0xBB, 0xBB) ∷ (0x80, 0xBE) ∷ [])
    ∷ ((0xEF, 0xEF) ∷ (0xBC, 0xBE) ∷ later_byte ∷ []) ∷ ((0xEF, 0xEF) ∷ (0xBF, 0xBF) ∷ (0x80, 0xBD) ∷ []) ∷ []

-- U+10000 to U+10FFFF
abbrev pub high_rows : List (List (ℕ × ℕ))
high_rows =
    ((0xF0, 0xF0) ∷ (0x90, 0xBF) ∷ later_byte ∷ later_byte ∷ []) ∷ ((0xF1, 0xF3) ∷ later_byte ∷ later_byte ∷ later_byte ∷ [])
    ∷ ((0xF4, 0xF4) ∷ (0x80, 0x8F) ∷ later_byte ∷ later_byte ∷ []) ∷ []

-- a character beyond ASCII
unfoldable pub beyond_ascii : Expr
beyond_ascii = by_rows (low_rows ++ (middle_rows ++ high_rows))

-- a character that passes a test, and those beyond ASCII all do
abbrev pub character_of : (ℕ → Bool) → Expr
character_of test = either_of (ascii (λ c. is_character c && test c)) beyond_ascii

-- any character but this one of ASCII
abbrev pub other_than : ℕ → Expr
other_than c = character_of (λ d. not (d == c))

-- white space, maybe none (XML 1.0, 2.3)
abbrev pub blanks : Expr
blanks = star (ascii is_blank)

-- some white space
abbrev pub gap : Expr
gap = chain_of (ascii is_blank) blanks

-- a name (XML 1.0, 2.3)
abbrev pub name_form : Expr
name_form = chain_of (ascii begins_name) (star (ascii in_name))
