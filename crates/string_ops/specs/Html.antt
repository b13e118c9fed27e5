-- The machine that escapes for HTML: it reads whole characters of UTF-8 alone (RFC 3629, section 4).
use Rattle.std.specs.Prelude.{◌≡◌, ℕ, ◌==◌, Bool, ◌&&◌, nat_le, nat_lt, List, [], ◌∷◌, map, codes, Option, Some, None, if◌then◌else◌}
use Rattle.fst_core.specs.declared.out.Out.{Out}
use Rattle.fst_core.specs.declared.out.Out.TheVariants.{Same, Byte}
use Rattle.string_ops.specs.Listed.{Rows, Lasts}
use Rattle.string_ops.specs.Plans.{rows_below, lasts_below}

-- the byte lies between the two, both included
abbrev pub is_between : ℕ → ℕ → ℕ → Bool
is_between low high b = nat_le low b && nat_le b high

-- the state, where the byte lies between the two
abbrev pub to_between : ℕ → ℕ → ℕ → ℕ → Option ℕ
to_between low high to b = if is_between low high b then Some to else None

-- the state after the first byte of a character: 0 where the character is whole; 1, 2 and 3 where so many bytes are to come; 4, 5, 6 and 7
-- behind 0xE0, 0xED, 0xF0 and 0xF4, which narrow the next byte; none where no character begins so
abbrev pub after_first_byte : ℕ → Option ℕ
after_first_byte b =
    if nat_lt b 0x80 then Some 0 else (if nat_lt b 0xC2 then None else
    (if nat_lt b 0xE0 then Some 1 else (if b == 0xE0 then Some 4 else
    (if b == 0xED then Some 5 else (if nat_lt b 0xF0 then Some 2 else
    (if b == 0xF0 then Some 6 else (if nat_lt b 0xF4 then Some 3 else (if b == 0xF4 then Some 7 else None))))))))

-- the state after one byte more
abbrev pub utf8_after : ℕ → ℕ → Option ℕ
utf8_after s b =
    if s == 0 then after_first_byte b
    else (if s == 1 then to_between 0x80 0xBF 0 b
    else (if s == 2 then to_between 0x80 0xBF 1 b
    else (if s == 3 then to_between 0x80 0xBF 2 b
    else (if s == 4 then to_between 0xA0 0xBF 1 b
    else (if s == 5 then to_between 0x80 0x9F 1 b
    else (if s == 6 then to_between 0x90 0xBF 2 b else (if s == 7 then to_between 0x80 0x8F 2 b else None)))))))

-- from the state the bytes end a character and go on with whole ones
abbrev pub IsUtf8From : ℕ → List ℕ → Type 0
IsUtf8From s [] = s ≡ 0
IsUtf8From s (b ∷ rest) = (t : ℕ) × (utf8_after s b ≡ Some t) × IsUtf8From t rest

-- what is put out as a byte is read
abbrev pub html_put : ℕ → List Out
html_put b =
    if b == 38 then map Byte (codes "&amp;")
    else (if b == 60 then map Byte (codes "&lt;")
    else (if b == 62 then map Byte (codes "&gt;")
    else (if b == 34 then map Byte (codes "&quot;") else (if b == 39 then map Byte (codes "&#039;") else Same ∷ []))))

-- the one choice where the byte leads on
abbrev pub html_choice : Option ℕ → List Out → List (ℕ × List Out)
html_choice None out = []
html_choice (Some to) out = (to, out) ∷ []

-- the byte escaped, where it goes on with a character or begins one; no choice where it would break UTF-8
abbrev pub html_row : Rows
html_row s b = html_choice (utf8_after s b) (html_put b)

-- the text may end where its last character is whole, with nothing more put out
abbrev pub html_last : Lasts
html_last s = if s == 0 then [] ∷ [] else []

-- the choices of the eight states, and none elsewhere
abbrev pub html_rows : Rows
html_rows = rows_below 8 html_row

-- the ends of the eight states, and none elsewhere
abbrev pub html_lasts : Lasts
html_lasts = lasts_below 8 html_last
