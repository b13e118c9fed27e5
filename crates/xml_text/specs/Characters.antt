-- Characters and white space (XML 1.0, 2.2 and 2.3). A character is its number.
use Rattle.std.specs.Prelude.{ℕ, Bool, ◌==◌, ◌||◌}
use Rattle.std.specs.Int.{is_in_range}

-- white space (XML 1.0, 2.3, S): a tab, a line feed, a carriage return or a space
abbrev pub is_blank : ℕ → Bool
is_blank c = c == 9 || c == 10 || c == 13 || c == 32

-- a character (XML 1.0, 2.2, Char)
abbrev pub is_character : ℕ → Bool
is_character c = c == 9 || c == 10 || c == 13 || is_in_range 0x20 0xD7FF c || is_in_range 0xE000 0xFFFD c || is_in_range 0x10000 0x10FFFF c
