-- Names, name tokens and public identifiers (XML 1.0, 2.3).
use Rattle.std.specs.Prelude.{ℕ, Bool, false, ◌==◌, ◌&&◌, ◌||◌, List, [], ◌∷◌, nat_eq, codes}
use Rattle.std.specs.Char.{is_ascii_alphabetic, is_ascii_alphanumeric, is_ascii_digit}
use Rattle.std.specs.List.{list_all, list_any}

-- what a name may begin with (NameStartChar, in ASCII): a letter, `_` or `:`
abbrev pub begins_name : ℕ → Bool
begins_name c = is_ascii_alphabetic c || c == 95 || c == 58

-- what a name or a name token may hold (NameChar, in ASCII): besides these a digit, `.` or `-`
abbrev pub in_name : ℕ → Bool
in_name c = begins_name c || is_ascii_digit c || c == 46 || c == 45

-- a name (Name, in ASCII)
abbrev pub is_name : List ℕ → Bool
is_name [] = false
is_name (c ∷ cs) = begins_name c && list_all in_name cs

-- a name token (Nmtoken, in ASCII)
abbrev pub is_name_token : List ℕ → Bool
is_name_token [] = false
is_name_token (c ∷ cs) = in_name c && list_all in_name cs

-- what a public identifier is made of (PubidChar)
abbrev pub in_public_identifier : ℕ → Bool
in_public_identifier c =
    c == 10 || c == 13 || c == 32 || is_ascii_alphanumeric c || list_any (nat_eq c) (codes "-'()+,./:=?;!*#@$_%")
