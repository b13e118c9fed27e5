-- Characters of text, the byte order mark and end tags as expressions (XML 1.0, 2.4, 3.1 and 4.3.3).
use Rattle.std.specs.Prelude.{ℕ, not, ◌==◌, ◌&&◌, ◌||◌, Bool, List, [], ◌∷◌, ◌++◌, codes}
use Rattle.xml_text.specs.Characters.{is_blank, is_character}
use Rattle.derivatives.specs.Expressions.{Expr}
use Rattle.derivatives.specs.Derivatives.{chain_of, either_of}
use Rattle.page_model.specs.Parts.{character}
use Rattle.page_model.specs.Pieces.{may_follow}
use Rattle.page_model.specs.Places.{Place, at_beginning, behind_mark, behind}
use Rattle.page_forms.specs.Words.{word, ascii, character_of, blanks, by_rows, low_rows, rows_but_mark, high_rows}

-- a character of white space
abbrev pub blank_form : Expr
blank_form = ascii is_blank

-- `]`, of which it matters how many are the last before a `>` (XML 1.0, 2.4)
abbrev pub bracket_form : Expr
bracket_form = word (codes "]")

-- white space or `]`
abbrev pub is_mark : ℕ → Bool
is_mark c = c == 93 || is_blank c

-- text, at a place: no `<`, no `&`, no `]` and no white space, and what may follow there
abbrev pub is_text : Place → ℕ → Bool
is_text place c = not (c == 60 || c == 38 || is_mark c) && may_follow place (character c)

-- the characters beyond ASCII but for U+FEFF
unfoldable pub beyond_but_mark : Expr
beyond_but_mark = by_rows (low_rows ++ (rows_but_mark ++ high_rows))

-- a character of text that is neither white space nor `]`
abbrev pub text_form : Place → Expr
text_form at_beginning = either_of (ascii (λ c. is_character c && is_text at_beginning c)) beyond_but_mark
text_form behind_mark = character_of (is_text behind_mark)
text_form (behind k) = character_of (is_text (behind k))

-- the byte order mark: U+FEFF in UTF-8
abbrev pub mark_form : Expr
mark_form = word (0xEF ∷ 0xBB ∷ 0xBF ∷ [])

-- `</`, a name, maybe white space, `>`
abbrev pub end_tag_form : List ℕ → Expr
end_tag_form name = chain_of (word (codes "</")) (chain_of (word name) (chain_of blanks (word (codes ">"))))
