-- Heredocs and nowdocs (PHP manual, "Types: Strings": heredoc, nowdoc). Their lines end with LF or CR LF.
use Rattle.std.specs.Prelude.{ℕ, ◌+◌, min, Bool, not, ◌&&◌, nat_lt, if◌then◌else◌, List, [], take, drop, length, Option, Some, None, codes}
use Rattle.std.specs.List.{prefix_len}
use Rattle.php_syntax.specs.Tokens.{text}
use Rattle.lexical_grammar.specs.Characters.{begins, head_is, is_gap, is_name_byte, before, name_length}
use Rattle.lexical_grammar.specs.Steps.{Step, gives, faults}
use Rattle.lexical_grammar.specs.declared.fault.LexicalFault.TheVariants.{Unclosed, Escape}
use Rattle.lexical_grammar.specs.Rows.{Row, whole, broken, endless, row}
use Rattle.lexical_grammar.specs.Texts.{Unit_of, unit_at, lines, parts_of, kind_of_parts}

-- how long the line end of a heredoc is: LF, or CR LF; 0 where none is
abbrev pub heredoc_newline : List ℕ → ℕ
heredoc_newline bytes = if begins (codes "\n") bytes then 1 else if begins (codes "\r\n") bytes then 2 else 0

-- the name, and no byte of a name behind it
abbrev pub begins_name : List ℕ → List ℕ → Bool
begins_name name bytes = begins name bytes && not (head_is is_name_byte (drop (length name) bytes))

-- a line end, and the name first on the next line
abbrev pub ends_body : List ℕ → List ℕ → Bool
ends_body name bytes = nat_lt 0 (heredoc_newline bytes) && begins_name name (drop (heredoc_newline bytes) bytes)

-- blanks and then the name
abbrev pub begins_indented : List ℕ → List ℕ → Bool
begins_indented name bytes = nat_lt 0 (prefix_len is_gap bytes) && begins_name name (drop (prefix_len is_gap bytes) bytes)

-- LF, and then a line that begins with blanks and the name
abbrev pub indented_line : List ℕ → List ℕ → Bool
indented_line name bytes = begins (codes "\n") bytes && begins_indented name (drop 1 bytes)

-- how many bytes of a body stand before its first line that begins with blanks and the name; None where no line does
unfoldable pub indented_at : List ℕ → List ℕ → Option ℕ
indented_at name body =
    let n = before (indented_line name) body
    in if begins_indented name body then Some 0 else if nat_lt n (length body) then Some (n + 1) else None

-- a CR alone, blanks or none, and the name: PHP ends a text there
abbrev pub ends_by_return : List ℕ → List ℕ → Bool
ends_by_return name bytes = begins (codes "\r") bytes && begins_name name (drop (prefix_len is_gap (drop 1 bytes)) (drop 1 bytes))

-- how many bytes of a body stand before the first such CR; None where there is none
unfoldable pub return_at : List ℕ → List ℕ → Option ℕ
return_at name body =
    let n = before (ends_by_return name) body
    in if nat_lt n (length body) then Some n else None

-- the first of two places, where there are any
abbrev pub first_of : Option ℕ → Option ℕ → Option ℕ
first_of None second = second
first_of (Some k) None = Some k
first_of (Some k) (Some m) = Some (min k m)

-- how many bytes of a body stand before the first place at which PHP would end it and the language does not; None where there is none
abbrev pub other_end_at : List ℕ → List ℕ → Option ℕ
other_end_at name body = first_of (indented_at name body) (return_at name body)

-- what stands in the lines: a template, or in a nowdoc the bytes themselves
pub data Body : Type 0 where
  of_heredoc : Body
  of_nowdoc : Body

-- the lines of a template, so many bytes behind the head, where so many bytes in all are taken
abbrev pub heredoc_token : ℕ → ℕ → Option ℕ → Row Unit_of → Option Step
heredoc_token head n None (whole units m) = gives (kind_of_parts (parts_of units)) n
heredoc_token head n None (broken m) = faults Escape (head + m)
heredoc_token head n None endless = faults Unclosed 0
heredoc_token head n (Some k) (whole units m) = faults Escape (head + k)
heredoc_token head n (Some k) (broken m) = faults Escape (head + min k m)
heredoc_token head n (Some k) endless = faults Unclosed 0

-- the text of a nowdoc as it stands, refused where PHP would end it early; the head's length, all bytes taken, such a place, the body
abbrev pub nowdoc_token : ℕ → ℕ → Option ℕ → List ℕ → Option Step
nowdoc_token head n None body = gives (text body) n
nowdoc_token head n (Some k) body = faults Escape (head + k)

-- the token of a body; the first place that is refused, from the left, is one at which PHP would end it, or an escape or interpolation
abbrev pub body_token : Body → ℕ → ℕ → List ℕ → List ℕ → Option Step
body_token of_heredoc head n name body = heredoc_token head n (other_end_at name body) (row (unit_at lines) 0 body)
body_token of_nowdoc head n name body = nowdoc_token head n (other_end_at name body) body

-- behind the head of so many bytes: the name at once, or lines up to the first that begins with the name; the line end before it is no part
-- of the body
unfoldable pub body_step : Body → ℕ → List ℕ → List ℕ → Option Step
body_step kind head name bytes =
    let n = before (ends_body name) bytes
    in if begins_name name bytes then body_token kind head (head + length name) name []
    else if nat_lt n (length bytes) then body_token kind head (head + n + heredoc_newline (drop n bytes) + length name) name (take n bytes)
    else faults Unclosed 0

-- a head of so many bytes with the name in it, if a line end stands behind it
abbrev pub headed : Body → ℕ → List ℕ → List ℕ → Option Step
headed kind head name rest =
    if nat_lt 0 (length name) && nat_lt 0 (heredoc_newline rest) then body_step kind (head + heredoc_newline rest) name
    (drop (heredoc_newline rest) rest) else None

-- `<<<NAME` and a line end
unfoldable pub heredoc_step : List ℕ → Option Step
heredoc_step bytes =
    let n = name_length (drop 3 bytes)
    in if begins (codes "<<<") bytes then headed of_heredoc (3 + n) (take n (drop 3 bytes)) (drop n (drop 3 bytes)) else None

-- `<<<'NAME'` and a line end
unfoldable pub nowdoc_step : List ℕ → Option Step
nowdoc_step bytes =
    let n = name_length (drop 4 bytes)
    in if begins (codes "<<<'") bytes
    && begins (codes "'") (drop n (drop 4 bytes)) then headed of_nowdoc (5 + n) (take n (drop 4 bytes)) (drop 1 (drop n (drop 4 bytes)))
    else None
