-- Comments, sections and instructions as small machines: what `comment_move` and its like do, for characters of XML.
use Rattle.std.specs.Prelude.{ℕ, suc, Bool, ◌==◌, ◌&&◌, if◌then◌else◌, min, nat_le}
use Rattle.xml_text.specs.Characters.{is_character}
use Rattle.piece_steps.specs.Insides.{Turn, on, out, stop}

-- by the count of the last `-`
abbrev pub comment_turn : ℕ → ℕ → Turn ℕ
comment_turn dashes c =
    if is_character c then (if nat_le 2 dashes then (if c == 62 then out else stop) else (if c == 45 then on (suc dashes) else on 0))
    else stop

-- by the count of the last `]`, at most two
abbrev pub section_turn : ℕ → ℕ → Turn ℕ
section_turn brackets c =
    if is_character c then (if c == 62 && nat_le 2 brackets then out else (if c == 93 then on (min 2 (suc brackets)) else on 0)) else stop

-- by whether the last character is `?`
abbrev pub instruction_turn : Bool → ℕ → Turn Bool
instruction_turn asked c = if is_character c then (if c == 62 && asked then out else on (c == 63)) else stop
