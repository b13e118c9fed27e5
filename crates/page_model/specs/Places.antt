-- Where a piece of a page stands: what has to be known of the pieces before it.
use Rattle.std.specs.Prelude.{ℕ, Bool, true, false}

-- where a piece stands: at the beginning of the page, behind the byte order mark alone, or behind other pieces
pub data Place : Type 0 where
  at_beginning : Place
  -- behind the byte order mark alone
  behind_mark : Place
  -- behind other pieces, of which so many characters `]` are the last, two standing for all above
  behind : ℕ → Place

-- an XML declaration may stand there
abbrev pub is_early : Place → Bool
is_early at_beginning = true
is_early behind_mark = true
is_early (behind k) = false

-- how many characters `]` are the last before this place, two standing for all above
abbrev pub brackets : Place → ℕ
brackets at_beginning = 0
brackets behind_mark = 0
brackets (behind k) = k
