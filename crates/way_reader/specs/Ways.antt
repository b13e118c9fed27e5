-- A reader of pages whose state is the ways in which a piece can go on.
use Rattle.std.specs.Prelude.{ℕ, Bool, true, false, if◌then◌else◌, List, [], ◌∷◌, ◌++◌, Option, Some, None}
use Rattle.text_base.specs.declared.page_token.PageToken.{PageToken}
use Rattle.text_base.specs.declared.page_token.PageToken.TheVariants as token
use Rattle.byte_readers.specs.Mirrors.{state_behind, put_at, put_last}
use Rattle.byte_readers.specs.Reading.{emitted}
use Rattle.derivatives.specs.declared.arena.Arena.{Arena}
use Rattle.piece_steps.specs.Readers.{Move, go, done, fail, Reader}
use Rattle.page_model.specs.Places.{Place, at_beginning, behind_mark, behind}
use Rattle.partial_derivatives.specs.declared.part.Part.{Part}
use Rattle.way_reader.specs.declared.way.Spot.{Spot}
use Rattle.way_reader.specs.declared.way.Spot.TheVariants.{Beginning, BehindMark, Behind}
use Rattle.way_reader.specs.declared.way.Way.{Way}
use Rattle.way_reader.specs.declared.way.WayState.{WayState}
use Rattle.way_reader.specs.declared.way.WayState.TheVariants.{Failed, At, Inside}
use Rattle.partial_derivatives.specs.Parts.{all_end, behind_parts}

-- the place for which a spot stands
abbrev pub place_of : Spot → Place
place_of Beginning = at_beginning
place_of BehindMark = behind_mark
place_of (Behind k) = behind k

-- the spot that stands for a place
abbrev pub spot_of : Place → Spot
spot_of at_beginning = Beginning
spot_of behind_mark = BehindMark
spot_of (behind k) = Behind k

-- what is open: nothing yet of a piece at this place, or some of one, which goes on in one of these ways
pub data Open : Type 0 where
  at_place : Place → Open
  in_piece : List Way → Open

-- ways by these rows that end as this one does
abbrev pub ways_by : Way → List (List Part) → List Way
ways_by way [] = []
ways_by way (ps ∷ rows) = record { parts = ps; emit = way.emit; to = way.to } ∷ ways_by way rows

-- what the byte leaves of the ways
abbrev pub ways_behind : Arena → ℕ → List Way → List Way
ways_behind a b [] = []
ways_behind a b (way ∷ ways) = ways_by way (behind_parts a b way.parts) ++ ways_behind a b ways

-- the first way by which a piece may end here
abbrev pub ended : Arena → List Way → Option Way
ended a [] = None
ended a (way ∷ ways) = if all_end a way.parts then Some way else ended a ways

-- the ways in which a piece can go on, by those in which one begins
abbrev pub live : (Place → List Way) → Open → List Way
live starts (at_place place) = starts place
live starts (in_piece ways) = ways

-- a piece ends where a way may end; none can come of the text where there is no way
abbrev pub move_by : List Way → Option Way → Move Place PageToken Open
move_by ways (Some way) = done (place_of way.to) (emitted way.emit)
move_by [] None = fail
move_by (way ∷ ways) None = go (in_piece (way ∷ ways))

-- one byte
abbrev pub way_step : Arena → (Place → List Way) → Open → ℕ → Move Place PageToken Open
way_step a starts s b = move_by (ways_behind a b (live starts s)) (ended a (ways_behind a b (live starts s)))

-- some of a piece is read
abbrev pub is_inside : Open → Bool
is_inside (at_place place) = false
is_inside (in_piece ways) = true

-- the reader
abbrev pub way_reader : Arena → (Place → List Way) → Reader Place PageToken Open
way_reader a starts = record { first = at_place; step = way_step a starts; is_open = is_inside; bad = token.Bad }

-- In memory there is one state more, of a reader that has failed.

-- what is open; nothing where the reader has failed
abbrev pub seen : WayState → Option Open
seen Failed = None
seen (At spot) = Some (at_place (place_of spot))
seen (Inside ways) = Some (in_piece ways)

-- the state that stands for it
abbrev pub coded : Option Open → WayState
coded None = Failed
coded (Some (at_place place)) = At (spot_of place)
coded (Some (in_piece ways)) = Inside ways

-- before a page
abbrev pub first_state : WayState
first_state = At Beginning

-- behind a byte
abbrev pub next_state : Arena → (Place → List Way) → WayState → ℕ → WayState
next_state a starts s b = coded (state_behind (way_reader a starts) (seen s) b)

-- what is put out at a byte
abbrev pub tokens_at : Arena → (Place → List Way) → WayState → ℕ → List PageToken
tokens_at a starts s b = put_at (way_reader a starts) (seen s) b

-- and at the end of the page
abbrev pub tokens_behind : Arena → (Place → List Way) → WayState → List PageToken
tokens_behind a starts s = put_last (way_reader a starts) (seen s)
