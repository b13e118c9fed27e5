-- In memory the reader puts out what it puts out as one of pieces.
use Rattle.std.proofs.Common.{◌≡◌, List, Option, Some, None, refl, ap}
use Rattle.byte_readers.specs.Mirrors.{Mirrors, state_behind}
use Rattle.byte_readers.proofs.Same.{same_tokens}
use Rattle.derivatives.specs.declared.arena.Arena.{Arena}
use Rattle.page_model.specs.Places.{Place, at_beginning, behind_mark, behind}
use Rattle.way_reader.specs.declared.way.Way.{Way}
use Rattle.way_reader.specs.Ways.{Open, at_place, in_piece, place_of, spot_of, way_reader, seen, coded, first_state, next_state, tokens_at, tokens_behind}
use Rattle.way_reader.specs.Laws.{PutsTheSame}

there : (p : Place) → place_of (spot_of p) ≡ p
there at_beginning = refl
there behind_mark = refl
there (behind k) = refl

seen_coded : (o : Option Open) → seen (coded o) ≡ o
seen_coded None = refl
seen_coded (Some (at_place place)) = ap (λ (p : Place). let s : Option Open = Some (at_place p) in s) (there place)
seen_coded (Some (in_piece ways)) = refl

mirrors : (a : Arena) (starts : Place → List Way) → Mirrors (next_state a starts) (tokens_at a starts) (tokens_behind a starts) (way_reader a starts) seen
mirrors a starts = record {
  goes = λ s b small. seen_coded (state_behind (way_reader a starts) (seen s) b);
  same = λ s b small. refl;
  last = λ s. refl;
}

pub puts_the_same : PutsTheSame
puts_the_same a starts text bytes = same_tokens _ _ _ (next_state a starts) (tokens_at a starts) (tokens_behind a starts) (way_reader a starts) seen (mirrors a starts) first_state text bytes
