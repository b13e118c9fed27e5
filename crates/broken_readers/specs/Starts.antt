-- Ways that are kept expressions as a whole, and have no tokens.
use Rattle.std.specs.Prelude.{◌≡◌, ℕ, List, [], ◌∷◌, map, get_or}
use Rattle.byte_readers.specs.declared.emit.Emit.TheVariants.{Nothing}
use Rattle.partial_derivatives.specs.declared.part.Part.TheVariants.{Whole}
use Rattle.way_reader.specs.declared.way.Spot.{Spot}
use Rattle.way_reader.specs.declared.reader.Starts.{Starts}
use Rattle.way_reader.specs.declared.way.Way.{Way}
use Rattle.way_reader.specs.Laws.{AreWhole}
use Rattle.dtd_model.specs.Table.{Table}
use Rattle.derivatives.specs.declared.arena.Arena.{Arena}
use Rattle.page_model.specs.Places.{Place}
use Rattle.coarse_forms.specs.Languages.{coarse_forms}
use Rattle.broken_forms.specs.LooseForms.{loose_forms}

-- by the numbers of the expressions: where the expression is kept, and the place behind its texts
abbrev pub silent_way : List ℕ → ℕ × Spot → Way
silent_way numbers row = record { parts = Whole (get_or numbers row.0 0) ∷ []; emit = Nothing; to = row.1 }

-- each of these ways is such, by rows for each place
pub record AreSilent (numbers : List ℕ) (starts : Starts) (beginning mark none one two : List (ℕ × Spot)) : Type 0 where
  pub at_beginning : starts.beginning.items ≡ map (silent_way numbers) beginning
  pub behind_mark : starts.behind_mark.items ≡ map (silent_way numbers) mark
  pub behind_none : starts.behind.items ≡ map (silent_way numbers) none
  pub behind_one : starts.behind_one.items ≡ map (silent_way numbers) one
  pub behind_two : starts.behind_two.items ≡ map (silent_way numbers) two

-- at each place the ways are the loose forms as wholes
abbrev pub AreLooseWays : Table → Arena → (Place → List Way) → Type 0
AreLooseWays table a starts = (place : Place) → AreWhole a (starts place) (loose_forms table place)

-- and so it is with the coarse form
abbrev pub AreCoarseWays : Arena → (Place → List Way) → Type 0
AreCoarseWays a starts = (place : Place) → AreWhole a (starts place) (coarse_forms place)
