-- How large content models are, and how much is looked at where their states are built.
use Rattle.std.specs.Prelude.{◌≡◌, ◌≤◌, ℕ, ◌+◌, Bool, if◌then◌else◌, List, [], ◌∷◌, length, Contains, slice_index_or}
use Rattle.std.specs.List.{IsDistinct}
use Rattle.dtd_model.specs.Table.{Model, one, sequence, choice, optional, any_number, at_least_one, Models, no_models, more_models}
use Rattle.dtd_model.specs.Matches.{may_be_empty}
use Rattle.content_automata.specs.Positions.{Position}
use Rattle.content_automata.specs.Walks.{place_at}
use Rattle.content_automata.specs.Sets.{members}
use Rattle.content_automata.specs.Shapes.{Shape, empty, any, text, model}
use Rattle.content_automata.specs.Tables.{Key, key_eq, IsReached}

-- how many pairs positions have: each position, with each that may come behind it. One that may come behind it in several ways (as both an
-- inner repetition and one round it lead back to it) counts for each of them
abbrev pub pairs_at : List Position → ℕ
pairs_at [] = 0
pairs_at (p ∷ ps) = length p.behind.positions + pairs_at ps

-- how many pairs the content model of an element has; none where it has no content model
abbrev pub pairs_of : Shape → ℕ
pairs_of empty = 0
pairs_of any = 0
pairs_of (text es) = 0
pairs_of (model first places) = pairs_at places

-- how many pairs all content models have together
abbrev pub pairs_in : List Shape → ℕ
pairs_in [] = 0
pairs_in (s ∷ ss) = pairs_of s + pairs_in ss

-- how many pairs begin in these positions
abbrev pub moves_from : List Position → List ℕ → ℕ
moves_from places [] = 0
moves_from places (p ∷ ps) = length (place_at places p).behind.positions + moves_from places ps

-- how many moves a state has: the pairs that begin in one of its positions
abbrev pub moves_of : Shape → List Bool → ℕ
moves_of empty flags = 0
moves_of any flags = 0
moves_of (text es) flags = 0
moves_of (model first places) flags = moves_from places (members flags)

-- the same, of a state by its element
abbrev pub moves_at : List Shape → Key → ℕ
moves_at shapes k = moves_of (slice_index_or shapes k.0 empty) k.1

-- how many moves these states have together
abbrev pub moves_in : List Shape → List Key → ℕ
moves_in shapes [] = 0
moves_in shapes (k ∷ ks) = moves_at shapes k + moves_in shapes ks

-- the states have at least so many moves
abbrev pub HasMoves : List Shape → ℕ → Type 0
HasMoves shapes n = (keys : List Key) × IsDistinct key_eq keys × ((k : Key) → Contains keys k → IsReached shapes k) × (n ≤ moves_in shapes keys)

-- the states of a table, which has so many of them: as many different ones, each behind some children, with at most so many moves together (own)
pub record HaveFewMoves (shapes : List Shape) (count most : ℕ) : Type 0 where
  pub keys : List Key
  pub as_many : length keys ≡ count
  pub apart : IsDistinct key_eq keys
  pub reached : (k : Key) → Contains keys k → IsReached shapes k
  pub few : moves_in shapes keys ≤ most

-- The same number of pairs without the positions, as it is counted. No public clause cites this.
unfoldable mutual
  -- how many positions a match of the model may begin with
  pub beginnings : Model → ℕ
  beginnings (one e) = 1
  beginnings (sequence ms) = ahead ms 0
  beginnings (choice ms) = beginnings_of_each ms
  beginnings (optional m) = beginnings m
  beginnings (any_number m) = beginnings m
  beginnings (at_least_one m) = beginnings m

  -- how many positions may come next where models are to come in turn, and behind them one of so many
  pub ahead : Models → ℕ → ℕ
  ahead no_models behind = behind
  ahead (more_models m ms) behind = beginnings m + (if may_be_empty m then ahead ms behind else 0)

  -- of a choice: those of each of its parts
  pub beginnings_of_each : Models → ℕ
  beginnings_of_each no_models = 0
  beginnings_of_each (more_models m ms) = beginnings m + beginnings_of_each ms

-- how many positions may come next where the model is to come, and behind it one of so many; no public clause cites this
abbrev pub before_it : Model → ℕ → ℕ
before_it m behind = beginnings m + (if may_be_empty m then behind else 0)

-- How many pairs a model has where one of so many positions may come behind it. No public clause cites this.
unfoldable mutual
  -- how many pairs the positions of the model have, where one of so many positions may come behind the model
  pub pairs : Model → ℕ → ℕ
  pairs (one e) behind = behind
  pairs (sequence ms) behind = pairs_in_turn ms behind
  pairs (choice ms) behind = pairs_of_each ms behind
  pairs (optional m) behind = pairs m behind
  pairs (any_number m) behind = pairs m (beginnings m + behind)
  pairs (at_least_one m) behind = pairs m (beginnings m + behind)

  -- of a sequence: behind a part come those behind it
  pub pairs_in_turn : Models → ℕ → ℕ
  pairs_in_turn no_models behind = 0
  pairs_in_turn (more_models m ms) behind = pairs m (ahead ms behind) + pairs_in_turn ms behind

  -- of a choice: behind each part comes what may come behind the choice
  pub pairs_of_each : Models → ℕ → ℕ
  pairs_of_each no_models behind = 0
  pairs_of_each (more_models m ms) behind = pairs m behind + pairs_of_each ms behind
