-- The text forms of some members, each behind the separator.
use Rattle.std.specs.Prelude.{ℕ, List, [], ◌++◌}
use Rattle.plain_values.specs.Plain.{Pairs, empty, pair}
use Rattle.plain_values.specs.Text.{text_of}

-- the text forms of all members, each behind the separator, in their order
abbrev pub behind_first : List ℕ → Pairs → List ℕ
behind_first sep empty = []
behind_first sep (pair k v ps) = (sep ++ text_of v) ++ behind_first sep ps
