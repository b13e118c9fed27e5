-- Where a pattern first stands in a text.
use Rattle.std.specs.Prelude.{ℕ, suc, List, [], ◌∷◌, Option, Some, None, nat_eq, if◌then◌else◌}
use Rattle.std.specs.List.{starts_with}

-- the place behind this one, if there is one
abbrev pub one_later : Option ℕ → Option ℕ
one_later None = None
one_later (Some i) = Some (suc i)

-- the number of bytes before the first occurrence of the pattern, which has at least one byte
abbrev pub first_place : List ℕ → List ℕ → Option ℕ
first_place pattern [] = None
first_place pattern (b ∷ bs) = if starts_with nat_eq (b ∷ bs) pattern then Some 0 else one_later (first_place pattern bs)
