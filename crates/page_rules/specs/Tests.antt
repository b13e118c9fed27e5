-- Tests that the private functions compute. Nobody has to believe it.
use Rattle.std.specs.Prelude.{ℕ, Bool, true, false, not, if◌then◌else◌, List, [], ◌∷◌, bytes_eq}
use Rattle.std.specs.List.{list_all}
use Rattle.dtd_model.specs.Table.{Declared}
use Rattle.page_model.specs.Attributes.{stands}
use Rattle.page_model.specs.Parts.{Attribute}

-- the name stands once at most
abbrev pub at_most_one : List Attribute → List ℕ → Bool
at_most_one [] name = true
at_most_one (a ∷ more) name = if bytes_eq a.name name then not (stands more name) else at_most_one more name

-- the name stands once at most, counting whether it stood before
abbrev pub once_after : Bool → List Attribute → List ℕ → Bool
once_after true xs name = not (stands xs name)
once_after false xs name = at_most_one xs name

-- no declared name stands twice
abbrev pub once_by : List Attribute → List Declared → Bool
once_by xs rules = list_all (λ (d : Declared). at_most_one xs d.name) rules
