-- Words for what the calls compute.
use Rattle.std.specs.Prelude.{ℕ, Bool, true, ◌||◌, if◌then◌else◌, List, map}
use Rattle.dtd_model.specs.Table.{Declared, Rule}
use Rattle.page_model.specs.Attributes.{must_stand}
use Rattle.page_steps.specs.DoctypeSteps.{begins}
use Rattle.page_steps.specs.TagSteps.{is_among}
use Rattle.page_endings.specs.Ending.{can_be_written}

-- the name begins with these characters
abbrev pub begins_so : List ℕ → List ℕ → Bool
begins_so front name = begins name front

-- the names of the elements, in the order of the rules
abbrev pub names_of_elements : List Rule → List (List ℕ)
names_of_elements rules = map (λ (r : Rule). r.name) rules

-- the attribute is among these, or can be written, where it has to stand
abbrev pub is_wanted : List (List ℕ) → List ℕ → List Declared → List (List ℕ) → Declared → Bool
is_wanted entities tag_name rules names d =
    if must_stand tag_name d then is_among names d.name || can_be_written entities rules d.name else true
