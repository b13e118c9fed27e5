-- Parts of the definition that the code has as calls.
use Rattle.std.specs.Prelude.{ℕ, List, if◌then◌else◌}
use Rattle.page_model.specs.OpenValues.{OpenValue}
use Rattle.page_steps.specs.AttributeSteps.{Allowing, AttributeMove, ends_with, stops}

-- at the quote that ends a value
abbrev pub value_ended : Allowing → List (List ℕ) → List ℕ → OpenValue → AttributeMove
value_ended a names name v = if a.good name v then ends_with (a.added names name) else stops
