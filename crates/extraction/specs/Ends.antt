-- The names to begin with, and what a lister is to list.
use Rattle.std.specs.Prelude.{◌≡◌, ◌≤◌, List, Some, Contains, length}
use Rattle.flow_code.specs.Points.{PlainFlowFunction, PlainFlow, function_at}
use Rattle.least_sets.specs.Forms.{Form}
use Rattle.loose_sets.specs.Versions.{linked_in}
use Rattle.ssa_form.specs.declared.versions.Versions.{Versions}
use Rattle.ssa_form.specs.Versions.{joins_of, IsExact}
use Rattle.loose_sets.specs.declared.name.Leaving.{Leaving}
use Rattle.loose_sets.specs.declared.name.SetName.{SetName}
use Rattle.loose_sets.specs.declared.name.SetName.TheVariants.{Out}
use Rattle.point_listing.specs.Reading.{read_at}
use Rattle.extraction.specs.Listers.{IsFlowLister}

-- exactly what is printed from the entry of the first function on, until it returns and until the run ends elsewhere
pub record AreEnds (flow : PlainFlow) (names : List SetName) : Type 0 where
  pub each : (n : SetName) → Contains names n
      → (main : PlainFlowFunction) × (l : Leaving) × (function_at flow 0 ≡ Some main) × (n ≡ Out main.entry_of l)
  pub all : (main : PlainFlowFunction) (l : Leaving) → function_at flow 0 ≡ Some main → Contains names (Out main.entry_of l)
  pub few : length names ≤ 2

-- it lists the sets of the program by exact versions of its slots
pub record IsExactLister (flow : PlainFlow) (asks : SetName → Type 0) (lists : SetName → List (Form SetName)) : Type 0 where
  pub versions : Versions
  pub exact : IsExact flow versions
  pub lister : IsFlowLister flow (linked_in (joins_of versions)) (read_at versions) asks lists
