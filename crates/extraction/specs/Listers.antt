-- What a lister of the sets of a program is to list.
use Rattle.std.specs.Prelude.{◌≡◌, ◌↔◌, List, Some, Contains}
use Rattle.flow_code.specs.Points.{PlainFlowFunction, PlainFlow, function_at}
use Rattle.least_sets.specs.Forms.{Form}
use Rattle.loose_sets.specs.Versions.{Linked}
use Rattle.loose_sets.specs.Uses.{At}
use Rattle.loose_sets.specs.Table.{RowBy}
use Rattle.loose_sets.specs.declared.name.Leaving.{Leaving}
use Rattle.loose_sets.specs.declared.name.SetName.{SetName}
use Rattle.loose_sets.specs.declared.name.SetName.TheVariants.{Out}

-- the forms of each name that may be asked for are exactly the rows of the set; and it may be asked what is printed from the entry of the
-- first function on
pub record IsFlowLister (flow : PlainFlow) (linked : Linked) (at : At) (asks : SetName → Type 0)
    (lists : SetName → List (Form SetName)) : Type 0 where
  pub exact : (n : SetName) → asks n → (f : Form SetName) → Contains (lists n) f ↔ RowBy at linked flow n f
  pub start : (main : PlainFlowFunction) (l : Leaving) → function_at flow 0 ≡ Some main → asks (Out main.entry_of l)
