-- The plain form of what the code keeps.
use Rattle.std.specs.Prelude.{◌≡◌, ℕ, Bool, true, false, ◌==◌, ◌&&◌, if◌then◌else◌, [], ◌∷◌, map, codes, Option, Some, None}
use Rattle.dtd_model.specs.Table.{Table}
use Rattle.page_model.specs.Valid as valid
use Rattle.page_validator.specs.Machine as machine
use Rattle.page_validator.specs.declared.stage.Stage.{Stage}
use Rattle.page_validator.specs.declared.stage.Stage.TheVariants.{BeforeType, BehindType, RootBegun}
use Rattle.page_validator.specs.declared.stage.Sort.{Sort}
use Rattle.page_validator.specs.declared.stage.Sort.TheVariants.{Blank, Text, Remark}
use Rattle.page_validator.specs.declared.stage.Open.{Open}
use Rattle.page_validator.specs.declared.progress.Progress.{Progress}

-- the plain form of a stage
abbrev pub stage_of : Stage → machine.Stage
stage_of BeforeType = machine.before_type
stage_of BehindType = machine.behind_type
stage_of RootBegun = machine.root_begun

-- the plain form of a sort
abbrev pub sort_of : Sort → valid.Sort
sort_of Blank = valid.blank
sort_of Text = valid.text
sort_of Remark = valid.remark

-- the plain form of an open element
abbrev pub open_of : Open → machine.Open
open_of o = (o.element.0, o.state)

-- the plain form of how far a page is
abbrev pub progress_of : Progress → machine.State
progress_of p = (stage_of p.stage, map open_of p.«open»)

-- a step came to the state, or there is none
abbrev pub Goes : Option machine.State → machine.State → Bool → Type 0
Goes o new true = o ≡ Some new
Goes o new false = o ≡ None

-- the root, with the state that it begins in
abbrev pub root_at : Table → machine.Stage → ℕ → ℕ → Option machine.State
root_at d stage e first = if machine.may_begin d.doctype stage && e == valid.place_of d.elements (codes "html")
    then Some (machine.root_begun, (e, first) ∷ []) else None
