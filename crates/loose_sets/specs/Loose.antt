-- The loose pages of a program of points (Minamide, WWW 2005).
use Rattle.std.specs.Prelude.{◌≡◌, ℕ, List, Some, All}
use Rattle.xml_text.specs.Texts.{IsText}
use Rattle.op_system.specs.declared.op.Op.{Op}
use Rattle.op_system.specs.Rel.{Rel}
use Rattle.flow_code.specs.Points.{PlainFlowFunction, PlainFlow, function_at}
use Rattle.least_sets.specs.Sets.{In}
use Rattle.loose_sets.specs.declared.name.Leaving.{Leaving}
use Rattle.loose_sets.specs.declared.name.SetName.{SetName}
use Rattle.loose_sets.specs.declared.name.SetName.TheVariants.{Out}
use Rattle.loose_sets.specs.Table.{Row}

-- a text of a set, by this reading of operations, of the request, and of operations in a cycle
abbrev pub IsIn : (Op → List ℕ → List ℕ → Type 0) → (List ℕ → Type 0) → ((ℕ → Type 0) → List ℕ → Type 0) → PlainFlow → SetName → List ℕ
    → Type 0
IsIn outputs request circular flow name w = In (Row flow) outputs request circular name w

-- a text that the program may print from its entry until it returns, or until the run ends elsewhere
pub record LooseBy (outputs : Op → List ℕ → List ℕ → Type 0) (request : List ℕ → Type 0) (circular : (ℕ → Type 0) → List ℕ → Type 0)
    (flow : PlainFlow) (w : List ℕ) : Type 0 where
  pub main : PlainFlowFunction
  pub is_main : function_at flow 0 ≡ Some main
  pub end : Leaving
  pub printed : IsIn outputs request circular flow (Out main.entry_of end) w

-- a loose page: operations as PHP has them, any text of XML's characters from the request, and any text over its bytes for an operation in
-- a cycle
abbrev pub Loose : PlainFlow → List ℕ → Type 0
Loose flow w = LooseBy Rel IsText (λ bytes text. All bytes text) flow w
