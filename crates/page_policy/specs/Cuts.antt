-- How a file is cut. No public clause cites this.
use Rattle.std.specs.Prelude.{◌≡◌, ℕ, Bool, true, false, List, [], ◌∷◌, ◌++◌}
use Rattle.page_policy.specs.Machine.{PlainPart, Cut}
use Rattle.page_policy.specs.Views.{AreParts}
use Rattle.page_policy.specs.declared.part.Part.{Part}
use Rattle.page_policy.specs.declared.cutting.Parts.{Parts}

-- parts of a file in memory, of which these are all
pub record HasParts (items : List Part) (file : List ℕ) : Type 0 where
  pub plain : List PlainPart
  pub are : AreParts items plain
  pub cut : Cut plain file

-- the file is cut into these, or cannot be cut
abbrev pub IsCutBy : Bool → List Part → List ℕ → Type 0
IsCutBy true items file = HasParts items file
IsCutBy false items file = (xs : List PlainPart) → Cut xs file → ⊥

-- these are the parts of the file, or it has none
abbrev pub IsCut : Parts → List ℕ → Type 0
IsCut parts file = IsCutBy parts.is_whole parts.items.items file

-- so much is cut: what the rest is cut into stands behind these
pub record CutSoFar (file rest : List ℕ) (items : List Part) : Type 0 where
  pub forth : (ps : List Part) → HasParts ps rest → HasParts (items ++ ps) file
  pub back : (xs : List PlainPart) → Cut xs file → (ys : List PlainPart) × Cut ys rest
