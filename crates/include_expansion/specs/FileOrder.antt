-- An order of files in which each stands behind those that it includes.
use Rattle.std.specs.Prelude.{◌≡◌, ◌<◌, ℕ, true, ⊤, List, [], length, Option, Some, None, slice_get, map}
use Rattle.std.specs.List.{Contains}
use Rattle.program_rules.specs.Files.{Held}
use Rattle.program_rules.specs.Includes.{includes_of_file, LeadsTo}
use Rattle.program_rules.specs.Programs.{ReadFile}
use Rattle.program_files.specs.declared.refusal.LoadRefusal.{LoadRefusal}
use Rattle.program_files.specs.declared.refusal.LoadRefusal.TheVariants.{Missing, Outside, ReadFault, TooLong, Script, IncludeCycle, DoubleFunction, UnknownFunction, Arity, TooMany, Memory}
use Rattle.program_files.specs.Order.{is_read, place_of}
use Rattle.include_expansion.specs.Within.{IsIncludeOrder, AreHeld}

-- files under names of their own, with each file that one of them includes
pub record AreWhole (files : List ReadFile) : Type 0 where
  pub own : (i j : ℕ) (one other : ReadFile) → slice_get files i ≡ Some one → slice_get files j ≡ Some other → one.name ≡ other.name → i ≡ j
  pub closed : (file : ReadFile) (path : List ℕ) → Contains files file → Contains (includes_of_file file.tree) path
      → is_read files path ≡ true

-- the name of a file, if there is one
abbrev pub name_or_none : Option ReadFile → List ℕ
name_or_none None = []
name_or_none (Some file) = file.name

-- the names of the files at these places
abbrev pub names_at : List ReadFile → List ℕ → List (List ℕ)
names_at files places = map (λ (place : ℕ). name_or_none (slice_get files place)) places

-- the files at these places are all of them, each behind those that it includes; a file is found by its name
pub record IsFileOrder (files : List ReadFile) (places : List ℕ) : Type 0 where
  pub within : (place : ℕ) → Contains places place → place < length files
  pub found : (place : ℕ) (file : ReadFile) → slice_get files place ≡ Some file → place_of files file.name ≡ Some place
  pub order : IsIncludeOrder files (names_at files places)

-- why there is no order: the file of this name includes itself, directly or through others, whatever held the files
abbrev pub IsOrderCause : List ReadFile → LoadRefusal → Type 0
IsOrderCause files (Missing name) = ⊥
IsOrderCause files (Outside name) = ⊥
IsOrderCause files (ReadFault name) = ⊥
IsOrderCause files (TooLong name len) = ⊥
IsOrderCause files (Script name fault) = ⊥
IsOrderCause files (IncludeCycle name) = (is_read files name ≡ true) × ((held : Held) → AreHeld held files → LeadsTo held name name)
IsOrderCause files (DoubleFunction name) = ⊥
IsOrderCause files (UnknownFunction name) = ⊥
IsOrderCause files (Arity name) = ⊥
IsOrderCause files (TooMany count) = ⊥
IsOrderCause files Memory = ⊤
