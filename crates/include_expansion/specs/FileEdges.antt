-- Which files a file includes, by their places. No public clause cites this.
use Rattle.std.specs.Prelude.{◌≡◌, ℕ, List, [], ◌∷◌, length, Option, Some, None, slice_get}
use Rattle.smallvec.specs.SmallVec.{SmallVec}
use Rattle.program_rules.specs.Includes.{includes_of_file}
use Rattle.program_rules.specs.Programs.{ReadFile}
use Rattle.program_files.specs.Order.{place_of}

-- the place before the places, if there is one
abbrev pub with_place : Option ℕ → List ℕ → List ℕ
with_place None places = places
with_place (Some place) places = place ∷ places

-- the places of the files of these paths, as far as there are files
abbrev pub places_of : List ReadFile → List (List ℕ) → List ℕ
places_of files [] = []
places_of files (path ∷ paths) = with_place (place_of files path) (places_of files paths)

-- an edge leads from each of the files to each that it includes
pub record AreEdges (files : List ReadFile) (edges : List (SmallVec ℕ)) : Type 0 where
  pub each : (place : ℕ) (file : ReadFile) (targets : SmallVec ℕ) → slice_get files place ≡ Some file
      → slice_get edges place ≡ Some targets → targets.items ≡ places_of files (includes_of_file file.tree)
  pub size : length edges ≡ length files
