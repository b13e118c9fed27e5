-- In which order the files of a program are read: each where it is first included, depth first, and for a file the includes of its body
-- before
-- those of its functions. No file is read twice.
use Rattle.std.specs.Prelude.{◌≡◌, ℕ, Bool, true, false, List, [], ◌∷◌, ◌++◌, Option, map, position, bytes_eq}
use Rattle.std.specs.List.{list_any}
use Rattle.php_syntax.specs.Trees.{PlainFile}
use Rattle.program_rules.specs.Includes.{includes_of_file}
use Rattle.program_rules.specs.Programs.{ReadFile}

-- the names of files in the order in which they were read
abbrev pub names_of : List ReadFile → List (List ℕ)
names_of files = map (λ (file : ReadFile). file.name) files

-- whether a file is among those read
abbrev pub is_read : List ReadFile → List ℕ → Bool
is_read files path = list_any (bytes_eq path) (names_of files)

-- the place of a file among them
abbrev pub place_of : List ReadFile → List ℕ → Option ℕ
place_of files path = position (bytes_eq path) (names_of files)

-- While the program of a name is read, where a name has such a tree: these files are read so far, and these names are looked at next. It
-- begins with
-- its own name. A name that is read already is passed over; any other is read, and what its file includes is looked at before all else.
pub data Reached (has_tree : List ℕ → PlainFile → Type 0) (name : List ℕ) : List ReadFile → List (List ℕ) → Type 0 where
  begun : Reached has_tree name [] (name ∷ [])
  again : (files : List ReadFile) (path : List ℕ) (paths : List (List ℕ)) → Reached has_tree name files (path ∷ paths)
      → is_read files path ≡ true → Reached has_tree name files paths
  next : (files : List ReadFile) (path : List ℕ) (paths : List (List ℕ)) (tree : PlainFile) → Reached has_tree name files (path ∷ paths)
      → is_read files path ≡ false → has_tree path tree
      → Reached has_tree name (files ++ record { name = path; tree = tree } ∷ []) (includes_of_file tree ++ paths)
