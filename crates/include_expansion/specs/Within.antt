-- What the statements of files stand for, computed: each include replaced, and the includes of what stands there, so many times over.
use Rattle.std.specs.Prelude.{◌≡◌, ℕ, zero, suc, true, List, [], ◌∷◌, if◌then◌else◌, take, Some, slice_get, bytes_eq, map}
use Rattle.std.specs.List.{Contains}
use Rattle.php_syntax.specs.Trees.{PlainStmts, no_stmts, PlainFile}
use Rattle.script_meaning.specs.Programs.{PlainProgram}
use Rattle.program_rules.specs.Files.{Held, HasTree}
use Rattle.program_rules.specs.Includes.{includes_in, includes_of_file}
use Rattle.program_rules.specs.Bodies.{with_bodies, with_body}
use Rattle.program_rules.specs.Limits.{one_each}
use Rattle.program_rules.specs.Programs.{ReadFile, functions_in}
use Rattle.program_files.specs.Order.{is_read}

-- the tree of a name among files, and the empty one where there is none
unfoldable pub tree_named : List ReadFile → List ℕ → PlainFile
tree_named [] path = record { body_of = no_stmts; functions_of = [] }
tree_named (file ∷ files) path = if bytes_eq path file.name then file.tree else tree_named files path

-- the statements of a name, with includes replaced so many times over
unfoldable pub bodies_within : List ReadFile → ℕ → List ℕ → PlainStmts
unfolding with_bodies tree_named
bodies_within files zero path = no_stmts
bodies_within files (suc n) path = with_bodies (bodies_within files n) (tree_named files path).body_of

-- and how many places of includes are replaced then
unfoldable pub places_within : List ReadFile → ℕ → List ℕ → ℕ
unfolding one_each tree_named includes_in
places_within files zero path = 0
places_within files (suc n) path = one_each (places_within files n) (includes_in (tree_named files path).body_of)

-- the program of a tree among files, with includes replaced so many times over
abbrev pub program_within : List ReadFile → ℕ → PlainFile → PlainProgram
program_within files n tree = record {
  main_of = with_bodies (bodies_within files n) tree.body_of;
  functions_of = map (with_body (bodies_within files n)) (functions_in files);
}

-- an order of the names of files: each stands behind all those that its file includes
pub record IsIncludeOrder (files : List ReadFile) (order : List (List ℕ)) : Type 0 where
  pub all : (path : List ℕ) → is_read files path ≡ true → Contains order path
  pub within : (path : List ℕ) → Contains order path → is_read files path ≡ true
  pub sorted : (k : ℕ) (file path : List ℕ) → slice_get order k ≡ Some file → Contains (includes_of_file (tree_named files file)) path
      → Contains (take k order) path

-- the files hold these trees
abbrev pub AreHeld : Held → List ReadFile → Type 0
AreHeld held files = (path : List ℕ) → is_read files path ≡ true → HasTree held path (tree_named files path)
