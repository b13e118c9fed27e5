-- How large a program may be, with its includes replaced: 256 places of includes, 200,000 nodes, and a height of 1,000. These limits are
-- this
-- project's own.
use Rattle.std.specs.Prelude.{◌≤◌, ℕ, ◌+◌, suc, List, [], ◌∷◌}
use Rattle.std.specs.List.{Contains}
use Rattle.php_syntax.specs.Trees.{PlainStmts, PlainFunction, PlainFile}
use Rattle.php_syntax.specs.Height.{file_height, file_nodes}
use Rattle.script_meaning.specs.Programs.{PlainProgram}
use Rattle.program_rules.specs.declared.limits.TheConstants.{PLACE_LIMIT, NODE_LIMIT, PROGRAM_HEIGHT_LIMIT}
use Rattle.program_rules.specs.Files.{Held, HasTree}
use Rattle.program_rules.specs.Includes.{includes_in}

-- for each path of a list one, and what is counted for it
unfoldable pub one_each : (List ℕ → ℕ) → List (List ℕ) → ℕ
one_each counts [] = 0
one_each counts (path ∷ paths) = suc (counts path) + one_each counts paths

-- so many places of includes are replaced in some statements: each include is one, with those of the statements of its file
pub data HasPlaces (held : Held) : PlainStmts → ℕ → Type 0 where
  counted : (ss : PlainStmts) (trees : List ℕ → PlainFile) (counts : List ℕ → ℕ)
      → ((path : List ℕ) → Contains (includes_in ss) path → HasTree held path (trees path))
      → ((path : List ℕ) → Contains (includes_in ss) path → HasPlaces held (trees path).body_of (counts path))
      → HasPlaces held ss (one_each counts (includes_in ss))

-- and in the bodies of some functions
pub data HavePlaces (held : Held) : List PlainFunction → ℕ → Type 0 where
  none : HavePlaces held [] 0
  more : (f : PlainFunction) (fs : List PlainFunction) (m n : ℕ) → HasPlaces held f.body_of m → HavePlaces held fs n
      → HavePlaces held (f ∷ fs) (m + n)

-- nodes and height of a program are those of one file with its statements and functions
abbrev pub as_file : PlainProgram → PlainFile
as_file program = record { body_of = program.main_of; functions_of = program.functions_of }

-- a program, for which so many places of includes were replaced, is within the limits
pub record IsWithin (places : ℕ) (program : PlainProgram) : Type 0 where
  pub places_within : places ≤ PLACE_LIMIT
  pub nodes_within : file_nodes (as_file program) ≤ NODE_LIMIT
  pub height_within : file_height (as_file program) ≤ PROGRAM_HEIGHT_LIMIT
