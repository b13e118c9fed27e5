-- The includes of a file (PHP manual, "include" and "require"), and which names a program reads and asks for by them.
use Rattle.std.specs.Prelude.{◌≡◌, ℕ, List, [], ◌∷◌, ◌++◌, false}
use Rattle.std.specs.List.{Contains}
use Rattle.php_syntax.specs.Trees.{PlainStmt, inline_stmt, echo_stmt, run_stmt, if_stmt, while_stmt, do_while_stmt, for_stmt, each_stmt, break_stmt, continue_stmt, return_stmt, include_stmt, quit_stmt, PlainStmts, no_stmts, more_stmts, PlainArms, no_arms, more_arms, PlainFunction, PlainFile}
use Rattle.io_edge.specs.Names.{beside, is_outside}
use Rattle.program_rules.specs.Files.{Held, HasScript, HasTree, is_at_first}

unfoldable mutual
  -- the paths of the includes among some statements, from the left
  pub includes_in : PlainStmts → List (List ℕ)
  includes_in no_stmts = []
  includes_in (more_stmts s ss) = includes_of s ++ includes_in ss

  -- the paths of the includes in a statement, from the left: of an include its own, and of any other those in its bodies
  pub includes_of : PlainStmt → List (List ℕ)
  includes_of (inline_stmt bytes) = []
  includes_of (echo_stmt es) = []
  includes_of (run_stmt e) = []
  includes_of (if_stmt arms otherwise) = includes_in_arms arms ++ includes_in otherwise
  includes_of (while_stmt e body) = includes_in body
  includes_of (do_while_stmt body e) = includes_in body
  includes_of (for_stmt begin e next body) = includes_in body
  includes_of (each_stmt e key x body) = includes_in body
  includes_of break_stmt = []
  includes_of continue_stmt = []
  includes_of (return_stmt e) = []
  includes_of (include_stmt path) = path ∷ []
  includes_of (quit_stmt e) = []

  -- the paths of the includes in the arms of an `if`, in their order
  pub includes_in_arms : PlainArms → List (List ℕ)
  includes_in_arms no_arms = []
  includes_in_arms (more_arms e body arms) = includes_in body ++ includes_in_arms arms

-- the paths of the includes in the bodies of functions, in their order
unfoldable pub includes_in_functions : List PlainFunction → List (List ℕ)
unfolding includes_in
includes_in_functions [] = []
includes_in_functions (f ∷ fs) = includes_in f.body_of ++ includes_in_functions fs

-- those of a file: of its body first, and then of its functions
unfoldable pub includes_of_file : PlainFile → List (List ℕ)
unfolding includes_in includes_in_functions
includes_of_file tree = includes_in tree.body_of ++ includes_in_functions tree.functions_of

-- the names that a program reads: that of its file, and each include of a file that it reads
pub data Reads (held : Held) (name : List ℕ) : List ℕ → Type 0 where
  itself : Reads held name name
  included : (file path : List ℕ) (tree : PlainFile) → Reads held name file → HasTree held file tree → Contains (includes_of_file tree) path
      → Reads held name path

-- a file includes another, directly or through others
pub data LeadsTo (held : Held) : List ℕ → List ℕ → Type 0 where
  directly : (file path : List ℕ) (tree : PlainFile) → HasTree held file tree → Contains (includes_of_file tree) path
      → LeadsTo held file path
  through : (file path further : List ℕ) (tree : PlainFile) → HasTree held file tree → Contains (includes_of_file tree) path
      → LeadsTo held path further → LeadsTo held file further

-- in a file stands an include of this name, as it is written
abbrev pub Writes : Held → List ℕ → List ℕ → Type 0
Writes held file written = (script : PlainFile) × HasScript held file script × Contains (includes_of_file script) written

-- the names that a program asks for: those that it reads, and the first place of each include in a file that it reads
pub data Asks (held : Held) (name : List ℕ) : List ℕ → Type 0 where
  to_read : (path : List ℕ) → Reads held name path → Asks held name path
  first : (file written : List ℕ) → Reads held name file → Writes held file written → Asks held name (beside held.main written)

-- an include of a file stays in a folder, the root: it leads out of it neither from the folder of the program's file nor, where it is not
-- taken from there, from the folder of its own file
pub record StaysInside (root : List ℕ) (held : Held) (file written : List ℕ) : Type 0 where
  pub first : is_outside root held.main written ≡ false
  pub second : is_at_first held written ≡ false → is_outside root file written ≡ false

-- as each include in the files of a program does
abbrev pub AllStayInside : List ℕ → Held → List ℕ → Type 0
AllStayInside root held name = (file written : List ℕ) → Reads held name file → Writes held file written → StaysInside root held file written
