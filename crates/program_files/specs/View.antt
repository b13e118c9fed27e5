-- What files in memory are seen as.
use Rattle.std.specs.Prelude.{ℕ, List, [], ◌∷◌}
use Rattle.php_syntax.specs.declared.tree.FileTree.{FileTree}
use Rattle.php_syntax.specs.Trees.{plain_file}
use Rattle.program_rules.specs.Programs.{ReadFile}
use Rattle.program_files.specs.declared.files.ScriptFiles.{ScriptFiles}

-- names and trees, side by side
abbrev pub paired : List (List ℕ) → List FileTree → List ReadFile
paired [] trees = []
paired (name ∷ names) [] = []
paired (name ∷ names) (tree ∷ trees) = record { name = name; tree = plain_file tree } ∷ paired names trees

-- the files, in the order in which they were read
abbrev pub files_of : ScriptFiles → List ReadFile
files_of files = paired files.names.keys files.trees.items
