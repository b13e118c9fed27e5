-- The sizes of what the statements of files stand for. No public clause cites this.
use Rattle.std.specs.Prelude.{◌≡◌, ◌≤◌, ℕ, true, List, length, take}
use Rattle.std.specs.List.{Contains}
use Rattle.php_syntax.specs.Trees.{PlainStmts}
use Rattle.php_syntax.specs.Height.{stmts_nodes, stmts_height}
use Rattle.program_rules.specs.Programs.{ReadFile}
use Rattle.program_files.specs.Order.{is_read}
use Rattle.include_expansion.specs.Within.{bodies_within, places_within}
use Rattle.include_expansion.specs.FileOrder.{names_at}
use Rattle.program_sizes.specs.declared.size.Size.{Size}
use Rattle.program_sizes.specs.Sizes as sizes

-- of statements, for which so many places of includes were replaced
abbrev pub of_body : ℕ → PlainStmts → Size
of_body places ss = record { places = places; nodes = stmts_nodes ss; height = stmts_height ss }

-- of what the statements of the file of a path stand for, where includes are replaced so many times over
abbrev pub body_of_path : List ReadFile → ℕ → List ℕ → Size
body_of_path files n path = of_body (places_within files n path) (bodies_within files n path)

-- a table has the sizes of the first files of an order, however many times more includes are replaced
abbrev pub IsTableOfFirst : List ReadFile → List ℕ → ℕ → List Size → Type 0
IsTableOfFirst files order k table = (n : ℕ) (path : List ℕ) → k ≤ n → Contains (take k (names_at files order)) path
    → sizes.capped (sizes.size_at files table path) ≡ sizes.capped (body_of_path files n path)

-- and of all files
pub record IsBodyTable (files : List ReadFile) (order : List ℕ) (table : List Size) : Type 0 where
  pub sized : (n : ℕ) (path : List ℕ) → length order ≤ n → is_read files path ≡ true
      → sizes.capped (sizes.size_at files table path) ≡ sizes.capped (body_of_path files n path)
