-- Which trees some file spells.
use Rattle.std.specs.Prelude.{ℕ, List}
use Rattle.php_syntax.specs.Tokens.{PlainToken}
use Rattle.php_syntax.specs.Trees.{PlainFile}
use Rattle.lexical_grammar.specs.Cuts.{Cuts}
use Rattle.script_grammar.specs.Grammar.{SpellsTree}

-- the bytes of a file spell the tree
abbrev pub Spells : List ℕ → PlainFile → Type 0
Spells file tree = (tokens : List PlainToken) × Cuts file tokens × SpellsTree tokens tree

-- some file spells the tree
abbrev pub IsSpelled : PlainFile → Type 0
IsSpelled tree = (file : List ℕ) × Spells file tree
