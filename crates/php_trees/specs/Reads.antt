-- Which tree tokens are read as.
use Rattle.std.specs.Prelude.{◌≡◌, true, List, map}
use Rattle.lr_tables.specs.Values.{Meaning, HasValue}
use Rattle.php_grammar.specs.Php.{php}
use Rattle.php_syntax.specs.Tokens.{PlainKind, PlainToken}
use Rattle.php_syntax.specs.Trees.{PlainFile}
use Rattle.script_grammar.specs.Rules.{file_fits}
use Rattle.php_trees.specs.Kinds.{kind_of}
use Rattle.php_trees.specs.Values.{Value, leaf, file}
use Rattle.php_trees.specs.Actions.{act}
use Rattle.php_trees.specs.Rules.{kept}

-- what PHP's derivations mean to the language: each part keeps the rules beside the grammar
abbrev pub language : Meaning
language = record { Token = PlainKind; Value = Value; kind = kind_of; leaf = leaf; act = λ p vs. kept (act p vs) }

-- what tokens are; where they stand does not matter
abbrev pub parts : List PlainToken → List PlainKind
parts ts = map (λ t. t.kind) ts

-- Tokens are read as a tree: a derivation of them by PHP's grammar has it as its value, and it keeps the rules beside the grammar, as each
-- part of it does.
pub record ReadAs (tokens : List PlainToken) (tree : PlainFile) : Type 0 where
  pub derived : HasValue php.grammar language (parts tokens) (file tree)
  pub fits : file_fits tree ≡ true

-- tokens are read as one tree at most
abbrev pub HaveOneTree : Type 0
HaveOneTree = (tokens : List PlainToken) (one other : PlainFile) → ReadAs tokens one → ReadAs tokens other → one ≡ other
