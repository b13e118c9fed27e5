-- What is told of scripts that are read as no tree, or of too high a tree.
use Rattle.std.specs.Prelude.{◌≡◌, true, List, Some, ◌⊎◌}
use Rattle.lr_tables.specs.declared.event.Event as event
use Rattle.lr_tables.specs.Grammars.{IsDerived}
use Rattle.lr_tables.specs.Values.{kinds, HasValue}
use Rattle.php_syntax.specs.Tokens.{PlainToken}
use Rattle.php_syntax.specs.Trees.{PlainFile}
use Rattle.php_grammar.specs.Php.{php}
use Rattle.php_trees.specs.Values.{Value, file}
use Rattle.php_trees.specs.Reads.{ReadAs}
use Rattle.script_rules.specs.Parts.{LeftOut, Part, judged}

-- the tokens are a script of PHP, and this is the first form in it that the language leaves out
pub record HasLeftOut (tokens : List PlainToken) (found : LeftOut) : Type 0 where
  pub whole : Part
  pub derived : HasValue php.grammar judged tokens whole
  pub is : whole.left_out ≡ Some found

-- the tokens are a script of PHP, and a part of it stands for a tree that is higher than may be
pub record HasHighPart (tokens : List PlainToken) : Type 0 where
  pub whole : Part
  pub derived : HasValue php.grammar judged tokens whole
  pub is : whole.high ≡ true

-- a script of PHP is read as a tree where nothing is left out of it
abbrev pub IsReadWhole : Type 0
IsReadWhole = (tokens : List PlainToken) (whole : Part) (tree : PlainFile) → HasValue php.grammar judged tokens whole → whole.value ≡ Some (file tree) → ReadAs tokens tree

-- and as none where a form is left out
abbrev pub IsReadAsNone : Type 0
IsReadAsNone = (tokens : List PlainToken) (found : LeftOut) (tree : PlainFile) → HasLeftOut tokens found → ReadAs tokens tree → ⊥

-- one form is the first
abbrev pub IsOneForm : Type 0
IsOneForm = (tokens : List PlainToken) (one other : LeftOut) → HasLeftOut tokens one → HasLeftOut tokens other → one ≡ other

-- each script of PHP stands for something as a whole, or a form is left out of it
abbrev pub IsEither : Type 0
IsEither = (tokens : List PlainToken) (es : List event.Event) → IsDerived php.grammar (kinds judged tokens) es
    → (whole : Part) × HasValue php.grammar judged tokens whole × (((v : Value) × (whole.value ≡ Some v)) ⊎ ((found : LeftOut) × (whole.left_out ≡ Some found)))
