-- Which tree a token list spells.
use Rattle.std.specs.Prelude.{◌≡◌, ℕ, ◌+◌, ◌-◌, ◌<◌, max, true, List, [], ◌∷◌, ◌⊎◌}
use Rattle.text_base.specs.declared.limits.TheConstants.{HEIGHT_LIMIT}
use Rattle.php_syntax.specs.declared.token.Sign.{Sign}
use Rattle.php_syntax.specs.declared.token.Sign.TheVariants as sign
use Rattle.php_syntax.specs.Tokens.{PlainToken}
use Rattle.php_syntax.specs.Trees.{PlainFile}
use Rattle.script_grammar.specs.Terminals.{Terminal, sign_terminal, terminals}
use Rattle.script_grammar.specs.Statements.{FileForm, file_terminals, file_tree, file_nearest}
use Rattle.script_grammar.specs.Rules.{file_fits}
use Rattle.php_syntax.specs.Height.{file_height}

-- A token list spells a tree: a derivation of a file has its terminals and the tree, each `else` of it belongs to the nearest `if`,
-- and the tree keeps the rules beside the grammar. The places of the tokens do not matter.
pub record SpellsTree (tokens : List PlainToken) (tree : PlainFile) : Type 0 where
  pub form : FileForm
  pub spelled : file_terminals form ≡ terminals tokens
  pub made : file_tree form ≡ tree
  pub nearest_if : file_nearest form ≡ true
  pub fits : file_fits tree ≡ true

-- how many brackets are open behind a terminal, given how many before it: openers less closers, never below 0
abbrev pub open_after_sign : ℕ → Sign → ℕ
open_after_sign n sign.OpenParen = n + 1
open_after_sign n sign.OpenBracket = n + 1
open_after_sign n sign.OpenBrace = n + 1
open_after_sign n sign.CloseParen = n - 1
open_after_sign n sign.CloseBracket = n - 1
open_after_sign n sign.CloseBrace = n - 1
open_after_sign n _ = n

-- the same for any terminal: one that is no sign leaves the number as it is
abbrev pub open_after : ℕ → Terminal → ℕ
open_after n (sign_terminal s) = open_after_sign n s
open_after n _ = n

-- the largest number of brackets that are open at once, given how many are before the list
abbrev pub most_open : ℕ → List Terminal → ℕ
most_open n [] = n
most_open n (t ∷ ts) = max n (most_open (open_after n t) ts)

-- more brackets are open at once than may be, or the tokens spell a tree that is higher than may be
abbrev pub IsTooDeep : List PlainToken → Type 0
IsTooDeep tokens = (HEIGHT_LIMIT < most_open 0 (terminals tokens))
    ⊎ ((tree : PlainFile) × SpellsTree tokens tree × (HEIGHT_LIMIT < file_height tree))
