-- What a token of another kind is not.
use Rattle.std.proofs.Common.{◌≢◌, ℕ, List, refl}
use Rattle.std.specs.Prelude.{Option, Some, None}
use Rattle.php_syntax.specs.declared.token.Sign.{Sign}
use Rattle.php_syntax.specs.declared.token.TokenKind.{TokenKind}
use Rattle.php_syntax.specs.declared.token.TokenKind.TheVariants as token
use Rattle.php_syntax.specs.Tokens.{plain_kind}
use Rattle.script_grammar.specs.declared.keyword.Keyword.{Keyword}
use Rattle.script_grammar.specs.Terminals.{variable_terminal, text_terminal, sign_terminal, keyword_of, word_or_name, terminal_of}

name_no_sign : (found : Option Keyword) (w : List ℕ) (s : Sign) → word_or_name found w ≢ sign_terminal s
name_no_sign (Some k) w s e = cc
name_no_sign None w s e = cc

pub no_sign : (kind : TokenKind) → ((s : Sign) → kind ≢ token.Sign s) → (s : Sign) → terminal_of (plain_kind kind) ≢ sign_terminal s
no_sign (token.Inline y) not s e = cc
no_sign (token.Var y) not s e = cc
no_sign (token.Name y) not s e = name_no_sign (keyword_of y) y s e
no_sign (token.Int y) not s e = cc
no_sign (token.Str y) not s e = cc
no_sign (token.Template y) not s e = cc
no_sign (token.Sign y) not s e = absurd (not y refl)

name_no_text : (found : Option Keyword) (w : List ℕ) (t : List ℕ) → word_or_name found w ≢ text_terminal t
name_no_text (Some k) w t e = cc
name_no_text None w t e = cc

pub no_text : (kind : TokenKind) → ((t : List ℕ) → kind ≢ token.Str t) → (t : List ℕ) → terminal_of (plain_kind kind) ≢ text_terminal t
no_text (token.Inline y) not t e = cc
no_text (token.Var y) not t e = cc
no_text (token.Name y) not t e = name_no_text (keyword_of y) y t e
no_text (token.Int y) not t e = cc
no_text (token.Str y) not t e = absurd (not y refl)
no_text (token.Template y) not t e = cc
no_text (token.Sign y) not t e = cc

name_no_variable : (found : Option Keyword) (w : List ℕ) (x : List ℕ) → word_or_name found w ≢ variable_terminal x
name_no_variable (Some k) w x e = cc
name_no_variable None w x e = cc

pub no_variable : (kind : TokenKind) → ((x : List ℕ) → kind ≢ token.Var x) → (x : List ℕ) → terminal_of (plain_kind kind) ≢ variable_terminal x
no_variable (token.Inline y) not x e = cc
no_variable (token.Var y) not x e = absurd (not y refl)
no_variable (token.Name y) not x e = name_no_variable (keyword_of y) y x e
no_variable (token.Int y) not x e = cc
no_variable (token.Str y) not x e = cc
no_variable (token.Template y) not x e = cc
no_variable (token.Sign y) not x e = cc
