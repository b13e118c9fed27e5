-- Statements of a few terminals, and braces.
use Rattle.std.proofs.Common.{◌≡◌, ℕ, true, false, List, [], ◌∷◌, refl, arith}
use Rattle.php_syntax.specs.declared.token.Sign.TheVariants as sign
use Rattle.script_grammar.specs.declared.keyword.Keyword.{Keyword}
use Rattle.script_grammar.specs.declared.keyword.Keyword.TheVariants as word
use Rattle.script_grammar.specs.Terminals.{Terminal, inline_terminal, word_terminal, text_terminal, sign_terminal}
use Rattle.script_grammar.specs.Statements.{is_include}
use Rattle.stmt_machine.specs.declared.frame.Focus.TheVariants as focus
use Rattle.stmt_machine.specs.declared.frame.Frame.{Frame}
use Rattle.stmt_machine.specs.declared.frame.Frame.TheVariants as frame
use Rattle.stmt_machine.specs.Actions.{StmtAction, inline_action, break_action, continue_action, include_action, exit_action}
use Rattle.stmt_machine.specs.Machine.{moves, move}
use Rattle.stmt_laws.proofs.Runs.{Goes, steps}

pub semicolon_reads : (fs : List Frame) (r : List Terminal) (k : List StmtAction) → Goes focus.Behind fs r k → Goes focus.Begin fs (sign_terminal sign.Semicolon ∷ r) k
unfolding move
semicolon_reads fs r k goes = steps refl (omega arith) goes

pub inline_reads : (t : List ℕ) (fs : List Frame) (r : List Terminal) (k : List StmtAction) → Goes focus.Behind fs r k → Goes focus.Begin fs (inline_terminal t ∷ r) (inline_action t ∷ k)
unfolding move
inline_reads t fs r k goes = steps refl (omega arith) goes

pub break_reads : (fs : List Frame) (r : List Terminal) (k : List StmtAction) → Goes focus.Behind fs r k → Goes focus.Begin fs (word_terminal word.Break ∷ sign_terminal sign.Semicolon ∷ r) (break_action ∷ k)
unfolding move
break_reads fs r k goes = steps refl (omega arith) goes

pub continue_reads : (fs : List Frame) (r : List Terminal) (k : List StmtAction) → Goes focus.Behind fs r k → Goes focus.Begin fs (word_terminal word.Continue ∷ sign_terminal sign.Semicolon ∷ r) (continue_action ∷ k)
unfolding move
continue_reads fs r k goes = steps refl (omega arith) goes

pub include_reads : (w : Keyword) (t : List ℕ) (fs : List Frame) (r : List Terminal) (k : List StmtAction) → is_include w ≡ true → Goes focus.Behind fs r k → Goes focus.Begin fs (word_terminal w ∷ text_terminal t ∷ sign_terminal sign.Semicolon ∷ r) (include_action t ∷ k)
unfolding move
include_reads word.Include t fs r k is goes = steps refl (omega arith) goes
include_reads word.Require t fs r k is goes = steps refl (omega arith) goes
include_reads _ t fs r k is goes = absurd cc

pub include_parens_reads : (w : Keyword) (t : List ℕ) (fs : List Frame) (r : List Terminal) (k : List StmtAction) → is_include w ≡ true → Goes focus.Behind fs r k → Goes focus.Begin fs (word_terminal w ∷ sign_terminal sign.OpenParen ∷ text_terminal t ∷ sign_terminal sign.CloseParen ∷ sign_terminal sign.Semicolon ∷ r) (include_action t ∷ k)
unfolding move
include_parens_reads word.Include t fs r k is goes = steps refl (omega arith) goes
include_parens_reads word.Require t fs r k is goes = steps refl (omega arith) goes
include_parens_reads _ t fs r k is goes = absurd cc

pub exit_reads : (fs : List Frame) (r : List Terminal) (k : List StmtAction) → Goes focus.Behind fs r k → Goes focus.Begin fs (word_terminal word.Exit ∷ sign_terminal sign.Semicolon ∷ r) (exit_action false ∷ k)
unfolding move
exit_reads fs r k goes = steps refl (omega arith) goes

-- braces
pub block_begins : (fs : List Frame) (ts : List Terminal) (acts : List StmtAction) → Goes focus.Behind (frame.Block ∷ fs) ts acts → Goes focus.Begin fs (sign_terminal sign.OpenBrace ∷ ts) acts
unfolding move
block_begins fs ts acts goes = steps refl (omega arith) goes

pub block_ends : (fs : List Frame) (r : List Terminal) (k : List StmtAction) → Goes focus.Behind fs r k → Goes focus.Behind (frame.Block ∷ fs) (sign_terminal sign.CloseBrace ∷ r) k
unfolding move
block_ends fs r k goes = steps refl (omega arith) goes

-- a statement where several may stand
pub sent : (fs : List Frame) (ts : List Terminal) (acts : List StmtAction) → move focus.Behind fs ts ≡ moves focus.Begin fs ts [] → Goes focus.Begin fs ts acts → Goes focus.Behind fs ts acts
sent fs ts acts e goes = steps e (omega arith) goes
