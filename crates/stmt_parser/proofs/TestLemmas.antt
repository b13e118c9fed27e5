-- The moves that a test decides, where it fails.
use Rattle.std.proofs.Common.{◌≡◌, ℕ, ◌+◌, true, false, List, [], ◌∷◌, ap, ◌∙◌}
use Rattle.std.specs.Prelude.{◌==◌}
use Rattle.php_syntax.specs.declared.token.Sign.TheVariants as sign
use Rattle.script_grammar.specs.declared.keyword.Keyword.{Keyword}
use Rattle.script_grammar.specs.Terminals.{Terminal, word_terminal, sign_terminal}
use Rattle.expr_machine.specs.Machine.{behind}
use Rattle.expr_machine.specs.Reading.{expr_at}
use Rattle.stmt_machine.specs.declared.frame.Loop.{Loop}
use Rattle.stmt_machine.specs.declared.frame.Row.{Row}
use Rattle.stmt_machine.specs.declared.frame.Focus.TheVariants as focus
use Rattle.stmt_machine.specs.declared.frame.Frame.{Frame}
use Rattle.stmt_machine.specs.declared.frame.Frame.TheVariants as frame
use Rattle.stmt_machine.specs.Actions.{open_action, return_action, exit_action, loop_action}
use Rattle.stmt_machine.specs.Machine.{moves, stuck, colon_next, semicolon_next, paren_end_next, value_move, statement_at, return_move, argument_at, exit_parens_move, colon_else_move, row_end_next, start_move, row_end_move, row_move, more_move, listed_move, condition_move, for_condition_move, colon_body_move, jump_move, ends_loop}
use Rattle.stmt_parser.specs.Nexts.{if_next, body_next, else_if_next, colon_elseif_next}
use Rattle.stmt_parser.proofs.OtherLemmas.{No, no_colon, no_semicolon, no_paren_end, if_false, if_true}

pub if_plain : (fs : List Frame) (ts : List Terminal) → No sign.Colon ts → if_next fs ts ≡ moves focus.Begin (frame.Arm 1 ∷ fs) ts (open_action false ∷ [])
if_plain fs ts h = if_false (colon_next ts) _ _ (no_colon ts h)

pub body_plain : (l : Loop) (fs : List Frame) (ts : List Terminal) → No sign.Colon ts → body_next l fs ts ≡ moves focus.Begin (frame.Body l ∷ fs) ts (open_action true ∷ [])
body_plain l fs ts h = if_false (colon_next ts) _ _ (no_colon ts h)

pub else_if_plain : (k : ℕ) (fs : List Frame) (ts : List Terminal) → No sign.Colon ts → else_if_next k fs ts ≡ moves focus.Begin (frame.Arm (k + 1) ∷ fs) ts []
else_if_plain k fs ts h = if_false (colon_next ts) _ _ (no_colon ts h)

pub colon_elseif_none : (k : ℕ) (fs : List Frame) (ts : List Terminal) → No sign.Colon ts → colon_elseif_next k fs ts ≡ stuck
colon_elseif_none k fs ts h = if_false (colon_next ts) _ _ (no_colon ts h)

pub colon_else_open : (k : ℕ) (fs : List Frame) (ts : List Terminal) → No sign.Colon ts → colon_else_move k fs ts ≡ stuck
colon_else_open k fs ts h = if_false (colon_next ts) _ _ (no_colon ts h)

pub return_value : (fs : List Frame) (ts : List Terminal) → No sign.Semicolon ts → return_move fs ts ≡ value_move (return_action true) fs (statement_at ts)
return_value fs ts h = if_false (semicolon_next ts) _ _ (no_semicolon ts h)

pub exit_argument : (fs : List Frame) (ts : List Terminal) → No sign.CloseParen ts → exit_parens_move fs ts ≡ value_move (exit_action true) fs (argument_at ts)
exit_argument fs ts h = if_false (paren_end_next ts) _ _ (no_paren_end ts h)

pub condition_some : (k : ℕ) (fs : List Frame) (ts : List Terminal) → No sign.Semicolon ts → condition_move k fs ts ≡ for_condition_move k fs (statement_at ts)
condition_some k fs ts h = if_false (semicolon_next ts) _ _ (no_semicolon ts h)

pub start_some : (l : Row) (fs : List Frame) (ts : List Terminal) → row_end_next l ts ≡ false → start_move l fs ts ≡ listed_move l 1 fs (expr_at ts)
start_some l fs ts e = if_false (row_end_next l ts) _ _ e

pub start_none : (l : Row) (fs : List Frame) (ts : List Terminal) → row_end_next l ts ≡ true → start_move l fs ts ≡ moves (focus.Listed l 0) fs ts []
start_none l fs ts e = if_true (row_end_next l ts) _ _ e

pub row_on : (l : Row) (k : ℕ) (fs : List Frame) (ts : List Terminal) → row_end_next l ts ≡ false → row_move l k fs ts ≡ more_move l k fs ts
row_on l k fs ts e = if_false (row_end_next l ts) _ _ e

pub row_ends : (l : Row) (k : ℕ) (fs : List Frame) (ts r : List Terminal) → row_end_next l ts ≡ true → behind ts ≡ r → row_move l k fs ts ≡ row_end_move l k fs r
row_ends l k fs ts r e f = if_true (row_end_next l ts) _ _ e ∙ ap (row_end_move l k fs) f

pub more_first : (l : Row) (k : ℕ) (fs : List Frame) (r : List Terminal) → (k == 0) ≡ true → more_move l k fs (sign_terminal sign.Comma ∷ r) ≡ stuck
more_first l k fs r e = if_true (k == 0) _ _ e

pub more_next : (l : Row) (k : ℕ) (fs : List Frame) (r : List Terminal) → (k == 0) ≡ false → more_move l k fs (sign_terminal sign.Comma ∷ r) ≡ listed_move l (k + 1) fs (expr_at r)
more_next l k fs r e = if_false (k == 0) _ _ e

pub colon_body_ends : (l : Loop) (k : Keyword) (fs : List Frame) (r : List Terminal) → ends_loop l k ≡ true → colon_body_move l fs (word_terminal k ∷ r) ≡ jump_move (loop_action l) fs r
colon_body_ends l k fs r e = if_true (ends_loop l k) _ _ e

pub colon_body_on : (l : Loop) (k : Keyword) (fs : List Frame) (r : List Terminal) → ends_loop l k ≡ false → colon_body_move l fs (word_terminal k ∷ r) ≡ moves focus.Begin (frame.ColonBody l ∷ fs) (word_terminal k ∷ r) []
colon_body_on l k fs r e = if_false (ends_loop l k) _ _ e
