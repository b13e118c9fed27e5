-- The moves behind an expression, without the action that makes its value, and parts of other moves.
use Rattle.std.specs.Prelude.{ℕ, ◌+◌, true, false, List, [], ◌∷◌, Option, Some, None, if◌then◌else◌}
use Rattle.php_syntax.specs.declared.token.Sign.TheVariants as sign
use Rattle.script_grammar.specs.declared.keyword.Keyword.TheVariants as word
use Rattle.php_syntax.specs.Trees.{PlainExpr, int_expr, neg_expr, some_expr}
use Rattle.script_grammar.specs.Terminals.{Terminal, variable_terminal, word_terminal, int_terminal, text_terminal, sign_terminal}
use Rattle.expr_machine.specs.Machine.{behind}
use Rattle.stmt_machine.specs.declared.frame.Loop.{Loop}
use Rattle.stmt_machine.specs.declared.frame.Loop.TheVariants as loop
use Rattle.stmt_machine.specs.declared.frame.Row.{Row}
use Rattle.stmt_machine.specs.declared.frame.Row.TheVariants as row
use Rattle.stmt_machine.specs.declared.frame.Focus.TheVariants as focus
use Rattle.stmt_machine.specs.declared.frame.Frame.{Frame}
use Rattle.stmt_machine.specs.declared.frame.Frame.TheVariants as frame
use Rattle.stmt_machine.specs.Actions.{StmtAction, open_action, if_action, include_action, parameter_action}
use Rattle.stmt_machine.specs.Machine.{Move, moves, stuck, colon_next, body_move, jump_move, literal_at}

-- behind the value of a statement that ends with it: this action
abbrev pub value_next : StmtAction → List Frame → List Terminal → Move
value_next a fs r = moves focus.Behind fs r (a ∷ [])

-- behind the n-th expression of a row
abbrev pub listed_next : Row → ℕ → List Frame → List Terminal → Move
listed_next l n fs r = moves (focus.Listed l n) fs r []

-- behind the condition of an `if`: its first arm, in the form with `:` or not
abbrev pub if_next : List Frame → List Terminal → Move
if_next fs r =
    if colon_next r then moves focus.Behind (frame.ColonArm 1 ∷ fs) (behind r) (open_action false ∷ [])
    else moves focus.Begin (frame.Arm 1 ∷ fs) r (open_action false ∷ [])

-- the body of a loop
abbrev pub body_next : Loop → List Frame → List Terminal → Move
body_next l fs r = body_move l fs r (λ acts. acts)

-- behind the first variable of a `foreach`
abbrev pub keyed_next : List ℕ → List Frame → List Terminal → Move
keyed_next k fs (sign_terminal sign.DoubleArrow ∷ variable_terminal x ∷ sign_terminal sign.CloseParen ∷ r) =
    body_next (loop.Each (Some k) x) fs r
keyed_next k fs _ = stuck

-- behind the first variable of a `foreach`: that of the value, where `)` stands next, and else that of the key
abbrev pub variable_next : List ℕ → List Frame → List Terminal → Move
variable_next x fs (sign_terminal sign.CloseParen ∷ r) = body_next (loop.Each None x) fs r
variable_next x fs ts = keyed_next x fs ts

-- behind its array
abbrev pub each_next : List Frame → List Terminal → Move
each_next fs (word_terminal word.As ∷ variable_terminal x ∷ r) = variable_next x fs r
each_next fs _ = stuck

-- behind the condition of a `for` with so many expressions before it
abbrev pub for_condition_next : ℕ → List Frame → List Terminal → Move
for_condition_next n fs r = moves (focus.Start (row.Next n true)) fs r []

-- behind the condition of an `elseif`, with so many arms before it
abbrev pub elseif_next : ℕ → List Frame → List Terminal → Move
elseif_next n fs r = moves focus.Begin (frame.Arm (n + 1) ∷ fs) r (open_action false ∷ [])

-- behind the condition of an `else if`, whose body was opened before
abbrev pub else_if_next : ℕ → List Frame → List Terminal → Move
else_if_next n fs r =
    if colon_next r then moves focus.Behind (frame.ColonArm 1 ∷ frame.Else n ∷ fs) (behind r) (open_action false ∷ [])
    else moves focus.Begin (frame.Arm (n + 1) ∷ fs) r []

-- the same in the form with `:`, where a colon has to stand
abbrev pub colon_elseif_next : ℕ → List Frame → List Terminal → Move
colon_elseif_next n fs r =
    if colon_next r then moves focus.Behind (frame.ColonArm (n + 1) ∷ fs) (behind r) (open_action false ∷ [])
    else stuck

-- behind a statement of an arm in the form with `:`, where no further arm begins
abbrev pub colon_arm_end_next : ℕ → List Frame → List Terminal → Move
colon_arm_end_next n fs (word_terminal word.EndIf ∷ r) = jump_move (if_action n false) fs r
colon_arm_end_next n fs ts = moves focus.Begin (frame.ColonArm n ∷ fs) ts []

-- behind the bracket of an `include`
abbrev pub included_next : List Frame → List Terminal → Move
included_next fs (text_terminal t ∷ sign_terminal sign.CloseParen ∷ r) = jump_move (include_action t) fs r
included_next fs _ = stuck

-- the literal of a default, and what stands behind it
abbrev pub with_rest : Option PlainExpr → List Terminal → Option (PlainExpr × List Terminal)
with_rest None r = None
with_rest (Some e) r = Some (e, r)

-- without a sign before it, and with one
abbrev pub plain_at : List Terminal → Option (PlainExpr × List Terminal)
plain_at (t ∷ r) = with_rest (literal_at t) r
plain_at [] = None

-- a literal as a default, with a minus sign before it or not, and what stands behind it
abbrev pub default_at : List Terminal → Option (PlainExpr × List Terminal)
default_at (sign_terminal sign.Minus ∷ int_terminal z ∷ r) = Some (neg_expr (int_expr z), r)
default_at (t ∷ r) = with_rest (literal_at t) r
default_at [] = None

-- behind the sign of a default
abbrev pub default_next : List ℕ → List Frame → Option (PlainExpr × List Terminal) → Move
default_next x fs None = stuck
default_next x fs (Some found) = moves focus.BehindParameter fs found.1 (parameter_action x (some_expr found.0) ∷ [])
