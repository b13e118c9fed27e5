-- What may stand at the front where the machine is in some place: what is still to come of what was begun, up to the end of the file.
use Rattle.std.proofs.Common.{◌≡◌, ℕ, ◌+◌, Bool, true, false, not, ◌&&◌, List, [], ◌∷◌, ◌++◌}
use Rattle.php_syntax.specs.declared.token.Sign.{Sign}
use Rattle.php_syntax.specs.declared.token.Sign.TheVariants as sign
use Rattle.script_grammar.specs.declared.keyword.Keyword.{Keyword}
use Rattle.script_grammar.specs.declared.keyword.Keyword.TheVariants as word
use Rattle.script_grammar.specs.Terminals.{Terminal, word_terminal, sign_terminal}
use Rattle.script_grammar.specs.Expressions.{MoreExprsForm, no_more_exprs, more_exprs_terminals, list_terminals}
use Rattle.script_grammar.specs.Statements.{condition_terminals, maybe_terminals, StmtForm, StmtsForm, ArmsForm, ElseForm, no_else_form, else_form, ColonArmsForm, ColonElseForm, BodyForm, stmt_terminals, stmts_terminals, arms_terminals, else_terminals, colon_arms_terminals, colon_else_terminals, body_terminals, takes_else, body_takes_else, goes_on, colon_goes_on, last_takes_else, nearest, all_nearest, arms_nearest, else_nearest, colon_arms_nearest, colon_else_nearest, body_nearest, ParamForm, param_terminals, param_tree, more_params_terminals, params_terminals, FileForm, file_terminals, file_nearest}
use Rattle.expr_machine.specs.Postfix.{exprs_count}
use Rattle.stmt_machine.specs.declared.frame.Loop.{Loop}
use Rattle.stmt_machine.specs.declared.frame.Loop.TheVariants as loop
use Rattle.stmt_machine.specs.declared.frame.Row.{Row}
use Rattle.stmt_machine.specs.declared.frame.Row.TheVariants as row
use Rattle.stmt_machine.specs.declared.frame.Focus.{Focus}
use Rattle.stmt_machine.specs.declared.frame.Focus.TheVariants as focus
use Rattle.stmt_machine.specs.declared.frame.Frame.{Frame}
use Rattle.stmt_machine.specs.declared.frame.Frame.TheVariants as frame
use Rattle.stmt_machine.specs.Actions.{StmtAction, open_action, echo_action, if_action, loop_action, do_action, function_body_action, function_end_action}
use Rattle.stmt_machine.specs.Machine.{Move, moves, finished, stuck}
use Rattle.stmt_machine.specs.Postfix.{value_actions, more_values_actions, list_values_actions, list_count, maybe_value_actions, is_something, stmt_actions, stmts_actions, arms_actions, else_actions, colon_arms_actions, colon_else_actions, body_actions, param_actions, params_actions, file_actions}
use Rattle.stmt_machine.specs.Reading.{else_next}
use Rattle.stmt_laws.proofs.Shapes.{Rest, Read}

-- a statement, and no `else` behind one that could take it
abbrev pub StmtHolds : StmtForm → List Terminal → Type 0
StmtHolds s r = (nearest s ≡ true) × (takes_else s ≡ true → else_next r ≡ false)

abbrev pub Begun : Rest → Rest
Begun k = Read stmt_terminals stmt_actions StmtHolds (λ s. k)

-- statements, and then some terminals and actions
abbrev pub StmtsThen : (List Terminal → List Terminal) → (List StmtAction → List StmtAction) → Rest → Rest
StmtsThen c d k = Read (λ (ss : StmtsForm) r. stmts_terminals ss (c r)) (λ ss bs. stmts_actions ss (d bs)) (λ ss r. all_nearest ss ≡ true) (λ ss. k)

abbrev pub brace_then : List Terminal → List Terminal
brace_then r = sign_terminal sign.CloseBrace ∷ r

abbrev pub word_then : Keyword → List Terminal → List Terminal
word_then k r = word_terminal k ∷ sign_terminal sign.Semicolon ∷ r

abbrev pub BlockRest : Rest → Rest
BlockRest k = StmtsThen brace_then (λ bs. bs) k

abbrev pub FunctionRest : Rest → Rest
FunctionRest k = StmtsThen brace_then (λ bs. function_end_action ∷ bs) k

abbrev pub ColonElseRest : ℕ → Rest → Rest
ColonElseRest n k = StmtsThen (word_then word.EndIf) (λ bs. if_action n true ∷ bs) k

-- the word that ends a loop
abbrev pub end_word : Loop → Keyword
end_word loop.While = word.EndWhile
end_word (loop.For b c n) = word.EndFor
end_word (loop.Each k x) = word.EndForeach

abbrev pub ColonBodyRest : Loop → Rest → Rest
ColonBodyRest l k = StmtsThen (word_then (end_word l)) (λ bs. loop_action l ∷ bs) k

-- nothing more than an action
abbrev pub Done : StmtAction → Rest → Rest
Done a k = Read (λ (u : Unit {0}) r. r) (λ u bs. a ∷ bs) (λ u r. Unit {0}) (λ u. k)

-- whether an `else` behind the last part of an `if` could belong to it
abbrev pub last_open : ElseForm → Bool
last_open no_else_form = true
last_open (else_form s) = takes_else s

-- further arms behind so many, and an `else`
pub record Arms : Type 0 where
  pub arms : ArmsForm
  pub last : ElseForm

pub record ArmsHold (x : Arms) (r : List Terminal) : Type 0 where
  pub arms_hold : arms_nearest x.arms x.last ≡ true
  pub last_holds : else_nearest x.last ≡ true
  pub promise : last_open x.last ≡ true → else_next r ≡ false

abbrev pub arms_left : Arms → List Terminal → List Terminal
arms_left x r = arms_terminals x.arms (else_terminals x.last r)

abbrev pub arms_later : ℕ → Arms → List StmtAction → List StmtAction
arms_later n x bs = arms_actions x.arms n (λ m. else_actions x.last m bs)

abbrev pub ArmRest : ℕ → Rest → Rest
ArmRest n k = Read arms_left (arms_later n) ArmsHold (λ x. k)

-- the statement of an arm and what follows it
pub record Branch : Type 0 where
  pub stmt : StmtForm
  pub further : Arms

pub record BranchHolds (x : Branch) (r : List Terminal) : Type 0 where
  pub stmt_holds : nearest x.stmt ≡ true
  pub no_dangling : not (takes_else x.stmt && goes_on (x.further).arms (x.further).last) ≡ true
  pub further_hold : ArmsHold x.further r

abbrev pub BranchRest : ℕ → Rest → Rest
BranchRest n k = Read (λ (x : Branch) r. stmt_terminals x.stmt (arms_left x.further r)) (λ x bs. stmt_actions x.stmt (arms_later n x.further bs)) BranchHolds (λ x. k)

-- the same between `:` and `endif`
pub record ColonBranch : Type 0 where
  pub stmts : StmtsForm
  pub arms : ColonArmsForm
  pub last : ColonElseForm

pub record ColonHolds (x : ColonBranch) (r : List Terminal) : Type 0 where
  pub stmts_hold : all_nearest x.stmts ≡ true
  pub no_dangling : not (last_takes_else x.stmts && colon_goes_on x.arms x.last) ≡ true
  pub arms_hold : colon_arms_nearest x.arms x.last ≡ true
  pub last_holds : colon_else_nearest x.last ≡ true

abbrev pub colon_left : ColonBranch → List Terminal → List Terminal
colon_left x r = stmts_terminals x.stmts (colon_arms_terminals x.arms (colon_else_terminals x.last (word_then word.EndIf r)))

abbrev pub colon_later : ℕ → ColonBranch → List StmtAction → List StmtAction
colon_later n x bs = stmts_actions x.stmts (colon_arms_actions x.arms n (λ m. colon_else_actions x.last m bs))

abbrev pub ColonArmRest : ℕ → Rest → Rest
ColonArmRest n k = Read colon_left (colon_later n) ColonHolds (λ x. k)

-- `while` behind the body of a `do`
abbrev pub DoRest : Rest → Rest
DoRest k = Read (λ e r. word_terminal word.While ∷ condition_terminals e (sign_terminal sign.Semicolon ∷ r)) (λ e bs. value_actions e (do_action ∷ bs)) (λ e r. Unit {0}) (λ e. k)

-- the body of a loop
abbrev pub BodyHolds : BodyForm → List Terminal → Type 0
BodyHolds b r = (body_nearest b ≡ true) × (body_takes_else b ≡ true → else_next r ≡ false)

abbrev pub LoopBody : Loop → Rest → Rest
LoopBody l k = Read (body_terminals (end_word l)) (λ b bs. open_action true ∷ body_actions b (loop_action l ∷ bs)) BodyHolds (λ b. k)

-- a row up to a sign, where so many stand in it already, and what stands behind it, by their number
abbrev pub EmptyAtZero : ℕ → MoreExprsForm → Type 0
EmptyAtZero n es = n ≡ 0 → es ≡ no_more_exprs

abbrev pub RowListed : Sign → ℕ → (ℕ → Rest) → Rest
RowListed s n k = Read (λ es r. more_exprs_terminals es (sign_terminal s ∷ r)) more_values_actions (λ es r. EmptyAtZero n es) (λ es. k (exprs_count es + n))

abbrev pub RowStart : Sign → (ℕ → Rest) → Rest
RowStart s k = Read (λ l r. list_terminals l (sign_terminal s ∷ r)) list_values_actions (λ l r. Unit {0}) (λ l. k (list_count l))

abbrev pub ConditionRest : ℕ → Rest → Rest
ConditionRest n k = Read (λ m r. maybe_terminals m (sign_terminal sign.Semicolon ∷ r)) maybe_value_actions (λ m r. Unit {0}) (λ m. RowStart sign.CloseParen (λ next. LoopBody (loop.For n (is_something m) next) k))

abbrev pub row_sign : Row → Sign
row_sign row.Echo = sign.Semicolon
row_sign row.Begin = sign.Semicolon
row_sign (row.Next b c) = sign.CloseParen

abbrev pub RowEnd : Row → Rest → ℕ → Rest
RowEnd row.Echo k n = Done (echo_action n) k
RowEnd row.Begin k n = ConditionRest n k
RowEnd (row.Next b c) k n = LoopBody (loop.For b c n) k

-- parameters up to the body of a function, and its body
abbrev pub parameters_then : List Terminal → List Terminal
parameters_then r = sign_terminal sign.CloseParen ∷ sign_terminal sign.OpenBrace ∷ r

abbrev pub ParamsRest : Rest → Rest
ParamsRest k = Read (λ (ps : List ParamForm) r. params_terminals ps (parameters_then r)) (λ ps bs. params_actions ps (function_body_action ∷ bs)) (λ ps r. Unit {0}) (λ ps. FunctionRest k)

abbrev pub MoreParamsRest : Rest → Rest
MoreParamsRest k = Read (λ (ps : List ParamForm) r. more_params_terminals ps (parameters_then r)) (λ ps bs. params_actions ps (function_body_action ∷ bs)) (λ ps r. Unit {0}) (λ ps. FunctionRest k)

abbrev pub ParamRest : Rest → Rest
ParamRest k = Read param_terminals (λ p bs. param_actions (param_tree p) bs) (λ p r. Unit {0}) (λ p. MoreParamsRest k)

-- the parts of a file up to its end
pub record FileRest (ts : List Terminal) (acts : List StmtAction) : Type 0 where
  pub form : FileForm
  pub reads : file_terminals form ≡ ts
  pub holds : file_nearest form ≡ true
  pub does : file_actions form ≡ acts

-- what stands behind a whole statement
abbrev pub Later : List Frame → Rest
Later [] = FileRest
Later (frame.Block ∷ fs) = BlockRest (Later fs)
Later (frame.Arm n ∷ fs) = ArmRest n (Later fs)
Later (frame.Else n ∷ fs) = Done (if_action n true) (Later fs)
Later (frame.ColonArm n ∷ fs) = ColonArmRest n (Later fs)
Later (frame.ColonElse n ∷ fs) = ColonElseRest n (Later fs)
Later (frame.Body l ∷ fs) = Done (loop_action l) (Later fs)
Later (frame.ColonBody l ∷ fs) = ColonBodyRest l (Later fs)
Later (frame.Do ∷ fs) = DoRest (Later fs)
Later (frame.Function ∷ fs) = FunctionRest (Later fs)

-- what stands where the machine is
abbrev pub Stands : Focus → List Frame → Rest
Stands focus.Begin fs = Begun (Later fs)
Stands focus.Behind fs = Later fs
Stands (focus.Start l) fs = RowStart (row_sign l) (RowEnd l (Later fs))
Stands (focus.Listed l n) fs = RowListed (row_sign l) n (RowEnd l (Later fs))
Stands (focus.Condition n) fs = ConditionRest n (Later fs)
Stands focus.Parameters fs = ParamsRest (Later fs)
Stands focus.Parameter fs = ParamRest (Later fs)
Stands focus.BehindParameter fs = MoreParamsRest (Later fs)

-- what is to be shown of a move: what may stand where it leads, behind its actions, may stand where it was made
abbrev pub Carries : Move → (List StmtAction → Type 0) → Type 0
Carries (moves f fs r acts) P = (bs : List StmtAction) → Stands f fs r bs → P (acts ++ bs)
Carries finished P = P []
Carries stuck P = Unit {0}
