-- The tree of each form of a file, whose terminals can be written, is spellable.
use Rattle.std.proofs.Common.{◌≡◌, ℕ, Bool, true, false, ◌&&◌, if◌then◌else◌, List, [], ◌∷◌, refl, sym, subst}
use Rattle.php_syntax.specs.declared.token.Sign.TheVariants as signs
use Rattle.script_grammar.specs.declared.keyword.Keyword.{Keyword}
use Rattle.script_grammar.specs.declared.keyword.Keyword.TheVariants as word
use Rattle.php_syntax.specs.Tokens.{PlainToken}
use Rattle.php_syntax.specs.Trees.{PlainExpr, no_expr, some_expr, PlainStmts, no_stmts, PlainFile}
use Rattle.script_grammar.specs.Terminals.{Terminal, word_terminal, sign_terminal}
use Rattle.script_grammar.specs.Expressions.{ExprForm, expr_tree, more_exprs_terminals, list_terminals}
use Rattle.script_grammar.specs.Statements.{condition_terminals, MaybeForm, nothing_form, something_form, maybe_terminals, maybe_tree, VariablesForm, value_form, key_value_form, variables_terminals, key_variable, value_variable, StmtForm, semicolon_form, inline_form, block_form, echo_form, print_form, run_form, if_form, colon_if_form, while_form, do_form, for_form, each_form, break_form, continue_form, return_form, include_form, include_parens_form, exit_form, exit_parens_form, is_status, printed, StmtsForm, no_stmts_form, more_stmts_form, ArmsForm, no_arms_form, elseif_form, else_if_form, ElseForm, no_else_form, else_form, ColonArmsForm, no_colon_arms, colon_arm, ColonElseForm, no_colon_else, colon_else, BodyForm, stmt_body, colon_body, stmt_terminals, stmts_terminals, arms_terminals, else_terminals, colon_arms_terminals, colon_else_terminals, body_terminals, stmt_trees, stmts_trees, arms_tree, else_tree, colon_arms_tree, colon_else_tree, body_tree, LiteralForm, int_literal, negated_literal, text_literal, true_literal, false_literal, null_literal, literal_terminals, literal_tree, ParamForm, param_form, default_form, param_terminals, param_tree, more_params_terminals, params_terminals, params_trees, FunctionForm, function_form, function_terminals, function_tree, FileForm, end_of_file, function_part, stmt_part, file_terminals, file_stmts, file_functions, file_tree}
use Rattle.script_grammar.specs.Grammar.{SpellsTree}
use Rattle.lexical_grammar.specs.Cuts.{Cuts}
use Rattle.spellable.specs.Spellable.{is_name, is_call_name, is_maybe_name, is_printed, expr_spellable, maybe_spellable, stmt_spellable, stmts_spellable, arms_spellable, is_literal, is_default, params_spellable, functions_spellable, is_spellable}
use Rattle.spellable.proofs.FineSteps.{each_kind}
use Rattle.spellable.proofs.BackNames.{and_true, name_of, lower_call_name}
use Rattle.spellable.proofs.BackParts.{EachTerminal, each_terminal}
use Rattle.spellable.proofs.BackExprs.{And, expr_back, list_back, more_exprs_back}

condition_back : (e : ExprForm) (r : List Terminal) → EachTerminal (condition_terminals e r) → And (expr_spellable (expr_tree e)) r
condition_back e r h = let one = expr_back e (sign_terminal signs.CloseParen ∷ r) h.1 in (one.0, one.1.1)

maybe_back : (e : MaybeForm) (r : List Terminal) → EachTerminal (maybe_terminals e r) → And (maybe_spellable (maybe_tree e)) r
unfolding expr_spellable
maybe_back nothing_form r h = (refl, h)
maybe_back (something_form e) r h = expr_back e r h

variables_back : (v : VariablesForm) (r : List Terminal) → EachTerminal (variables_terminals v r) → (is_maybe_name (key_variable v) ≡ true) × (is_name (value_variable v) ≡ true) × EachTerminal r
variables_back (value_form x) r h = (refl, name_of x h.0, h.1)
variables_back (key_value_form k x) r h = (name_of k h.0, name_of x h.1.1.0, h.1.1.1)

-- the statements of a form, before those that are spellable
abbrev Behind : (PlainStmts → PlainStmts) → Type 0
Behind f = (ss : PlainStmts) → stmts_spellable ss ≡ true → stmts_spellable (f ss) ≡ true

none_spell : stmts_spellable no_stmts ≡ true
unfolding stmt_spellable
none_spell = refl

two : (a b : Bool) → a ≡ true → b ≡ true → (a && b) ≡ true
two a b h k = and_true a b h k

three : (a b c : Bool) → a ≡ true → b ≡ true → c ≡ true → (a && (b && c)) ≡ true
three a b c h k l = and_true a (b && c) h (and_true b c k l)

four : (a b c d : Bool) → a ≡ true → b ≡ true → c ≡ true → d ≡ true → (a && (b && (c && d))) ≡ true
four a b c d h k l m = and_true a (b && (c && d)) h (three b c d k l m)

-- what `exit` prints is no status, and is spellable where its argument is
printed_spells : (e : PlainExpr) → expr_spellable e ≡ true → (is_printed (printed e) && maybe_spellable (printed e)) ≡ true
unfolding expr_spellable
printed_spells e h = go (is_status e) refl
  where
    go : (b : Bool) → is_status e ≡ b → (is_printed (if b then no_expr else some_expr e) && maybe_spellable (if b then no_expr else some_expr e)) ≡ true
    go true i = refl
    go false i = rw (i, h) refl

mutual
  unfolding stmt_terminals stmt_trees stmt_spellable expr_spellable

  pub stmt_back : (f : StmtForm) (r : List Terminal) → EachTerminal (stmt_terminals f r) → Behind (stmt_trees f) × EachTerminal r
  stmt_back semicolon_form r h = (λ ss g. g, h.1)
  stmt_back (inline_form t) r h = (λ ss g. two _ _ h.0 g, h.1)
  stmt_back (block_form fs) r h = let one = stmts_back fs (sign_terminal signs.CloseBrace ∷ r) h.1 in (one.0, one.1.1)
  stmt_back (echo_form e es) r h =
      let one = expr_back e (more_exprs_terminals es (sign_terminal signs.Semicolon ∷ r)) h.1 in let next = more_exprs_back es (sign_terminal signs.Semicolon ∷ r) one.1
      in (λ ss g. two _ _ (two _ _ one.0 next.0) g, next.1.1)
  stmt_back (print_form e) r h = let one = expr_back e (sign_terminal signs.Semicolon ∷ r) h.1 in (λ ss g. two _ _ (two _ _ one.0 refl) g, one.1.1)
  stmt_back (run_form e) r h = let one = expr_back e (sign_terminal signs.Semicolon ∷ r) h in (λ ss g. two _ _ one.0 g, one.1.1)
  stmt_back (if_form e s a l) r h =
      let one = condition_back e (stmt_terminals s (arms_terminals a (else_terminals l r))) h.1
      in let next = stmt_back s (arms_terminals a (else_terminals l r)) one.1
      in let arms = arms_back a (else_terminals l r) next.1
      in let last = else_back l r arms.1
      in (λ ss g. two _ _ (two _ _ (three _ _ _ one.0 (next.0 no_stmts none_spell) arms.0) last.0) g, last.1)
  stmt_back (colon_if_form e fs a l) r h =
      let end : List Terminal = word_terminal word.EndIf ∷ sign_terminal signs.Semicolon ∷ r
      in let one = condition_back e (sign_terminal signs.Colon ∷ stmts_terminals fs (colon_arms_terminals a (colon_else_terminals l end))) h.1
      in let next = stmts_back fs (colon_arms_terminals a (colon_else_terminals l end)) one.1.1
      in let arms = colon_arms_back a (colon_else_terminals l end) next.1
      in let last = colon_else_back l end arms.1
      in (λ ss g. two _ _ (two _ _ (three _ _ _ one.0 (next.0 no_stmts none_spell) arms.0) last.0) g, last.1.1.1)
  stmt_back (while_form e b) r h = let one = condition_back e (body_terminals word.EndWhile b r) h.1 in let next = body_back word.EndWhile b r one.1 in (λ ss g. two _ _ (two _ _ one.0 next.0) g, next.1)
  stmt_back (do_form s e) r h =
      let one = stmt_back s (word_terminal word.While ∷ condition_terminals e (sign_terminal signs.Semicolon ∷ r)) h.1 in let next = condition_back e (sign_terminal signs.Semicolon ∷ r) one.1.1
      in (λ ss g. two _ _ (two _ _ (one.0 no_stmts none_spell) next.0) g, next.1.1)
  stmt_back (for_form begin e next b) r h =
      let one = list_back begin (sign_terminal signs.Semicolon ∷ maybe_terminals e (sign_terminal signs.Semicolon ∷ list_terminals next (sign_terminal signs.CloseParen ∷ body_terminals word.EndFor b r))) h.1.1
      in let test = maybe_back e (sign_terminal signs.Semicolon ∷ list_terminals next (sign_terminal signs.CloseParen ∷ body_terminals word.EndFor b r)) one.1.1
      in let turn = list_back next (sign_terminal signs.CloseParen ∷ body_terminals word.EndFor b r) test.1.1
      in let body = body_back word.EndFor b r turn.1.1
      in (λ ss g. two _ _ (four _ _ _ _ one.0 test.0 turn.0 body.0) g, body.1)
  stmt_back (each_form e v b) r h =
      let one = expr_back e (word_terminal word.As ∷ variables_terminals v (sign_terminal signs.CloseParen ∷ body_terminals word.EndForeach b r)) h.1.1
      in let names = variables_back v (sign_terminal signs.CloseParen ∷ body_terminals word.EndForeach b r) one.1.1
      in let body = body_back word.EndForeach b r names.2.1
      in (λ ss g. two _ _ (four _ _ _ _ one.0 names.0 names.1 body.0) g, body.1)
  stmt_back break_form r h = (λ ss g. g, h.1.1)
  stmt_back continue_form r h = (λ ss g. g, h.1.1)
  stmt_back (return_form e) r h = let one = maybe_back e (sign_terminal signs.Semicolon ∷ r) h.1 in (λ ss g. two _ _ one.0 g, one.1.1)
  stmt_back (include_form k is t) r h = (λ ss g. g, h.1.1.1)
  stmt_back (include_parens_form k is t) r h = (λ ss g. g, h.1.1.1.1.1)
  stmt_back exit_form r h = (λ ss g. g, h.1.1)
  stmt_back (exit_parens_form nothing_form) r h = (λ ss g. g, h.1.1.1.1)
  stmt_back (exit_parens_form (something_form e)) r h = let one = expr_back e (sign_terminal signs.CloseParen ∷ sign_terminal signs.Semicolon ∷ r) h.1.1 in (λ ss g. two _ _ (printed_spells (expr_tree e) one.0) g, one.1.1.1)

  pub stmts_back : (fs : StmtsForm) (r : List Terminal) → EachTerminal (stmts_terminals fs r) → Behind (stmts_trees fs) × EachTerminal r
  stmts_back no_stmts_form r h = (λ ss g. g, h)
  stmts_back (more_stmts_form f fs) r h = let one = stmt_back f (stmts_terminals fs r) h in let next = stmts_back fs r one.1 in (λ ss g. one.0 (stmts_trees fs ss) (next.0 ss g), next.1)

  arms_back : (a : ArmsForm) (r : List Terminal) → EachTerminal (arms_terminals a r) → And (arms_spellable (arms_tree a)) r
  arms_back no_arms_form r h = (refl, h)
  arms_back (elseif_form e s a) r h =
      let one = condition_back e (stmt_terminals s (arms_terminals a r)) h.1 in let next = stmt_back s (arms_terminals a r) one.1 in let more = arms_back a r next.1
      in (three _ _ _ one.0 (next.0 no_stmts none_spell) more.0, more.1)
  arms_back (else_if_form e s a) r h =
      let one = condition_back e (stmt_terminals s (arms_terminals a r)) h.1.1 in let next = stmt_back s (arms_terminals a r) one.1 in let more = arms_back a r next.1
      in (three _ _ _ one.0 (next.0 no_stmts none_spell) more.0, more.1)

  else_back : (l : ElseForm) (r : List Terminal) → EachTerminal (else_terminals l r) → And (stmts_spellable (else_tree l)) r
  else_back no_else_form r h = (refl, h)
  else_back (else_form s) r h = let one = stmt_back s r h.1 in (one.0 no_stmts none_spell, one.1)

  colon_arms_back : (a : ColonArmsForm) (r : List Terminal) → EachTerminal (colon_arms_terminals a r) → And (arms_spellable (colon_arms_tree a)) r
  colon_arms_back no_colon_arms r h = (refl, h)
  colon_arms_back (colon_arm e fs a) r h =
      let one = condition_back e (sign_terminal signs.Colon ∷ stmts_terminals fs (colon_arms_terminals a r)) h.1 in let next = stmts_back fs (colon_arms_terminals a r) one.1.1 in let more = colon_arms_back a r next.1
      in (three _ _ _ one.0 (next.0 no_stmts none_spell) more.0, more.1)

  colon_else_back : (l : ColonElseForm) (r : List Terminal) → EachTerminal (colon_else_terminals l r) → And (stmts_spellable (colon_else_tree l)) r
  colon_else_back no_colon_else r h = (refl, h)
  colon_else_back (colon_else fs) r h = let one = stmts_back fs r h.1.1 in (one.0 no_stmts none_spell, one.1)

  body_back : (k : Keyword) (b : BodyForm) (r : List Terminal) → EachTerminal (body_terminals k b r) → And (stmts_spellable (body_tree b)) r
  body_back k (stmt_body s) r h = let one = stmt_back s r h in (one.0 no_stmts none_spell, one.1)
  body_back k (colon_body fs) r h = let one = stmts_back fs (word_terminal k ∷ sign_terminal signs.Semicolon ∷ r) h.1 in (one.0 no_stmts none_spell, one.1.1.1)

literal_back : (l : LiteralForm) (r : List Terminal) → EachTerminal (literal_terminals l r) → And (is_literal (literal_tree l)) r
literal_back (int_literal z) r h = (h.0, h.1)
literal_back (negated_literal z) r h = (h.1.0, h.1.1)
literal_back (text_literal t) r h = (refl, h.1)
literal_back true_literal r h = (refl, h.1)
literal_back false_literal r h = (refl, h.1)
literal_back null_literal r h = (refl, h.1)

param_back : (p : ParamForm) (r : List Terminal) → EachTerminal (param_terminals p r) → (is_name (param_tree p).name_of ≡ true) × (is_default (param_tree p).default_of ≡ true) × EachTerminal r
param_back (param_form x) r h = (name_of x h.0, refl, h.1)
param_back (default_form x l) r h = let one = literal_back l r h.1.1 in (name_of x h.0, one.0, one.1)

more_params_back : (ps : List ParamForm) (r : List Terminal) → EachTerminal (more_params_terminals ps r) → And (params_spellable (params_trees ps)) r
more_params_back [] r h = (refl, h)
more_params_back (p ∷ ps) r h = let one = param_back p (more_params_terminals ps r) h.1 in let next = more_params_back ps r one.2 in (three _ _ _ one.0 one.1 next.0, next.1)

params_back : (ps : List ParamForm) (r : List Terminal) → EachTerminal (params_terminals ps r) → And (params_spellable (params_trees ps)) r
params_back [] r h = (refl, h)
params_back (p ∷ ps) r h = let one = param_back p (more_params_terminals ps r) h in let next = more_params_back ps r one.2 in (three _ _ _ one.0 one.1 next.0, next.1)

-- a function
function_back : (f : FunctionForm) (r : List Terminal) → EachTerminal (function_terminals f r)
    → (is_call_name (function_tree f).name_of ≡ true) × (params_spellable (function_tree f).params_of ≡ true) × (stmts_spellable (function_tree f).body_of ≡ true) × EachTerminal r
function_back (function_form f ps fs) r h =
    let one = params_back ps (sign_terminal signs.CloseParen ∷ sign_terminal signs.OpenBrace ∷ stmts_terminals fs (sign_terminal signs.CloseBrace ∷ r)) h.1.1.1
    in let next = stmts_back fs (sign_terminal signs.CloseBrace ∷ r) one.1.1.1
    in (lower_call_name f h.1.0.0 h.1.0.1, one.0, next.0 no_stmts none_spell, next.1.1)

-- a file
file_back : (f : FileForm) → EachTerminal (file_terminals f) → (stmts_spellable (file_stmts f) ≡ true) × (functions_spellable (file_functions f) ≡ true)
file_back end_of_file h = (none_spell, refl)
file_back (function_part f p) h =
    let one = function_back f (file_terminals p) h in let next = file_back p one.3
    in (next.0, four _ _ _ _ one.0 one.1 one.2 next.1)
file_back (stmt_part s p) h =
    let one = stmt_back s (file_terminals p) h in let next = file_back p one.1
    in (one.0 (file_stmts p) next.0, next.1)

spelled_back : (t : PlainFile) (f : FileForm) → (stmts_spellable (file_stmts f) ≡ true) × (functions_spellable (file_functions f) ≡ true) → file_tree f ≡ t → is_spellable t ≡ true
spelled_back t f both is = let P : PlainFile → Type 0 = λ x. is_spellable x ≡ true in subst P is (and_true (stmts_spellable (file_stmts f)) (functions_spellable (file_functions f)) both.0 both.1)

-- a tree that some file spells is spellable
pub spelled_is_spellable : (file : List ℕ) (tokens : List PlainToken) (t : PlainFile) → Cuts file tokens → SpellsTree tokens t → is_spellable t ≡ true
spelled_is_spellable file tokens t cuts spells =
    let P : List Terminal → Type 0 = EachTerminal
    in spelled_back t spells.form (file_back spells.form (subst P (sym spells.spelled) (each_terminal tokens (each_kind cuts)))) spells.made
