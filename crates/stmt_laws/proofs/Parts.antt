-- Parameters before the body of a function, and the parts of a file.
use Rattle.std.proofs.Common.{◌∙◌, ℕ, List, [], ◌∷◌, refl, ap}
use Rattle.std.proofs.lemmas.Bool.{and_from}
use Rattle.php_syntax.specs.declared.token.Sign.TheVariants as sign
use Rattle.script_grammar.specs.declared.keyword.Keyword.TheVariants as word
use Rattle.script_grammar.specs.Terminals.{Terminal, word_terminal, name_terminal, sign_terminal}
use Rattle.script_grammar.specs.Statements.{stmt_terminals, stmts_terminals, ParamForm, param_terminals, param_tree, params_terminals, function_form, end_of_file, function_part, stmt_part}
use Rattle.stmt_machine.specs.Actions.{StmtAction, function_action, function_body_action, function_end_action}
use Rattle.stmt_machine.specs.Postfix.{stmt_actions, stmts_actions, param_actions, params_actions}
use Rattle.stmt_laws.proofs.Shapes.{Rest, here}
use Rattle.stmt_laws.proofs.Stands.{Begun, FunctionRest, parameters_then, brace_then, ParamsRest, MoreParamsRest, ParamRest, FileRest}

pub no_params : {k : Rest} (r : List Terminal) (bs : List StmtAction) → FunctionRest k r bs → ParamsRest k (sign_terminal sign.CloseParen ∷ sign_terminal sign.OpenBrace ∷ r) (function_body_action ∷ bs)
no_params r bs q = here [] r bs tt q

pub params_end : {k : Rest} (r : List Terminal) (bs : List StmtAction) → FunctionRest k r bs → MoreParamsRest k (sign_terminal sign.CloseParen ∷ sign_terminal sign.OpenBrace ∷ r) (function_body_action ∷ bs)
params_end r bs q = here [] r bs tt q

pub param_read : {k : Rest} (p : ParamForm) (r : List Terminal) (bs : List StmtAction) → MoreParamsRest k r bs → ParamRest k (param_terminals p r) (param_actions (param_tree p) bs)
param_read p r bs q = here p r bs tt q

pub first_param : {k : Rest} {r : List Terminal} {bs : List StmtAction} → ParamRest k r bs → ParamsRest k r bs
first_param {k = k} q =
    let s = q.goes_on in
    record {
      form = q.form ∷ s.form;
      left = s.left;
      later = s.later;
      reads = ap (param_terminals q.form) s.reads ∙ q.reads;
      does = ap (param_actions (param_tree q.form)) s.does ∙ q.does;
      holds = tt;
      goes_on = s.goes_on;
    }

pub next_param : {k : Rest} {r : List Terminal} {bs : List StmtAction} → ParamRest k r bs → MoreParamsRest k (sign_terminal sign.Comma ∷ r) bs
next_param {k = k} q =
    let s = q.goes_on in
    record {
      form = q.form ∷ s.form;
      left = s.left;
      later = s.later;
      reads = ap (λ r. sign_terminal sign.Comma ∷ r) (ap (param_terminals q.form) s.reads ∙ q.reads);
      does = ap (param_actions (param_tree q.form)) s.does ∙ q.does;
      holds = tt;
      goes_on = s.goes_on;
    }

pub file_end : FileRest [] []
file_end = record { form = end_of_file; reads = refl; holds = refl; does = refl }

pub stmt_part_read : {r : List Terminal} {bs : List StmtAction} → Begun FileRest r bs → FileRest r bs
stmt_part_read q =
    let p = q.goes_on in
    record {
      form = stmt_part q.form p.form;
      reads = ap (stmt_terminals q.form) p.reads ∙ q.reads;
      holds = and_from _ _ (q.holds).0 p.holds;
      does = ap (stmt_actions q.form) p.does ∙ q.does;
    }

pub function_part_read : (f : List ℕ) {r : List Terminal} {bs : List StmtAction} → ParamsRest FileRest r bs
    → FileRest (word_terminal word.Function ∷ name_terminal f ∷ sign_terminal sign.OpenParen ∷ r) (function_action f ∷ bs)
function_part_read f q =
    let s = q.goes_on in
    let p = s.goes_on in
    record {
      form = function_part (function_form f q.form s.form) p.form;
      reads = ap (λ r. word_terminal word.Function ∷ name_terminal f ∷ sign_terminal sign.OpenParen ∷ r)
          (ap (λ r. params_terminals q.form (parameters_then r)) (ap (λ r. stmts_terminals s.form (brace_then r)) p.reads ∙ s.reads) ∙ q.reads);
      holds = and_from _ _ s.holds p.holds;
      does = ap (λ bs. function_action f ∷ bs)
          (ap (λ bs. params_actions q.form (function_body_action ∷ bs)) (ap (λ bs. stmts_actions s.form (function_end_action ∷ bs)) p.does ∙ s.does) ∙ q.does);
    }
