-- States of what was made, and how values come onto them.
use Rattle.std.proofs.Common.{◌≡◌, ◌∙◌, ℕ, Bool, true, false, List, [], ◌∷◌, refl, ap, Some, None}
use Rattle.std.specs.Prelude.{Option, if◌then◌else◌}
use Rattle.script_grammar.specs.Expressions.{ExprForm, MoreExprsForm, no_more_exprs, one_more_expr, ListForm, empty_list, list_form, expr_tree, more_exprs_tree, list_tree}
use Rattle.script_grammar.specs.Statements.{MaybeForm, nothing_form, something_form, maybe_tree}
use Rattle.script_grammar.specs.Rules.{expr_fits, exprs_fit, maybe_fits}
use Rattle.php_syntax.specs.Trees.{MaybeExpr, no_expr, some_expr, PlainExprs, no_exprs, more_exprs, no_stmts, PlainParam}
use Rattle.expr_machine.specs.Actions.{Action}
use Rattle.expr_machine.specs.Postfix.{expr_actions}
use Rattle.expr_machine.specs.Values.{PlainValue, value_of_tree, execute}
use Rattle.stmt_machine.specs.Actions.{StmtAction, open_action}
use Rattle.stmt_machine.specs.Postfix.{value_actions, more_values_actions, list_values_actions, maybe_value_actions}
use Rattle.stmt_machine.specs.Made.{Row, PlainBody, Functions, Made, with_values, on_some, apply_stmt, execute_stmts}
use Rattle.expr_laws.proofs.Carry.{Goes, both, always}

-- what is known of expressions
abbrev pub Premise : Type 0
Premise = (e : ExprForm) (acts : List Action) (vs : List PlainValue)
    → execute (expr_actions e acts) vs ≡ (if expr_fits (expr_tree e) then execute acts (value_of_tree (expr_tree e) ∷ vs) else None)

-- what a run leaves, if it breaks no rule
abbrev pub Left : Type 0
Left = Option Made

abbrev pub Header : Type 0
Header = Option (List ℕ × List PlainParam)

abbrev pub body : Bool → Bool → Row → PlainBody
body l g r = record { in_loop = l; in_function = g; row = r }

abbrev pub made : List PlainValue → List PlainBody → Header → Functions → Made
made vs bs h fs = record { values = vs; bodies = bs; header = h; functions = fs }

-- a body without statements
abbrev pub empty : Row
empty = Some (no_stmts, 0)

value_then : (b : Bool) (v : PlainValue) (vs : List PlainValue) (m : Made) (k : List StmtAction)
    → on_some (on_some (if b then Some (v ∷ vs) else None) (λ vs. Some (with_values vs m))) (execute_stmts k) ≡ (if b then execute_stmts k (with_values (v ∷ vs) m) else None)
value_then true v vs m k = refl
value_then false v vs m k = refl

value_executed : Premise → (e : ExprForm) (vs : List PlainValue) → execute (expr_actions e []) vs ≡ (if expr_fits (expr_tree e) then Some (value_of_tree (expr_tree e) ∷ vs) else None)
unfolding execute
value_executed p e vs = p e [] vs

-- a value
pub value_done : Premise → (e : ExprForm) (k : List StmtAction) (vs : List PlainValue) (bs : List PlainBody) (h : Header) (fs : Functions)
    → Goes (execute_stmts (value_actions e k) (made vs bs h fs)) (expr_fits (expr_tree e)) (execute_stmts k (made (value_of_tree (expr_tree e) ∷ vs) bs h fs))
unfolding execute_stmts apply_stmt
value_done p e k vs bs h fs = record {
  is = ap (λ o. on_some (on_some o (λ vs. Some (with_values vs (made vs bs h fs)))) (execute_stmts k)) (value_executed p e vs)
      ∙ value_then (expr_fits (expr_tree e)) (value_of_tree (expr_tree e)) vs (made vs bs h fs) k;
}

-- the values of expressions on others, the first one first
abbrev pub pushed : PlainExprs → List PlainValue → List PlainValue
pushed no_exprs vs = vs
pushed (more_exprs e es) vs = pushed es (value_of_tree e ∷ vs)

pub more_values_done : Premise → (es : MoreExprsForm) (k : List StmtAction) (vs : List PlainValue) (bs : List PlainBody) (h : Header) (fs : Functions)
    → Goes (execute_stmts (more_values_actions es k) (made vs bs h fs)) (exprs_fit (more_exprs_tree es)) (execute_stmts k (made (pushed (more_exprs_tree es) vs) bs h fs))
unfolding expr_fits expr_tree
more_values_done p no_more_exprs k vs bs h fs = always refl
more_values_done p (one_more_expr e es) k vs bs h fs =
    both (value_done p e (more_values_actions es k) vs bs h fs) (more_values_done p es k (value_of_tree (expr_tree e) ∷ vs) bs h fs)

pub list_values_done : Premise → (es : ListForm) (k : List StmtAction) (vs : List PlainValue) (bs : List PlainBody) (h : Header) (fs : Functions)
    → Goes (execute_stmts (list_values_actions es k) (made vs bs h fs)) (exprs_fit (list_tree es)) (execute_stmts k (made (pushed (list_tree es) vs) bs h fs))
unfolding expr_fits expr_tree
list_values_done p empty_list k vs bs h fs = always refl
list_values_done p (list_form e es) k vs bs h fs =
    both (value_done p e (more_values_actions es k) vs bs h fs) (more_values_done p es k (value_of_tree (expr_tree e) ∷ vs) bs h fs)

abbrev pub maybe_pushed : MaybeExpr → List PlainValue → List PlainValue
maybe_pushed no_expr vs = vs
maybe_pushed (some_expr e) vs = value_of_tree e ∷ vs

pub maybe_value_done : Premise → (e : MaybeForm) (k : List StmtAction) (vs : List PlainValue) (bs : List PlainBody) (h : Header) (fs : Functions)
    → Goes (execute_stmts (maybe_value_actions e k) (made vs bs h fs)) (maybe_fits (maybe_tree e)) (execute_stmts k (made (maybe_pushed (maybe_tree e) vs) bs h fs))
unfolding expr_fits
maybe_value_done p nothing_form k vs bs h fs = always refl
maybe_value_done p (something_form e) k vs bs h fs = value_done p e k vs bs h fs

-- a body begins
pub open_done : (n l g : Bool) (r : Row) (k : List StmtAction) (vs : List PlainValue) (bs : List PlainBody) (h : Header) (fs : Functions)
    → execute_stmts (open_action n ∷ k) (made vs (body l g r ∷ bs) h fs) ≡ execute_stmts k (made vs (body (if n then true else l) g empty ∷ body l g r ∷ bs) h fs)
unfolding execute_stmts apply_stmt
open_done n l g r k vs bs h fs = refl
