-- Expressions, statements and calls with more units come to the same.
use Rattle.std.proofs.Common.{◌≡◌, ◌≢◌, ℕ, zero, suc, ◌+◌, List, [], refl, sym, ap, subst, arith}
use Rattle.std.specs.Prelude.{Option, Some, None}
use Rattle.php_syntax.specs.Trees.{PlainExpr, null_expr, flag_expr, int_expr, text_expr, var_expr, super_expr, member_expr, array_expr, join_expr, neg_expr, not_expr, arith_expr, compare_expr, and_expr, or_expr, coalesce_expr, choice_expr, isset_expr, empty_expr, assign_expr, update_expr, step_expr, call_expr, MaybeExpr, no_expr, some_expr, PlainExprs, no_exprs, more_exprs, PlainItems, no_items, more_items, PlainPath, no_keys, more_keys, PlainStmt, inline_stmt, echo_stmt, run_stmt, if_stmt, while_stmt, do_while_stmt, for_stmt, each_stmt, break_stmt, continue_stmt, return_stmt, include_stmt, quit_stmt, PlainStmts, no_stmts, more_stmts, PlainArms, no_arms, more_arms, PlainFunction}
use Rattle.plain_values.specs.Plain.{Plain, array, empty}
use Rattle.plain_values.specs.Text.{text_of, truth}
use Rattle.plain_values.specs.Walks.{is_null, walked}
use Rattle.plain_values.specs.Joins.{join_of}
use Rattle.plain_values.specs.Arithmetic.{negation_of}
use Rattle.plain_values.specs.Paths.{subscript_of, path_of, add_item}
use Rattle.builtin_meaning.specs.declared.builtin.Builtin.{Builtin}
use Rattle.builtin_meaning.specs.Names.{builtin_named}
use Rattle.builtin_meaning.specs.Values.{builtin_value}
use Rattle.script_meaning.specs.Requests.{PlainRequest}
use Rattle.script_meaning.specs.Runs.{State, Run, Going, Over, Ended, Faulted, Spent, Deep, value_in, printing}
use Rattle.script_meaning.specs.Programs.{PlainProgram, function_named, arguments_of}
use Rattle.script_meaning.specs.Expressions.{Environment, arithmetic, comparison, stepped, assigned, value, values, maybe_value, items_in, subscripts}
use Rattle.script_meaning.specs.Statements.{Flow, condition, for_condition, nothing, loop, echo, statement, statements, arms_in}
use Rattle.script_meaning.specs.Meaning.{call_one, builtin_or, run_body, call_within, outcome_of, meaning}
use Rattle.script_meaning.proofs.Later.{After, Begins, later_itself, begins_itself, after_then, after_result, after_variable, after_printing, after_if, after_later}
use Rattle.script_meaning.proofs.LaterParts.{after_update, after_next, after_turn, after_turns, after_walk, after_nothing, after_exit}
use Rattle.script_meaning.proofs.LaterRuns.{CallsGoOn, after_value, after_values, after_maybe, after_items, after_subscripts, after_condition, after_for_condition, after_echo, after_statements, after_arms, after_body, calls_go_on}
use Rattle.script_meaning.proofs.More.{raise, Prints, More, more_then, more_result, more_if, more_unit, more_update, more_next, more_turn, Parts, more_turns, more_walk, more_exit}

-- the calls of a world with d more units come to the same
abbrev pub CallsAgree : ℕ → Environment → Type 0
CallsAgree d w = (name : List ℕ) (args : List Plain) (s : State) → More d (w.call name args s) (w.call name args (raise d s))

mutual
  unfolding value

  pub more_value : (d : ℕ) (w : Environment) → CallsGoOn w → CallsAgree d w → (e : PlainExpr) (s : State) → More d (value w e s) (value w e (raise d s))
  more_value d w g h null_expr s = refl
  more_value d w g h (flag_expr b) s = refl
  more_value d w g h (int_expr z) s = refl
  more_value d w g h (text_expr t) s = refl
  more_value d w g h (var_expr x) s = refl
  more_value d w g h (super_expr name) s = refl
  more_value d w g h (member_expr a k) s =
      more_then d _ _ _ _ (more_value d w g h a s) (λ v t. more_then d _ _ _ _ (more_value d w g h k t) (λ k u. more_result d (subscript_of v k) u) (λ k u. after_result (subscript_of v k) u)) (λ v t. after_then t _ _ (after_value w g k t) λ k u. after_result (subscript_of v k) u)
  more_value d w g h (array_expr items) s = more_in_items d w g h items (array empty) s
  more_value d w g h (join_expr parts) s = more_then d _ _ _ _ (more_values d w g h parts s) (λ vs t. more_result d (join_of vs) t) (λ vs t. after_result (join_of vs) t)
  more_value d w g h (neg_expr a) s = more_then d _ _ _ _ (more_value d w g h a s) (λ v t. more_result d (negation_of v) t) (λ v t. after_result (negation_of v) t)
  more_value d w g h (not_expr a) s = more_then d _ _ _ _ (more_value d w g h a s) (λ v t. refl) (λ v t. later_itself t)
  more_value d w g h (arith_expr sign a b) s =
      more_then d _ _ _ _ (more_value d w g h a s) (λ x t. more_then d _ _ _ _ (more_value d w g h b t) (λ y u. more_result d (arithmetic sign x y) u) (λ y u. after_result (arithmetic sign x y) u)) (λ x t. after_then t _ _ (after_value w g b t) λ y u. after_result (arithmetic sign x y) u)
  more_value d w g h (compare_expr sign a b) s =
      more_then d _ _ _ _ (more_value d w g h a s) (λ x t. more_then d _ _ _ _ (more_value d w g h b t) (λ y u. more_then d _ _ _ _ (more_result d (comparison sign x y) u) (λ answer o. refl) (λ answer o. later_itself o)) (λ y u. after_then u _ _ (after_result (comparison sign x y) u) λ answer o. later_itself o)) (λ x t. after_then t _ _ (after_value w g b t) λ y u. after_then u _ _ (after_result (comparison sign x y) u) λ answer o. later_itself o)
  more_value d w g h (and_expr a b) s =
      more_then d _ _ _ _ (more_value d w g h a s) (λ v t. more_if d (truth v) _ _ _ _ (more_then d _ _ _ _ (more_value d w g h b t) (λ x u. refl) (λ x u. later_itself u)) refl) (λ v t. after_if t (truth v) _ _ (after_then t _ _ (after_value w g b t) λ x u. later_itself u) (later_itself t))
  more_value d w g h (or_expr a b) s =
      more_then d _ _ _ _ (more_value d w g h a s) (λ v t. more_if d (truth v) _ _ _ _ refl (more_then d _ _ _ _ (more_value d w g h b t) (λ x u. refl) (λ x u. later_itself u))) (λ v t. after_if t (truth v) _ _ (later_itself t) (after_then t _ _ (after_value w g b t) λ x u. later_itself u))
  more_value d w g h (coalesce_expr a b) s =
      more_then d _ _ _ _ (more_value d w g h a s) (λ v t. more_if d (is_null v) _ _ _ _ (more_value d w g h b t) refl) (λ v t. after_if t (is_null v) _ _ (after_value w g b t) (later_itself t))
  more_value d w g h (choice_expr c no_expr b) s =
      more_then d _ _ _ _ (more_value d w g h c s) (λ v t. more_if d (truth v) _ _ _ _ refl (more_value d w g h b t)) (λ v t. after_if t (truth v) _ _ (later_itself t) (after_value w g b t))
  more_value d w g h (choice_expr c (some_expr a) b) s =
      more_then d _ _ _ _ (more_value d w g h c s) (λ v t. more_if d (truth v) _ _ _ _ (more_value d w g h a t) (more_value d w g h b t)) (λ v t. after_if t (truth v) _ _ (after_value w g a t) (after_value w g b t))
  more_value d w g h (isset_expr parts) s = more_then d _ _ _ _ (more_values d w g h parts s) (λ vs t. refl) (λ vs t. later_itself t)
  more_value d w g h (empty_expr a) s = more_then d _ _ _ _ (more_value d w g h a s) (λ v t. refl) (λ v t. later_itself t)
  more_value d w g h (assign_expr x path e) s =
      more_then d _ _ _ _ (more_subscripts d w g h path s) (λ ks t. more_then d _ _ _ _ (more_value d w g h e t) (λ new u. more_then d _ _ _ _ (more_result d (assigned ks new (value_in u.variables x)) u) (λ whole o. refl) (λ whole o. after_variable o x whole)) (λ new u. after_then u _ _ (after_result (assigned ks new (value_in u.variables x)) u) λ whole o. after_variable o x whole)) (λ ks t. after_then t _ _ (after_value w g e t) λ new u. after_then u _ _ (after_result (assigned ks new (value_in u.variables x)) u) λ whole o. after_variable o x whole)
  more_value d w g h (update_expr sign x path e) s =
      more_then d _ _ _ _ (more_subscripts d w g h path s) (λ ks t. more_then d _ _ _ _ (more_result d (path_of ks) t) (λ steps u. more_update d sign x steps _ _ (more_value d w g h e) (after_value w g e) u) (λ steps u. after_update sign x steps _ (after_value w g e) u)) (λ ks t. after_then t _ _ (after_result (path_of ks) t) λ steps u. after_update sign x steps _ (after_value w g e) u)
  more_value d w g h (step_expr x up before) s = more_then d _ _ _ _ (more_result d (stepped up (value_in s.variables x)) s) (λ new t. refl) (λ new t. after_variable t x new)
  more_value d w g h (call_expr name args) s = more_then d _ _ _ _ (more_values d w g h args s) (λ vs t. h name vs t) (λ vs t. g name vs t)

  pub more_values : (d : ℕ) (w : Environment) → CallsGoOn w → CallsAgree d w → (es : PlainExprs) (s : State) → More d (values w es s) (values w es (raise d s))
  more_values d w g h no_exprs s = refl
  more_values d w g h (more_exprs e es) s =
      more_then d _ _ _ _ (more_value d w g h e s) (λ v t. more_then d _ _ _ _ (more_values d w g h es t) (λ vs u. refl) (λ vs u. later_itself u)) (λ v t. after_then t _ _ (after_values w g es t) λ vs u. later_itself u)

  pub more_maybe : (d : ℕ) (w : Environment) → CallsGoOn w → CallsAgree d w → (m : MaybeExpr) (s : State) → More d (maybe_value w m s) (maybe_value w m (raise d s))
  more_maybe d w g h no_expr s = refl
  more_maybe d w g h (some_expr e) s = more_then d _ _ _ _ (more_value d w g h e s) (λ v t. refl) (λ v t. later_itself t)

  pub more_in_items : (d : ℕ) (w : Environment) → CallsGoOn w → CallsAgree d w → (is : PlainItems) (made : Plain) (s : State) → More d (items_in w is made s) (items_in w is made (raise d s))
  more_in_items d w g h no_items made s = refl
  more_in_items d w g h (more_items k e is) made s =
      more_then d _ _ _ _ (more_maybe d w g h k s) (λ key t. more_then d _ _ _ _ (more_value d w g h e t) (λ new u. more_then d _ _ _ _ (more_result d (add_item made key new) u) (λ made o. more_in_items d w g h is made o) (λ made o. after_items w g is made o)) (λ new u. after_then u _ _ (after_result (add_item made key new) u) λ made o. after_items w g is made o)) (λ key t. after_then t _ _ (after_value w g e t) λ new u. after_then u _ _ (after_result (add_item made key new) u) λ made o. after_items w g is made o)

  pub more_subscripts : (d : ℕ) (w : Environment) → CallsGoOn w → CallsAgree d w → (ks : PlainPath) (s : State) → More d (subscripts w ks s) (subscripts w ks (raise d s))
  more_subscripts d w g h no_keys s = refl
  more_subscripts d w g h (more_keys k ks) s =
      more_then d _ _ _ _ (more_maybe d w g h k s) (λ v t. more_then d _ _ _ _ (more_subscripts d w g h ks t) (λ vs u. refl) (λ vs u. later_itself u)) (λ v t. after_then t _ _ (after_subscripts w g ks t) λ vs u. later_itself u)

pub more_condition : (d : ℕ) (w : Environment) → CallsGoOn w → CallsAgree d w → (e : PlainExpr) (s : State) → More d (condition w e s) (condition w e (raise d s))
unfolding condition
more_condition d w g h e s = more_then d _ _ _ _ (more_value d w g h e s) (λ v t. refl) (λ v t. later_itself t)

pub more_for_condition : (d : ℕ) (w : Environment) → CallsGoOn w → CallsAgree d w → (e : MaybeExpr) (s : State) → More d (for_condition w e s) (for_condition w e (raise d s))
unfolding for_condition
more_for_condition d w g h no_expr s = refl
more_for_condition d w g h (some_expr e) s = more_condition d w g h e s

more_nothing : (d : ℕ) (s : State) → More d (nothing s) (nothing (raise d s))
unfolding nothing
more_nothing d s = refl

pub more_echo : (d : ℕ) (w : Environment) → CallsGoOn w → CallsAgree d w → (es : PlainExprs) (s : State) → More d (echo w es s) (echo w es (raise d s))
unfolding echo
more_echo d w g h no_exprs s = refl
more_echo d w g h (more_exprs e es) s =
    more_then d _ _ _ _ (more_value d w g h e s) (λ v t. more_echo d w g h es (printing (text_of v) t)) (λ v t. after_later t _ _ (after_printing (text_of v) t) (after_echo w g es (printing (text_of v) t)))

while_parts : (d : ℕ) (w : Environment) → CallsGoOn w → CallsAgree d w → (e : PlainExpr) (body : PlainStmts) → ((t : State) → More d (statements w body t) (statements w body (raise d t))) → Parts d (condition w e) (condition w e) (statements w body) (statements w body) nothing nothing
while_parts d w g h e body hb = record { tests = more_condition d w g h e; bodies = hb; nexts = more_nothing d; after_test = after_condition w g e; after_body = after_statements w g body; after_next = after_nothing }

for_parts : (d : ℕ) (w : Environment) → CallsGoOn w → CallsAgree d w → (e : MaybeExpr) (next : PlainExprs) (body : PlainStmts) → ((t : State) → More d (statements w body t) (statements w body (raise d t))) → Parts d (for_condition w e) (for_condition w e) (statements w body) (statements w body) (values w next) (values w next)
for_parts d w g h e next body hb = record { tests = more_for_condition d w g h e; bodies = hb; nexts = more_values d w g h next; after_test = after_for_condition w g e; after_body = after_statements w g body; after_next = after_values w g next }

mutual
  unfolding statement loop

  pub more_statement : (d : ℕ) (w : Environment) → CallsGoOn w → CallsAgree d w → (st : PlainStmt) (s : State) → More d (statement w st s) (statement w st (raise d s))
  more_statement d w g h (inline_stmt bytes) s = more_unit d s _ _ (λ t. refl) (λ t. after_printing bytes t)
  more_statement d w g h (echo_stmt es) s = more_unit d s _ _ (λ t. more_echo d w g h es t) (λ t. after_echo w g es t)
  more_statement d w g h (run_stmt e) s = more_unit d s _ _ (λ t. more_then d _ _ _ _ (more_value d w g h e t) (λ v u. refl) (λ v u. later_itself u)) (λ t. after_then t _ _ (after_value w g e t) λ v u. later_itself u)
  more_statement d w g h (if_stmt arms otherwise) s =
      more_unit d s _ _ (λ t. more_in_arms d w g h arms _ (more_statements d w g h otherwise) (after_statements w g otherwise) t) (λ t. after_arms w g arms _ (after_statements w g otherwise) t)
  more_statement d w g h (while_stmt e body) s =
      more_unit d s _ _ (λ t. more_turns d t.left (t.left + d) (omega arith) _ _ _ _ _ _ (while_parts d w g h e body (more_statements d w g h body)) t) (λ t. after_turns t.left _ _ _ (after_condition w g e) (after_statements w g body) after_nothing t)
  more_statement d w g h (do_while_stmt body e) s =
      more_unit d s _ _ (λ t. more_turn d _ _ t _ _ (more_statements d w g h body) (λ u. more_turns d u.left (u.left + d) (omega arith) _ _ _ _ _ _ (while_parts d w g h e body (more_statements d w g h body)) u) (after_statements w g body) (λ u. after_turns u.left _ _ _ (after_condition w g e) (after_statements w g body) after_nothing u)) (λ t. after_turn _ t _ (after_statements w g body) λ u. after_turns u.left _ _ _ (after_condition w g e) (after_statements w g body) after_nothing u)
  more_statement d w g h (for_stmt begin e next body) s =
      more_unit d s _ _ (λ t. more_then d _ _ _ _ (more_values d w g h begin t) (λ vs u. more_turns d u.left (u.left + d) (omega arith) _ _ _ _ _ _ (for_parts d w g h e next body (more_statements d w g h body)) u) (λ vs u. after_turns u.left _ _ _ (after_for_condition w g e) (after_statements w g body) (after_values w g next) u)) (λ t. after_then t _ _ (after_values w g begin t) λ vs u. after_turns u.left _ _ _ (after_for_condition w g e) (after_statements w g body) (after_values w g next) u)
  more_statement d w g h (each_stmt e key x body) s =
      more_unit d s _ _ (λ t. more_then d _ _ _ _ (more_value d w g h e t) (λ v u. more_walk d (walked v) key x _ _ (more_statements d w g h body) (after_statements w g body) u) (λ v u. after_walk (walked v) key x _ (after_statements w g body) u)) (λ t. after_then t _ _ (after_value w g e t) λ v u. after_walk (walked v) key x _ (after_statements w g body) u)
  more_statement d w g h break_stmt s = more_unit d s _ _ (λ t. refl) (λ t. later_itself t)
  more_statement d w g h continue_stmt s = more_unit d s _ _ (λ t. refl) (λ t. later_itself t)
  more_statement d w g h (return_stmt e) s = more_unit d s _ _ (λ t. more_then d _ _ _ _ (more_maybe d w g h e t) (λ v u. refl) (λ v u. later_itself u)) (λ t. after_then t _ _ (after_maybe w g e t) λ v u. later_itself u)
  more_statement d w g h (quit_stmt e) s = more_unit d s _ _ (λ t. more_then d _ _ _ _ (more_maybe d w g h e t) (λ v u. more_exit d v u) (λ v u. after_exit v u)) (λ t. after_then t _ _ (after_maybe w g e t) λ v u. after_exit v u)
  more_statement d w g h (include_stmt path) s = refl

  pub more_statements : (d : ℕ) (w : Environment) → CallsGoOn w → CallsAgree d w → (ss : PlainStmts) (s : State) → More d (statements w ss s) (statements w ss (raise d s))
  more_statements d w g h no_stmts s = refl
  more_statements d w g h (more_stmts st ss) s =
      more_then d _ _ _ _ (more_statement d w g h st s) (λ flow t. more_next d flow t _ _ (more_statements d w g h ss t)) (λ flow t. after_next flow t _ (after_statements w g ss t))

  pub more_in_arms : (d : ℕ) (w : Environment) → CallsGoOn w → CallsAgree d w → (arms : PlainArms) (otherwise : State → Run Flow) → ((t : State) → More d (otherwise t) (otherwise (raise d t))) → ((t : State) → After t (otherwise t)) → (s : State) → More d (arms_in w arms otherwise s) (arms_in w arms otherwise (raise d s))
  more_in_arms d w g h no_arms otherwise ho ao s = ho s
  more_in_arms d w g h (more_arms e body arms) otherwise ho ao s =
      more_then d _ _ _ _ (more_condition d w g h e s) (λ holds t. more_if d holds _ _ _ _ (more_statements d w g h body t) (more_in_arms d w g h arms otherwise ho ao t)) (λ holds t. after_if t holds _ _ (after_statements w g body t) (after_arms w g arms otherwise ao t))

more_body : (d : ℕ) (w : Environment) → CallsGoOn w → CallsAgree d w → (f : PlainFunction) (args : List Plain) (s : State) → More d (run_body w f args s) (run_body w f args (raise d s))
unfolding run_body
more_body d w g h f args s =
    more_then d _ _ _ _ (more_statements d w g h f.body_of (record s { variables = arguments_of f.params_of args })) (λ flow u. refl) (λ flow u. record { left = omega arith; printed = begins_itself u.printed })

more_call_one : (d : ℕ) (f : Option PlainFunction) (enter : PlainFunction → State → Run Plain) → ((g : PlainFunction) (t : State) → More d (enter g t) (enter g (raise d t))) → ((g : PlainFunction) (t : State) → After t (enter g t)) → (s : State) → More d (call_one f enter s) (call_one f enter (raise d s))
unfolding call_one
more_call_one d None enter h a s = refl
more_call_one d (Some f) enter h a s = more_unit d s _ _ (h f) (a f)

more_builtin : (d : ℕ) (f : Option Builtin) (args : List Plain) (own : State → Run Plain) → ((t : State) → More d (own t) (own (raise d t))) → (s : State) → More d (builtin_or f args own s) (builtin_or f args own (raise d s))
unfolding builtin_or
more_builtin d None args own h s = h s
more_builtin d (Some f) args own h s = more_result d (builtin_value f args) s

pub calls_agree : (d : ℕ) (r : PlainRequest) (fs : List PlainFunction) (room : ℕ) → CallsAgree d (record { request = r; call = call_within r fs room })
unfolding call_within
calls_agree d r fs zero name args s = more_builtin d (builtin_named name) args _ (more_call_one d (function_named fs name) _ (λ f t. refl) (λ f t. begins_itself t.printed)) s
calls_agree d r fs (suc room) name args s =
    more_builtin d (builtin_named name) args _ (more_call_one d (function_named fs name) _ (λ f t. more_body d _ (calls_go_on r fs room) (calls_agree d r fs room) f args t) (λ f t. after_body _ (calls_go_on r fs room) f args t)) s

same_outcome : (d : ℕ) (r r' : Run Flow) → More d r r' → (outcome_of r).end ≢ Spent → outcome_of r' ≡ outcome_of r
unfolding outcome_of
same_outcome d (Going flow s) r' e h = ap outcome_of e
same_outcome d (Over Ended printed) r' e h = ap outcome_of e
same_outcome d (Over (Faulted fault) printed) r' e h = ap outcome_of e
same_outcome d (Over Spent printed) r' e h = absurd (h refl)
same_outcome d (Over Deep printed) r' e h = ap outcome_of e

prints_outcome : (front : List ℕ) (r : Run Flow) → Prints front r → Begins (outcome_of r).printed front
unfolding outcome_of
prints_outcome front (Going flow s) p = p
prints_outcome front (Over end printed) p = p

longer_outcome : (d : ℕ) (r r' : Run Flow) → More d r r' → Begins (outcome_of r').printed (outcome_of r).printed
unfolding outcome_of
longer_outcome d (Going flow s) r' e = subst (λ x. Begins (outcome_of x).printed s.printed) (sym e) (begins_itself s.printed)
longer_outcome d (Over Ended printed) r' e = subst (λ x. Begins (outcome_of x).printed printed) (sym e) (begins_itself printed)
longer_outcome d (Over (Faulted fault) printed) r' e = subst (λ x. Begins (outcome_of x).printed printed) (sym e) (begins_itself printed)
longer_outcome d (Over Spent printed) r' e = prints_outcome printed r' e
longer_outcome d (Over Deep printed) r' e = subst (λ x. Begins (outcome_of x).printed printed) (sym e) (begins_itself printed)

pub same_meaning : (program : PlainProgram) (r : PlainRequest) (n d : ℕ) → (meaning program r n).end ≢ Spent → meaning program r (n + d) ≡ meaning program r n
unfolding meaning
same_meaning program r n d h = same_outcome d _ _ (more_statements d _ (calls_go_on r program.functions_of 256) (calls_agree d r program.functions_of 256) program.main_of (record { left = n; variables = []; printed = [] })) h

pub longer_meaning : (program : PlainProgram) (r : PlainRequest) (n d : ℕ) → Begins (meaning program r (n + d)).printed (meaning program r n).printed
unfolding meaning
longer_meaning program r n d = longer_outcome d _ _ (more_statements d _ (calls_go_on r program.functions_of 256) (calls_agree d r program.functions_of 256) program.main_of (record { left = n; variables = []; printed = [] }))
