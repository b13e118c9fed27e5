-- A lawful program fits.
use Rattle.std.proofs.Common.{◌≡◌, ◌≤◌, ◌^◌, ℕ, ℤ, pos, negsuc, neg_ℤ, zero, suc, List, [], ◌∷◌, ◌++◌, length, refl, sym, ap, ◌∙◌, subst, arith, Bool, true, false, ◌&&◌, Some, Ok, Err, Contains, nat_le, nat_lt, leb-true, lt-ltb, eqb-true}
use Rattle.std.specs.Prelude.{if◌then◌else◌}
use Rattle.std.specs.List.{AllByRecursion}
use Rattle.std.proofs.lemmas.List.Elements.{Contains-append_right}
use Rattle.php_syntax.specs.Trees.{PlainExpr, null_expr, flag_expr, int_expr, text_expr, var_expr, super_expr, member_expr, array_expr, join_expr, neg_expr, not_expr, arith_expr, compare_expr, and_expr, or_expr, coalesce_expr, choice_expr, isset_expr, empty_expr, assign_expr, update_expr, step_expr, call_expr, MaybeExpr, no_expr, some_expr, PlainExprs, no_exprs, more_exprs, PlainItems, no_items, more_items, PlainPath, no_keys, more_keys, PlainStmt, inline_stmt, echo_stmt, run_stmt, if_stmt, while_stmt, do_while_stmt, for_stmt, each_stmt, break_stmt, continue_stmt, return_stmt, include_stmt, quit_stmt, PlainStmts, no_stmts, more_stmts, PlainArms, no_arms, more_arms, PlainParam, PlainFunction}
use Rattle.plain_values.specs.Plain.{int}
use Rattle.plain_values.specs.Numeric.{is_in_range}
use Rattle.plain_values.specs.Arithmetic.{negation_of}
use Rattle.plain_values.specs.Outcome.{go_on}
use Rattle.plain_values.specs.declared.fault.Fault.TheVariants.{Float}
use Rattle.lexical_grammar.specs.Characters.{largest}
use Rattle.builtin_meaning.specs.declared.builtin.Builtin.{Builtin}
use Rattle.builtin_meaning.specs.Names.{builtin_named}
use Rattle.builtin_meaning.specs.Arity.{arity_of}
use Rattle.script_meaning.specs.Programs.{PlainProgram}
use Rattle.spellable.specs.Spellable.{is_name, is_call_name, is_integer, is_unsigned, is_maybe_name, is_some_arms, is_some_exprs, is_printed, are_parts, expr_spellable, maybe_spellable, exprs_spellable, items_spellable, path_spellable, stmt_spellable, stmts_spellable, arms_spellable, is_default, params_spellable, functions_spellable}
use Rattle.program_expressions.specs.Collected.{collected, key_collected, collected_of, bodies_collected, defaults_collected, functions_collected}
use Rattle.program_rules.specs.Calls.{PlainCall, own_call, calls_in, maybe_calls, part_calls, item_calls, path_calls, calls_of, statement_calls, arm_calls, function_calls, calls_of_program, number_of}
use Rattle.program_rules.specs.Rules.{serves_builtin, serves_call}
use Rattle.program_rules.specs.Lawful.{IsLawful}
use Rattle.flow_code.specs.Expressions.{number_of as slots_asked}
use Rattle.flow_runs.specs.Defaults.{IsDefault, AreDefaults, HaveDefaults}
use Rattle.flow_runs.specs.Fits.{CallFits, ExprFits, MaybeFits, ExprsFit, ItemsFit, PathFits, StmtFits, StmtsFit, ArmsFit, ParamsFit, FunctionsFit, ProgramFits}
use Rattle.flow_runs.specs.Texts.{own_text, texts_in, maybe_texts, part_texts, item_texts, path_texts, texts_of, statement_texts, arm_texts, param_texts, function_texts, TextsFit}

pub left : (a b : Bool) → (a && b) ≡ true → a ≡ true
left true b e = refl
left false b e = e

pub right : (a b : Bool) → (a && b) ≡ true → b ≡ true
right true b e = e
right false b e = absurd cc

front : {X : Type 0} (P : X → Type 0) (xs ys : List X) → AllByRecursion P (xs ++ ys) → AllByRecursion P xs
front P [] ys h = tt
front P (x ∷ xs) ys h = (h.0, front P xs ys h.1)

back : {X : Type 0} (P : X → Type 0) (xs ys : List X) → AllByRecursion P (xs ++ ys) → AllByRecursion P ys
back P [] ys h = h
back P (x ∷ xs) ys h = back P xs ys h.1

all_of : {X : Type 0} (P : X → Type 0) (xs : List X) → ((x : X) → Contains xs x → P x) → AllByRecursion P xs
all_of P [] h = tt
all_of P (x ∷ xs) h = (h x (0, omega arith, refl), all_of P xs (λ y c. h y (Contains-append_right (x ∷ []) xs y c)))

abbrev Serves : PlainCall → Type 0
Serves call = CallFits call.name_of call.arguments

abbrev Short : List ℕ → Type 0
Short t = length t ≤ 16777216

small_int : (n : ℕ) → n ≤ 9223372036854775807 → nat_lt n (2 ^ 63) ≡ true
small_int n h = lt-ltb n (2 ^ 63) (omega (arith, h))

int_fits : (z : ℤ) → is_integer z ≡ true → is_in_range z ≡ true
int_fits (pos n) h = small_int n (leb-true n largest h)
int_fits (negsuc n) h = let e = eqb-true n largest h in small_int n (omega (arith, e))

unsigned_fits : (z : ℤ) → is_unsigned z ≡ true → is_in_range z ≡ true
unsigned_fits (pos n) h = small_int n (leb-true n largest h)
unsigned_fits (negsuc n) h = absurd cc

negated_fits : (z : ℤ) → is_unsigned z ≡ true → is_in_range (neg_ℤ z) ≡ true
negated_fits (pos zero) h = refl
negated_fits (pos (suc n)) h = let le = leb-true (suc n) largest h in small_int n (omega (arith, le))
negated_fits (negsuc n) h = absurd cc

pub same_number : (es : PlainExprs) → slots_asked es ≡ number_of es
unfolding slots_asked number_of
same_number no_exprs = refl
same_number (more_exprs e es) = ap suc (same_number es)

built_in : (fs : List PlainFunction) (call : PlainCall) (b : Builtin) → builtin_named call.name_of ≡ Some b → serves_call fs call ≡ true → serves_builtin call.arguments b ≡ true
built_in fs call b e h = simp e at h

call_serves : (fs : List PlainFunction) (call : PlainCall) → serves_call fs call ≡ true → Serves call
call_serves fs call h b e =
    let k = built_in fs call b e h in
    (leb-true (arity_of b).0 call.arguments (left (nat_le (arity_of b).0 call.arguments) (nat_le call.arguments (arity_of b).1) k), leb-true call.arguments (arity_of b).1 (right (nat_le (arity_of b).0 call.arguments) (nat_le call.arguments (arity_of b).1) k))

abbrev Calls : List PlainCall → Type 0
Calls cs = AllByRecursion Serves cs

abbrev Texts : List (List ℕ) → Type 0
Texts ts = AllByRecursion Short ts

mutual
  unfolding ExprFits expr_spellable collected own_call own_text

  expr_fits : (e : PlainExpr) → expr_spellable e ≡ true → Calls (calls_in e) → Texts (texts_in e) → ExprFits e
  expr_fits null_expr s c t = tt
  expr_fits (flag_expr b) s c t = tt
  expr_fits (int_expr z) s c t = int_fits z s
  expr_fits (text_expr b) s c t = t.0
  expr_fits (var_expr x) s c t = tt
  expr_fits (super_expr name) s c t = tt
  expr_fits (member_expr a b) s c t = (expr_fits a (left (expr_spellable a) (expr_spellable b) s) (front Serves (calls_in a) (calls_in b) c) (front Short (texts_in a) (texts_in b) t), expr_fits b (right (expr_spellable a) (expr_spellable b) s) (back Serves (calls_in a) (calls_in b) c) (back Short (texts_in a) (texts_in b) t))
  expr_fits (array_expr items) s c t = items_fit items s c t
  expr_fits (join_expr parts) s c t = exprs_fit parts (right (are_parts parts) (exprs_spellable parts) s) c t
  expr_fits (neg_expr a) s c t = expr_fits a s c t
  expr_fits (not_expr a) s c t = expr_fits a s c t
  expr_fits (arith_expr sign a b) s c t = (expr_fits a (left (expr_spellable a) (expr_spellable b) s) (front Serves (calls_in a) (calls_in b) c) (front Short (texts_in a) (texts_in b) t), expr_fits b (right (expr_spellable a) (expr_spellable b) s) (back Serves (calls_in a) (calls_in b) c) (back Short (texts_in a) (texts_in b) t))
  expr_fits (compare_expr sign a b) s c t = (expr_fits a (left (expr_spellable a) (expr_spellable b) s) (front Serves (calls_in a) (calls_in b) c) (front Short (texts_in a) (texts_in b) t), expr_fits b (right (expr_spellable a) (expr_spellable b) s) (back Serves (calls_in a) (calls_in b) c) (back Short (texts_in a) (texts_in b) t))
  expr_fits (and_expr a b) s c t = (expr_fits a (left (expr_spellable a) (expr_spellable b) s) (front Serves (calls_in a) (calls_in b) c) (front Short (texts_in a) (texts_in b) t), expr_fits b (right (expr_spellable a) (expr_spellable b) s) (back Serves (calls_in a) (calls_in b) c) (back Short (texts_in a) (texts_in b) t))
  expr_fits (or_expr a b) s c t = (expr_fits a (left (expr_spellable a) (expr_spellable b) s) (front Serves (calls_in a) (calls_in b) c) (front Short (texts_in a) (texts_in b) t), expr_fits b (right (expr_spellable a) (expr_spellable b) s) (back Serves (calls_in a) (calls_in b) c) (back Short (texts_in a) (texts_in b) t))
  expr_fits (coalesce_expr a b) s c t = (expr_fits a (left (expr_spellable a) (expr_spellable b) s) (front Serves (calls_in a) (calls_in b) c) (front Short (texts_in a) (texts_in b) t), expr_fits b (right (expr_spellable a) (expr_spellable b) s) (back Serves (calls_in a) (calls_in b) c) (back Short (texts_in a) (texts_in b) t))
  expr_fits (choice_expr a m b) s c t =
      let s1 = right (expr_spellable a) (maybe_spellable m && expr_spellable b) s in
      let c1 = back Serves (calls_in a) (maybe_calls m ++ calls_in b) c in
      let t1 = back Short (texts_in a) (maybe_texts m ++ texts_in b) t in (
        expr_fits a (left (expr_spellable a) (maybe_spellable m && expr_spellable b) s) (front Serves (calls_in a) (maybe_calls m ++ calls_in b) c) (front Short (texts_in a) (maybe_texts m ++ texts_in b) t),
        maybe_fits m (left (maybe_spellable m) (expr_spellable b) s1) (front Serves (maybe_calls m) (calls_in b) c1) (front Short (maybe_texts m) (texts_in b) t1),
        expr_fits b (right (maybe_spellable m) (expr_spellable b) s1) (back Serves (maybe_calls m) (calls_in b) c1) (back Short (maybe_texts m) (texts_in b) t1),
      )
  expr_fits (isset_expr parts) s c t = exprs_fit parts (right (is_some_exprs parts) (exprs_spellable parts) s) c t
  expr_fits (empty_expr a) s c t = expr_fits a s c t
  expr_fits (assign_expr x path e) s c t =
      let s1 = right (is_name x) (path_spellable path && expr_spellable e) s in
      (path_fits path (left (path_spellable path) (expr_spellable e) s1) (front Serves (path_calls path) (calls_in e) c) (front Short (path_texts path) (texts_in e) t), expr_fits e (right (path_spellable path) (expr_spellable e) s1) (back Serves (path_calls path) (calls_in e) c) (back Short (path_texts path) (texts_in e) t))
  expr_fits (update_expr sign x path e) s c t =
      let s1 = right (is_name x) (path_spellable path && expr_spellable e) s in
      (path_fits path (left (path_spellable path) (expr_spellable e) s1) (front Serves (path_calls path) (calls_in e) c) (front Short (path_texts path) (texts_in e) t), expr_fits e (right (path_spellable path) (expr_spellable e) s1) (back Serves (path_calls path) (calls_in e) c) (back Short (path_texts path) (texts_in e) t))
  expr_fits (step_expr x up before) s c t = tt
  expr_fits (call_expr name args) s c t = (subst (CallFits name) (sym (same_number args)) c.0, exprs_fit args (right (is_call_name name) (exprs_spellable args) s) c.1 t)

  maybe_fits : (m : MaybeExpr) → maybe_spellable m ≡ true → Calls (maybe_calls m) → Texts (maybe_texts m) → MaybeFits m
  maybe_fits no_expr s c t = tt
  maybe_fits (some_expr e) s c t = expr_fits e s c t

  exprs_fit : (es : PlainExprs) → exprs_spellable es ≡ true → Calls (part_calls es) → Texts (part_texts es) → ExprsFit es
  exprs_fit no_exprs s c t = tt
  exprs_fit (more_exprs e es) s c t = (expr_fits e (left (expr_spellable e) (exprs_spellable es) s) (front Serves (calls_in e) (part_calls es) c) (front Short (texts_in e) (part_texts es) t), exprs_fit es (right (expr_spellable e) (exprs_spellable es) s) (back Serves (calls_in e) (part_calls es) c) (back Short (texts_in e) (part_texts es) t))

  items_fit : (is : PlainItems) → items_spellable is ≡ true → Calls (item_calls is) → Texts (item_texts is) → ItemsFit is
  items_fit no_items s c t = tt
  items_fit (more_items k e is) s c t =
      let s1 = right (maybe_spellable k) (expr_spellable e && items_spellable is) s in
      let c1 = back Serves (maybe_calls k) (calls_in e ++ item_calls is) c in
      let t1 = back Short (maybe_texts k) (texts_in e ++ item_texts is) t in (
        maybe_fits k (left (maybe_spellable k) (expr_spellable e && items_spellable is) s) (front Serves (maybe_calls k) (calls_in e ++ item_calls is) c) (front Short (maybe_texts k) (texts_in e ++ item_texts is) t),
        expr_fits e (left (expr_spellable e) (items_spellable is) s1) (front Serves (calls_in e) (item_calls is) c1) (front Short (texts_in e) (item_texts is) t1),
        items_fit is (right (expr_spellable e) (items_spellable is) s1) (back Serves (calls_in e) (item_calls is) c1) (back Short (texts_in e) (item_texts is) t1),
      )

  path_fits : (ks : PlainPath) → path_spellable ks ≡ true → Calls (path_calls ks) → Texts (path_texts ks) → PathFits ks
  path_fits no_keys s c t = tt
  path_fits (more_keys k ks) s c t = (maybe_fits k (left (maybe_spellable k) (path_spellable ks) s) (front Serves (maybe_calls k) (path_calls ks) c) (front Short (maybe_texts k) (path_texts ks) t), path_fits ks (right (maybe_spellable k) (path_spellable ks) s) (back Serves (maybe_calls k) (path_calls ks) c) (back Short (maybe_texts k) (path_texts ks) t))

mutual
  unfolding StmtFits stmt_spellable collected_of own_call own_text

  stmt_fits : (st : PlainStmt) → stmt_spellable st ≡ true → Calls (calls_of st) → Texts (texts_of st) → StmtFits st
  stmt_fits (inline_stmt bytes) s c t = tt
  stmt_fits (echo_stmt es) s c t = exprs_fit es (right (is_some_exprs es) (exprs_spellable es) s) c t
  stmt_fits (run_stmt e) s c t = expr_fits e s c t
  stmt_fits (if_stmt arms ss) s c t =
      let s1 = right (is_some_arms arms) (arms_spellable arms && stmts_spellable ss) s in
      (arms_fit arms (left (arms_spellable arms) (stmts_spellable ss) s1) (front Serves (arm_calls arms) (statement_calls ss) c) (front Short (arm_texts arms) (statement_texts ss) t), stmts_fit ss (right (arms_spellable arms) (stmts_spellable ss) s1) (back Serves (arm_calls arms) (statement_calls ss) c) (back Short (arm_texts arms) (statement_texts ss) t))
  stmt_fits (while_stmt e ss) s c t = (expr_fits e (left (expr_spellable e) (stmts_spellable ss) s) (front Serves (calls_in e) (statement_calls ss) c) (front Short (texts_in e) (statement_texts ss) t), stmts_fit ss (right (expr_spellable e) (stmts_spellable ss) s) (back Serves (calls_in e) (statement_calls ss) c) (back Short (texts_in e) (statement_texts ss) t))
  stmt_fits (do_while_stmt ss e) s c t = (stmts_fit ss (left (stmts_spellable ss) (expr_spellable e) s) (front Serves (statement_calls ss) (calls_in e) c) (front Short (statement_texts ss) (texts_in e) t), expr_fits e (right (stmts_spellable ss) (expr_spellable e) s) (back Serves (statement_calls ss) (calls_in e) c) (back Short (statement_texts ss) (texts_in e) t))
  stmt_fits (for_stmt begin e next ss) s c t =
      let s1 = right (exprs_spellable begin) (maybe_spellable e && (exprs_spellable next && stmts_spellable ss)) s in
      let s2 = right (maybe_spellable e) (exprs_spellable next && stmts_spellable ss) s1 in
      let c1 = back Serves (part_calls begin) (maybe_calls e ++ (part_calls next ++ statement_calls ss)) c in
      let c2 = back Serves (maybe_calls e) (part_calls next ++ statement_calls ss) c1 in
      let t1 = back Short (part_texts begin) (maybe_texts e ++ (part_texts next ++ statement_texts ss)) t in
      let t2 = back Short (maybe_texts e) (part_texts next ++ statement_texts ss) t1 in (
        exprs_fit begin (left (exprs_spellable begin) (maybe_spellable e && (exprs_spellable next && stmts_spellable ss)) s) (front Serves (part_calls begin) (maybe_calls e ++ (part_calls next ++ statement_calls ss)) c) (front Short (part_texts begin) (maybe_texts e ++ (part_texts next ++ statement_texts ss)) t),
        maybe_fits e (left (maybe_spellable e) (exprs_spellable next && stmts_spellable ss) s1) (front Serves (maybe_calls e) (part_calls next ++ statement_calls ss) c1) (front Short (maybe_texts e) (part_texts next ++ statement_texts ss) t1),
        exprs_fit next (left (exprs_spellable next) (stmts_spellable ss) s2) (front Serves (part_calls next) (statement_calls ss) c2) (front Short (part_texts next) (statement_texts ss) t2),
        stmts_fit ss (right (exprs_spellable next) (stmts_spellable ss) s2) (back Serves (part_calls next) (statement_calls ss) c2) (back Short (part_texts next) (statement_texts ss) t2),
      )
  stmt_fits (each_stmt e key x ss) s c t =
      let s1 = right (is_maybe_name key) (is_name x && stmts_spellable ss) (right (expr_spellable e) (is_maybe_name key && (is_name x && stmts_spellable ss)) s) in
      let keys : List PlainCall = key_collected own_call key in
      let key_texts : List (List ℕ) = key_collected own_text key in
      let c1 = back Serves (calls_in e) (keys ++ statement_calls ss) c in
      let t1 = back Short (texts_in e) (key_texts ++ statement_texts ss) t in (
        expr_fits e (left (expr_spellable e) (is_maybe_name key && (is_name x && stmts_spellable ss)) s) (front Serves (calls_in e) (keys ++ statement_calls ss) c) (front Short (texts_in e) (key_texts ++ statement_texts ss) t),
        stmts_fit ss (right (is_name x) (stmts_spellable ss) s1) (back Serves keys (statement_calls ss) c1) (back Short key_texts (statement_texts ss) t1),
      )
  stmt_fits break_stmt s c t = tt
  stmt_fits continue_stmt s c t = tt
  stmt_fits (return_stmt e) s c t = maybe_fits e s c t
  stmt_fits (include_stmt path) s c t = tt
  stmt_fits (quit_stmt e) s c t = maybe_fits e (right (is_printed e) (maybe_spellable e) s) c t

  stmts_fit : (ss : PlainStmts) → stmts_spellable ss ≡ true → Calls (statement_calls ss) → Texts (statement_texts ss) → StmtsFit ss
  stmts_fit no_stmts s c t = tt
  stmts_fit (more_stmts st ss) s c t = (stmt_fits st (left (stmt_spellable st) (stmts_spellable ss) s) (front Serves (calls_of st) (statement_calls ss) c) (front Short (texts_of st) (statement_texts ss) t), stmts_fit ss (right (stmt_spellable st) (stmts_spellable ss) s) (back Serves (calls_of st) (statement_calls ss) c) (back Short (texts_of st) (statement_texts ss) t))

  arms_fit : (arms : PlainArms) → arms_spellable arms ≡ true → Calls (arm_calls arms) → Texts (arm_texts arms) → ArmsFit arms
  arms_fit no_arms s c t = tt
  arms_fit (more_arms e ss arms) s c t =
      let s1 = right (expr_spellable e) (stmts_spellable ss && arms_spellable arms) s in
      let c1 = back Serves (calls_in e) (statement_calls ss ++ arm_calls arms) c in
      let t1 = back Short (texts_in e) (statement_texts ss ++ arm_texts arms) t in (
        expr_fits e (left (expr_spellable e) (stmts_spellable ss && arms_spellable arms) s) (front Serves (calls_in e) (statement_calls ss ++ arm_calls arms) c) (front Short (texts_in e) (statement_texts ss ++ arm_texts arms) t),
        stmts_fit ss (left (stmts_spellable ss) (arms_spellable arms) s1) (front Serves (statement_calls ss) (arm_calls arms) c1) (front Short (statement_texts ss) (arm_texts arms) t1),
        arms_fit arms (right (stmts_spellable ss) (arms_spellable arms) s1) (back Serves (statement_calls ss) (arm_calls arms) c1) (back Short (statement_texts ss) (arm_texts arms) t1),
      )

-- defaults are literals
negation_is : (z : ℤ) (b : Bool) → is_in_range (neg_ℤ z) ≡ b → b ≡ true → negation_of (int z) ≡ Ok (int (neg_ℤ z))
negation_is z b e h = ap (λ b. go_on (if b then Ok (neg_ℤ z) else Err Float) (λ z. Ok (int z))) (e ∙ h)

default_is : (m : MaybeExpr) → is_default m ≡ true → IsDefault m
default_is (some_expr (neg_expr (int_expr z))) s = negation_is z (is_in_range (neg_ℤ z)) refl (negated_fits z s)
default_is m s = tt

default_fits : (m : MaybeExpr) → is_default m ≡ true → Texts (maybe_texts m) → MaybeFits m
unfolding ExprFits collected own_text
default_fits no_expr s t = tt
default_fits (some_expr null_expr) s t = tt
default_fits (some_expr (flag_expr b)) s t = tt
default_fits (some_expr (int_expr z)) s t = unsigned_fits z s
default_fits (some_expr (text_expr b)) s t = t.0
default_fits (some_expr (neg_expr (int_expr z))) s t = unsigned_fits z s
default_fits (some_expr e) s t = absurd cc

params_are : (ps : List PlainParam) → params_spellable ps ≡ true → AreDefaults ps
params_are [] s = tt
params_are (p ∷ ps) s =
    let s1 = right (is_name p.name_of) (is_default p.default_of && params_spellable ps) s in
    (default_is p.default_of (left (is_default p.default_of) (params_spellable ps) s1), params_are ps (right (is_default p.default_of) (params_spellable ps) s1))

params_fit : (ps : List PlainParam) → params_spellable ps ≡ true → Texts (param_texts ps) → ParamsFit ps
unfolding defaults_collected
params_fit [] s t = tt
params_fit (p ∷ ps) s t =
    let s1 = right (is_name p.name_of) (is_default p.default_of && params_spellable ps) s in
    (default_fits p.default_of (left (is_default p.default_of) (params_spellable ps) s1) (front Short (maybe_texts p.default_of) (param_texts ps) t), params_fit ps (right (is_default p.default_of) (params_spellable ps) s1) (back Short (maybe_texts p.default_of) (param_texts ps) t))

functions_are : (fs : List PlainFunction) → functions_spellable fs ≡ true → HaveDefaults fs
functions_are [] s = tt
functions_are (f ∷ fs) s =
    let s1 = right (is_call_name f.name_of) (params_spellable f.params_of && (stmts_spellable f.body_of && functions_spellable fs)) s in
    let s2 = right (params_spellable f.params_of) (stmts_spellable f.body_of && functions_spellable fs) s1 in
    (params_are f.params_of (left (params_spellable f.params_of) (stmts_spellable f.body_of && functions_spellable fs) s1), functions_are fs (right (stmts_spellable f.body_of) (functions_spellable fs) s2))

functions_fit : (fs : List PlainFunction) → functions_spellable fs ≡ true → Calls (function_calls fs) → Texts (function_texts fs) → FunctionsFit fs
unfolding bodies_collected functions_collected
functions_fit [] s c t = tt
functions_fit (f ∷ fs) s c t =
    let s1 = right (is_call_name f.name_of) (params_spellable f.params_of && (stmts_spellable f.body_of && functions_spellable fs)) s in
    let s2 = right (params_spellable f.params_of) (stmts_spellable f.body_of && functions_spellable fs) s1 in
    let t1 = back Short (param_texts f.params_of) (statement_texts f.body_of ++ function_texts fs) t in (
      params_fit f.params_of (left (params_spellable f.params_of) (stmts_spellable f.body_of && functions_spellable fs) s1) (front Short (param_texts f.params_of) (statement_texts f.body_of ++ function_texts fs) t),
      stmts_fit f.body_of (left (stmts_spellable f.body_of) (functions_spellable fs) s2) (front Serves (statement_calls f.body_of) (function_calls fs) c) (front Short (statement_texts f.body_of) (function_texts fs) t1),
      functions_fit fs (right (stmts_spellable f.body_of) (functions_spellable fs) s2) (back Serves (statement_calls f.body_of) (function_calls fs) c) (back Short (statement_texts f.body_of) (function_texts fs) t1),
    )

pub have_defaults : (program : PlainProgram) → IsLawful program → HaveDefaults program.functions_of
have_defaults program h = functions_are program.functions_of (right (stmts_spellable program.main_of) (functions_spellable program.functions_of) h.of_grammar)

pub program_fits : (program : PlainProgram) → IsLawful program → TextsFit program → ProgramFits program
unfolding calls_of_program
program_fits program h texts =
    let c = all_of Serves (calls_of_program program) (λ call is. call_serves program.functions_of call (h.rules.served call is)) in
    let t = all_of Short (statement_texts program.main_of ++ function_texts program.functions_of) texts in
    record {
      main = stmts_fit program.main_of (left (stmts_spellable program.main_of) (functions_spellable program.functions_of) h.of_grammar) (front Serves (statement_calls program.main_of) (function_calls program.functions_of) c) (front Short (statement_texts program.main_of) (function_texts program.functions_of) t);
      functions = functions_fit program.functions_of (right (stmts_spellable program.main_of) (functions_spellable program.functions_of) h.of_grammar) (back Serves (statement_calls program.main_of) (function_calls program.functions_of) c) (back Short (statement_texts program.main_of) (function_texts program.functions_of) t);
    }
