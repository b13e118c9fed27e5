-- The one test of a file: what it says, and that a file of which that holds passes it.
use Rattle.std.proofs.Common.{◌≡◌, ℕ, ◌+◌, ◌-◌, ◌<◌, ◌≤◌, max, pos, negsuc, Bool, true, false, ◌&&◌, List, [], ◌∷◌, refl, arith}
use Rattle.php_syntax.specs.Trees.{PlainExpr, null_expr, flag_expr, int_expr, text_expr, neg_expr, MaybeExpr, no_expr, some_expr, PlainStmt, inline_stmt, echo_stmt, run_stmt, if_stmt, while_stmt, do_while_stmt, for_stmt, each_stmt, break_stmt, continue_stmt, return_stmt, include_stmt, quit_stmt, PlainStmts, no_stmts, more_stmts, PlainArms, no_arms, more_arms, PlainParam, PlainFunction, PlainFile}
use Rattle.php_syntax.specs.Height.{height, maybe_height, exprs_height, stmt_height, stmts_height, arms_height, params_height, functions_height, file_height}
use Rattle.script_grammar.specs.Rules.{is_writable, maybe_writable, is_utf8, is_new_name, expr_fits, maybe_fits, exprs_fit, stmt_fits, stmts_fit, arms_fit, params_fit, functions_fit, file_fits}
use Rattle.spellable.specs.Spellable.{is_name, is_call_name, is_some_exprs, is_inline, is_maybe_name, is_some_arms, is_printed, is_unsigned_literal, is_literal, is_default, expr_spellable, maybe_spellable, exprs_spellable, stmt_spellable, stmts_spellable, arms_spellable, params_spellable, functions_spellable, is_spellable}
use Rattle.php_writer.specs.Tested.{deep, is_target, expr_good, maybe_good, exprs_good, stmt_good, stmts_good, arms_good, pieces_good, params_good, functions_good, file_good}
use Rattle.spellable.proofs.Halves.{halves}
use Rattle.spellable.proofs.BackNames.{and_true}
use Rattle.php_writer.proofs.TestedSound.{deep_is, is_deep, Sound, leaf, over_one, over_two, beside, expr_sound, maybe_sound, exprs_sound}
use Rattle.php_writer.proofs.TestedExprs.{leaf_room, under_one, under_two, apart_two, expr_tests, maybe_tests, exprs_test}

abbrev pub StmtSound : PlainStmt → Bool → Bool → ℕ → Type 0
StmtSound s l i d = Sound (stmt_height s) d (stmt_spellable s) (stmt_fits l i s)

abbrev pub StmtsSound : PlainStmts → Bool → Bool → ℕ → Type 0
StmtsSound ss l i d = Sound (stmts_height ss) d (stmts_spellable ss) (stmts_fit l i ss)

abbrev pub ArmsSound : PlainArms → Bool → Bool → ℕ → Type 0
ArmsSound a l i d = Sound (arms_height a) d (arms_spellable a) (arms_fit l i a)

-- one more test of what is spelled, and of what fits
spelled_too : (n d : ℕ) (s f b : Bool) → Sound n d s f → b ≡ true → Sound n d (b && s) f
spelled_too n d s f b h k = record { is_high = h.is_high; is_spelled = and_true b s k h.is_spelled; is_fit = h.is_fit }

fit_too : (n d : ℕ) (s f b : Bool) → Sound n d s f → b ≡ true → Sound n d s (b && f)
fit_too n d s f b h k = record { is_high = h.is_high; is_spelled = h.is_spelled; is_fit = and_true b f k h.is_fit }

mutual
  unfolding stmt_good stmt_height stmt_spellable stmt_fits

  stmt_sound : (s : PlainStmt) (l i : Bool) (d : ℕ) → stmt_good s l i d ≡ true → StmtSound s l i d
  stmt_sound (inline_stmt t) l i d h = leaf d (is_inline t) true (is_inline t) h (λ k. (k, refl))
  stmt_sound (echo_stmt es) l i d h =
      let one = deep_is d (is_some_exprs es && exprs_good es (d - 1)) h in let both = halves (is_some_exprs es) (exprs_good es (d - 1)) one.1
      in spelled_too (1 + exprs_height es) d (exprs_spellable es) (exprs_fit es) (is_some_exprs es) (over_one d (exprs_height es) (exprs_spellable es) (exprs_fit es) one.0 (exprs_sound es (d - 1) both.1)) both.0
  stmt_sound (run_stmt e) l i d h = let one = deep_is d (expr_good e (d - 1)) h in over_one d (height e) (expr_spellable e) (expr_fits e) one.0 (expr_sound e (d - 1) one.1)
  stmt_sound (if_stmt a ss) l i d h =
      let one = deep_is d ((is_some_arms a && arms_good a l i (d - 1)) && stmts_good ss l i (d - 1)) h
      in let both = halves (is_some_arms a && arms_good a l i (d - 1)) (stmts_good ss l i (d - 1)) one.1
      in let arms = halves (is_some_arms a) (arms_good a l i (d - 1)) both.0
      in spelled_too (1 + max (arms_height a) (stmts_height ss)) d (arms_spellable a && stmts_spellable ss) (arms_fit l i a && stmts_fit l i ss) (is_some_arms a)
      (over_two d (arms_height a) (stmts_height ss) (arms_spellable a) (stmts_spellable ss) (arms_fit l i a) (stmts_fit l i ss) one.0 (arms_sound a l i (d - 1) arms.1) (stmts_sound ss l i (d - 1) both.1)) arms.0
  stmt_sound (while_stmt e ss) l i d h =
      let one = deep_is d (expr_good e (d - 1) && stmts_good ss true i (d - 1)) h in let both = halves (expr_good e (d - 1)) (stmts_good ss true i (d - 1)) one.1
      in over_two d (height e) (stmts_height ss) (expr_spellable e) (stmts_spellable ss) (expr_fits e) (stmts_fit true i ss) one.0 (expr_sound e (d - 1) both.0) (stmts_sound ss true i (d - 1) both.1)
  stmt_sound (do_while_stmt ss e) l i d h =
      let one = deep_is d (expr_good e (d - 1) && stmts_good ss true i (d - 1)) h in let both = halves (expr_good e (d - 1)) (stmts_good ss true i (d - 1)) one.1
      in over_two d (stmts_height ss) (height e) (stmts_spellable ss) (expr_spellable e) (stmts_fit true i ss) (expr_fits e) one.0 (stmts_sound ss true i (d - 1) both.1) (expr_sound e (d - 1) both.0)
  stmt_sound (for_stmt begin e next ss) l i d h =
      let one = deep_is d ((exprs_good begin (d - 1) && (maybe_good e (d - 1) && exprs_good next (d - 1))) && stmts_good ss true i (d - 1)) h
      in let both = halves (exprs_good begin (d - 1) && (maybe_good e (d - 1) && exprs_good next (d - 1))) (stmts_good ss true i (d - 1)) one.1
      in let first = halves (exprs_good begin (d - 1)) (maybe_good e (d - 1) && exprs_good next (d - 1)) both.0
      in let rest = halves (maybe_good e (d - 1)) (exprs_good next (d - 1)) first.1
      in over_two d (exprs_height begin) (max (maybe_height e) (max (exprs_height next) (stmts_height ss))) (exprs_spellable begin) (maybe_spellable e && (exprs_spellable next && stmts_spellable ss)) (exprs_fit begin) (maybe_fits e && (exprs_fit next && stmts_fit true i ss)) one.0
      (exprs_sound begin (d - 1) first.0)
      (beside (d - 1) (maybe_height e) (max (exprs_height next) (stmts_height ss)) (maybe_spellable e) (exprs_spellable next && stmts_spellable ss) (maybe_fits e) (exprs_fit next && stmts_fit true i ss) (maybe_sound e (d - 1) rest.0)
      (beside (d - 1) (exprs_height next) (stmts_height ss) (exprs_spellable next) (stmts_spellable ss) (exprs_fit next) (stmts_fit true i ss) (exprs_sound next (d - 1) rest.1) (stmts_sound ss true i (d - 1) both.1)))
  stmt_sound (each_stmt e k x ss) l i d h =
      let one = deep_is d ((expr_good e (d - 1) && ((is_maybe_name k && maybe_writable k) && is_target x)) && stmts_good ss true i (d - 1)) h
      in let both = halves (expr_good e (d - 1) && ((is_maybe_name k && maybe_writable k) && is_target x)) (stmts_good ss true i (d - 1)) one.1
      in let first = halves (expr_good e (d - 1)) ((is_maybe_name k && maybe_writable k) && is_target x) both.0
      in let names = halves (is_maybe_name k && maybe_writable k) (is_target x) first.1
      in let key = halves (is_maybe_name k) (maybe_writable k) names.0
      in let value = halves (is_name x) (is_writable x) names.1
      in let body = stmts_sound ss true i (d - 1) both.1
      in over_two d (height e) (stmts_height ss) (expr_spellable e) (is_maybe_name k && (is_name x && stmts_spellable ss)) (expr_fits e) (maybe_writable k && (is_writable x && stmts_fit true i ss)) one.0 (expr_sound e (d - 1) first.0)
      (record {
        is_high = body.is_high;
        is_spelled = and_true (is_maybe_name k) (is_name x && stmts_spellable ss) key.0 (and_true (is_name x) (stmts_spellable ss) value.0 body.is_spelled);
        is_fit = and_true (maybe_writable k) (is_writable x && stmts_fit true i ss) key.1 (and_true (is_writable x) (stmts_fit true i ss) value.1 body.is_fit);
      })
  stmt_sound break_stmt l i d h = leaf d true l l h (λ k. (refl, k))
  stmt_sound continue_stmt l i d h = leaf d true l l h (λ k. (refl, k))
  stmt_sound (return_stmt e) l i d h =
      let one = deep_is d (i && maybe_good e (d - 1)) h in let both = halves i (maybe_good e (d - 1)) one.1
      in fit_too (1 + maybe_height e) d (maybe_spellable e) (maybe_fits e) i (over_one d (maybe_height e) (maybe_spellable e) (maybe_fits e) one.0 (maybe_sound e (d - 1) both.1)) both.0
  stmt_sound (include_stmt t) l i d h = leaf d true (is_utf8 t) (is_utf8 t) h (λ k. (refl, k))
  stmt_sound (quit_stmt e) l i d h =
      let one = deep_is d (is_printed e && maybe_good e (d - 1)) h in let both = halves (is_printed e) (maybe_good e (d - 1)) one.1
      in spelled_too (1 + maybe_height e) d (maybe_spellable e) (maybe_fits e) (is_printed e) (over_one d (maybe_height e) (maybe_spellable e) (maybe_fits e) one.0 (maybe_sound e (d - 1) both.1)) both.0

  stmts_sound : (ss : PlainStmts) (l i : Bool) (d : ℕ) → stmts_good ss l i d ≡ true → StmtsSound ss l i d
  stmts_sound no_stmts l i d h = record { is_high = omega arith; is_spelled = refl; is_fit = refl }
  stmts_sound (more_stmts s ss) l i d h =
      let both = halves (stmt_good s l i d) (stmts_good ss l i d) h
      in beside d (stmt_height s) (stmts_height ss) (stmt_spellable s) (stmts_spellable ss) (stmt_fits l i s) (stmts_fit l i ss) (stmt_sound s l i d both.0) (stmts_sound ss l i d both.1)

  arms_sound : (a : PlainArms) (l i : Bool) (d : ℕ) → arms_good a l i d ≡ true → ArmsSound a l i d
  arms_sound no_arms l i d h = record { is_high = omega arith; is_spelled = refl; is_fit = refl }
  arms_sound (more_arms e ss a) l i d h =
      let one = halves (expr_good e d && stmts_good ss l i d) (arms_good a l i d) h in let both = halves (expr_good e d) (stmts_good ss l i d) one.0
      in beside d (height e) (max (stmts_height ss) (arms_height a)) (expr_spellable e) (stmts_spellable ss && arms_spellable a) (expr_fits e) (stmts_fit l i ss && arms_fit l i a) (expr_sound e d both.0)
      (beside d (stmts_height ss) (arms_height a) (stmts_spellable ss) (arms_spellable a) (stmts_fit l i ss) (arms_fit l i a) (stmts_sound ss l i d both.1) (arms_sound a l i d one.1))

mutual
  unfolding stmt_good stmt_height stmt_spellable stmt_fits

  stmt_tests : (s : PlainStmt) (l i : Bool) (d : ℕ) → StmtSound s l i d → stmt_good s l i d ≡ true
  stmt_tests (inline_stmt t) l i d h = is_deep d (is_inline t) (leaf_room d (is_inline t) true h) h.is_spelled
  stmt_tests (echo_stmt es) l i d h =
      let both = halves (is_some_exprs es) (exprs_spellable es) h.is_spelled
      in let parts = under_one d (exprs_height es) (exprs_spellable es) (exprs_fit es) (record { is_high = h.is_high; is_spelled = both.1; is_fit = h.is_fit })
      in is_deep d (is_some_exprs es && exprs_good es (d - 1)) parts.0 (and_true (is_some_exprs es) (exprs_good es (d - 1)) both.0 (exprs_test es (d - 1) parts.1))
  stmt_tests (run_stmt e) l i d h = let parts = under_one d (height e) (expr_spellable e) (expr_fits e) h in is_deep d (expr_good e (d - 1)) parts.0 (expr_tests e (d - 1) parts.1)
  stmt_tests (if_stmt a ss) l i d h =
      let some = halves (is_some_arms a) (arms_spellable a && stmts_spellable ss) h.is_spelled
      in let parts = under_two d (arms_height a) (stmts_height ss) (arms_spellable a) (stmts_spellable ss) (arms_fit l i a) (stmts_fit l i ss) (record { is_high = h.is_high; is_spelled = some.1; is_fit = h.is_fit })
      in is_deep d ((is_some_arms a && arms_good a l i (d - 1)) && stmts_good ss l i (d - 1)) parts.0
      (and_true (is_some_arms a && arms_good a l i (d - 1)) (stmts_good ss l i (d - 1)) (and_true (is_some_arms a) (arms_good a l i (d - 1)) some.0 (arms_test a l i (d - 1) parts.1)) (stmts_test ss l i (d - 1) parts.2))
  stmt_tests (while_stmt e ss) l i d h =
      let parts = under_two d (height e) (stmts_height ss) (expr_spellable e) (stmts_spellable ss) (expr_fits e) (stmts_fit true i ss) h
      in is_deep d (expr_good e (d - 1) && stmts_good ss true i (d - 1)) parts.0 (and_true (expr_good e (d - 1)) (stmts_good ss true i (d - 1)) (expr_tests e (d - 1) parts.1) (stmts_test ss true i (d - 1) parts.2))
  stmt_tests (do_while_stmt ss e) l i d h =
      let parts = under_two d (stmts_height ss) (height e) (stmts_spellable ss) (expr_spellable e) (stmts_fit true i ss) (expr_fits e) h
      in is_deep d (expr_good e (d - 1) && stmts_good ss true i (d - 1)) parts.0 (and_true (expr_good e (d - 1)) (stmts_good ss true i (d - 1)) (expr_tests e (d - 1) parts.2) (stmts_test ss true i (d - 1) parts.1))
  stmt_tests (for_stmt begin e next ss) l i d h =
      let one = under_two d (exprs_height begin) (max (maybe_height e) (max (exprs_height next) (stmts_height ss))) (exprs_spellable begin) (maybe_spellable e && (exprs_spellable next && stmts_spellable ss)) (exprs_fit begin) (maybe_fits e && (exprs_fit next && stmts_fit true i ss)) h
      in let two = apart_two (d - 1) (maybe_height e) (max (exprs_height next) (stmts_height ss)) (maybe_spellable e) (exprs_spellable next && stmts_spellable ss) (maybe_fits e) (exprs_fit next && stmts_fit true i ss) one.2
      in let three = apart_two (d - 1) (exprs_height next) (stmts_height ss) (exprs_spellable next) (stmts_spellable ss) (exprs_fit next) (stmts_fit true i ss) two.1
      in is_deep d ((exprs_good begin (d - 1) && (maybe_good e (d - 1) && exprs_good next (d - 1))) && stmts_good ss true i (d - 1)) one.0
      (and_true (exprs_good begin (d - 1) && (maybe_good e (d - 1) && exprs_good next (d - 1))) (stmts_good ss true i (d - 1))
      (and_true (exprs_good begin (d - 1)) (maybe_good e (d - 1) && exprs_good next (d - 1)) (exprs_test begin (d - 1) one.1) (and_true (maybe_good e (d - 1)) (exprs_good next (d - 1)) (maybe_tests e (d - 1) two.0) (exprs_test next (d - 1) three.0)))
      (stmts_test ss true i (d - 1) three.1))
  stmt_tests (each_stmt e k x ss) l i d h =
      let parts = under_two d (height e) (stmts_height ss) (expr_spellable e) (is_maybe_name k && (is_name x && stmts_spellable ss)) (expr_fits e) (maybe_writable k && (is_writable x && stmts_fit true i ss)) h
      in let names = halves (is_maybe_name k) (is_name x && stmts_spellable ss) parts.2.is_spelled
      in let name = halves (is_name x) (stmts_spellable ss) names.1
      in let rules = halves (maybe_writable k) (is_writable x && stmts_fit true i ss) parts.2.is_fit
      in let rule = halves (is_writable x) (stmts_fit true i ss) rules.1
      in is_deep d ((expr_good e (d - 1) && ((is_maybe_name k && maybe_writable k) && is_target x)) && stmts_good ss true i (d - 1)) parts.0
      (and_true (expr_good e (d - 1) && ((is_maybe_name k && maybe_writable k) && is_target x)) (stmts_good ss true i (d - 1))
      (and_true (expr_good e (d - 1)) ((is_maybe_name k && maybe_writable k) && is_target x) (expr_tests e (d - 1) parts.1)
      (and_true (is_maybe_name k && maybe_writable k) (is_target x) (and_true (is_maybe_name k) (maybe_writable k) names.0 rules.0) (and_true (is_name x) (is_writable x) name.0 rule.0)))
      (stmts_test ss true i (d - 1) (record { is_high = parts.2.is_high; is_spelled = name.1; is_fit = rule.1 })))
  stmt_tests break_stmt l i d h = is_deep d l (leaf_room d true l h) h.is_fit
  stmt_tests continue_stmt l i d h = is_deep d l (leaf_room d true l h) h.is_fit
  stmt_tests (return_stmt e) l i d h =
      let both = halves i (maybe_fits e) h.is_fit
      in let parts = under_one d (maybe_height e) (maybe_spellable e) (maybe_fits e) (record { is_high = h.is_high; is_spelled = h.is_spelled; is_fit = both.1 })
      in is_deep d (i && maybe_good e (d - 1)) parts.0 (and_true i (maybe_good e (d - 1)) both.0 (maybe_tests e (d - 1) parts.1))
  stmt_tests (include_stmt t) l i d h = is_deep d (is_utf8 t) (leaf_room d true (is_utf8 t) h) h.is_fit
  stmt_tests (quit_stmt e) l i d h =
      let both = halves (is_printed e) (maybe_spellable e) h.is_spelled
      in let parts = under_one d (maybe_height e) (maybe_spellable e) (maybe_fits e) (record { is_high = h.is_high; is_spelled = both.1; is_fit = h.is_fit })
      in is_deep d (is_printed e && maybe_good e (d - 1)) parts.0 (and_true (is_printed e) (maybe_good e (d - 1)) both.0 (maybe_tests e (d - 1) parts.1))

  stmts_test : (ss : PlainStmts) (l i : Bool) (d : ℕ) → StmtsSound ss l i d → stmts_good ss l i d ≡ true
  stmts_test no_stmts l i d h = refl
  stmts_test (more_stmts s ss) l i d h =
      let parts = apart_two d (stmt_height s) (stmts_height ss) (stmt_spellable s) (stmts_spellable ss) (stmt_fits l i s) (stmts_fit l i ss) h
      in and_true (stmt_good s l i d) (stmts_good ss l i d) (stmt_tests s l i d parts.0) (stmts_test ss l i d parts.1)

  arms_test : (a : PlainArms) (l i : Bool) (d : ℕ) → ArmsSound a l i d → arms_good a l i d ≡ true
  arms_test no_arms l i d h = refl
  arms_test (more_arms e ss a) l i d h =
      let one = apart_two d (height e) (max (stmts_height ss) (arms_height a)) (expr_spellable e) (stmts_spellable ss && arms_spellable a) (expr_fits e) (stmts_fit l i ss && arms_fit l i a) h
      in let rest = apart_two d (stmts_height ss) (arms_height a) (stmts_spellable ss) (arms_spellable a) (stmts_fit l i ss) (arms_fit l i a) one.1
      in and_true (expr_good e d && stmts_good ss l i d) (arms_good a l i d) (and_true (expr_good e d) (stmts_good ss l i d) (expr_tests e d one.0) (stmts_test ss l i d rest.0)) (arms_test a l i d rest.1)

-- the test of a statement is room for it, and the test of its parts
pub stmt_parts : (s : PlainStmt) (l i : Bool) (d : ℕ) → stmt_good s l i d ≡ deep d (pieces_good s l i (d - 1))
unfolding stmt_good
stmt_parts (inline_stmt t) l i d = refl
stmt_parts (echo_stmt es) l i d = refl
stmt_parts (run_stmt e) l i d = refl
stmt_parts (if_stmt a ss) l i d = refl
stmt_parts (while_stmt e ss) l i d = refl
stmt_parts (do_while_stmt ss e) l i d = refl
stmt_parts (for_stmt begin e next ss) l i d = refl
stmt_parts (each_stmt e k x ss) l i d = refl
stmt_parts break_stmt l i d = refl
stmt_parts continue_stmt l i d = refl
stmt_parts (return_stmt e) l i d = refl
stmt_parts (include_stmt t) l i d = refl
stmt_parts (quit_stmt e) l i d = refl

-- a literal is spellable and keeps the rules
unsigned_so : (a : PlainExpr) → is_unsigned_literal a ≡ true → (expr_spellable a ≡ true) × (expr_fits a ≡ true)
unfolding expr_spellable expr_fits
unsigned_so (int_expr (pos n)) h = (h, refl)
unsigned_so (int_expr (negsuc n)) h = absurd (cc)
unsigned_so _ h = absurd (cc)

literal_so : (e : PlainExpr) → is_literal e ≡ true → (expr_spellable e ≡ true) × (expr_fits e ≡ true)
unfolding expr_spellable expr_fits
literal_so null_expr h = (refl, refl)
literal_so (flag_expr b) h = (refl, refl)
literal_so (int_expr (pos n)) h = (h, refl)
literal_so (int_expr (negsuc n)) h = absurd (cc)
literal_so (text_expr t) h = (refl, refl)
literal_so (neg_expr a) h = unsigned_so a h
literal_so _ h = absurd (cc)

default_so : (m : MaybeExpr) → is_default m ≡ true → (maybe_spellable m ≡ true) × (maybe_fits m ≡ true)
unfolding expr_spellable expr_fits
default_so no_expr h = (refl, refl)
default_so (some_expr e) h = literal_so e h

params_sound : (ps : List PlainParam) (d : ℕ) → params_good ps d ≡ true → Sound (params_height ps) d (params_spellable ps) (params_fit ps)
unfolding params_good
params_sound [] d h = record { is_high = omega arith; is_spelled = refl; is_fit = refl }
params_sound (p ∷ ps) d h =
    let test = (is_target p.name_of && is_new_name p.name_of ps) && (is_default p.default_of && maybe_good p.default_of (d - 1))
    in let both = halves (deep d test) (params_good ps d) h
    in let one = deep_is d test both.0
    in let sides = halves (is_target p.name_of && is_new_name p.name_of ps) (is_default p.default_of && maybe_good p.default_of (d - 1)) one.1
    in let names = halves (is_target p.name_of) (is_new_name p.name_of ps) sides.0
    in let name = halves (is_name p.name_of) (is_writable p.name_of) names.0
    in let value = halves (is_default p.default_of) (maybe_good p.default_of (d - 1)) sides.1
    in let given = over_one d (maybe_height p.default_of) (maybe_spellable p.default_of) (maybe_fits p.default_of) one.0 (maybe_sound p.default_of (d - 1) value.1)
    in let rest = params_sound ps d both.1
    in let i : 1 + maybe_height p.default_of ≤ d = given.is_high in let j : params_height ps ≤ d = rest.is_high
    in record {
      is_high = omega arith;
      is_spelled = and_true (is_name p.name_of) (is_default p.default_of && params_spellable ps) name.0 (and_true (is_default p.default_of) (params_spellable ps) value.0 rest.is_spelled);
      is_fit = and_true (is_writable p.name_of) (is_new_name p.name_of ps && params_fit ps) name.1 (and_true (is_new_name p.name_of ps) (params_fit ps) names.1 rest.is_fit);
    }

params_test : (ps : List PlainParam) (d : ℕ) → Sound (params_height ps) d (params_spellable ps) (params_fit ps) → params_good ps d ≡ true
unfolding params_good
params_test [] d h = refl
params_test (p ∷ ps) d h =
    let high : max (1 + maybe_height p.default_of) (params_height ps) ≤ d = h.is_high
    in let spelled = halves (is_name p.name_of) (is_default p.default_of && params_spellable ps) h.is_spelled
    in let default = halves (is_default p.default_of) (params_spellable ps) spelled.1
    in let fits = halves (is_writable p.name_of) (is_new_name p.name_of ps && params_fit ps) h.is_fit
    in let new = halves (is_new_name p.name_of ps) (params_fit ps) fits.1
    in let so = default_so p.default_of default.0
    in let room : 0 < d = omega arith
    in let value = maybe_tests p.default_of (d - 1) (record { is_high = omega arith; is_spelled = so.0; is_fit = so.1 })
    in let test = (is_target p.name_of && is_new_name p.name_of ps) && (is_default p.default_of && maybe_good p.default_of (d - 1))
    in and_true (deep d test) (params_good ps d)
    (is_deep d test room (and_true (is_target p.name_of && is_new_name p.name_of ps) (is_default p.default_of && maybe_good p.default_of (d - 1)) (and_true (is_target p.name_of) (is_new_name p.name_of ps) (and_true (is_name p.name_of) (is_writable p.name_of) spelled.0 fits.0) new.0) (and_true (is_default p.default_of) (maybe_good p.default_of (d - 1)) default.0 value)))
    (params_test ps d (record { is_high = omega arith; is_spelled = default.1; is_fit = new.1 }))

functions_sound : (fs : List PlainFunction) (d : ℕ) → functions_good fs d ≡ true → Sound (functions_height fs) d (functions_spellable fs) (functions_fit fs)
unfolding functions_good
functions_sound [] d h = record { is_high = omega arith; is_spelled = refl; is_fit = refl }
functions_sound (f ∷ fs) d h =
    let test = (is_call_name f.name_of && params_good f.params_of (d - 1)) && stmts_good f.body_of false true (d - 1)
    in let both = halves (deep d test) (functions_good fs d) h
    in let one = deep_is d test both.0
    in let sides = halves (is_call_name f.name_of && params_good f.params_of (d - 1)) (stmts_good f.body_of false true (d - 1)) one.1
    in let head = halves (is_call_name f.name_of) (params_good f.params_of (d - 1)) sides.0
    in let parts = over_two d (params_height f.params_of) (stmts_height f.body_of) (params_spellable f.params_of) (stmts_spellable f.body_of) (params_fit f.params_of) (stmts_fit false true f.body_of) one.0 (params_sound f.params_of (d - 1) head.1) (stmts_sound f.body_of false true (d - 1) sides.1)
    in let rest = functions_sound fs d both.1
    in let spelled = halves (params_spellable f.params_of) (stmts_spellable f.body_of) parts.is_spelled
    in let fits = halves (params_fit f.params_of) (stmts_fit false true f.body_of) parts.is_fit
    in let i : 1 + max (params_height f.params_of) (stmts_height f.body_of) ≤ d = parts.is_high in let j : functions_height fs ≤ d = rest.is_high
    in record {
      is_high = omega arith;
      is_spelled = and_true (is_call_name f.name_of) (params_spellable f.params_of && (stmts_spellable f.body_of && functions_spellable fs)) head.0 (and_true (params_spellable f.params_of) (stmts_spellable f.body_of && functions_spellable fs) spelled.0 (and_true (stmts_spellable f.body_of) (functions_spellable fs) spelled.1 rest.is_spelled));
      is_fit = and_true (params_fit f.params_of) (stmts_fit false true f.body_of && functions_fit fs) fits.0 (and_true (stmts_fit false true f.body_of) (functions_fit fs) fits.1 rest.is_fit);
    }

functions_test : (fs : List PlainFunction) (d : ℕ) → Sound (functions_height fs) d (functions_spellable fs) (functions_fit fs) → functions_good fs d ≡ true
unfolding functions_good
functions_test [] d h = refl
functions_test (f ∷ fs) d h =
    let high : max (1 + max (params_height f.params_of) (stmts_height f.body_of)) (functions_height fs) ≤ d = h.is_high
    in let name = halves (is_call_name f.name_of) (params_spellable f.params_of && (stmts_spellable f.body_of && functions_spellable fs)) h.is_spelled
    in let params = halves (params_spellable f.params_of) (stmts_spellable f.body_of && functions_spellable fs) name.1
    in let body = halves (stmts_spellable f.body_of) (functions_spellable fs) params.1
    in let fits = halves (params_fit f.params_of) (stmts_fit false true f.body_of && functions_fit fs) h.is_fit
    in let fit = halves (stmts_fit false true f.body_of) (functions_fit fs) fits.1
    in let room : 0 < d = omega arith
    in let test = (is_call_name f.name_of && params_good f.params_of (d - 1)) && stmts_good f.body_of false true (d - 1)
    in and_true (deep d test) (functions_good fs d)
    (is_deep d test room (and_true (is_call_name f.name_of && params_good f.params_of (d - 1)) (stmts_good f.body_of false true (d - 1))
    (and_true (is_call_name f.name_of) (params_good f.params_of (d - 1)) name.0 (params_test f.params_of (d - 1) (record { is_high = omega arith; is_spelled = params.0; is_fit = fits.0 })))
    (stmts_test f.body_of false true (d - 1) (record { is_high = omega arith; is_spelled = body.0; is_fit = fit.0 }))))
    (functions_test fs d (record { is_high = omega arith; is_spelled = body.1; is_fit = fit.1 }))

pub file_sound : (t : PlainFile) (d : ℕ) → file_good t d ≡ true → Sound (file_height t) d (is_spellable t) (file_fits t)
unfolding file_good
file_sound t d h =
    let one = deep_is d (stmts_good t.body_of false false (d - 1) && functions_good t.functions_of (d - 1)) h
    in let both = halves (stmts_good t.body_of false false (d - 1)) (functions_good t.functions_of (d - 1)) one.1
    in over_two d (stmts_height t.body_of) (functions_height t.functions_of) (stmts_spellable t.body_of) (functions_spellable t.functions_of) (stmts_fit false false t.body_of) (functions_fit t.functions_of) one.0 (stmts_sound t.body_of false false (d - 1) both.0) (functions_sound t.functions_of (d - 1) both.1)

pub file_tests : (t : PlainFile) (d : ℕ) → Sound (file_height t) d (is_spellable t) (file_fits t) → file_good t d ≡ true
unfolding file_good
file_tests t d h =
    let parts = under_two d (stmts_height t.body_of) (functions_height t.functions_of) (stmts_spellable t.body_of) (functions_spellable t.functions_of) (stmts_fit false false t.body_of) (functions_fit t.functions_of) h
    in is_deep d (stmts_good t.body_of false false (d - 1) && functions_good t.functions_of (d - 1)) parts.0 (and_true (stmts_good t.body_of false false (d - 1)) (functions_good t.functions_of (d - 1)) (stmts_test t.body_of false false (d - 1) parts.1) (functions_test t.functions_of (d - 1) parts.2))
