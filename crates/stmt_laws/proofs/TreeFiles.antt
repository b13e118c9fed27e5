-- The actions of a file make its tree.
use Rattle.std.proofs.Common.{◌≡◌, ◌∙◌, ℕ, suc, ◌+◌, Bool, true, false, List, [], ◌∷◌, refl, ap, arith, Some, None}
use Rattle.std.specs.Prelude.{Option, ◌&&◌, if◌then◌else◌, nat_le, max}
use Rattle.std.proofs.Math.Nat.{max-zero, zero-max}
use Rattle.script_grammar.specs.Statements.{StmtForm, stmt_trees, function_tree, FileForm, end_of_file, function_part, stmt_part, file_stmts, file_functions, file_tree}
use Rattle.php_syntax.specs.Trees.{PlainStmts, PlainFunction, PlainFile}
use Rattle.script_grammar.specs.Rules.{stmts_fit, params_fit, functions_fit, file_fits}
use Rattle.php_syntax.specs.Height.{stmts_height, functions_height, file_height}
use Rattle.stmt_machine.specs.Actions.{StmtAction}
use Rattle.stmt_machine.specs.Postfix.{stmt_actions, file_actions}
use Rattle.stmt_machine.specs.Made.{Row, row_of, Functions, add_function, Made, nothing_made, on_some, execute_stmts, file_of_row, file_of}
use Rattle.expr_laws.proofs.Carry.{Goes, both, always, ends, tested}
use Rattle.expr_laws.proofs.NodeValues.{high_left, high_right, higher}
use Rattle.stmt_laws.proofs.TreeRows.{kept, put_stmts, all_put, max_three}
use Rattle.stmt_laws.proofs.States.{Left, Premise, body, made, empty}
use Rattle.stmt_laws.proofs.TreeRuns.{Runs}
use Rattle.stmt_laws.proofs.TreeStatements.{stmt_goes}
use Rattle.stmt_laws.proofs.Functions.{height_of, function_done}

abbrev append_functions : List PlainFunction → List PlainFunction → List PlainFunction
append_functions [] fs = fs
append_functions (g ∷ gs) fs = g ∷ append_functions gs fs

append_none : (fs : List PlainFunction) → append_functions fs [] ≡ fs
append_none [] = refl
append_none (f ∷ fs) = ap (λ gs. f ∷ gs) (append_none fs)

append_added : (gs : List PlainFunction) (f : PlainFunction) (fs : List PlainFunction) → append_functions (add_function gs f) fs ≡ append_functions gs (f ∷ fs)
append_added [] f fs = refl
append_added (g ∷ gs) f fs = ap (λ hs. g ∷ hs) (append_added gs f fs)

-- a file with a row of statements and functions
abbrev at_file : Row → Functions → Made
at_file r fs = made [] (body false false r ∷ []) None fs

first_test : (b c : Bool) (x y : Left) → x ≡ (if b && c then y else None) → x ≡ (if b then (if c then y else None) else None)
first_test true c x y e = e
first_test false c x y e = e

functions_last : (p s S R : Bool) → (p && s) && (S && R) ≡ S && (p && (s && R))
functions_last true true true R = refl
functions_last true true false R = refl
functions_last true false true R = refl
functions_last true false false R = refl
functions_last false s true R = refl
functions_last false s false R = refl

regroup : (a b c : Bool) → a && (b && c) ≡ (a && b) && c
regroup true b c = refl
regroup false b c = refl

-- the functions of a file behind others
functions_behind : List PlainFunction → ℕ → FileForm → Functions
functions_behind gs t f = kept (append_functions gs (file_functions f)) (max t (functions_height (file_functions f)))

functions_end : (gs : List PlainFunction) (t : ℕ) → kept gs t ≡ kept (append_functions gs []) (max t 0)
functions_end gs t = rw (append_none gs, max-zero t) refl

one_function : (f : PlainFunction) (fs gs : List PlainFunction) (t : ℕ)
    → kept (append_functions (add_function gs f) fs) (max (max t (height_of f)) (functions_height fs)) ≡ kept (append_functions gs (f ∷ fs)) (max t (functions_height (f ∷ fs)))
one_function f fs gs t = rw (append_added gs f fs, max_three t (height_of f) (functions_height fs)) refl

-- what a file comes to from some row of statements on
comes_to : List PlainFunction → ℕ → FileForm → Row → Left
comes_to gs t f r = Some (at_file r (functions_behind gs t f))

-- a statement and the parts behind it
statement_then : Premise → (s : StmtForm) (k : List StmtAction) (ss : PlainStmts) (b : Bool) (y : Row → Left) (fs : Functions)
    → ((r : Row) → Goes (execute_stmts k (at_file r fs)) (stmts_fit false false ss && b) (y (put_stmts ss r)))
    → (r : Row) → Goes (execute_stmts (stmt_actions s k) (at_file r fs)) (stmts_fit false false (stmt_trees s ss) && b) (y (put_stmts (stmt_trees s ss) r))
statement_then p s k ss b y fs q r =
    let finish : Row → Left = λ r. if b then y r else None in
    let runs : Runs false false ss (λ r. execute_stmts k (at_file r fs)) finish =
    record { is = λ r. record { is = first_test (stmts_fit false false ss) b (execute_stmts k (at_file r fs)) (y (put_stmts ss r)) (q r).is } } in
    both ((stmt_goes p s ss finish false false k [] [] None fs runs).is r) (record { is = refl })

file_goes : Premise → (f : FileForm) (gs : List PlainFunction) (t : ℕ) (r : Row)
    → Goes (execute_stmts (file_actions f) (at_file r (kept gs t))) (stmts_fit false false (file_stmts f) && functions_fit (file_functions f)) (comes_to gs t f (put_stmts (file_stmts f) r))
unfolding execute_stmts stmts_fit functions_behind comes_to
file_goes p end_of_file gs t r = always (ap (λ fs. Some (at_file r fs)) (functions_end gs t))
file_goes p (function_part f q) gs t r =
    tested (functions_last (params_fit (function_tree f).params_of) (stmts_fit false true (function_tree f).body_of) (stmts_fit false false (file_stmts q)) (functions_fit (file_functions q)))
    (both (function_done p f (file_actions q) [] (body false false r ∷ []) None gs t)
    (ends (file_goes p q (add_function gs (function_tree f)) (max t (height_of (function_tree f))) r)
    (ap (λ fs. Some (at_file (put_stmts (file_stmts q) r) fs)) (one_function (function_tree f) (file_functions q) gs t))))
file_goes p (stmt_part s q) gs t r = statement_then p s (file_actions q) (file_stmts q) (functions_fit (file_functions q)) (comes_to gs t q) (kept gs t) (file_goes p q gs t) r

-- the tree that is kept of a file
abbrev kept_file : PlainFile → Option PlainFile
kept_file t = if nat_le (file_height t) 200 then Some t else None

row_by : (ss : PlainStmts) (fs : List PlainFunction) (h k m : ℕ) (p q : Bool) → m ≡ suc (max h k) → nat_le h 200 ≡ p → nat_le k 200 ≡ q
    → file_of_row (if p then Some (ss, h) else None) (if q then Some (fs, k) else None) ≡ (if nat_le m 200 then Some (record { body_of = ss; functions_of = fs }) else None)
row_by ss fs h k m true true i j w = rw i refl
row_by ss fs h k m true false i j w = rw (higher (max h k) m 200 (omega (arith, i)) (high_right h k 200 w)) refl
row_by ss fs h k m false q i j w = rw (higher (max h k) m 200 (omega (arith, i)) (high_left h k 200 j)) refl

row_kept : (ss : PlainStmts) (fs : List PlainFunction) → file_of_row (row_of ss) (kept fs (functions_height fs)) ≡ kept_file (record { body_of = ss; functions_of = fs })
row_kept ss fs = row_by ss fs (stmts_height ss) (functions_height fs) (1 + max (stmts_height ss) (functions_height fs)) (nat_le (stmts_height ss) 200) (nat_le (functions_height fs) 200) (omega arith) refl refl

file_kept : (f : FileForm) → on_some (comes_to [] 0 f (put_stmts (file_stmts f) empty)) (λ m. Some (file_of m)) ≡ Some (kept_file (file_tree f))
unfolding comes_to functions_behind
file_kept f = ap Some (
    ap (λ r. file_of_row r (kept (file_functions f) (max 0 (functions_height (file_functions f))))) (all_put (file_stmts f))
    ∙ ap (λ h. file_of_row (row_of (file_stmts f)) (kept (file_functions f) h)) (zero-max (functions_height (file_functions f)))
    ∙ row_kept (file_stmts f) (file_functions f))

file_by : (b : Bool) (x : Left) → on_some (if b then x else None) (λ m. Some (file_of m)) ≡ (if b then on_some x (λ m. Some (file_of m)) else None)
file_by true x = refl
file_by false x = refl

pub files_made : Premise → (f : FileForm) → on_some (execute_stmts (file_actions f) nothing_made) (λ m. Some (file_of m)) ≡ (if file_fits (file_tree f) then Some (kept_file (file_tree f)) else None)
files_made p f =
    ap (λ x. on_some x (λ m. Some (file_of m))) (file_goes p f [] 0 empty).is
    ∙ file_by (file_fits (file_tree f)) (comes_to [] 0 f (put_stmts (file_stmts f) empty))
    ∙ ap (λ y. if file_fits (file_tree f) then y else None) (file_kept f)
