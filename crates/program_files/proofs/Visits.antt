-- Statements that are visited one after another, where a visit replaces includes.
use Rattle.std.proofs.Common.{◌≡◌, ◌∙◌, ◌<◌, ℕ, zero, suc, List, [], ◌∷◌, length, map, Some, slice_get, refl, ap, sym, arith, set, get_or, ◌≤◌, ◌+◌}
use Rattle.std.proofs.lemmas.Option.{same_Some}
use Rattle.std.specs.declared.vec.Vec.{Vec}
use Rattle.std.specs.declared.alloc.Global.{Global}
use Rattle.php_syntax.specs.declared.tree.Expr.{Expr}
use Rattle.php_syntax.specs.declared.tree.Stmt.{Stmt}
use Rattle.php_syntax.specs.declared.tree.FunctionDef.{FunctionDef}
use Rattle.php_syntax.specs.declared.tree.FileTree.{FileTree}
use Rattle.php_syntax.specs.Height.{stmt_height, stmts_height, arms_height}
use Rattle.php_syntax.specs.Trees.{PlainStmts, PlainArms, no_stmts, more_stmts, no_arms, more_arms, plain_stmt, plain_expr, stmts_of, arms_of, PlainFunction, PlainFile, plain_function, functions_of_list, plain_file}
use Rattle.spellable.proofs.StmtHeights.{member_height, arm_height}
use Rattle.program_rules.specs.Bodies.{followed_by, with_bodies, with_bodies_in, with_bodies_in_arms, with_body, file_with_bodies}
use Rattle.program_rules.specs.Programs.{ReadFile}
use Rattle.program_files.specs.View.{paired}

-- the first so many as they are, and the others with their includes replaced
pub visited : (List ℕ → PlainStmts) → ℕ → List Stmt → PlainStmts
visited f zero xs = with_bodies f (stmts_of xs)
visited f (suc n) [] = no_stmts
visited f (suc n) (x ∷ xs) = more_stmts (plain_stmt x) (visited f n xs)

abbrev pub Arm : Type 0
Arm = Expr × Vec Stmt Global

pub visited_arms : (List ℕ → PlainStmts) → ℕ → List Arm → PlainArms
visited_arms f zero xs = with_bodies_in_arms f (arms_of xs)
visited_arms f (suc n) [] = no_arms
visited_arms f (suc n) (x ∷ xs) = more_arms (plain_expr x.0) (stmts_of x.1.items) (visited_arms f n xs)

pub all_visited : (f : List ℕ → PlainStmts) (n : ℕ) (xs : List Stmt) → length xs ≤ n → visited f n xs ≡ stmts_of xs
unfolding visited with_bodies
all_visited f zero [] le = refl
all_visited f zero (x ∷ xs) le = absurd (omega (arith, le))
all_visited f (suc n) [] le = refl
all_visited f (suc n) (x ∷ xs) le = ap (more_stmts (plain_stmt x)) (all_visited f n xs (omega (arith, le)))

pub all_arms_visited : (f : List ℕ → PlainStmts) (n : ℕ) (xs : List Arm) → length xs ≤ n → visited_arms f n xs ≡ arms_of xs
unfolding visited_arms with_bodies
all_arms_visited f zero [] le = refl
all_arms_visited f zero (x ∷ xs) le = absurd (omega (arith, le))
all_arms_visited f (suc n) [] le = refl
all_arms_visited f (suc n) (x ∷ xs) le = ap (more_arms (plain_expr x.0) (stmts_of x.1.items)) (all_arms_visited f n xs (omega (arith, le)))

pub none_visited : (f : List ℕ → PlainStmts) (xs : List Stmt) → visited f 0 xs ≡ with_bodies f (stmts_of xs)
unfolding visited
none_visited f xs = refl

pub no_arms_visited : (f : List ℕ → PlainStmts) (xs : List Arm) → visited_arms f 0 xs ≡ with_bodies_in_arms f (arms_of xs)
unfolding visited_arms
no_arms_visited f xs = refl

-- one more is visited
one_visited : (f : List ℕ → PlainStmts) (n : ℕ) (xs : List Stmt) (x y : Stmt) → n < length xs → x ≡ get_or xs n x → more_stmts (plain_stmt y) no_stmts ≡ with_bodies_in f (plain_stmt x)
    → visited f (suc n) (set xs n y) ≡ visited f n xs
unfolding visited with_bodies followed_by
one_visited f n [] x y lt is e = absurd (omega (arith, lt))
one_visited f zero (z ∷ xs) x y lt is e =
    ap (λ ss. followed_by ss (with_bodies f (stmts_of xs))) e ∙ ap (λ s. followed_by (with_bodies_in f (plain_stmt s)) (with_bodies f (stmts_of xs))) is
one_visited f (suc n) (z ∷ xs) x y lt is e = ap (more_stmts (plain_stmt z)) (one_visited f n xs x y (omega (arith, lt)) is e)

one_arm_visited : (f : List ℕ → PlainStmts) (n : ℕ) (xs : List Arm) (x : Arm) (y : Vec Stmt Global) → n < length xs → x ≡ get_or xs n x → stmts_of y.items ≡ with_bodies f (stmts_of x.1.items)
    → visited_arms f (suc n) (set xs n (x.0, y)) ≡ visited_arms f n xs
unfolding visited_arms with_bodies
one_arm_visited f n [] x y lt is e = absurd (omega (arith, lt))
one_arm_visited f zero (z ∷ xs) x y lt is e =
    ap (λ ss. more_arms (plain_expr x.0) ss (with_bodies_in_arms f (arms_of xs))) e ∙ ap (λ (a : Arm). more_arms (plain_expr a.0) (with_bodies f (stmts_of a.1.items)) (with_bodies_in_arms f (arms_of xs))) is
one_arm_visited f (suc n) (z ∷ xs) x y lt is e = ap (more_arms (plain_expr z.0) (stmts_of z.1.items)) (one_arm_visited f n xs x y (omega (arith, lt)) is e)

-- what is visited next is no higher than all
pub next_height : (xs ys : List Stmt) (n : ℕ) (x : Stmt) → n < length ys → length ys ≡ length xs → ((k : ℕ) (d : Stmt) → n ≤ k → get_or ys k d ≡ get_or xs k d) → x ≡ get_or ys n x → stmt_height (plain_stmt x) ≤ stmts_height (stmts_of xs)
next_height xs ys n x lt size same is =
    let e = ap (λ (s : Stmt). stmt_height (plain_stmt s)) (is ∙ same n x (omega arith)) in
    let h = member_height xs n x (omega (arith, lt, size)) in
    omega (arith, e, h)

pub next_arm_height : (xs ys : List Arm) (n : ℕ) (x : Arm) → n < length ys → length ys ≡ length xs → ((k : ℕ) (d : Arm) → n ≤ k → get_or ys k d ≡ get_or xs k d) → x ≡ get_or ys n x → stmts_height (stmts_of x.1.items) ≤ arms_height (arms_of xs)
next_arm_height xs ys n x lt size same is =
    let e = ap (λ (a : Arm). stmts_height (stmts_of a.1.items)) (is ∙ same n x (omega arith)) in
    let h = arm_height xs n x (omega (arith, lt, size)) in
    omega (arith, e, h)

-- what is visited later stays
pub later_same : {X : Type 0} (xs ys : List X) (n : ℕ) (y : X) → ((k : ℕ) (d : X) → n ≤ k → get_or ys k d ≡ get_or xs k d) → (k : ℕ) (d : X) → n + 1 ≤ k → get_or (set ys n y) k d ≡ get_or xs k d
later_same xs ys n y same k d le = other ys n y k d le ∙ same k d (omega (arith, le))
  where
    other : {X : Type 0} (ys : List X) (n : ℕ) (y : X) (k : ℕ) (d : X) → n + 1 ≤ k → get_or (set ys n y) k d ≡ get_or ys k d
    other [] n y k d le = refl
    other (z ∷ ys) zero y zero d le = absurd (omega (arith, le))
    other (z ∷ ys) zero y (suc k) d le = refl
    other (z ∷ ys) (suc n) y zero d le = absurd (omega (arith, le))
    other (z ∷ ys) (suc n) y (suc k) d le = other ys n y k d (omega (arith, le))

pub same_size : {X : Type 0} (xs : List X) (n : ℕ) (y : X) → length (set xs n y) ≡ length xs
same_size [] n y = refl
same_size (x ∷ xs) zero y = refl
same_size (x ∷ xs) (suc n) y = ap suc (same_size xs n y)

pub next_visited : (f : List ℕ → PlainStmts) (n : ℕ) (xs : List Stmt) (x y : Stmt) → n < length xs → x ≡ get_or xs n x → more_stmts (plain_stmt y) no_stmts ≡ with_bodies_in f (plain_stmt x)
    → visited f (n + 1) (set xs n y) ≡ visited f n xs
next_visited f n xs x y lt is e = let more : n + 1 ≡ suc n = omega arith in ap (λ k. visited f k (set xs n y)) more ∙ one_visited f n xs x y lt is e

pub next_arm_visited : (f : List ℕ → PlainStmts) (n : ℕ) (xs : List Arm) (x : Arm) (y : Vec Stmt Global) → n < length xs → x ≡ get_or xs n x → stmts_of y.items ≡ with_bodies f (stmts_of x.1.items)
    → visited_arms f (n + 1) (set xs n (x.0, y)) ≡ visited_arms f n xs
next_arm_visited f n xs x y lt is e = let more : n + 1 ≡ suc n = omega arith in ap (λ k. visited_arms f k (set xs n (x.0, y))) more ∙ one_arm_visited f n xs x y lt is e

-- functions: the first so many as they are, and the others with their includes replaced
pub visited_functions : (List ℕ → PlainStmts) → ℕ → List FunctionDef → List PlainFunction
visited_functions f zero xs = map (with_body f) (functions_of_list xs)
visited_functions f (suc n) [] = []
visited_functions f (suc n) (x ∷ xs) = plain_function x ∷ visited_functions f n xs

pub no_function_visited : (f : List ℕ → PlainStmts) (xs : List FunctionDef) → visited_functions f 0 xs ≡ map (with_body f) (functions_of_list xs)
unfolding visited_functions
no_function_visited f xs = refl

pub all_functions_visited : (f : List ℕ → PlainStmts) (n : ℕ) (xs : List FunctionDef) → length xs ≤ n → visited_functions f n xs ≡ functions_of_list xs
unfolding visited_functions
all_functions_visited f zero [] le = refl
all_functions_visited f zero (x ∷ xs) le = absurd (omega (arith, le))
all_functions_visited f (suc n) [] le = refl
all_functions_visited f (suc n) (x ∷ xs) le = ap (λ (gs : List PlainFunction). plain_function x ∷ gs) (all_functions_visited f n xs (omega (arith, le)))

one_function_visited : (f : List ℕ → PlainStmts) (n : ℕ) (xs : List FunctionDef) (x y : FunctionDef) → n < length xs → x ≡ get_or xs n x → plain_function y ≡ with_body f (plain_function x)
    → visited_functions f (suc n) (set xs n y) ≡ visited_functions f n xs
unfolding visited_functions
one_function_visited f n [] x y lt is e = absurd (omega (arith, lt))
one_function_visited f zero (z ∷ xs) x y lt is e =
    ap (λ (g : PlainFunction). g ∷ map (with_body f) (functions_of_list xs)) e ∙ ap (λ (a : FunctionDef). with_body f (plain_function a) ∷ map (with_body f) (functions_of_list xs)) is
one_function_visited f (suc n) (z ∷ xs) x y lt is e = ap (λ (gs : List PlainFunction). plain_function z ∷ gs) (one_function_visited f n xs x y (omega (arith, lt)) is e)

pub next_function_visited : (f : List ℕ → PlainStmts) (n : ℕ) (xs : List FunctionDef) (x y : FunctionDef) → n < length xs → x ≡ get_or xs n x → plain_function y ≡ with_body f (plain_function x)
    → visited_functions f (n + 1) (set xs n y) ≡ visited_functions f n xs
next_function_visited f n xs x y lt is e = let more : n + 1 ≡ suc n = omega arith in ap (λ k. visited_functions f k (set xs n y)) more ∙ one_function_visited f n xs x y lt is e

-- files by their names and trees: the first so many as they are, and the others with what a visit makes of them
pub visited_files : (List ℕ → PlainFile → PlainFile) → ℕ → List (List ℕ) → List FileTree → List ReadFile
visited_files g n [] ts = []
visited_files g n (x ∷ xs) [] = []
visited_files g zero (x ∷ xs) (t ∷ ts) = record { name = x; tree = g x (plain_file t) } ∷ visited_files g zero xs ts
visited_files g (suc n) (x ∷ xs) (t ∷ ts) = record { name = x; tree = plain_file t } ∷ visited_files g n xs ts

pub no_file_visited : (g : List ℕ → PlainFile → PlainFile) (xs : List (List ℕ)) (ts : List FileTree) → visited_files g 0 xs ts ≡ map (λ (f : ReadFile). record { name = f.name; tree = g f.name f.tree }) (paired xs ts)
unfolding visited_files
no_file_visited g [] ts = refl
no_file_visited g (x ∷ xs) [] = refl
no_file_visited g (x ∷ xs) (t ∷ ts) = ap (λ (fs : List ReadFile). let f : ReadFile = record { name = x; tree = g x (plain_file t) } in f ∷ fs) (no_file_visited g xs ts)

pub all_files_visited : (g : List ℕ → PlainFile → PlainFile) (n : ℕ) (xs : List (List ℕ)) (ts : List FileTree) → length ts ≤ n → visited_files g n xs ts ≡ paired xs ts
unfolding visited_files
all_files_visited g n [] ts le = refl
all_files_visited g n (x ∷ xs) [] le = refl
all_files_visited g zero (x ∷ xs) (t ∷ ts) le = absurd (omega (arith, le))
all_files_visited g (suc n) (x ∷ xs) (t ∷ ts) le = ap (λ (fs : List ReadFile). let f : ReadFile = record { name = x; tree = plain_file t } in f ∷ fs) (all_files_visited g n xs ts (omega (arith, le)))

one_file_visited : (g : List ℕ → PlainFile → PlainFile) (n : ℕ) (xs : List (List ℕ)) (ts : List FileTree) (x : List ℕ) (t u : FileTree) → slice_get xs n ≡ Some x → n < length ts → t ≡ get_or ts n t → plain_file u ≡ g x (plain_file t)
    → visited_files g (suc n) xs (set ts n u) ≡ visited_files g n xs ts
unfolding visited_files
one_file_visited g n [] ts x t u at lt is e = absurd (cc)
one_file_visited g n (y ∷ xs) [] x t u at lt is e = absurd (omega (arith, lt))
one_file_visited g zero (y ∷ xs) (v ∷ ts) x t u at lt is e =
    ap (λ (p : PlainFile). let f : ReadFile = record { name = y; tree = p } in f ∷ visited_files g 0 xs ts)
    (e ∙ ap (λ (z : List ℕ). g z (plain_file t)) (sym (same_Some y x at)) ∙ ap (λ (w : FileTree). g y (plain_file w)) is)
one_file_visited g (suc n) (y ∷ xs) (v ∷ ts) x t u at lt is e =
    ap (λ (fs : List ReadFile). let f : ReadFile = record { name = y; tree = plain_file v } in f ∷ fs) (one_file_visited g n xs ts x t u at (omega (arith, lt)) is e)

pub next_file_visited : (g : List ℕ → PlainFile → PlainFile) (n : ℕ) (xs : List (List ℕ)) (ts : List FileTree) (x : List ℕ) (t u : FileTree) → slice_get xs n ≡ Some x → n < length ts → t ≡ get_or ts n t → plain_file u ≡ g x (plain_file t)
    → visited_files g (n + 1) xs (set ts n u) ≡ visited_files g n xs ts
next_file_visited g n xs ts x t u at lt is e = let more : n + 1 ≡ suc n = omega arith in ap (λ k. visited_files g k xs (set ts n u)) more ∙ one_file_visited g n xs ts x t u at lt is e

-- a function and a file, with their includes replaced
pub function_replaced : (f : List ℕ → PlainStmts) (x : FunctionDef) (body : Vec Stmt Global) → stmts_of body.items ≡ with_bodies f (stmts_of x.body.items) → plain_function (record { name = x.name; params = x.params; body = body }) ≡ with_body f (plain_function x)
function_replaced f x body e = ap (λ (ss : PlainStmts). let g : PlainFunction = record { name_of = (plain_function x).name_of; params_of = (plain_function x).params_of; body_of = ss } in g) e

pub file_replaced : (f : List ℕ → PlainStmts) (x : FileTree) (body : Vec Stmt Global) (functions : Vec FunctionDef Global) → stmts_of body.items ≡ with_bodies f (stmts_of x.body.items)
    → functions_of_list functions.items ≡ map (with_body f) (functions_of_list x.functions.items) → plain_file (record { body = body; functions = functions }) ≡ file_with_bodies f (plain_file x)
unfolding file_with_bodies
file_replaced f x body functions e h =
    ap (λ (ss : PlainStmts). let g : PlainFile = record { body_of = ss; functions_of = functions_of_list functions.items } in g) e
    ∙ ap (λ (gs : List PlainFunction). let g : PlainFile = record { body_of = with_bodies f (stmts_of x.body.items); functions_of = gs } in g) h
