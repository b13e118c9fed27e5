-- Loops over statements, functions and files.
use Rattle.std.proofs.Common.{◌≡◌, ◌∙◌, ℕ, zero, suc, ◌+◌, ◌<◌, ◌≤◌, Bool, true, false, if◌then◌else◌, List, [], ◌∷◌, ◌++◌, length, drop, get_or, map, Option, Some, None, option_map, slice_get, append_assoc, refl, sym, ap, subst, arith}
use Rattle.std.proofs.lemmas.List.{drop_all}
use Rattle.tree_walks.proofs.CopyLemmas.{drop_here}
use Rattle.std.specs.Prelude.{◌||◌, bytes_eq}
use Rattle.std.proofs.lemmas.Option.{same_Some}
use Rattle.php_syntax.specs.declared.tree.Stmt.{Stmt}
use Rattle.php_syntax.specs.declared.tree.FunctionDef.{FunctionDef}
use Rattle.php_syntax.specs.Height.{stmts_height}
use Rattle.php_syntax.specs.Trees.{PlainStmts, no_stmts, PlainFunction, PlainFile, plain_stmt, stmts_of, plain_function, functions_of_list}
use Rattle.program_rules.specs.Bodies.{followed_by, with_bodies, with_bodies_in}
use Rattle.program_rules.specs.Programs.{ReadFile, functions_in}
use Rattle.program_files.specs.Order.{is_read, place_of}
use Rattle.include_expansion.specs.Within.{tree_named, bodies_within}
use Rattle.include_expansion.proofs.PlaceLemmas.{file_there, tree_there}
use Rattle.include_expansion.proofs.Followed.{followed-none, followed-assoc}
use Rattle.include_expansion.proofs.Measures.{tallest, below_tallest}

-- nothing stands for an include where no more files may stand in one another
pub nothing_more : (files : List ReadFile) (n : ℕ) (path : List ℕ) (a : PlainStmts) → n ≡ 0 → a ≡ followed_by a (bodies_within files n path)
unfolding bodies_within
nothing_more files zero path a e = sym (followed-none a)
nothing_more files (suc n) path a e = absurd (omega arith)

neither : (a b : Bool) → (a || b) ≡ false → (a ≡ false) × (b ≡ false)
neither true b e = absurd (cc)
neither false b e = (refl, e)

no_tree : (files : List ReadFile) (path : List ℕ) → is_read files path ≡ false → (tree_named files path).body_of ≡ no_stmts
unfolding tree_named
no_tree [] path e = refl
no_tree (f ∷ fs) path e = let n = neither (bytes_eq path f.name) (is_read fs path) e in ap (λ (b : Bool). (if b then f.tree else tree_named fs path).body_of) n.0 ∙ no_tree fs path n.1

-- nor of a file that was not read
pub nothing_read : (files : List ReadFile) (n : ℕ) (path : List ℕ) (a : PlainStmts) → is_read files path ≡ false → a ≡ followed_by a (bodies_within files n path)
unfolding bodies_within with_bodies
nothing_read files zero path a e = sym (followed-none a)
nothing_read files (suc n) path a e = sym (ap (λ (ss : PlainStmts). followed_by a (with_bodies (bodies_within files n) ss)) (no_tree files path e) ∙ followed-none a)

tree_of : (o : Option ReadFile) (tree : PlainFile) → Some tree ≡ option_map (λ (file : ReadFile). file.tree) o → (file : ReadFile) × (o ≡ Some file) × (tree ≡ file.tree)
tree_of None tree e = absurd (cc)
tree_of (Some file) tree e = (file, refl, same_Some tree file.tree e)

no_tree_of : (o : Option ReadFile) → None ≡ option_map (λ (file : ReadFile). file.tree) o → o ≡ None
no_tree_of None e = refl
no_tree_of (Some file) e = absurd (cc)

pub tree_is_there : (files : List ReadFile) (path : List ℕ) (place : ℕ) → place_of files path ≡ Some place → None ≡ option_map (λ (file : ReadFile). file.tree) (slice_get files place) → ⊥
tree_is_there files path place e none = let f = file_there files path place e in let h : Some f.0 ≡ None = sym f.1 ∙ no_tree_of (slice_get files place) none in cc

-- what a file stands for
pub expanded : (files : List ReadFile) (n m : ℕ) (path : List ℕ) (place : ℕ) (tree : PlainFile) → n ≡ m + 1 → place_of files path ≡ Some place → Some tree ≡ option_map (λ (file : ReadFile). file.tree) (slice_get files place)
    → bodies_within files n path ≡ with_bodies (bodies_within files m) tree.body_of
unfolding bodies_within
expanded files zero m path place tree e at own = absurd (omega arith)
expanded files (suc n) m path place tree e at own =
    let f = tree_of (slice_get files place) tree own in
    let same : n ≡ m = omega arith in
    let named : tree_named files path ≡ tree = tree_there files path place f.0 at f.1 ∙ sym f.2 in
    ap (λ (k : ℕ). with_bodies (bodies_within files k) (tree_named files path).body_of) same ∙ ap (λ (t : PlainFile). with_bodies (bodies_within files m) t.body_of) named

pub body_below : (files : List ReadFile) (place : ℕ) (tree : PlainFile) → Some tree ≡ option_map (λ (file : ReadFile). file.tree) (slice_get files place) → stmts_height tree.body_of ≤ tallest files
body_below files place tree own =
    let f = tree_of (slice_get files place) tree own in
    let P : PlainFile → Type 0 = λ t. stmts_height t.body_of ≤ tallest files in
    subst P (sym f.2) (below_tallest files place f.0 f.1)

pub stmts_step : (bodies : List ℕ → PlainStmts) (xs : List Stmt) (i : ℕ) (x : Stmt) (old new init : PlainStmts) → i < length xs → x ≡ get_or xs i x → new ≡ followed_by old (with_bodies_in bodies (plain_stmt x))
    → followed_by old (with_bodies bodies (stmts_of (drop i xs))) ≡ init → followed_by new (with_bodies bodies (stmts_of (drop (i + 1) xs))) ≡ init
unfolding with_bodies
stmts_step bodies xs i x old new init lt is push inv =
    let rest = with_bodies bodies (stmts_of (drop (i + 1) xs)) in
    ap (λ (a : PlainStmts). followed_by a rest) push ∙ followed-assoc old (with_bodies_in bodies (plain_stmt x)) rest
    ∙ sym (ap (λ (l : List Stmt). followed_by old (with_bodies bodies (stmts_of l))) (drop_here xs i x lt is)) ∙ inv

pub stmts_end : (bodies : List ℕ → PlainStmts) (xs : List Stmt) (i : ℕ) (old init : PlainStmts) → length xs ≤ i → followed_by old (with_bodies bodies (stmts_of (drop i xs))) ≡ init → old ≡ init
unfolding with_bodies
stmts_end bodies xs i old init le inv = sym (followed-none old) ∙ sym (ap (λ (l : List Stmt). followed_by old (with_bodies bodies (stmts_of l))) (drop_all i xs le)) ∙ inv

pub list_append : (xs ys : List FunctionDef) → functions_of_list (xs ++ ys) ≡ functions_of_list xs ++ functions_of_list ys
list_append [] ys = refl
list_append (x ∷ xs) ys = ap (λ (fs : List PlainFunction). plain_function x ∷ fs) (list_append xs ys)

pub functions_step : (g : PlainFunction → PlainFunction) (xs : List FunctionDef) (i : ℕ) (x : FunctionDef) (old new : List FunctionDef) (copy : FunctionDef) (init : List PlainFunction) → i < length xs → x ≡ get_or xs i x
    → plain_function copy ≡ g (plain_function x) → new ≡ old ++ copy ∷ [] → functions_of_list old ++ map g (functions_of_list (drop i xs)) ≡ init → functions_of_list new ++ map g (functions_of_list (drop (i + 1) xs)) ≡ init
functions_step g xs i x old new copy init lt is same push inv =
    let rest = map g (functions_of_list (drop (i + 1) xs)) in
    ap (λ (v : List FunctionDef). functions_of_list v ++ rest) push ∙ ap (λ (v : List PlainFunction). v ++ rest) (list_append old (copy ∷ [])) ∙ append_assoc (functions_of_list old) (plain_function copy ∷ []) rest
    ∙ ap (λ (f : PlainFunction). functions_of_list old ++ (f ∷ rest)) same
    ∙ sym (ap (λ (l : List FunctionDef). functions_of_list old ++ map g (functions_of_list l)) (drop_here xs i x lt is)) ∙ inv

map_append : (g : PlainFunction → PlainFunction) (xs ys : List PlainFunction) → map g (xs ++ ys) ≡ map g xs ++ map g ys
map_append g [] ys = refl
map_append g (x ∷ xs) ys = ap (λ (fs : List PlainFunction). g x ∷ fs) (map_append g xs ys)

drop_file : (files : List ReadFile) (k : ℕ) (file : ReadFile) → slice_get files k ≡ Some file → drop k files ≡ file ∷ drop (suc k) files
drop_file [] k file e = absurd (cc)
drop_file (f ∷ fs) zero file e = ap (λ (g : ReadFile). g ∷ fs) (same_Some f file e)
drop_file (f ∷ fs) (suc k) file e = drop_file fs k file e

pub files_step : (g : PlainFunction → PlainFunction) (files : List ReadFile) (place : ℕ) (tree : PlainFile) (old new init : List PlainFunction) → Some tree ≡ option_map (λ (file : ReadFile). file.tree) (slice_get files place)
    → new ≡ old ++ map g tree.functions_of → old ++ map g (functions_in (drop place files)) ≡ init → new ++ map g (functions_in (drop (place + 1) files)) ≡ init
unfolding functions_in
files_step g files place tree old new init own push inv =
    let f = tree_of (slice_get files place) tree own in
    let e : suc place ≡ place + 1 = omega arith in
    let rest = functions_in (drop (suc place) files) in
    let split : functions_in (drop place files) ≡ tree.functions_of ++ rest = ap functions_in (drop_file files place f.0 f.1) ∙ ap (λ (t : PlainFile). t.functions_of ++ rest) (sym f.2) in
    ap (λ (k : ℕ). new ++ map g (functions_in (drop k files))) (sym e) ∙ ap (λ (v : List PlainFunction). v ++ map g rest) push ∙ append_assoc old (map g tree.functions_of) (map g rest)
    ∙ sym (ap (λ (v : List PlainFunction). old ++ v) (ap (map g) split ∙ map_append g tree.functions_of rest)) ∙ inv
