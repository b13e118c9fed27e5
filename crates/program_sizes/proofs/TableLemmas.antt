-- The sizes of what files stand for, along an order of their includes.
use Rattle.std.proofs.Common.{◌≡◌, ◌∙◌, ◌≤◌, ◌<◌, ℕ, zero, suc, ◌+◌, true, List, [], ◌∷◌, ◌++◌, length, map, take, drop, set, get_or, Option, Some, None, option_map, slice_get, inl, inr, refl, sym, ap, subst, arith}
use Rattle.std.specs.Prelude.{◌⊎◌}
use Rattle.std.specs.List.{Contains}
use Rattle.std.proofs.lemmas.Grind.{common_steps}
use Rattle.std.proofs.lemmas.List.{append-nil, drop_all}
use Rattle.std.proofs.lemmas.List.Elements.{Contains-append_left, Contains-append_right, Contains-append_cases}
use Rattle.std.proofs.lemmas.Option.{same_Some, slice_get-map, slice_get-get_or, slice_get_within}
use Rattle.strong_components.proofs.OrderListLemmas.{set_at}
use Rattle.php_syntax.specs.declared.tree.Stmt.{Stmt}
use Rattle.php_syntax.specs.declared.tree.FunctionDef.{FunctionDef}
use Rattle.php_syntax.specs.declared.tree.FileTree.{FileTree}
use Rattle.php_syntax.specs.Trees.{PlainStmts, PlainFunction, PlainFile, plain_file, stmts_of, functions_of_list}
use Rattle.php_syntax.specs.Height.{file_nodes, file_height}
use Rattle.program_rules.specs.declared.limits.TheConstants.{PLACE_LIMIT, NODE_LIMIT, PROGRAM_HEIGHT_LIMIT}
use Rattle.program_rules.specs.Includes.{includes_in, includes_in_functions, includes_of_file}
use Rattle.program_rules.specs.Limits.{one_each, as_file, IsWithin}
use Rattle.program_rules.specs.Bodies.{with_bodies, with_body}
use Rattle.program_rules.specs.Programs.{ReadFile, functions_in}
use Rattle.program_files.specs.Order.{is_read, place_of}
use Rattle.include_expansion.specs.Within.{tree_named, bodies_within, places_within, program_within}
use Rattle.include_expansion.specs.FileOrder.{AreWhole, name_or_none, names_at, IsFileOrder}
use Rattle.include_expansion.proofs.PlaceLemmas.{place_there, file_there, tree_there}
use Rattle.program_sizes.specs.declared.size.Size.{Size}
use Rattle.program_sizes.specs.Sizes as sizes
use Rattle.program_sizes.specs.Bodies.{of_body, body_of_path, IsTableOfFirst, IsBodyTable}
use Rattle.program_sizes.specs.FileRules.{all_functions}
use Rattle.program_sizes.specs.Limits.{function_places, program_places, PassesLimit}
use Rattle.program_sizes.specs.Loaded.{with_stubs}
use Rattle.program_sizes.proofs.SizeLemmas.{same_size, within_capped}
use Rattle.program_sizes.proofs.CappedLemmas.{capped_stmts, capped_program}
use Rattle.program_sizes.proofs.BodyLemmas.{body_sized, program_sized, functions_append}
use Rattle.program_sizes.proofs.StubLemmas.{functions_include, stubs_as_they_are, no_more_places}

same_or_not : (a b : ℕ) → (a ≡ b) ⊎ (a ≡ b → ⊥)
same_or_not zero zero = inl refl
same_or_not zero (suc b) = inr (λ e. omega arith)
same_or_not (suc a) zero = inr (λ e. omega arith)
same_or_not (suc a) (suc b) = elim (same_or_not a b) [ inl e ↦ inl (ap suc e) | inr n ↦ inr (λ e. n (omega arith)) ]

other_place : {X : Type 0} (xs : List X) (i : ℕ) (y : X) (j : ℕ) → (j ≡ i → ⊥) → slice_get (set xs i y) j ≡ slice_get xs j
other_place [] i y j n = refl
other_place (z ∷ zs) zero y zero n = absurd (n refl)
other_place (z ∷ zs) zero y (suc j) n = refl
other_place (z ∷ zs) (suc i) y zero n = refl
other_place (z ∷ zs) (suc i) y (suc j) n = other_place zs i y j (λ e. n (ap suc e))

-- a member of one more is one of those before, or the last of them
member_core : {X : Type 0} (xs : List X) (k : ℕ) (x : X) → Contains (take (suc k) xs) x → Contains (take k xs) x ⊎ (slice_get xs k ≡ Some x)
member_core [] k x c = absurd (let h = c.1 in omega arith)
member_core (y ∷ ys) zero x (zero, lt, is) = inr (ap Some is)
member_core (y ∷ ys) zero x (suc i, lt, is) = absurd (let h : suc i < suc 0 = lt in omega arith)
member_core (y ∷ ys) (suc k) x (zero, lt, is) = inl (0, omega arith, is)
member_core (y ∷ ys) (suc k) x (suc i, lt, is) = elim (member_core ys k x (i, omega arith, is)) [ inl c ↦ inl (suc c.0, (let h = c.1 in omega arith), c.2) | inr e ↦ inr e ]

member_cases : {X : Type 0} (xs : List X) (k : ℕ) (x : X) → Contains (take (k + 1) xs) x → Contains (take k xs) x ⊎ (slice_get xs k ≡ Some x)
member_cases {X} xs k x c = let e : k + 1 ≡ suc k = omega arith in let P : ℕ → Type 0 = λ i. Contains (take i xs) x in member_core xs k x (subst P e c)

first_of_all : {X : Type 0} (xs : List X) (k : ℕ) (x : X) → Contains (take k xs) x → Contains xs x
first_of_all [] zero x c = c
first_of_all [] (suc k) x c = c
first_of_all (y ∷ ys) zero x c = absurd (let h = c.1 in omega arith)
first_of_all (y ∷ ys) (suc k) x (zero, lt, is) = (zero, omega arith, is)
first_of_all (y ∷ ys) (suc k) x (suc i, lt, is) = let rest = first_of_all ys k x (i, omega arith, is) in (suc rest.0, (let h = rest.1 in omega arith), rest.2)

none_first : {X : Type 0} (xs : List X) (x : X) → Contains (take 0 xs) x → ⊥
none_first [] x c = let h = c.1 in omega arith
none_first (y ∷ ys) x c = let h = c.1 in omega arith

pub all_first : {X : Type 0} (xs : List X) (x : X) → Contains xs x → Contains (take (length xs) xs) x
all_first {X} xs x c = let e : take (length xs) xs ≡ xs = grind (arith, common_steps) in subst (λ (ys : List X). Contains ys x) (sym e) c

capped_twice : (a : Size) → sizes.capped (sizes.capped a) ≡ sizes.capped a
unfolding sizes.capped
capped_twice a = same_size (sizes.capped (sizes.capped a)) (sizes.capped a) (omega arith) (omega arith) (omega arith)

-- the size of what a file stands for, where what it includes is in the table
file_sized : (files : List ReadFile) (table : List Size) (m : ℕ) (path : List ℕ) (tree : PlainFile) → tree_named files path ≡ tree
    → ((inner : List ℕ) → Contains (includes_in tree.body_of) inner → sizes.capped (sizes.size_at files table inner) ≡ sizes.capped (body_of_path files m inner))
    → sizes.capped (sizes.of_stmts (sizes.size_at files table) tree.body_of) ≡ sizes.capped (body_of_path files (suc m) path)
unfolding bodies_within places_within
file_sized files table m path tree same agree =
    capped_stmts (sizes.size_at files table) (body_of_path files m) tree.body_of agree
    ∙ ap sizes.capped (body_sized files m tree.body_of)
    ∙ ap (λ (t : PlainFile). sizes.capped (of_body (one_each (places_within files m) (includes_in t.body_of)) (with_bodies (bodies_within files m) t.body_of))) (sym same)

pub table_begin : (files : List ReadFile) (order : List ℕ) (table : List Size) → IsTableOfFirst files order 0 table
table_begin files order table n path le c = absurd (none_first (names_at files order) path c)

in_file : (tree : PlainFile) (path : List ℕ) → Contains (includes_in tree.body_of) path → Contains (includes_of_file tree) path
unfolding includes_of_file
in_file tree path c = Contains-append_left (includes_in tree.body_of) (includes_in_functions tree.functions_of) path c

sized_above : (files : List ReadFile) (order : List ℕ) (k place : ℕ) (file : ReadFile) (table : List Size) (size : Size) → IsFileOrder files order → slice_get order k ≡ Some place → slice_get files place ≡ Some file
    → IsTableOfFirst files order k table → size ≡ sizes.capped (sizes.of_stmts (sizes.size_at files table) file.tree.body_of) → (n : ℕ) → k + 1 ≤ n → sizes.capped size ≡ sizes.capped (body_of_path files n file.name)
sized_above files order k place file table size is at here first own zero le = absurd (omega arith)
sized_above files order k place file table size is at here first own (suc m) le =
    let tree = tree_there files file.name place file (is.found place file here) here in
    let name : slice_get (names_at files order) k ≡ Some file.name = slice_get-map (λ (p : ℕ). name_or_none (slice_get files p)) order k ∙ ap (λ (o : Option ℕ). option_named files o) at ∙ ap (λ (o : Option ReadFile). Some (name_or_none o)) here in
    ap sizes.capped own ∙ capped_twice (sizes.of_stmts (sizes.size_at files table) file.tree.body_of)
    ∙ file_sized files table m file.name file.tree tree (λ inner c. first m inner (omega arith) (is.order.sorted k file.name inner name (subst (λ (t : PlainFile). Contains (includes_of_file t) inner) (sym tree) (in_file file.tree inner c))))
  where
    option_named : List ReadFile → Option ℕ → Option (List ℕ)
    option_named fs None = None
    option_named fs (Some p) = Some (name_or_none (slice_get fs p))

pub table_more : (files : List ReadFile) (order : List ℕ) (k place : ℕ) (file : ReadFile) (table : List Size) (size : Size) → IsFileOrder files order → slice_get order k ≡ Some place → slice_get files place ≡ Some file → length table ≡ length files
    → IsTableOfFirst files order k table → size ≡ sizes.capped (sizes.of_stmts (sizes.size_at files table) file.tree.body_of) → IsTableOfFirst files order (k + 1) (set table place size)
table_more files order k place file table size is at here same first own n path le c =
    let read = is.order.within path (first_of_all (names_at files order) (k + 1) path c) in
    let p = place_there files path read in
    let f = file_there files path p.0 p.1 in
    elim (same_or_not p.0 place) [
      | inl e ↦ (
          let name : path ≡ file.name = f.2 ∙ ap (λ (g : ReadFile). g.name) (same_Some f.0 file (sym f.1 ∙ ap (slice_get files) e ∙ here)) in
          let less : place < length table = (let h = slice_get_within files place file here in omega arith) in
          let now : sizes.size_at files (set table place size) path ≡ size = ap (sizes.size_among (set table place size)) (p.1 ∙ ap Some e) ∙ ap sizes.size_or_none (set_at table place size less) in
          ap sizes.capped now ∙ sized_above files order k place file table size is at here first own n le ∙ ap (λ (x : List ℕ). sizes.capped (body_of_path files n x)) (sym name)
          )
      | inr differs ↦ (
          let now : sizes.size_at files (set table place size) path ≡ sizes.size_at files table path =
          ap (sizes.size_among (set table place size)) p.1 ∙ ap sizes.size_or_none (other_place table place size p.0 differs) ∙ ap (sizes.size_among table) (sym p.1) in
          elim (member_cases (names_at files order) k path c) [
            | inl before ↦ ap sizes.capped now ∙ first n path (omega arith) before
            | inr last ↦ (
                let q = named_at files order k path last in
                let same_place : q.0 ≡ place = same_Some q.0 place (sym q.1 ∙ at) in
                let name : path ≡ file.name = q.2 ∙ ap (λ (o : Option ReadFile). name_or_none o) (ap (slice_get files) same_place ∙ here) in
                absurd (differs (same_Some p.0 place (sym p.1 ∙ ap (place_of files) name ∙ is.found place file here)))
                )
          ]
          )
    ]
  where
    named_at : (files : List ReadFile) (places : List ℕ) (k : ℕ) (name : List ℕ) → slice_get (names_at files places) k ≡ Some name → (place : ℕ) × (slice_get places k ≡ Some place) × (name ≡ name_or_none (slice_get files place))
    named_at files [] k name e = absurd (cc)
    named_at files (p ∷ ps) zero name e = (p, refl, sym (same_Some (name_or_none (slice_get files p)) name e))
    named_at files (p ∷ ps) (suc k) name e = named_at files ps k name e

pub names_length : (files : List ReadFile) (order : List ℕ) → length (names_at files order) ≡ length order
names_length files [] = refl
names_length files (p ∷ ps) = ap suc (names_length files ps)

pub table_all : (files : List ReadFile) (order : List ℕ) (k : ℕ) (table : List Size) → IsFileOrder files order → k ≡ length order → IsTableOfFirst files order k table → IsBodyTable files order table
table_all files order k table is e first = record {
  sized = λ n path le read. (
      let c = all_first (names_at files order) path (is.order.all path read) in
      let P : ℕ → Type 0 = λ i. Contains (take i (names_at files order)) path in
      first n path (omega arith) (subst P (names_length files order ∙ sym e) c)
      );
}

tree_of : (o : Option ReadFile) (tree : PlainFile) → Some tree ≡ option_map (λ (file : ReadFile). file.tree) o → (file : ReadFile) × (o ≡ Some file) × (tree ≡ file.tree)
tree_of None tree e = absurd (cc)
tree_of (Some file) tree e = (file, refl, same_Some tree file.tree e)

at_place : (xs : List ℕ) (i : ℕ) → i < length xs → Contains xs (get_or xs i 0)
at_place [] i lt = absurd (omega arith)
at_place (y ∷ ys) zero lt = (0, omega arith, refl)
at_place (y ∷ ys) (suc i) lt = let rest = at_place ys i (omega arith) in (suc rest.0, (let h = rest.1 in omega arith), rest.2)

no_file : (files : List ReadFile) (place : ℕ) → place < length files → None ≡ option_map (λ (file : ReadFile). file.tree) (slice_get files place) → ⊥
no_file [] place lt e = omega arith
no_file (f ∷ fs) zero lt e = cc
no_file (f ∷ fs) (suc k) lt e = no_file fs k (omega arith) e

pub file_is_there : (files : List ReadFile) (order : List ℕ) (k : ℕ) → IsFileOrder files order → k < length order → None ≡ option_map (λ (file : ReadFile). file.tree) (slice_get files (get_or order k 0)) → ⊥
file_is_there files order k is lt e = no_file files (get_or order k 0) (is.within (get_or order k 0) (at_place order k lt)) e

-- a step of the loop over the order
pub table_step : (files : List ReadFile) (order : List ℕ) (k : ℕ) (tree : FileTree) (table shown : List Size) (stmts : List Stmt) (size : Size) → IsFileOrder files order → k < length order
    → Some (plain_file tree) ≡ option_map (λ (file : ReadFile). file.tree) (slice_get files (get_or order k 0)) → length table ≡ length files → IsTableOfFirst files order k table → shown ≡ table → stmts ≡ tree.body.items
    → size ≡ sizes.capped (sizes.of_stmts (sizes.size_at files shown) (stmts_of stmts)) → IsTableOfFirst files order (k + 1) (set table (get_or order k 0) size)
table_step files order k tree table shown stmts size is lt own same first e f sized =
    let file = tree_of (slice_get files (get_or order k 0)) (plain_file tree) own in
    let P : PlainFile → Type 0 = λ t. size ≡ sizes.capped (sizes.of_stmts (sizes.size_at files table) t.body_of) in
    let here : size ≡ sizes.capped (sizes.of_stmts (sizes.size_at files table) (stmts_of tree.body.items)) = sized ∙ ap (λ (t : List Size). sizes.capped (sizes.of_stmts (sizes.size_at files t) (stmts_of stmts))) e
    ∙ ap (λ (ss : List Stmt). sizes.capped (sizes.of_stmts (sizes.size_at files table) (stmts_of ss))) f in
    table_more files order k (get_or order k 0) file.0 table size is (slice_get-get_or order k 0 lt) file.1 same first (subst P file.2 here)

-- the functions of the files that are left
drop_file : (files : List ReadFile) (k : ℕ) (file : ReadFile) → slice_get files k ≡ Some file → drop k files ≡ file ∷ drop (suc k) files
drop_file [] k file e = absurd (cc)
drop_file (f ∷ fs) zero file e = ap (λ (g : ReadFile). g ∷ fs) (same_Some f file e)
drop_file (f ∷ fs) (suc k) file e = drop_file fs k file e

pub files_left : (table : List ℕ → Size) (files : List ReadFile) (place : ℕ) (tree : FileTree) (functions : List FunctionDef) → Some (plain_file tree) ≡ option_map (λ (file : ReadFile). file.tree) (slice_get files place) → functions ≡ tree.functions.items
    → sizes.of_functions table (functions_in (drop place files)) ≡ sizes.beside (sizes.of_functions table (functions_of_list functions)) (sizes.of_functions table (functions_in (drop (place + 1) files)))
unfolding functions_in
files_left table files place tree functions own same =
    let f = tree_of (slice_get files place) (plain_file tree) own in
    let e : suc place ≡ place + 1 = omega arith in
    ap (λ (fs : List ReadFile). sizes.of_functions table (functions_in fs)) (drop_file files place f.0 f.1)
    ∙ functions_append table f.0.tree.functions_of (functions_in (drop (suc place) files))
    ∙ ap (λ (t : PlainFile). sizes.beside (sizes.of_functions table t.functions_of) (sizes.of_functions table (functions_in (drop (suc place) files)))) (sym f.2)
    ∙ ap (λ (k : ℕ). sizes.beside (sizes.of_functions table (functions_of_list tree.functions.items)) (sizes.of_functions table (functions_in (drop k files)))) e
    ∙ ap (λ (fs : List FunctionDef). sizes.beside (sizes.of_functions table (functions_of_list fs)) (sizes.of_functions table (functions_in (drop (place + 1) files)))) (sym same)

pub no_files_left : (table : List ℕ → Size) (files : List ReadFile) (place : ℕ) → length files ≤ place → sizes.of_functions table (functions_in (drop place files)) ≡ sizes.none
unfolding functions_in sizes.of_functions
no_files_left table files place le = ap (λ (fs : List ReadFile). sizes.of_functions table (functions_in fs)) (drop_all place files le)

-- what the functions of files include, a file includes
in_functions : (tree : PlainFile) (path : List ℕ) → Contains (includes_in_functions tree.functions_of) path → Contains (includes_of_file tree) path
unfolding includes_of_file
in_functions tree path c = Contains-append_right (includes_in tree.body_of) (includes_in_functions tree.functions_of) path c

pub function_includes : (files : List ReadFile) (path : List ℕ) → Contains (includes_in_functions (functions_in files)) path → (file : ReadFile) × Contains files file × Contains (includes_of_file file.tree) path
unfolding functions_in includes_in_functions
function_includes [] path c = absurd (let h = c.1 in omega arith)
function_includes (file ∷ files) path c =
    elim (Contains-append_cases (includes_in_functions file.tree.functions_of) (includes_in_functions (functions_in files)) path (subst (λ (xs : List (List ℕ)). Contains xs path) (functions_include file.tree.functions_of (functions_in files)) c)) [
      | inl own ↦ (file, (0, omega arith, refl), in_functions file.tree path own)
      | inr later ↦ (let rest = function_includes files path later in (rest.0, Contains-append_right (file ∷ []) files rest.0 rest.1, rest.2))
    ]

all_read : (files : List ReadFile) (main : PlainFile) (stubs : List PlainFunction) → AreWhole files → ((file : ReadFile) × Contains files file × (file.tree ≡ main)) → includes_in_functions stubs ≡ []
    → (path : List ℕ) → Contains (includes_in main.body_of ++ includes_in_functions (all_functions files stubs)) path → is_read files path ≡ true
all_read files main stubs whole own none path c = elim (Contains-append_cases (includes_in main.body_of) (includes_in_functions (all_functions files stubs)) path c) [
  | inl body ↦ whole.closed own.0 path own.1 (subst (λ (t : PlainFile). Contains (includes_of_file t) path) (sym own.2) (in_file main path body))
  | inr later ↦ (
      let all : includes_in_functions (all_functions files stubs) ≡ includes_in_functions (functions_in files) =
      functions_include (functions_in files) stubs ∙ ap (λ (xs : List (List ℕ)). includes_in_functions (functions_in files) ++ xs) none ∙ append-nil (includes_in_functions (functions_in files)) in
      let f = function_includes files path (subst (λ (xs : List (List ℕ)). Contains xs path) all later) in
      whole.closed f.0 path f.1 f.2
      )
]

-- the size of the program, in full
abbrev pub program_size : List ReadFile → List PlainFunction → ℕ → PlainFile → Size
program_size files stubs n main = record {
  places = program_places files n main;
  nodes = file_nodes (as_file (with_stubs stubs (program_within files n main)));
  height = file_height (as_file (with_stubs stubs (program_within files n main)));
}

-- stubs have no places of includes, and stand as they are
stubbed : (files : List ReadFile) (stubs : List PlainFunction) (n : ℕ) (main : PlainFile) → includes_in_functions stubs ≡ []
    → sizes.above (sizes.beside (sizes.of_stmts (body_of_path files n) main.body_of) (sizes.of_functions (body_of_path files n) (all_functions files stubs))) ≡ program_size files stubs n main
stubbed files stubs n main none =
    let own = functions_in files in
    let b : List ℕ → PlainStmts = bodies_within files n in
    let e = stubs_as_they_are b own stubs none in
    program_sized files n main.body_of (own ++ stubs)
    ∙ same_size (record {
      places = one_each (places_within files n) (includes_in main.body_of) + function_places files n (own ++ stubs);
      nodes = file_nodes (record { body_of = with_bodies b main.body_of; functions_of = map (with_body b) (own ++ stubs) });
      height = file_height (record { body_of = with_bodies b main.body_of; functions_of = map (with_body b) (own ++ stubs) });
    }) (program_size files stubs n main)
    (ap (λ (k : ℕ). one_each (places_within files n) (includes_in main.body_of) + k) (no_more_places files n own stubs none))
    (ap (λ (fs : List PlainFunction). file_nodes (record { body_of = with_bodies b main.body_of; functions_of = fs })) (sym e))
    (ap (λ (fs : List PlainFunction). file_height (record { body_of = with_bodies b main.body_of; functions_of = fs })) (sym e))

pub size_is : (files : List ReadFile) (order : List ℕ) (table : List Size) (main : PlainFile) (stubs : List PlainFunction) (size : Size) → AreWhole files → ((file : ReadFile) × Contains files file × (file.tree ≡ main)) → includes_in_functions stubs ≡ []
    → IsBodyTable files order table
    → size ≡ sizes.capped (sizes.above (sizes.beside (sizes.of_stmts (sizes.size_at files table) main.body_of) (sizes.of_functions (sizes.size_at files table) (all_functions files stubs))))
    → size ≡ sizes.capped (program_size files stubs (length order) main)
size_is files order table main stubs size whole own none is e =
    let n = length order in
    e ∙ capped_program (sizes.size_at files table) (body_of_path files n) main.body_of (all_functions files stubs) (λ path c. is.sized n path (omega arith) (all_read files main stubs whole own none path c))
    ∙ ap sizes.capped (stubbed files stubs n main none)

pub is_within : (files : List ReadFile) (stubs : List PlainFunction) (n : ℕ) (main : PlainFile) (size : Size) → size ≡ sizes.capped (program_size files stubs n main) → size.places ≤ PLACE_LIMIT → size.nodes ≤ NODE_LIMIT → size.height ≤ PROGRAM_HEIGHT_LIMIT
    → IsWithin (program_places files n main) (with_stubs stubs (program_within files n main))
is_within files stubs n main size e p q r = record {
  places_within = (within_capped size (program_size files stubs n main) PLACE_LIMIT e (omega arith)).0.0 p;
  nodes_within = (within_capped size (program_size files stubs n main) NODE_LIMIT e (omega arith)).1.0 q;
  height_within = (within_capped size (program_size files stubs n main) PROGRAM_HEIGHT_LIMIT e (omega arith)).2.0 r;
}

pub too_many_places : (files : List ReadFile) (stubs : List PlainFunction) (n : ℕ) (main : PlainFile) (size : Size) → size ≡ sizes.capped (program_size files stubs n main) → PLACE_LIMIT < size.places
    → PassesLimit (program_places files n main) (with_stubs stubs (program_within files n main)) (PLACE_LIMIT + 1)
too_many_places files stubs n main size e p = inl ((within_capped size (program_size files stubs n main) PLACE_LIMIT e (omega arith)).0.1 p, refl)

pub too_many_nodes : (files : List ReadFile) (stubs : List PlainFunction) (n : ℕ) (main : PlainFile) (size : Size) → size ≡ sizes.capped (program_size files stubs n main) → size.places ≤ PLACE_LIMIT → NODE_LIMIT < size.nodes
    → PassesLimit (program_places files n main) (with_stubs stubs (program_within files n main)) (NODE_LIMIT + 1)
too_many_nodes files stubs n main size e p q =
    inr (inl ((within_capped size (program_size files stubs n main) PLACE_LIMIT e (omega arith)).0.0 p, (within_capped size (program_size files stubs n main) NODE_LIMIT e (omega arith)).1.1 q, refl))

pub too_high : (files : List ReadFile) (stubs : List PlainFunction) (n : ℕ) (main : PlainFile) (size : Size) → size ≡ sizes.capped (program_size files stubs n main) → size.places ≤ PLACE_LIMIT → size.nodes ≤ NODE_LIMIT → PROGRAM_HEIGHT_LIMIT < size.height
    → PassesLimit (program_places files n main) (with_stubs stubs (program_within files n main)) (PROGRAM_HEIGHT_LIMIT + 1)
too_high files stubs n main size e p q r =
    inr (inr ((within_capped size (program_size files stubs n main) PLACE_LIMIT e (omega arith)).0.0 p, (within_capped size (program_size files stubs n main) NODE_LIMIT e (omega arith)).1.0 q, (within_capped size (program_size files stubs n main) PROGRAM_HEIGHT_LIMIT e (omega arith)).2.1 r, refl))
