-- What checked files make.
use Rattle.std.proofs.Common.{◌≡◌, ◌∙◌, ℕ, false, List, ◌++◌, length, map, Option, Some, None, option_map, slice_get, sym, ap, subst}
use Rattle.std.specs.Prelude.{MatchOption}
use Rattle.std.specs.Borrow.{Bor}
use Rattle.std.specs.List.{Contains}
use Rattle.std.proofs.lemmas.List.{length-map}
use Rattle.std.proofs.lemmas.Option.{same_Some}
use Rattle.php_syntax.specs.declared.tree.FileTree.{FileTree}
use Rattle.php_syntax.specs.Trees.{PlainStmts, PlainFunction, PlainFile, plain_file}
use Rattle.script_meaning.specs.Programs.{PlainProgram}
use Rattle.program_rules.specs.Bodies.{with_bodies, with_body}
use Rattle.program_rules.specs.Limits.{IsWithin}
use Rattle.program_rules.specs.Programs.{ReadFile, functions_in}
use Rattle.program_files.specs.declared.refusal.LoadRefusal.{LoadRefusal}
use Rattle.program_files.specs.Order.{is_read, place_of}
use Rattle.include_expansion.specs.FileOrder.{name_or_none, names_at, IsFileOrder}
use Rattle.include_expansion.proofs.PlaceLemmas.{file_there, tree_there}
use Rattle.program_sizes.proofs.ProgramLemmas.{at_place}
use Rattle.include_expansion.specs.Within.{bodies_within, tree_named, program_within}
use Rattle.program_sizes.specs.Limits.{program_places, IsSizeCause}
use Rattle.program_sizes.specs.FileRules.{KeepFunctionRules}
use Rattle.program_sizes.specs.Loaded.{AreStubs, with_stubs, MakeProgram}
use Rattle.function_rules.specs.Causes.{IsFunctionCause}
use Rattle.program_loader.specs.Told.{stubs_for}
use Rattle.program_loader.specs.Making.{AreReady, AreChecked, Make, BreakRules, PassLimit}

-- statements and functions make the program
pub made : (files : List ReadFile) (stubs : List PlainFunction) (n : ℕ) (tree : PlainFile) (main : PlainStmts) (functions : List PlainFunction) → main ≡ with_bodies (bodies_within files n) tree.body_of
    → functions ≡ map (with_body (bodies_within files n)) (functions_in files) ++ stubs → record { main_of = main; functions_of = functions } ≡ with_stubs stubs (program_within files n tree)
made files stubs n tree main functions e d =
    ap (λ (m : PlainStmts). record { main_of = m; functions_of = functions }) e ∙ ap (λ (fs : List PlainFunction). record { main_of = with_bodies (bodies_within files n) tree.body_of; functions_of = fs }) d

within_named : (files : List ReadFile) (stubs : List PlainFunction) (n m : ℕ) (tree other : PlainFile) → n ≡ m → tree ≡ other → IsWithin (program_places files n tree) (with_stubs stubs (program_within files n tree))
    → IsWithin (program_places files m other) (with_stubs stubs (program_within files m other))
within_named files stubs n m tree other e d within =
    let P : ℕ → Type 0 = λ k. IsWithin (program_places files k other) (with_stubs stubs (program_within files k other)) in
    let Q : PlainFile → Type 0 = λ t. IsWithin (program_places files n t) (with_stubs stubs (program_within files n t)) in
    subst P e (subst Q d within)

-- the program of checked files is made of them
pub makes : (files : List ReadFile) (stubs : List PlainFunction) (n : ℕ) (tree : PlainFile) (program : PlainProgram) (checked : AreChecked files stubs n tree) → program ≡ with_stubs stubs (program_within files n tree)
    → MakeProgram files stubs checked.order checked.name program
makes files stubs n tree program checked is =
    let named : program ≡ with_stubs stubs (program_within files (length checked.order) (tree_named files checked.name)) =
    is ∙ ap (λ (k : ℕ). with_stubs stubs (program_within files k tree)) (sym checked.size) ∙ ap (λ (t : PlainFile). with_stubs stubs (program_within files (length checked.order) t)) checked.tree_is in
    record {
      sorted = checked.sorted;
      rules = checked.rules;
      within =
          subst (IsWithin (program_places files (length checked.order) (tree_named files checked.name))) (sym named)
          (within_named files stubs n (length checked.order) tree (tree_named files checked.name) (sym checked.size) checked.tree_is checked.within);
      program_is = named;
    }

-- the tree of a name, found by its place
pub tree_found : (files : List ReadFile) (name : List ℕ) (place : ℕ) (r : Option (Bor FileTree)) → place_of files name ≡ Some place
    → option_map (λ (t : Bor FileTree). plain_file t.now) r ≡ option_map (λ (file : ReadFile). file.tree) (slice_get files place)
    → MatchOption r (is_read files name ≡ false) (λ t. (plain_file t.now ≡ tree_named files name) × ((file : ReadFile) × Contains files file × (file.tree ≡ plain_file t.now)))
tree_found files name place None at e =
    let f = file_there files name place at in
    let none : None ≡ Some f.0.tree = e ∙ ap (λ (o : Option ReadFile). option_map (λ (file : ReadFile). file.tree) o) f.1 in
    absurd (cc)
tree_found files name place (Some t) at e =
    let f = file_there files name place at in
    let same : plain_file t.now ≡ f.0.tree = same_Some (plain_file t.now) f.0.tree (e ∙ ap (λ (o : Option ReadFile). option_map (λ (file : ReadFile). file.tree) o) f.1) in
    (same ∙ sym (tree_there files name place f.0 at f.1), (f.0, at_place files place f.0 f.1, sym same))

names_length : (files : List ReadFile) (places : List ℕ) → length (names_at files places) ≡ length places
names_length files places = length-map places (λ (place : ℕ). name_or_none (slice_get files place))

-- files with an order that keep the rules and the limits are checked
pub are_checked : (files : List ReadFile) (stubs : List PlainFunction) (name : List ℕ) (places order : List ℕ) (n : ℕ) (tree : PlainFile) → AreReady files name → AreStubs stubs → IsFileOrder files places → order ≡ places → n ≡ length places
    → tree ≡ tree_named files name → KeepFunctionRules files stubs → IsWithin (program_places files (length order) tree) (with_stubs stubs (program_within files (length order) tree)) → AreChecked files stubs n tree
are_checked files stubs name places order n tree ready are is_order same size named rules within =
    let W : ℕ → Type 0 = λ k. IsWithin (program_places files k tree) (with_stubs stubs (program_within files k tree)) in record {
      scripts = ready.scripts;
      are_stubs = are;
      name = name;
      tree_is = named;
      order = names_at files places;
      sorted = is_order.order;
      size = names_length files places ∙ sym size;
      rules = rules;
      within = subst W (ap (λ (ps : List ℕ). length ps) same ∙ sym size) within;
    }

-- why they break a rule
pub break_rules : (files : List ReadFile) (functions : List PlainFunction) (places : List ℕ) (refusal : LoadRefusal) → IsFileOrder files places → IsFunctionCause files (stubs_for files functions) refusal → BreakRules files functions refusal
break_rules files functions places refusal is_order cause = record { order = names_at files places; sorted = is_order.order; cause = cause }

-- why they pass a limit
pub pass_limit : (files : List ReadFile) (functions : List PlainFunction) (name : List ℕ) (places order : List ℕ) (tree : PlainFile) (refusal : LoadRefusal) → IsFileOrder files places → order ≡ places → tree ≡ tree_named files name
    → KeepFunctionRules files (stubs_for files functions) → IsSizeCause (program_places files (length order) tree) (with_stubs (stubs_for files functions) (program_within files (length order) tree)) refusal
    → PassLimit files functions name refusal
pass_limit files functions name places order tree refusal is_order same named rules cause =
    let stubs : List PlainFunction = stubs_for files functions in
    let n : length order ≡ length (names_at files places) = ap (λ (ps : List ℕ). length ps) same ∙ sym (names_length files places) in
    let P : ℕ → Type 0 = λ k. IsSizeCause (program_places files k tree) (with_stubs stubs (program_within files k tree)) refusal in
    let Q : PlainFile → Type 0 = λ t. IsSizeCause (program_places files (length (names_at files places)) t) (with_stubs stubs (program_within files (length (names_at files places)) t)) refusal in
    record { order = names_at files places; sorted = is_order.order; rules = rules; cause = subst Q named (subst P n cause) }

-- what checked files make
pub make : (files : List ReadFile) (functions : List PlainFunction) (n : ℕ) (tree : PlainFile) (name : List ℕ) (program : PlainProgram) (checked : AreChecked files (stubs_for files functions) n tree) → checked.name ≡ name
    → program ≡ with_stubs (stubs_for files functions) (program_within files n tree) → Make files functions name program
make files functions n tree name program checked same is =
    (checked.order, subst (λ (x : List ℕ). MakeProgram files (stubs_for files functions) checked.order x program) same (makes files (stubs_for files functions) n tree program checked is))
