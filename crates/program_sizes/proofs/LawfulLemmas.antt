-- The program that files make keeps what every program in memory keeps.
use Rattle.std.proofs.Common.{◌≡◌, ◌∙◌, ℕ, zero, suc, Bool, true, false, if◌then◌else◌, List, [], ◌∷◌, ◌++◌, length, map, Some, None, Option, option_map, refl, sym, ap, subst, arith, inl, inr, append_assoc}
use Rattle.std.specs.Prelude.{◌⊎◌, ◌&&◌, ◌||◌, bytes_eq, nat_eq}
use Rattle.std.specs.List.{Contains, list_any}
use Rattle.std.specs.Cmp.Lexicographic.{pointwise}
use Rattle.std.proofs.lemmas.List.{map-append, append-nil}
use Rattle.std.proofs.lemmas.List.Elements.{Contains-append_cases, Contains-append_left, Contains-append_right}
use Rattle.php_syntax.specs.Trees.{PlainStmts, PlainFunction, PlainFile}
use Rattle.script_grammar.specs.Rules.{stmts_fit, params_fit, functions_fit, file_fits}
use Rattle.spellable.specs.Spellable.{is_call_name, params_spellable, stmts_spellable, functions_spellable, is_spellable}
use Rattle.builtin_meaning.specs.declared.builtin.Builtin.{Builtin}
use Rattle.builtin_meaning.specs.Names.{builtin_named}
use Rattle.script_meaning.specs.Programs.{PlainProgram, function_named}
use Rattle.program_expressions.specs.Collected.{bodies_collected}
use Rattle.program_rules.specs.Calls.{PlainCall, statement_calls, function_calls, calls_of_program}
use Rattle.program_rules.specs.Includes.{includes_in, includes_in_functions, includes_of_file}
use Rattle.program_rules.specs.Bodies.{with_bodies, with_body, file_with_bodies, include_of}
use Rattle.program_rules.proofs.PathLemmas.{twice, renamed}
use Rattle.program_rules.specs.Limits.{as_file, IsWithin}
use Rattle.program_rules.specs.Programs.{ReadFile, functions_in}
use Rattle.program_rules.specs.Rules.{is_there, DefinesTwice, serves, serves_builtin, is_known, serves_call, KeepsRules}
use Rattle.program_rules.specs.Lawful.{IsLawful}
use Rattle.include_expansion.specs.Within.{tree_named, bodies_within, program_within}
use Rattle.include_expansion.specs.FileCalls.{calls_in_files}
use Rattle.program_sizes.specs.FileRules.{all_functions, all_calls, KeepFunctionRules}
use Rattle.program_sizes.specs.Limits.{program_places}
use Rattle.program_sizes.specs.Loaded.{IsOfScript, AreScripts, AreStubs, with_stubs, MakeProgram}
use Rattle.program_sizes.proofs.StubLemmas.{left, right, both, functions_include, stubs_as_they_are}

-- names and parameters stay
same_names : (bodies : List ℕ → PlainStmts) (fs : List PlainFunction) (name : List ℕ) → list_any (λ (f : PlainFunction). bytes_eq f.name_of name) (map (with_body bodies) fs) ≡ list_any (λ (f : PlainFunction). bytes_eq f.name_of name) fs
same_names bodies [] name = refl
same_names bodies (f ∷ fs) name = ap (λ (b : Bool). bytes_eq f.name_of name || b) (same_names bodies fs name)

still_once : (bodies : List ℕ → PlainStmts) (fs : List PlainFunction) (name : List ℕ) → DefinesTwice (map (with_body bodies) fs) name → DefinesTwice fs name
unfolding DefinesTwice
still_once bodies [] name d = d
still_once bodies (f ∷ fs) name (inl (same, double)) = inl (same, ap (λ (b : Bool). is_there (builtin_named name) || b) (sym (same_names bodies fs name)) ∙ double)
still_once bodies (f ∷ fs) name (inr later) = inr (still_once bodies fs name later)

same_function : (bodies : List ℕ → PlainStmts) (fs : List PlainFunction) (name : List ℕ) → function_named (map (with_body bodies) fs) name ≡ option_map (with_body bodies) (function_named fs name)
unfolding function_named
same_function bodies [] name = refl
same_function bodies (f ∷ fs) name = by (pointwise nat_eq f.name_of name) (same_function bodies fs name)
  where
    by : (b : Bool) → function_named (map (with_body bodies) fs) name ≡ option_map (with_body bodies) (function_named fs name)
        → (if b then Some (with_body bodies f) else function_named (map (with_body bodies) fs) name) ≡ option_map (with_body bodies) (if b then Some f else function_named fs name)
    by true rest = refl
    by false rest = rest

there_still : (bodies : List ℕ → PlainStmts) (o : Option PlainFunction) → is_there (option_map (with_body bodies) o) ≡ is_there o
there_still bodies None = refl
there_still bodies (Some f) = refl

same_known : (bodies : List ℕ → PlainStmts) (fs : List PlainFunction) (call : PlainCall) → is_known (map (with_body bodies) fs) call ≡ is_known fs call
same_known bodies fs call = ap (λ (b : Bool). is_there (builtin_named call.name_of) || b) (ap (λ (o : Option PlainFunction). is_there o) (same_function bodies fs call.name_of) ∙ there_still bodies (function_named fs call.name_of))

-- how many arguments serve a call, by what its name stands for
served_builtin : (fs : List PlainFunction) (call : PlainCall) (b : Builtin) → builtin_named call.name_of ≡ Some b → serves_call fs call ≡ serves_builtin call.arguments b
served_builtin fs call b e = rw e refl

served_none : (fs : List PlainFunction) (call : PlainCall) → builtin_named call.name_of ≡ None → function_named fs call.name_of ≡ None → serves_call fs call ≡ true
served_none fs call e g = rw (e, g) refl

served_some : (fs : List PlainFunction) (call : PlainCall) (f : PlainFunction) → builtin_named call.name_of ≡ None → function_named fs call.name_of ≡ Some f → serves_call fs call ≡ serves call.arguments f.params_of
served_some fs call f e g = rw (e, g) refl

same_served : (bodies : List ℕ → PlainStmts) (fs : List PlainFunction) (call : PlainCall) → serves_call (map (with_body bodies) fs) call ≡ serves_call fs call
same_served bodies fs call = by (builtin_named call.name_of) refl (function_named fs call.name_of) refl
  where
    by : (o : Option Builtin) → builtin_named call.name_of ≡ o → (own : Option PlainFunction) → function_named fs call.name_of ≡ own → serves_call (map (with_body bodies) fs) call ≡ serves_call fs call
    by (Some b) e own g = served_builtin (map (with_body bodies) fs) call b e ∙ sym (served_builtin fs call b e)
    by None e None g = served_none (map (with_body bodies) fs) call e (same_function bodies fs call.name_of ∙ ap (λ (o : Option PlainFunction). option_map (with_body bodies) o) g) ∙ sym (served_none fs call e g)
    by None e (Some f) g =
        served_some (map (with_body bodies) fs) call (with_body bodies f) e (same_function bodies fs call.name_of ∙ ap (λ (o : Option PlainFunction). option_map (with_body bodies) o) g) ∙ sym (served_some fs call f e g)

-- each call of the program is one in the files
abbrev pub CallsAreInFiles : Type 0
CallsAreInFiles = (files : List ReadFile) (n : ℕ) (name : List ℕ) (call : PlainCall) → Contains (calls_of_program (program_within files n (tree_named files name))) call → Contains (calls_in_files files) call

-- the calls of functions in a row
calls_in_row : (a b : List PlainFunction) → function_calls (a ++ b) ≡ function_calls a ++ function_calls b
unfolding bodies_collected
calls_in_row [] b = refl
calls_in_row (f ∷ fs) b = ap (λ (cs : List PlainCall). statement_calls f.body_of ++ cs) (calls_in_row fs b) ∙ sym (append_assoc (statement_calls f.body_of) (function_calls fs) (function_calls b))

-- each call of a program with stubs is one of the program, or stands in a stub
call_cases : (stubs : List PlainFunction) (program : PlainProgram) (call : PlainCall) → Contains (calls_of_program (with_stubs stubs program)) call
    → Contains (calls_of_program program) call ⊎ Contains (function_calls stubs) call
unfolding calls_of_program
call_cases stubs program call c = elim (Contains-append_cases (statement_calls program.main_of) (function_calls (program.functions_of ++ stubs)) call c) [
  | inl main ↦ inl (Contains-append_left (statement_calls program.main_of) (function_calls program.functions_of) call main)
  | inr rest ↦ elim (Contains-append_cases (function_calls program.functions_of) (function_calls stubs) call (subst (λ (cs : List PlainCall). Contains cs call) (calls_in_row program.functions_of stubs) rest)) [
    | inl own ↦ inl (Contains-append_right (statement_calls program.main_of) (function_calls program.functions_of) call own)
    | inr stub ↦ inr stub
  ]
]

call_there : CallsAreInFiles → (files : List ReadFile) (stubs : List PlainFunction) (n : ℕ) (name : List ℕ) (call : PlainCall) → Contains (calls_of_program (with_stubs stubs (program_within files n (tree_named files name)))) call
    → Contains (all_calls files stubs) call
call_there calls files stubs n name call c = elim (call_cases stubs (program_within files n (tree_named files name)) call c) [
  | inl own ↦ Contains-append_left (calls_in_files files) (function_calls stubs) call (calls files n name call own)
  | inr stub ↦ Contains-append_right (calls_in_files files) (function_calls stubs) call stub
]

pub rules_kept : CallsAreInFiles → (files : List ReadFile) (stubs : List PlainFunction) (n : ℕ) (name : List ℕ) → includes_in_functions stubs ≡ [] → KeepFunctionRules files stubs
    → KeepsRules (with_stubs stubs (program_within files n (tree_named files name)))
rules_kept calls files stubs n name none rules =
    let b : List ℕ → PlainStmts = bodies_within files n in
    let all = all_functions files stubs in
    let e : map (with_body b) (functions_in files) ++ stubs ≡ map (with_body b) all = stubs_as_they_are b (functions_in files) stubs none in record {
      once = λ x double. rules.once x (still_once b all x (subst (λ (fs : List PlainFunction). DefinesTwice fs x) e double));
      known = λ call c. ap (λ (fs : List PlainFunction). is_known fs call) e ∙ same_known b all call ∙ rules.known call (call_there calls files stubs n name call c);
      served = λ call c. ap (λ (fs : List PlainFunction). serves_call fs call) e ∙ same_served b all call ∙ rules.served call (call_there calls files stubs n name call c);
    }

-- the forms of the grammar
abbrev pub FormsAreKept : Type 0
FormsAreKept = (bodies : List ℕ → PlainStmts) (ss : PlainStmts) → ((path : List ℕ) → stmts_spellable (bodies path) ≡ true) → stmts_spellable ss ≡ true → stmts_spellable (with_bodies bodies ss) ≡ true

-- each tree has them
abbrev AreForms : List ReadFile → Type 0
AreForms files = (file : ReadFile) → Contains files file → is_spellable file.tree ≡ true

tree_spellable : (files : List ReadFile) → AreForms files → (path : List ℕ) → stmts_spellable (tree_named files path).body_of ≡ true
unfolding tree_named stmts_spellable
tree_spellable [] are path = refl
tree_spellable (f ∷ fs) are path = by (bytes_eq path f.name) (tree_spellable fs (λ file c. are file (Contains-append_right (f ∷ []) fs file c)) path)
  where
    by : (b : Bool) → stmts_spellable (tree_named fs path).body_of ≡ true → stmts_spellable (if b then f.tree else tree_named fs path).body_of ≡ true
    by true rest = left (stmts_spellable f.tree.body_of) (functions_spellable f.tree.functions_of) (are f (0, omega arith, refl))
    by false rest = rest

bodies_spellable : FormsAreKept → (files : List ReadFile) → AreForms files → (n : ℕ) (path : List ℕ) → stmts_spellable (bodies_within files n path) ≡ true
unfolding bodies_within stmts_spellable
bodies_spellable kept files are zero path = refl
bodies_spellable kept files are (suc n) path = kept (bodies_within files n) (tree_named files path).body_of (bodies_spellable kept files are n) (tree_spellable files are path)

append_spellable : (fs gs : List PlainFunction) → functions_spellable fs ≡ true → functions_spellable gs ≡ true → functions_spellable (fs ++ gs) ≡ true
append_spellable [] gs e g = g
append_spellable (f ∷ fs) gs e g =
    let rest = right (is_call_name f.name_of) (params_spellable f.params_of && (stmts_spellable f.body_of && functions_spellable fs)) e in
    let last = right (params_spellable f.params_of) (stmts_spellable f.body_of && functions_spellable fs) rest in
    both (is_call_name f.name_of) (params_spellable f.params_of && (stmts_spellable f.body_of && functions_spellable (fs ++ gs))) (left (is_call_name f.name_of) (params_spellable f.params_of && (stmts_spellable f.body_of && functions_spellable fs)) e)
    (both (params_spellable f.params_of) (stmts_spellable f.body_of && functions_spellable (fs ++ gs)) (left (params_spellable f.params_of) (stmts_spellable f.body_of && functions_spellable fs) rest)
    (both (stmts_spellable f.body_of) (functions_spellable (fs ++ gs)) (left (stmts_spellable f.body_of) (functions_spellable fs) last) (append_spellable fs gs (right (stmts_spellable f.body_of) (functions_spellable fs) last) g)))

all_spellable : (files : List ReadFile) → AreForms files → functions_spellable (functions_in files) ≡ true
unfolding functions_in
all_spellable [] are = refl
all_spellable (f ∷ fs) are =
    append_spellable f.tree.functions_of (functions_in fs) (right (stmts_spellable f.tree.body_of) (functions_spellable f.tree.functions_of) (are f (0, omega arith, refl))) (all_spellable fs (λ file c. are file (Contains-append_right (f ∷ []) fs file c)))

mapped_spellable : FormsAreKept → (bodies : List ℕ → PlainStmts) → ((path : List ℕ) → stmts_spellable (bodies path) ≡ true) → (fs : List PlainFunction) → functions_spellable fs ≡ true → functions_spellable (map (with_body bodies) fs) ≡ true
mapped_spellable kept bodies h [] e = refl
mapped_spellable kept bodies h (f ∷ fs) e =
    let rest = right (is_call_name f.name_of) (params_spellable f.params_of && (stmts_spellable f.body_of && functions_spellable fs)) e in
    let last = right (params_spellable f.params_of) (stmts_spellable f.body_of && functions_spellable fs) rest in
    let body = stmts_spellable (with_bodies bodies f.body_of) in
    let behind = functions_spellable (map (with_body bodies) fs) in
    both (is_call_name f.name_of) (params_spellable f.params_of && (body && behind)) (left (is_call_name f.name_of) (params_spellable f.params_of && (stmts_spellable f.body_of && functions_spellable fs)) e)
    (both (params_spellable f.params_of) (body && behind) (left (params_spellable f.params_of) (stmts_spellable f.body_of && functions_spellable fs) rest)
    (both body behind (kept bodies f.body_of h (left (stmts_spellable f.body_of) (functions_spellable fs) last)) (mapped_spellable kept bodies h fs (right (stmts_spellable f.body_of) (functions_spellable fs) last))))

forms_of_files : FormsAreKept → (files : List ReadFile) (n : ℕ) (name : List ℕ) → AreForms files → is_spellable (as_file (program_within files n (tree_named files name))) ≡ true
forms_of_files kept files n name are =
    let bodies = bodies_within files n in
    both (stmts_spellable (with_bodies bodies (tree_named files name).body_of)) (functions_spellable (map (with_body bodies) (functions_in files)))
    (kept bodies (tree_named files name).body_of (bodies_spellable kept files are n) (tree_spellable files are name))
    (mapped_spellable kept bodies (bodies_spellable kept files are n) (functions_in files) (all_spellable files are))

-- the tree of a script has them, whatever the paths of its includes
tree_forms : FormsAreKept → (tree : PlainFile) → IsOfScript tree → is_spellable tree ≡ true
unfolding file_with_bodies stmts_spellable
tree_forms kept tree of =
    let g : List ℕ → PlainStmts = λ written. include_of (of.found written) in
    let body = stmts_spellable of.script.body_of in
    let functions = functions_spellable of.script.functions_of in
    let whole : is_spellable (file_with_bodies g of.script) ≡ true =
    both (stmts_spellable (with_bodies g of.script.body_of)) (functions_spellable (map (with_body g) of.script.functions_of)) (kept g of.script.body_of (λ path. refl) (left body functions of.spellable))
    (mapped_spellable kept g (λ path. refl) of.script.functions_of (right body functions of.spellable)) in
    ap (λ (t : PlainFile). is_spellable t) of.is ∙ whole

pub forms_kept : FormsAreKept → (files : List ReadFile) (n : ℕ) (name : List ℕ) → AreScripts files → is_spellable (as_file (program_within files n (tree_named files name))) ≡ true
forms_kept kept files n name are = forms_of_files kept files n name (λ file c. tree_forms kept file.tree (are file c))

-- the rules beside the grammar
abbrev pub RulesAreKept : Type 0
RulesAreKept = (bodies : List ℕ → PlainStmts) (in_loop in_function : Bool) (ss : PlainStmts) → ((path : List ℕ) → stmts_fit false false (bodies path) ≡ true) → stmts_fit in_loop in_function ss ≡ true → stmts_fit in_loop in_function (with_bodies bodies ss) ≡ true

-- what stands for the includes of statements fits
abbrev Fit : (List ℕ → PlainStmts) → Type 0
Fit bodies = (path : List ℕ) → stmts_fit false false (bodies path) ≡ true

-- and so under other paths
fit_renamed : (found : List ℕ → List ℕ) (bodies : List ℕ → PlainStmts) → Fit bodies → Fit (λ written. with_bodies bodies (include_of (found written)))
fit_renamed found bodies h written = ap (λ (ss : PlainStmts). stmts_fit false false ss) (renamed bodies (found written)) ∙ h (found written)

-- the statements of a script fit with whatever fits for its includes, whatever their paths
body_fits : RulesAreKept → (tree : PlainFile) → IsOfScript tree → (bodies : List ℕ → PlainStmts) → Fit bodies → stmts_fit false false (with_bodies bodies tree.body_of) ≡ true
unfolding file_with_bodies
body_fits kept tree of bodies h =
    let g : List ℕ → PlainStmts = λ written. include_of (of.found written) in
    let same : tree.body_of ≡ with_bodies g of.script.body_of = ap (λ (t : PlainFile). t.body_of) of.is in
    ap (λ (ss : PlainStmts). stmts_fit false false (with_bodies bodies ss)) same ∙ ap (λ (ss : PlainStmts). stmts_fit false false ss) (twice bodies g of.script.body_of)
    ∙ kept (λ written. with_bodies bodies (g written)) false false of.script.body_of (fit_renamed of.found bodies h) (left (stmts_fit false false of.script.body_of) (functions_fit of.script.functions_of) of.fits)

tree_fits : RulesAreKept → (files : List ReadFile) → AreScripts files → (path : List ℕ) (bodies : List ℕ → PlainStmts) → Fit bodies → stmts_fit false false (with_bodies bodies (tree_named files path).body_of) ≡ true
unfolding tree_named stmts_fit with_bodies
tree_fits kept [] are path bodies h = refl
tree_fits kept (f ∷ fs) are path bodies h = by (bytes_eq path f.name) (tree_fits kept fs (λ file c. are file (Contains-append_right (f ∷ []) fs file c)) path bodies h)
  where
    by : (b : Bool) → stmts_fit false false (with_bodies bodies (tree_named fs path).body_of) ≡ true → stmts_fit false false (with_bodies bodies (if b then f.tree else tree_named fs path).body_of) ≡ true
    by true rest = body_fits kept f.tree (are f (0, omega arith, refl)) bodies h
    by false rest = rest

bodies_fit : RulesAreKept → (files : List ReadFile) → AreScripts files → (n : ℕ) (path : List ℕ) → stmts_fit false false (bodies_within files n path) ≡ true
unfolding bodies_within stmts_fit
bodies_fit kept files are zero path = refl
bodies_fit kept files are (suc n) path = tree_fits kept files are path (bodies_within files n) (bodies_fit kept files are n)

append_fits : (fs gs : List PlainFunction) → functions_fit fs ≡ true → functions_fit gs ≡ true → functions_fit (fs ++ gs) ≡ true
append_fits [] gs e g = g
append_fits (f ∷ fs) gs e g =
    let rest = right (params_fit f.params_of) (stmts_fit false true f.body_of && functions_fit fs) e in
    both (params_fit f.params_of) (stmts_fit false true f.body_of && functions_fit (fs ++ gs)) (left (params_fit f.params_of) (stmts_fit false true f.body_of && functions_fit fs) e)
    (both (stmts_fit false true f.body_of) (functions_fit (fs ++ gs)) (left (stmts_fit false true f.body_of) (functions_fit fs) rest) (append_fits fs gs (right (stmts_fit false true f.body_of) (functions_fit fs) rest) g))

mapped_fit : RulesAreKept → (bodies : List ℕ → PlainStmts) → Fit bodies → (fs : List PlainFunction) → functions_fit fs ≡ true → functions_fit (map (with_body bodies) fs) ≡ true
mapped_fit kept bodies h [] e = refl
mapped_fit kept bodies h (f ∷ fs) e =
    let rest = right (params_fit f.params_of) (stmts_fit false true f.body_of && functions_fit fs) e in
    let body = stmts_fit false true (with_bodies bodies f.body_of) in
    let behind = functions_fit (map (with_body bodies) fs) in
    both (params_fit f.params_of) (body && behind) (left (params_fit f.params_of) (stmts_fit false true f.body_of && functions_fit fs) e)
    (both body behind (kept bodies false true f.body_of h (left (stmts_fit false true f.body_of) (functions_fit fs) rest)) (mapped_fit kept bodies h fs (right (stmts_fit false true f.body_of) (functions_fit fs) rest)))

-- functions whose includes are replaced twice
twice_in_functions : (b c : List ℕ → PlainStmts) (fs : List PlainFunction) → map (with_body b) (map (with_body c) fs) ≡ map (with_body (λ p. with_bodies b (c p))) fs
twice_in_functions b c [] = refl
twice_in_functions b c (f ∷ fs) =
    ap (λ (ss : PlainStmts). let x : PlainFunction = record { name_of = f.name_of; params_of = f.params_of; body_of = ss } in x ∷ map (with_body b) (map (with_body c) fs)) (twice b c f.body_of)
    ∙ ap (λ (gs : List PlainFunction). with_body (λ p. with_bodies b (c p)) f ∷ gs) (twice_in_functions b c fs)

functions_of_script_fit : RulesAreKept → (tree : PlainFile) → IsOfScript tree → (bodies : List ℕ → PlainStmts) → Fit bodies → functions_fit (map (with_body bodies) tree.functions_of) ≡ true
unfolding file_with_bodies
functions_of_script_fit kept tree of bodies h =
    let g : List ℕ → PlainStmts = λ written. include_of (of.found written) in
    let same : tree.functions_of ≡ map (with_body g) of.script.functions_of = ap (λ (t : PlainFile). t.functions_of) of.is in
    ap (λ (fs : List PlainFunction). functions_fit (map (with_body bodies) fs)) same ∙ ap (λ (fs : List PlainFunction). functions_fit fs) (twice_in_functions bodies g of.script.functions_of)
    ∙ mapped_fit kept (λ written. with_bodies bodies (g written)) (fit_renamed of.found bodies h) of.script.functions_of (right (stmts_fit false false of.script.body_of) (functions_fit of.script.functions_of) of.fits)

all_fit : RulesAreKept → (files : List ReadFile) → AreScripts files → (bodies : List ℕ → PlainStmts) → Fit bodies → functions_fit (map (with_body bodies) (functions_in files)) ≡ true
unfolding functions_in
all_fit kept [] are bodies h = refl
all_fit kept (f ∷ fs) are bodies h =
    ap (λ (gs : List PlainFunction). functions_fit gs) (map-append (with_body bodies) f.tree.functions_of (functions_in fs))
    ∙ append_fits (map (with_body bodies) f.tree.functions_of) (map (with_body bodies) (functions_in fs)) (functions_of_script_fit kept f.tree (are f (0, omega arith, refl)) bodies h)
    (all_fit kept fs (λ file c. are file (Contains-append_right (f ∷ []) fs file c)) bodies h)

pub fits_kept : RulesAreKept → (files : List ReadFile) (n : ℕ) (name : List ℕ) → AreScripts files → file_fits (as_file (program_within files n (tree_named files name))) ≡ true
fits_kept kept files n name are =
    let bodies = bodies_within files n in
    both (stmts_fit false false (with_bodies bodies (tree_named files name).body_of)) (functions_fit (map (with_body bodies) (functions_in files)))
    (tree_fits kept files are name bodies (bodies_fit kept files are n))
    (all_fit kept files are bodies (bodies_fit kept files are n))

-- no include
abbrev pub NoneIsLeft : Type 0
NoneIsLeft = (files : List ReadFile) (n : ℕ) (ss : PlainStmts) → includes_in (with_bodies (bodies_within files n) ss) ≡ []

none_in_functions : NoneIsLeft → (files : List ReadFile) (n : ℕ) (fs : List PlainFunction) → includes_in_functions (map (with_body (bodies_within files n)) fs) ≡ []
unfolding includes_in_functions
none_in_functions none files n [] = refl
none_in_functions none files n (f ∷ fs) = ap (λ (xs : List (List ℕ)). xs ++ includes_in_functions (map (with_body (bodies_within files n)) fs)) (none files n f.body_of) ∙ none_in_functions none files n fs

none_in_file : NoneIsLeft → (files : List ReadFile) (n : ℕ) (name : List ℕ) → includes_of_file (as_file (program_within files n (tree_named files name))) ≡ []
unfolding includes_of_file
none_in_file none files n name =
    ap (λ (xs : List (List ℕ)). xs ++ includes_in_functions (map (with_body (bodies_within files n)) (functions_in files))) (none files n (tree_named files name).body_of) ∙ none_in_functions none files n (functions_in files)

no_member : (xs : List (List ℕ)) (path : List ℕ) → xs ≡ [] → Contains xs path → ⊥
no_member [] path e c = let h = c.1 in omega arith
no_member (x ∷ xs) path e c = absurd (cc)

-- with stubs behind its functions a program has the forms, and fits, and includes nothing more
stubbed_forms : (stubs : List PlainFunction) (program : PlainProgram) → functions_spellable stubs ≡ true → is_spellable (as_file program) ≡ true → is_spellable (as_file (with_stubs stubs program)) ≡ true
stubbed_forms stubs program more e =
    let body = stmts_spellable program.main_of in
    let own = functions_spellable program.functions_of in
    both body (functions_spellable (program.functions_of ++ stubs)) (left body own e) (append_spellable program.functions_of stubs (right body own e) more)

stubbed_fits : (stubs : List PlainFunction) (program : PlainProgram) → functions_fit stubs ≡ true → file_fits (as_file program) ≡ true → file_fits (as_file (with_stubs stubs program)) ≡ true
stubbed_fits stubs program more e =
    let body = stmts_fit false false program.main_of in
    let own = functions_fit program.functions_of in
    both body (functions_fit (program.functions_of ++ stubs)) (left body own e) (append_fits program.functions_of stubs (right body own e) more)

stubbed_none : (stubs : List PlainFunction) (program : PlainProgram) → includes_in_functions stubs ≡ [] → includes_of_file (as_file program) ≡ [] → includes_of_file (as_file (with_stubs stubs program)) ≡ []
unfolding includes_of_file
stubbed_none stubs program none e =
    ap (λ (xs : List (List ℕ)). includes_in program.main_of ++ xs) (functions_include program.functions_of stubs ∙ ap (λ (xs : List (List ℕ)). includes_in_functions program.functions_of ++ xs) none ∙ append-nil (includes_in_functions program.functions_of)) ∙ e

pub lawful : CallsAreInFiles → RulesAreKept → FormsAreKept → NoneIsLeft → (files : List ReadFile) (stubs : List PlainFunction) (order : List (List ℕ)) (name : List ℕ) (program : PlainProgram) → AreScripts files → AreStubs stubs
    → MakeProgram files stubs order name program → IsLawful program
lawful calls rules forms none files stubs order name program are more made =
    let n = length order in
    let own : PlainProgram = program_within files n (tree_named files name) in
    let within = made.within in
    subst IsLawful (sym made.program_is) (record {
      whole = λ path c. no_member (includes_of_file (as_file (with_stubs stubs own))) path (stubbed_none stubs own more.whole (none_in_file none files n name)) c;
      of_grammar = stubbed_forms stubs own more.spellable (forms_kept forms files n name are);
      fits = stubbed_fits stubs own more.fit (fits_kept rules files n name are);
      rules = rules_kept calls files stubs n name more.whole made.rules;
      nodes_within = (subst (λ (p : PlainProgram). IsWithin (program_places files n (tree_named files name)) p) made.program_is within).nodes_within;
      height_within = (subst (λ (p : PlainProgram). IsWithin (program_places files n (tree_named files name)) p) made.program_is within).height_within;
    })
