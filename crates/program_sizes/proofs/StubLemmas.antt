-- Functions that include nothing stand as they are, whatever stands for includes; which functions of a file of stubs are taken.
use Rattle.std.proofs.Common.{◌≡◌, ◌∙◌, ℕ, ◌+◌, Bool, true, false, not, List, [], ◌∷◌, ◌++◌, map, refl, sym, ap, arith}
use Rattle.std.specs.Prelude.{◌||◌, ◌&&◌, bytes_eq, if◌then◌else◌}
use Rattle.std.specs.List.{Contains, list_any}
use Rattle.std.proofs.lemmas.List.{map-append}
use Rattle.php_syntax.specs.Trees.{PlainStmt, inline_stmt, echo_stmt, run_stmt, if_stmt, while_stmt, do_while_stmt, for_stmt, each_stmt, break_stmt, continue_stmt, return_stmt, include_stmt, quit_stmt, PlainStmts, no_stmts, more_stmts, PlainArms, no_arms, more_arms, PlainFunction, PlainFile}
use Rattle.script_grammar.specs.Rules.{params_fit, stmts_fit, functions_fit}
use Rattle.spellable.specs.Spellable.{is_call_name, params_spellable, stmts_spellable, functions_spellable}
use Rattle.spellable.proofs.BackFiles.{spelled_is_spellable}
use Rattle.builtin_meaning.specs.Names.{builtin_named}
use Rattle.program_rules.specs.Bodies.{followed_by, with_bodies, with_bodies_in, with_bodies_in_arms, with_body, file_with_bodies, include_of}
use Rattle.program_rules.proofs.PathLemmas.{same_file}
use Rattle.program_rules.specs.Files.{Held}
use Rattle.program_rules.specs.Includes.{includes_in, includes_in_functions, includes_of_file}
use Rattle.program_rules.specs.Limits.{one_each}
use Rattle.program_rules.specs.Programs.{ReadFile, TableStandsFor, taken}
use Rattle.program_rules.specs.Programs as programs
use Rattle.program_rules.specs.Rules.{is_there, is_double}
use Rattle.program_files.specs.Stubs.{IsStubScript}
use Rattle.include_expansion.specs.Within.{places_within}
use Rattle.program_sizes.specs.Limits.{function_places}
use Rattle.program_sizes.specs.Loaded.{AreStubs}

-- an include as a statement, which stands for it
abbrev kept_include : List ℕ → PlainStmts
kept_include path = include_of path

-- statements whose includes stand for themselves are as they are
mutual
  unfolding with_bodies followed_by

  same_stmts : (ss : PlainStmts) → with_bodies kept_include ss ≡ ss
  same_stmts no_stmts = refl
  same_stmts (more_stmts s ss) = ap (λ (x : PlainStmts). followed_by x (with_bodies kept_include ss)) (same_stmt s) ∙ ap (more_stmts s) (same_stmts ss)

  same_stmt : (s : PlainStmt) → with_bodies_in kept_include s ≡ more_stmts s no_stmts
  same_stmt (inline_stmt t) = refl
  same_stmt (echo_stmt es) = refl
  same_stmt (run_stmt e) = refl
  same_stmt (if_stmt arms otherwise) =
      ap (λ x. more_stmts (if_stmt x (with_bodies kept_include otherwise)) no_stmts) (same_arms arms) ∙ ap (λ x. more_stmts (if_stmt arms x) no_stmts) (same_stmts otherwise)
  same_stmt (while_stmt e body) = ap (λ x. more_stmts (while_stmt e x) no_stmts) (same_stmts body)
  same_stmt (do_while_stmt body e) = ap (λ x. more_stmts (do_while_stmt x e) no_stmts) (same_stmts body)
  same_stmt (for_stmt begin e next body) = ap (λ x. more_stmts (for_stmt begin e next x) no_stmts) (same_stmts body)
  same_stmt (each_stmt e key x body) = ap (λ y. more_stmts (each_stmt e key x y) no_stmts) (same_stmts body)
  same_stmt break_stmt = refl
  same_stmt continue_stmt = refl
  same_stmt (return_stmt e) = refl
  same_stmt (include_stmt path) = refl
  same_stmt (quit_stmt e) = refl

  same_arms : (arms : PlainArms) → with_bodies_in_arms kept_include arms ≡ arms
  same_arms no_arms = refl
  same_arms (more_arms e body arms) = ap (λ x. more_arms e x (with_bodies_in_arms kept_include arms)) (same_stmts body) ∙ ap (more_arms e body) (same_arms arms)

same_functions : (fs : List PlainFunction) → map (with_body kept_include) fs ≡ fs
same_functions [] = refl
same_functions (f ∷ fs) =
    ap (λ (ss : PlainStmts). let x : PlainFunction = record { name_of = f.name_of; params_of = f.params_of; body_of = ss } in x ∷ map (with_body kept_include) fs) (same_stmts f.body_of)
    ∙ ap (λ (gs : List PlainFunction). f ∷ gs) (same_functions fs)

no_path : (paths : List (List ℕ)) (path : List ℕ) → paths ≡ [] → Contains paths path → ⊥
no_path [] path e c = let h = c.1 in omega arith
no_path (p ∷ ps) path e c = absurd (cc)

first_none : (a b : List (List ℕ)) → a ++ b ≡ [] → a ≡ []
first_none [] b e = refl
first_none (x ∷ xs) b e = absurd (cc)

rest_none : (a b : List (List ℕ)) → a ++ b ≡ [] → b ≡ []
rest_none [] b e = e
rest_none (x ∷ xs) b e = absurd (cc)

-- the includes of functions in a row
pub functions_include : (fs gs : List PlainFunction) → includes_in_functions (fs ++ gs) ≡ includes_in_functions fs ++ includes_in_functions gs
unfolding includes_in_functions
functions_include [] gs = refl
functions_include (f ∷ fs) gs = ap (λ (xs : List (List ℕ)). includes_in f.body_of ++ xs) (functions_include fs gs) ∙ sym (assoc (includes_in f.body_of) (includes_in_functions fs) (includes_in_functions gs))
  where
    assoc : (a b c : List (List ℕ)) → (a ++ b) ++ c ≡ a ++ (b ++ c)
    assoc [] b c = refl
    assoc (x ∷ xs) b c = ap (λ (ys : List (List ℕ)). x ∷ ys) (assoc xs b c)

-- functions alone, as a file
abbrev alone : List PlainFunction → PlainFile
alone fs = record { body_of = no_stmts; functions_of = fs }

-- functions that include nothing stand as they are
pub stubs_stay : (b : List ℕ → PlainStmts) (stubs : List PlainFunction) → includes_in_functions stubs ≡ [] → map (with_body b) stubs ≡ stubs
unfolding file_with_bodies includes_of_file includes_in
stubs_stay b stubs none = ap (λ (t : PlainFile). t.functions_of) (same_file b kept_include (alone stubs) (λ path c. absurd (no_path (includes_in_functions stubs) path none c))) ∙ same_functions stubs

pub stubs_as_they_are : (b : List ℕ → PlainStmts) (own stubs : List PlainFunction) → includes_in_functions stubs ≡ [] → map (with_body b) own ++ stubs ≡ map (with_body b) (own ++ stubs)
stubs_as_they_are b own stubs none = ap (λ (fs : List PlainFunction). map (with_body b) own ++ fs) (sym (stubs_stay b stubs none)) ∙ sym (map-append (with_body b) own stubs)

-- and have no places of includes
no_places : (files : List ReadFile) (n : ℕ) (stubs : List PlainFunction) → includes_in_functions stubs ≡ [] → function_places files n stubs ≡ 0
unfolding includes_in_functions function_places one_each
no_places files n [] none = refl
no_places files n (f ∷ fs) none =
    let own : one_each (places_within files n) (includes_in f.body_of) ≡ 0 = ap (one_each (places_within files n)) (first_none (includes_in f.body_of) (includes_in_functions fs) none) in
    let rest = no_places files n fs (rest_none (includes_in f.body_of) (includes_in_functions fs) none) in
    omega (arith, own, rest)

pub no_more_places : (files : List ReadFile) (n : ℕ) (own stubs : List PlainFunction) → includes_in_functions stubs ≡ [] → function_places files n (own ++ stubs) ≡ function_places files n own
unfolding function_places
no_more_places files n [] stubs none = no_places files n stubs none
no_more_places files n (f ∷ fs) stubs none = ap (λ (k : ℕ). one_each (places_within files n) (includes_in f.body_of) + k) (no_more_places files n fs stubs none)

-- what is taken by the functions of files is taken by what these stand for: they have the same names
same_any : (held : Held) (fs gs : List PlainFunction) (name : List ℕ) → TableStandsFor held fs gs → list_any (λ (f : PlainFunction). bytes_eq f.name_of name) gs ≡ list_any (λ (f : PlainFunction). bytes_eq f.name_of name) fs
same_any held _ _ name programs.none = refl
same_any held _ _ name (programs.more f g fs gs one rest) =
    ap (λ (n : List ℕ). bytes_eq n name || list_any (λ (h : PlainFunction). bytes_eq h.name_of name) gs) one.name ∙ ap (λ (b : Bool). bytes_eq f.name_of name || b) (same_any held fs gs name rest)

pub same_taken : (held : Held) (fs gs : List PlainFunction) → TableStandsFor held fs gs → (stubs : List PlainFunction) → taken gs stubs ≡ taken fs stubs
same_taken held fs gs stand [] = refl
same_taken held fs gs stand (s ∷ ss) =
    ap (λ (b : Bool). if not (is_there (builtin_named s.name_of) || b) then s ∷ taken gs ss else taken gs ss) (same_any held fs gs s.name_of stand)
    ∙ ap (λ (rest : List PlainFunction). if not (is_double s.name_of fs) then s ∷ rest else rest) (same_taken held fs gs stand ss)

pub left : (a b : Bool) → (a && b) ≡ true → a ≡ true
left true b e = refl
left false b e = absurd (cc)

pub right : (a b : Bool) → (a && b) ≡ true → b ≡ true
right true b e = e
right false b e = absurd (cc)

pub both : (a b : Bool) → a ≡ true → b ≡ true → (a && b) ≡ true
both true b e f = f
both false b e f = absurd (cc)

-- what is left of functions that may stand behind others may stand there
rest_stubs : (f : PlainFunction) (fs : List PlainFunction) → AreStubs (f ∷ fs) → AreStubs fs
unfolding includes_in_functions
rest_stubs f fs are =
    let last = right (is_call_name f.name_of) (params_spellable f.params_of && (stmts_spellable f.body_of && functions_spellable fs)) are.spellable in record {
      spellable = right (stmts_spellable f.body_of) (functions_spellable fs) (right (params_spellable f.params_of) (stmts_spellable f.body_of && functions_spellable fs) last);
      fit = right (stmts_fit false true f.body_of) (functions_fit fs) (right (params_fit f.params_of) (stmts_fit false true f.body_of && functions_fit fs) are.fit);
      whole = rest_none (includes_in f.body_of) (includes_in_functions fs) are.whole;
    }

-- as may the first of them before others
first_stub : (f : PlainFunction) (fs gs : List PlainFunction) → AreStubs (f ∷ fs) → AreStubs gs → AreStubs (f ∷ gs)
unfolding includes_in_functions
first_stub f fs gs are more =
    let name = is_call_name f.name_of in
    let params = params_spellable f.params_of in
    let body = stmts_spellable f.body_of in
    let rest = right name (params && (body && functions_spellable fs)) are.spellable in
    let last = right params (body && functions_spellable fs) rest in
    let fitting = right (params_fit f.params_of) (stmts_fit false true f.body_of && functions_fit fs) are.fit in record {
      spellable = both name (params && (body && functions_spellable gs)) (left name (params && (body && functions_spellable fs)) are.spellable)
          (both params (body && functions_spellable gs) (left params (body && functions_spellable fs) rest) (both body (functions_spellable gs) (left body (functions_spellable fs) last) more.spellable));
      fit = both (params_fit f.params_of) (stmts_fit false true f.body_of && functions_fit gs) (left (params_fit f.params_of) (stmts_fit false true f.body_of && functions_fit fs) are.fit)
          (both (stmts_fit false true f.body_of) (functions_fit gs) (left (stmts_fit false true f.body_of) (functions_fit fs) fitting) more.fit);
      whole = ap (λ (xs : List (List ℕ)). xs ++ includes_in_functions gs) (first_none (includes_in f.body_of) (includes_in_functions fs) are.whole) ∙ more.whole;
    }

-- so any of them may that are taken
pub taken_are_stubs : (own stubs : List PlainFunction) → AreStubs stubs → AreStubs (taken own stubs)
taken_are_stubs own [] are = are
taken_are_stubs own (f ∷ fs) are = by (not (is_double f.name_of own)) (taken_are_stubs own fs (rest_stubs f fs are))
  where
    by : (b : Bool) → AreStubs (taken own fs) → AreStubs (if b then f ∷ taken own fs else taken own fs)
    by true more = first_stub f fs (taken own fs) are more
    by false more = more

-- the functions of a file of stubs may
pub script_stubs : (script : List ℕ) (tree : PlainFile) → IsStubScript script tree → AreStubs tree.functions_of
unfolding includes_of_file
script_stubs script tree st =
    let own = st.is_script in
    let forms = spelled_is_spellable script own.tokens tree own.cut own.spelled in record {
      spellable = right (stmts_spellable tree.body_of) (functions_spellable tree.functions_of) forms;
      fit = right (stmts_fit false false tree.body_of) (functions_fit tree.functions_of) own.spelled.fits;
      whole = rest_none (includes_in tree.body_of) (includes_in_functions tree.functions_of) st.whole;
    }
