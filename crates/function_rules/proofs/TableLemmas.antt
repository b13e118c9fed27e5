-- The table while functions are put into it.
use Rattle.std.proofs.Common.{◌≡◌, ◌∙◌, ◌<◌, ◌≤◌, ◌+◌, ℕ, zero, suc, Bool, true, false, cond, nat_eq, List, [], ◌∷◌, ◌++◌, length, drop, get_or, append_assoc, Option, Some, None, is_some, option_map, slice_get, refl, sym, ap, subst, true≢false, arith}
use Rattle.std.specs.Prelude.{MatchOption, ◌&&◌, not, bytes_eq}
use Rattle.std.specs.Cmp.Lexicographic.{pointwise, bytes_decides}
use Rattle.std.specs.Map.{lookup}
use Rattle.std.proofs.lemmas.List.{append-nil, drop_more, drop_all}
use Rattle.std.proofs.lemmas.List.Elements.{filter-append}
use Rattle.indexmap.specs.IndexMap.{IndexMap, get}
use Rattle.php_syntax.specs.declared.tree.FileTree.{FileTree}
use Rattle.php_syntax.specs.declared.tree.FunctionDef.{FunctionDef}
use Rattle.php_syntax.specs.Trees.{PlainFunction, PlainFile, plain_function, plain_file, functions_of_list}
use Rattle.builtin_meaning.specs.declared.builtin.Builtin.{Builtin}
use Rattle.builtin_meaning.specs.Names.{builtin_named}
use Rattle.script_meaning.specs.Programs.{function_named}
use Rattle.program_rules.specs.Programs.{ReadFile, functions_in, taken}
use Rattle.program_rules.specs.Rules.{is_there, is_double, DefinesTwice}
use Rattle.function_rules.specs.declared.arity.Numbers.{Numbers}
use Rattle.function_rules.specs.Arguments.{AreNumbersOf}
use Rattle.include_expansion.proofs.FileLemmas.{list_append}
use Rattle.function_rules.proofs.ArgumentLemmas.{tree_of, drop_file}
use Rattle.function_rules.specs.Table.{IsTable, Takes, HasPut}
use Rattle.function_rules.proofs.NameLemmas.{push_new, push_other, once_push, builtin_twice, again_twice, is_new}

still : (fs : List PlainFunction) (f : PlainFunction) (q : List ℕ) (o : Option Numbers) → function_named (fs ++ f ∷ []) q ≡ function_named fs q
    → MatchOption o (function_named fs q ≡ None) (Takes fs q) → MatchOption o (function_named (fs ++ f ∷ []) q ≡ None) (Takes (fs ++ f ∷ []) q)
still fs f q None e h = e ∙ h
still fs f q (Some n) e t = record { function = t.function; named = e ∙ t.named; takes = t.takes }

-- a row more
pub inserted : {S : Type 0} (old new : IndexMap (List ℕ) Numbers S) (fs : List PlainFunction) (f : PlainFunction) (name : List ℕ) (numbers : Numbers)
    → ((q : List ℕ) → get bytes_eq new q ≡ cond (bytes_eq name q) (Some numbers) (get bytes_eq old q)) → IsTable old fs → function_named fs name ≡ None → f.name_of ≡ name → AreNumbersOf numbers f.params_of
    → IsTable new (fs ++ f ∷ [])
inserted old new fs f name numbers updates table none same takes q = by (bytes_eq name q) refl (updates q)
  where
    by : (b : Bool) → bytes_eq name q ≡ b → get bytes_eq new q ≡ cond b (Some numbers) (get bytes_eq old q) → MatchOption (get bytes_eq new q) (function_named (fs ++ f ∷ []) q ≡ None) (Takes (fs ++ f ∷ []) q)
    by true e u =
        let found : function_named (fs ++ f ∷ []) q ≡ Some f = push_new fs f q (subst (λ (n : List ℕ). function_named fs n ≡ None) ((bytes_decides name q).0 e) none) (ap (λ (n : List ℕ). pointwise nat_eq n q) same ∙ e) in
        subst (λ (o : Option Numbers). MatchOption o (function_named (fs ++ f ∷ []) q ≡ None) (Takes (fs ++ f ∷ []) q)) (sym u) (record { function = f; named = found; takes = takes })
    by false e u =
        let other = push_other fs f q (ap (λ (n : List ℕ). pointwise nat_eq n q) same ∙ e) in
        subst (λ (o : Option Numbers). MatchOption o (function_named (fs ++ f ∷ []) q ≡ None) (Takes (fs ++ f ∷ []) q)) (sym u) (still fs f q (get bytes_eq old q) other (table q))

-- what a look-up tells
pub found : {S : Type 0} (rows : IndexMap (List ℕ) Numbers S) (name : List ℕ) (r : Option Numbers) → r ≡ get bytes_eq rows name → (fs : List PlainFunction) → IsTable rows fs
    → MatchOption r (function_named fs name ≡ None) (Takes fs name)
found rows name r is fs table = subst (λ (o : Option Numbers). MatchOption o (function_named fs name ≡ None) (Takes fs name)) (sym is) (table name)

-- whether there is a function of the name
pub found_there : (fs : List PlainFunction) (name : List ℕ) (r : Option Numbers) (b : Bool) → b ≡ is_there r → MatchOption r (function_named fs name ≡ None) (Takes fs name) → b ≡ is_there (function_named fs name)
found_there fs name None b e h = e ∙ sym (ap (λ (o : Option PlainFunction). is_there o) h)
found_there fs name (Some n) b e t = e ∙ sym (ap (λ (o : Option PlainFunction). is_there o) t.named)

pub not_there : {A : Type 0} (o : Option A) → false ≡ is_there o → o ≡ None
not_there None e = refl
not_there (Some x) e = absurd (true≢false (sym e))

-- nothing is put yet
pub put_none : {S : Type 0} (rows : IndexMap (List ℕ) Numbers S) (all : List PlainFunction) → IsTable rows [] → HasPut rows all all
unfolding DefinesTwice
put_none rows all table = record { done = []; split = refl; table = table; once = λ name none. none }

-- one more is put
pub put_one : {S : Type 0} (old new : IndexMap (List ℕ) Numbers S) (f : PlainFunction) (rest all : List PlainFunction) (has : HasPut old (f ∷ rest) all) → builtin_named f.name_of ≡ None → function_named has.done f.name_of ≡ None
    → IsTable new (has.done ++ f ∷ []) → HasPut new rest all
put_one old new f rest all has own none table = record {
  done = has.done ++ f ∷ [];
  split = append_assoc has.done (f ∷ []) rest ∙ has.split;
  table = table;
  once = once_push has.done f has.once own none;
}

-- the next one is a double
pub double_builtin : {S : Type 0} (old : IndexMap (List ℕ) Numbers S) (f : PlainFunction) (rest all : List PlainFunction) → HasPut old (f ∷ rest) all → true ≡ is_there (builtin_named f.name_of) → DefinesTwice all f.name_of
double_builtin old f rest all has e = subst (λ (fs : List PlainFunction). DefinesTwice fs f.name_of) has.split (builtin_twice has.done rest f (sym e))

pub double_again : {S : Type 0} (old : IndexMap (List ℕ) Numbers S) (f : PlainFunction) (rest all : List PlainFunction) (has : HasPut old (f ∷ rest) all) → true ≡ is_there (function_named has.done f.name_of) → DefinesTwice all f.name_of
double_again old f rest all has e = subst (λ (fs : List PlainFunction). DefinesTwice fs f.name_of) has.split (again_twice has.done rest f (sym e))

-- all are put
pub put_all_of : {S : Type 0} (rows : IndexMap (List ℕ) Numbers S) (all : List PlainFunction) (has : HasPut rows [] all) → has.done ≡ all
put_all_of rows all has = sym (append-nil has.done) ∙ has.split

pub table_of_all : {S : Type 0} (rows : IndexMap (List ℕ) Numbers S) (all : List PlainFunction) → HasPut rows [] all → IsTable rows all
table_of_all rows all has name = subst (λ (fs : List PlainFunction). MatchOption (get bytes_eq rows name) (function_named fs name ≡ None) (Takes fs name)) (put_all_of rows all has) (has.table name)

pub once_all : {S : Type 0} (rows : IndexMap (List ℕ) Numbers S) (all : List PlainFunction) → HasPut rows [] all → (name : List ℕ) → DefinesTwice all name → ⊥
once_all rows all has name twice = has.once name (subst (λ (fs : List PlainFunction). DefinesTwice fs name) (sym (put_all_of rows all has)) twice)

-- a table with no rows
pub empty_table : {S : Type 0} (rows : IndexMap (List ℕ) Numbers S) → rows.entries ≡ [] → IsTable rows []
unfolding function_named
empty_table rows empty name = subst (λ (es : List (List ℕ × Numbers)). MatchOption (lookup (bytes_eq name) es) (function_named [] name ≡ None) (Takes [] name)) (sym empty) refl

-- a test whether there is a value
pub so_there : {A : Type 0} (o p : Option A) (b : Bool) → b ≡ is_some o → o ≡ p → b ≡ is_there p
so_there None p b e q = e ∙ ap (λ r. is_there r) q
so_there (Some x) p b e q = e ∙ ap (λ r. is_there r) q

-- the next function of a file
pub functions_step : (functions : List FunctionDef) (i : ℕ) (f : FunctionDef) → i < length functions → f ≡ get_or functions i f → functions_of_list (drop i functions) ≡ plain_function f ∷ functions_of_list (drop (i + 1) functions)
functions_step functions i f lt is = ap functions_of_list (drop_more functions i f lt) ∙ ap (λ (g : FunctionDef). plain_function g ∷ functions_of_list (drop (i + 1) functions)) (sym is)

pub left_step : {S : Type 0} (rows : IndexMap (List ℕ) Numbers S) (functions : List FunctionDef) (i : ℕ) (f : FunctionDef) (rest all : List PlainFunction) → i < length functions → f ≡ get_or functions i f
    → HasPut rows (functions_of_list (drop i functions) ++ rest) all → HasPut rows (plain_function f ∷ functions_of_list (drop (i + 1) functions) ++ rest) all
left_step rows functions i f rest all lt is has = subst (λ (fs : List PlainFunction). HasPut rows (fs ++ rest) all) (functions_step functions i f lt is) has

-- the next file
files_step : (files : List ReadFile) (place : ℕ) (tree : FileTree) (functions : List FunctionDef) → functions ≡ tree.functions.items → Some (plain_file tree) ≡ option_map (λ (file : ReadFile). file.tree) (slice_get files place)
    → functions_in (drop place files) ≡ functions_of_list functions ++ functions_in (drop (place + 1) files)
unfolding functions_in
files_step files place tree functions same own =
    let f = tree_of (slice_get files place) (plain_file tree) own in
    let e : suc place ≡ place + 1 = omega arith in
    ap functions_in (drop_file files place f.0 f.1) ∙ ap (λ (t : PlainFile). t.functions_of ++ functions_in (drop (suc place) files)) (sym f.2)
    ∙ ap (λ (fs : List FunctionDef). functions_of_list fs ++ functions_in (drop (suc place) files)) (sym same) ∙ ap (λ (k : ℕ). functions_of_list functions ++ functions_in (drop k files)) e

pub table_step : {S : Type 0} (rows : IndexMap (List ℕ) Numbers S) (files : List ReadFile) (place : ℕ) (tree : FileTree) (functions : List FunctionDef) (all : List PlainFunction) → functions ≡ tree.functions.items
    → Some (plain_file tree) ≡ option_map (λ (file : ReadFile). file.tree) (slice_get files place) → HasPut rows (functions_in (drop place files)) all → HasPut rows (functions_of_list functions ++ functions_in (drop (place + 1) files)) all
table_step rows files place tree functions all same own has = subst (λ (fs : List PlainFunction). HasPut rows fs all) (files_step files place tree functions same own) has

pub table_end : {S : Type 0} (rows : IndexMap (List ℕ) Numbers S) (files : List ReadFile) (place : ℕ) (all : List PlainFunction) → length files ≤ place → HasPut rows (functions_in (drop place files)) all → HasPut rows [] all
unfolding functions_in
table_end rows files place all le has = subst (λ (fs : List ReadFile). HasPut rows (functions_in fs) all) (drop_all place files le) has

pub tree_there : (files : List ReadFile) (place : ℕ) → place < length files → None ≡ option_map (λ (file : ReadFile). file.tree) (slice_get files place) → ⊥
tree_there [] place lt e = omega arith
tree_there (f ∷ fs) zero lt e = cc
tree_there (f ∷ fs) (suc k) lt e = tree_there fs k (omega arith) e

-- where all are put, more may be put behind them
pub put_behind : {S : Type 0} (rows : IndexMap (List ℕ) Numbers S) (own more : List PlainFunction) → HasPut rows [] own → HasPut rows (more ++ []) (own ++ more)
put_behind rows own more has = record {
  done = has.done;
  split = ap (λ (fs : List PlainFunction). has.done ++ fs) (append-nil more) ∙ ap (λ (fs : List PlainFunction). fs ++ more) (put_all_of rows own has);
  table = has.table;
  once = has.once;
}

-- what a test whether there is none tells
none_is : {A : Type 0} (o : Option A) (b : Bool) → is_some o ≡ not b → b ≡ not (is_there o)
none_is None true e = refl
none_is None false e = absurd (true≢false (sym e))
none_is (Some x) true e = absurd (true≢false e)
none_is (Some x) false e = refl

looked_up : (own : List PlainFunction) (name : List ℕ) (r : Option Numbers) → MatchOption r (function_named own name ≡ None) (Takes own name) → is_there r ≡ is_there (function_named own name)
looked_up own name r looked = found_there own name r (is_there r) refl looked

-- a name that is found neither among PHP's functions nor in the table is new
pub name_is_new : (own : List PlainFunction) (name : List ℕ) (b : Option Builtin) (p : Bool) (r : Option Numbers) (q : Bool) → is_some b ≡ not p → b ≡ builtin_named name → p ≡ true → is_some r ≡ not q
    → MatchOption r (function_named own name ≡ None) (Takes own name) → q ≡ not (is_double name own)
name_is_new own name b p r q e is new f looked =
    let rest : Bool = not (is_there (function_named own name)) in
    let own_name : not (is_there (builtin_named name)) ≡ true = ap (λ (o : Option Builtin). not (is_there o)) (sym is) ∙ sym (none_is b p e) ∙ new in
    none_is r q f ∙ ap not (looked_up own name r looked) ∙ ap (λ (a : Bool). a && rest) (sym own_name) ∙ is_new own name

-- one of a new name is taken
pub take_one : (own : List PlainFunction) (old new : List FunctionDef) (f : FunctionDef) → new ≡ old ++ f ∷ [] → not (is_double f.name own) ≡ true → functions_of_list new ≡ functions_of_list old ++ taken own (plain_function f ∷ [])
take_one own old new f pushed is =
    ap functions_of_list pushed ∙ list_append old (f ∷ []) ∙ ap (λ (b : Bool). functions_of_list old ++ cond b (plain_function f ∷ []) []) (sym is)

-- what is taken of one function more
pub take_more : (own : List PlainFunction) (yielded old new : List FunctionDef) (f : FunctionDef) → functions_of_list old ≡ taken own (functions_of_list yielded) → functions_of_list new ≡ functions_of_list old ++ taken own (plain_function f ∷ [])
    → functions_of_list new ≡ taken own (functions_of_list (yielded ++ f ∷ []))
take_more own yielded old new f before more =
    let test : PlainFunction → Bool = λ g. not (is_double g.name_of own) in
    more ∙ ap (λ (fs : List PlainFunction). fs ++ taken own (plain_function f ∷ [])) before ∙ sym (filter-append test (functions_of_list yielded) (plain_function f ∷ [])) ∙ ap (λ (fs : List PlainFunction). taken own fs) (sym (list_append yielded (f ∷ [])))

pub yielded_more : (all before : List FunctionDef) (f : FunctionDef) (rest rest' : List FunctionDef) → all ≡ before ++ rest → rest ≡ f ∷ rest' → all ≡ (before ++ f ∷ []) ++ rest'
yielded_more all before f rest rest' e g = e ∙ ap (λ (fs : List FunctionDef). before ++ fs) g ∙ sym (append_assoc before (f ∷ []) rest')
