-- Calls, from their parts as they were emitted.
use Rattle.std.proofs.Common.{◌≡◌, ◌∙◌, ℕ, zero, suc, ◌+◌, ◌≤◌, ◌<◌, List, [], ◌∷◌, ◌++◌, length, map, drop, take, get_or, Some, None, refl, sym, ap, subst, arith, append_assoc}
use Rattle.std.proofs.lemmas.List.{map-append}
use Rattle.text_base.specs.declared.numbers.Slot.{Slot}
use Rattle.script_meaning.specs.Programs.{literal_value}
use Rattle.flow_code.specs.View.{slot_number}
use Rattle.std.specs.Prelude.{Option}
use Rattle.php_syntax.specs.declared.tree.Expr.{Expr}
use Rattle.php_syntax.specs.declared.tree.Param.{Param}
use Rattle.php_syntax.specs.Trees.{PlainExpr, no_exprs, more_exprs, some_expr, neg_expr, int_expr, PlainFunction, plain_expr, plain_function, exprs_of, params_of_list, maybe_of}
use Rattle.flow_code.specs.Points.{PlainSource, call_point, number_source}
use Rattle.flow_code.specs.Code.{Code, both, computed}
use Rattle.flow_code.specs.Expressions.{literal, default_code, default_codes, called, call_own, call_code, number_of}
use Rattle.flow_code.specs.Builtins.{builtin_source, source_of_one}
use Rattle.flow_lowering.specs.Emits.{Progress, place, Puts, Sets, Emits}
use Rattle.flow_lowering.proofs.EmitLemmas.{puts_then, puts_same, puts_length, emits_place, emits_known, emits_both, emits_computed}
use Rattle.flow_lowering.proofs.RowLemmas.{drop_here, drop_past}
use Rattle.builtin_meaning.specs.declared.builtin.Builtin.{Builtin}
use Rattle.flow_code.specs.declared.source.Work.TheVariants as work
use Rattle.php_syntax.specs.declared.tree.FunctionDef.{FunctionDef}
use Rattle.script_meaning.specs.Literals.{IsNoNegative}

pub number_of_exprs : (es : List Expr) → number_of (exprs_of es) ≡ length es
unfolding number_of
number_of_exprs [] = refl
number_of_exprs (e ∷ es) = ap suc (number_of_exprs es)

pub length_of_params : (ps : List Param) → length (params_of_list ps) ≡ length ps
length_of_params [] = refl
length_of_params (p ∷ ps) = ap suc (length_of_params ps)

pub params_drop : (n : ℕ) (ps : List Param) → params_of_list (drop n ps) ≡ drop n (params_of_list ps)
params_drop zero ps = refl
params_drop (suc n) [] = refl
params_drop (suc n) (p ∷ ps) = params_drop n ps

-- a call of a function of the script, behind its values
pub emits_called : {s0 s1 s2 s3 : Progress} {args rest : Code (List ℕ)} {xs ys : List ℕ} {z : ℕ} (function params : ℕ) → Emits s0 s1 args xs → Emits s1 s2 rest ys
    → Puts s2 s3 (call_point s2.slot function (take params xs ++ ys) (place s2 + 1) ∷ []) 1 → z ≡ s2.slot → Emits s0 s3 (called function params args rest) z
emits_called {s0} {s1} {s2} {s3} {args} {rest} {xs} {ys} {z} function params d e p zs =
    let values : Code (List ℕ) = both args rest (λ us vs. take params us ++ vs) in
    let all : Emits s0 s2 values (take params xs ++ ys) = emits_both (λ (us vs : List ℕ). take params us ++ vs) d e in
    let at : place s2 + 1 ≡ place s0 + values.size + 1 = omega (arith, emits_place all) in
    let slot : s2.slot ≡ s0.slot + values.slots = all.puts.slot in
    let same : values.points (place s0) s0.slot ++ call_point s2.slot function (take params xs ++ ys) (place s2 + 1) ∷ []
    ≡ (called function params args rest).points (place s0) s0.slot =
    λ i. values.points (place s0) s0.slot ++ call_point (slot i) function (all.gives i) (at i) ∷ [] in
    record {
      puts = puts_same same refl (puts_then all.puts p);
      size = omega (arith, all.size, puts_length p);
      gives = zs ∙ slot;
    }

-- one more slot behind a row
pub pushed : (old new : List Slot) (x : Slot) (ys : List ℕ) → new ≡ old ++ x ∷ [] → map slot_number new ++ ys ≡ map slot_number old ++ x.0 ∷ ys
pushed old new x ys e = ap (λ (l : List Slot). map slot_number l ++ ys) e ∙ ap (λ (l : List ℕ). l ++ ys) (map-append slot_number old (x ∷ [])) ∙ append_assoc (map slot_number old) (x.0 ∷ []) ys

-- the defaults that are left, so one step further
pub defaults_further : {s0 s1 start : Progress} (params : List Param) (i : ℕ) (p : Param) (old new : List Slot) (x : Slot) → i < length params → p ≡ get_or params i p → new ≡ old ++ x ∷ []
    → Emits s0 s1 (default_code (maybe_of p.default)) x.0
    → ((s : Progress) (ys : List ℕ) → Emits s0 s (default_codes (params_of_list (drop i params))) ys → Emits start s (default_codes (params_of_list params)) (map slot_number old ++ ys))
    → (s : Progress) (ys : List ℕ) → Emits s1 s (default_codes (params_of_list (drop (i + 1) params))) ys → Emits start s (default_codes (params_of_list params)) (map slot_number new ++ ys)
unfolding default_codes
defaults_further {s0} {s1} {start} params i p old new x lt is push d go s ys e =
    let here : p ∷ drop (i + 1) params ≡ drop i params = sym (drop_here params i p lt is) in
    let one : Emits s0 s (default_codes (params_of_list (p ∷ drop (i + 1) params))) (x.0 ∷ ys) = emits_both (λ (y : ℕ) (zs : List ℕ). y ∷ zs) d e in
    subst (λ (l : List ℕ). Emits start s (default_codes (params_of_list params)) l) (sym (pushed old new x ys push))
    (go s (x.0 ∷ ys) (subst (λ (l : List Param). Emits s0 s (default_codes (params_of_list l)) (x.0 ∷ ys)) here one))

append_none : (xs : List ℕ) → xs ++ [] ≡ xs
append_none [] = refl
append_none (x ∷ xs) = ap (λ (l : List ℕ). x ∷ l) (append_none xs)

pub defaults_end : {s0 start : Progress} (xs : List ℕ) (params : List Param) (i : ℕ) → length params ≤ i
    → ((s : Progress) (ys : List ℕ) → Emits s0 s (default_codes (params_of_list (drop i params))) ys → Emits start s (default_codes (params_of_list params)) (xs ++ ys))
    → Emits start s0 (default_codes (params_of_list params)) xs
unfolding default_codes
defaults_end {s0} {start} xs params i le go =
    let none : Emits s0 s0 (default_codes (params_of_list [])) [] = emits_known s0 [] in
    subst (λ (l : List ℕ). Emits start s0 (default_codes (params_of_list params)) l) (append_none xs)
    (go s0 [] (subst (λ (l : List Param). Emits s0 s0 (default_codes (params_of_list l)) []) (sym (drop_past params i le)) none))

-- a default that is not `-` and an integer
pub plain_default : (e : PlainExpr) → IsNoNegative e → default_code (some_expr e) ≡ literal (literal_value e)
unfolding default_code
plain_default (neg_expr (int_expr z)) h = absurd h
plain_default (neg_expr _) h = refl
plain_default _ h = refl

-- the parameters behind so many
pub params_behind : (n : ℕ) (ps : List Param) (rest : List Param) → rest ≡ drop n ps → params_of_list rest ≡ drop n (params_of_list ps)
params_behind n ps rest e = ap params_of_list e ∙ params_drop n ps

pub params_past : (n : ℕ) (ps : List Param) (rest : List Param) → length ps ≤ n → rest ≡ drop (length ps) ps → params_of_list rest ≡ drop n (params_of_list ps)
params_past n ps rest le e =
    let over : length (params_of_list ps) ≤ n = omega (arith, length_of_params ps, le) in
    ap params_of_list (e ∙ drop_past ps (length ps) (omega arith)) ∙ sym (drop_past (params_of_list ps) n over)

-- the values of a call: those of the arguments up to the number of parameters, and the defaults
take_slots : (n : ℕ) (xs : List Slot) → map slot_number (take n xs) ≡ take n (map slot_number xs)
take_slots zero xs = refl
take_slots (suc n) [] = refl
take_slots (suc n) (x ∷ xs) = ap (λ (l : List ℕ). x.0 ∷ l) (take_slots n xs)

pub values_of_call : (n : ℕ) (xs ys cut all : List Slot) → cut ≡ take n xs → all ≡ cut ++ ys → map slot_number all ≡ take n (map slot_number xs) ++ map slot_number ys
values_of_call n xs ys cut all e f =
    ap (λ (l : List Slot). map slot_number l) f ∙ map-append slot_number cut ys ∙ ap (λ (l : List ℕ). l ++ map slot_number ys) (ap (λ (l : List Slot). map slot_number l) e ∙ take_slots n xs)

-- a call of a function of the script, with its values as they are in the code
pub emits_call : {s1 s2 s3 : Progress} {rest rest' : Code (List ℕ)} {ys values : List ℕ} {z : ℕ} (function params : ℕ) (xs : List ℕ) → Emits s1 s2 rest ys → rest ≡ rest'
    → Puts s2 s3 (call_point s2.slot function values (place s2 + 1) ∷ []) 1 → values ≡ take params xs ++ ys → z ≡ s2.slot
    → (start : Progress) (args : Code (List ℕ)) → Emits start s1 args xs → Emits start s3 (called function params args rest') z
emits_call {s1} {s2} {s3} {rest} {rest'} {ys} {values} {z} function params xs e same p vs zs start args d =
    emits_called function params d (subst (λ (k : Code (List ℕ)). Emits s1 s2 k ys) same e)
    (subst (λ (l : List ℕ). Puts s2 s3 (call_point s2.slot function l (place s2 + 1) ∷ []) 1) vs p) zs

-- a call of what is no function
pub emits_computed_of : {s1 s2 : Progress} {xs : List ℕ} {z : ℕ} (source : PlainSource) (make : List ℕ → PlainSource) → source ≡ make xs → Sets s1 s2 source (place s1 + 1) z
    → (start : Progress) (args : Code (List ℕ)) → Emits start s1 args xs → Emits start s2 (computed args make) z
emits_computed_of {s1} {s2} {xs} {z} source make e p start args d =
    emits_computed make d (subst (λ (s : PlainSource). Sets s1 s2 s (place s1 + 1) z) e p)

-- a call of one of PHP's functions, by the number of its arguments
pub no_argument : (f : Builtin) (es : List Expr) (xs : List ℕ) → length es ≡ 0 → builtin_source f (exprs_of es) xs ≡ number_source (work.Builtin f) xs
unfolding builtin_source
no_argument f [] xs n = refl
no_argument f (a ∷ es) xs n = absurd (omega arith)

pub one_argument : (f : Builtin) (es : List Expr) (xs : List ℕ) (x : ℕ) → length es ≡ 1 → xs ≡ x ∷ [] → builtin_source f (exprs_of es) xs ≡ source_of_one f x
unfolding builtin_source
one_argument f [] xs x n e = absurd (omega arith)
one_argument f (a ∷ []) xs x n e = ap (λ (l : List ℕ). builtin_source f (more_exprs (plain_expr a) no_exprs) l) e
one_argument f (a ∷ b ∷ es) xs x n e = absurd (omega arith)

pub many_arguments : (f : Builtin) (es : List Expr) (xs : List ℕ) → 4 ≤ length es → builtin_source f (exprs_of es) xs ≡ number_source (work.Builtin f) xs
unfolding builtin_source
many_arguments f [] xs n = absurd (omega arith)
many_arguments f (a ∷ []) xs n = absurd (omega arith)
many_arguments f (a ∷ b ∷ []) xs n = absurd (omega arith)
many_arguments f (a ∷ b ∷ c ∷ []) xs n = absurd (omega arith)
many_arguments f (a ∷ b ∷ c ∷ d ∷ es) xs n = refl

-- a call of a function of the script that there is
pub own_call : {start s : Progress} {z : ℕ} (found : Option (ℕ × PlainFunction)) (n : ℕ) (f : FunctionDef) (params : List Param) (count : ℕ) (args : Code (List ℕ)) → found ≡ Some (n, plain_function f) → params ≡ f.params.items
    → Emits start s (called n (length params) args (default_codes (drop count (params_of_list params)))) z → Emits start s (call_own found count args) z
unfolding call_own
own_call {start} {s} {z} found n f params count args e p d =
    let long : length params ≡ length (params_of_list f.params.items) = ap length p ∙ sym (length_of_params f.params.items) in
    let moved : Emits start s (called n (length (params_of_list f.params.items)) args (default_codes (drop count (params_of_list f.params.items)))) z =
    subst (λ (k : ℕ). Emits start s (called n k args (default_codes (drop count (params_of_list f.params.items)))) z) long
    (subst (λ (l : List Param). Emits start s (called n (length params) args (default_codes (drop count (params_of_list l)))) z) p d) in
    subst (λ (o : Option (ℕ × PlainFunction)). Emits start s (call_own o count args) z) (sym e) moved

-- a call that is none of PHP's functions
pub call_none : {start s : Progress} {z : ℕ} (b : Option Builtin) (own : Option (ℕ × PlainFunction)) (es : List Expr) (args : Code (List ℕ)) → None ≡ b
    → Emits start s (call_own own (length es) args) z → Emits start s (call_code b own (exprs_of es) args) z
unfolding call_code
call_none {start} {s} {z} b own es args e d =
    subst (λ (o : Option Builtin). Emits start s (call_code o own (exprs_of es) args) z) e (subst (λ (k : ℕ). Emits start s (call_own own k args) z) (sym (number_of_exprs es)) d)

-- a call of one of PHP's functions
pub call_some : {s1 s2 : Progress} {xs : List ℕ} {z : ℕ} (b : Option Builtin) (f : Builtin) (own : Option (ℕ × PlainFunction)) (es : List Expr) (source : PlainSource) → Some f ≡ b → source ≡ builtin_source f (exprs_of es) xs
    → Sets s1 s2 source (place s1 + 1) z → (start : Progress) (args : Code (List ℕ)) → Emits start s1 args xs → Emits start s2 (call_code b own (exprs_of es) args) z
unfolding call_code
call_some {s1} {s2} {xs} {z} b f own es source e is p start args d =
    subst (λ (o : Option Builtin). Emits start s2 (call_code o own (exprs_of es) args) z) e (emits_computed_of source (builtin_source f (exprs_of es)) is p start args d)
