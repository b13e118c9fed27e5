-- Functions in a row: what is made and what is left to make is all.
use Rattle.std.proofs.Common.{◌≡◌, ◌∙◌, ℕ, suc, ◌+◌, ◌<◌, ◌≤◌, List, [], ◌∷◌, ◌++◌, length, map, drop, get_or, sym, ap, arith, append_assoc}
use Rattle.std.proofs.Math.Seq.{drop-cons}
use Rattle.std.proofs.Math.ListN.{drop_of_length-le}
use Rattle.std.proofs.lemmas.List.{append-nil, map-append, length-map}
use Rattle.text_base.specs.declared.numbers.Slot.{Slot}
use Rattle.php_syntax.specs.declared.tree.FunctionDef.{FunctionDef}
use Rattle.php_syntax.specs.declared.tree.Param.{Param}
use Rattle.php_syntax.specs.declared.tree.Stmt.{Stmt}
use Rattle.php_syntax.specs.Trees.{PlainParam, PlainFunction, plain_function, params_of_list, stmts_of, functions_of_list}
use Rattle.flow_code.specs.Points.{PlainPoint, PlainFlowFunction}
use Rattle.flow_code.specs.Variables.{Name, name_of_param, names_of, once, variables_of}
use Rattle.flow_code.specs.Expressions.{Scope, variable}
use Rattle.flow_code.specs.Statements.{block}
use Rattle.flow_code.specs.Completion.{reaches_end}
use Rattle.flow_code.specs.Flat.{end_slots, scope_of, body_of_function, flat_function, flat_functions}
use Rattle.flow_lowering.specs.Emits.{Progress}
use Rattle.program_lowering.specs.Bodies.{with_end, function_with}
use Rattle.flow_code.specs.View.{slot_number, plain_point, plain_flow_function}
use Rattle.flow_code.specs.declared.program.FlowFunction.{FlowFunction}

here : {X : Type 0} (xs : List X) (i : ℕ) (x : X) → i < length xs → x ≡ get_or xs i x → drop i xs ≡ x ∷ drop (i + 1) xs
here xs i x lt is = let e : suc i ≡ i + 1 = omega arith in drop-cons xs i x lt ∙ (λ j. sym is j ∷ drop (e j) xs)

-- a function of points by its parts
abbrev pub flow_function : ℕ → List ℕ → ℕ → ℕ → List PlainPoint → PlainFlowFunction
flow_function point params slot slots points =
    record { entry_of = point; params_of = params; first_slot_of = slot; slots_of = slots; first_point_of = point; points_of = points }

-- the slots of the parameters behind those that are pushed

abbrev pub slots_in : Scope → List Param → List ℕ
slots_in w params = map (λ (p : PlainParam). variable w p.name_of) (params_of_list params)

pub params_further : {all : List ℕ} {new : List Slot} {x : Slot} (old : List Slot) (w : Scope) (params : List Param) (i : ℕ) (p : Param) → i < length params → p ≡ get_or params i p → new ≡ old ++ x ∷ [] → x.0 ≡ variable w p.name
    → map slot_number old ++ slots_in w (drop i params) ≡ all → map slot_number new ++ slots_in w (drop (i + 1) params) ≡ all
params_further {all} {new} {x} old w params i p lt is push value inv =
    let rest : List ℕ = slots_in w (drop (i + 1) params) in
    ap (λ (l : List Slot). map slot_number l ++ rest) push ∙ ap (λ (l : List ℕ). l ++ rest) (map-append slot_number old (x ∷ []))
    ∙ append_assoc (map slot_number old) (x.0 ∷ []) rest ∙ ap (λ (n : ℕ). map slot_number old ++ (n ∷ rest)) value
    ∙ ap (λ (l : List Param). map slot_number old ++ slots_in w l) (sym (here params i p lt is)) ∙ inv

pub params_end : {all : List ℕ} (slots : List Slot) (w : Scope) (params : List Param) (i : ℕ) → length params ≤ i → map slot_number slots ++ slots_in w (drop i params) ≡ all → map slot_number slots ≡ all
params_end {all} slots w params i le inv =
    sym (append-nil (map slot_number slots)) ∙ ap (λ (l : List Param). map slot_number slots ++ slots_in w l) (sym (drop_of_length-le params le)) ∙ inv

-- a function, from its parts as they were made
pub function_is : {count free slots : ℕ} {names : List Name} {made : List ℕ} {points : List PlainPoint} {all : Progress} (table : List PlainFunction) (name : List ℕ) (params : List Param) (body : List Stmt) (point slot : ℕ)
    → names ≡ once (map name_of_param (params_of_list params) ++ names_of (stmts_of body)) → count ≡ length names → free ≡ slot + count
    → made ≡ slots_in (record { base = slot; names = names; functions = table }) params → all ≡ with_end (reaches_end (stmts_of body)) (block (record { base = slot; names = names; functions = table }) (stmts_of body)) point free
    → slot + slots ≡ all.slot → points ≡ all.points
    → flow_function point made slot slots points ≡ flat_function table (function_with name params body) point slot
unfolding flat_function body_of_function scope_of variables_of
function_is {count} {free} {slots} {names} {made} {points} {all} table name params body point slot names_are count_is free_is made_are all_is slots_are points_are =
    let f : PlainFunction = function_with name params body in
    let old : Scope = record { base = slot; names = names; functions = table } in
    let scopes : old ≡ scope_of table f slot = λ i. record { base = slot; names = names_are i; functions = table } in
    let frees : free ≡ slot + length (variables_of f) = free_is ∙ ap (λ (n : ℕ). slot + n) (count_is ∙ ap length names_are) in
    let last : all.slot ≡ free + (block old (stmts_of body)).slots + end_slots (reaches_end (stmts_of body)) = ap (λ (s : Progress). s.slot) all_is in
    let number : slots ≡ length names + (block old (stmts_of body)).slots + end_slots (reaches_end (stmts_of body)) = omega (arith, last, slots_are, free_is, count_is) in
    let points_end : points ≡ (flat_function table f point slot).points_of = points_are ∙ ap (λ (s : Progress). s.points) all_is ∙ (λ i. (with_end (reaches_end (stmts_of body)) (block (scopes i) (stmts_of body)) point (frees i)).points) in
    let params_end : made ≡ (flat_function table f point slot).params_of = made_are ∙ (λ i. slots_in (scopes i) params) in
    let number_end : slots ≡ (flat_function table f point slot).slots_of = number ∙ (λ i. length (names_are i) + (block (scopes i) (stmts_of body)).slots + end_slots (reaches_end (stmts_of body))) in
    λ i. flow_function point (params_end i) slot (number_end i) (points_end i)

-- the functions behind those that are made

pub row_further : {all : List PlainFlowFunction} {next_point next_slot : ℕ} (point slot : ℕ) (table : List PlainFunction) (made new : List FlowFunction) (x : FlowFunction) (f : PlainFunction) (fs : List PlainFunction)
    → plain_flow_function x ≡ flat_function table f point slot → next_point ≡ point + length x.points.items → next_slot ≡ slot + x.slots → new ≡ made ++ x ∷ []
    → map plain_flow_function made ++ flat_functions table (f ∷ fs) point slot ≡ all → map plain_flow_function new ++ flat_functions table fs next_point next_slot ≡ all
unfolding flat_functions
row_further {all} {next_point} {next_slot} point slot table made new x f fs is points slots push inv =
    let front : List PlainFlowFunction = map plain_flow_function made in
    let p : next_point ≡ point + length (plain_flow_function x).points_of = omega (arith, points, length-map x.points.items plain_point) in
    let rest : List PlainFlowFunction = flat_functions table fs next_point next_slot in
    ap (λ (l : List FlowFunction). map plain_flow_function l ++ rest) push
    ∙ ap (λ (l : List PlainFlowFunction). l ++ rest) (map-append plain_flow_function made (x ∷ []))
    ∙ append_assoc front (plain_flow_function x ∷ []) rest
    ∙ (λ i. front ++ (plain_flow_function x ∷ flat_functions table fs (p i) (slots i)))
    ∙ ap (λ (g : PlainFlowFunction). front ++ (g ∷ flat_functions table fs (point + length g.points_of) (slot + g.slots_of))) is
    ∙ inv

-- the first of the functions that are left
pub functions_further : {all : List PlainFlowFunction} {next_point next_slot : ℕ} (point slot : ℕ) (table : List PlainFunction) (functions : List FunctionDef) (made new : List FlowFunction) (x : FlowFunction) (i : ℕ) (f : FunctionDef)
    → i < length functions → f ≡ get_or functions i f → plain_flow_function x ≡ flat_function table (plain_function f) point slot → next_point ≡ point + length x.points.items → next_slot ≡ slot + x.slots → new ≡ made ++ x ∷ []
    → map plain_flow_function made ++ flat_functions table (functions_of_list (drop i functions)) point slot ≡ all
    → map plain_flow_function new ++ flat_functions table (functions_of_list (drop (i + 1) functions)) next_point next_slot ≡ all
functions_further {all} {next_point} {next_slot} point slot table functions made new x i f lt there is points slots push inv =
    row_further point slot table made new x (plain_function f) (functions_of_list (drop (i + 1) functions)) is points slots push
    (ap (λ (l : List FunctionDef). map plain_flow_function made ++ flat_functions table (functions_of_list l) point slot) (sym (here functions i f lt there)) ∙ inv)

pub functions_end : {all : List PlainFlowFunction} (point slot : ℕ) (table : List PlainFunction) (functions : List FunctionDef) (made : List FlowFunction) (i : ℕ) → length functions ≤ i
    → map plain_flow_function made ++ flat_functions table (functions_of_list (drop i functions)) point slot ≡ all → map plain_flow_function made ≡ all
unfolding flat_functions
functions_end {all} point slot table functions made i le inv =
    sym (append-nil (map plain_flow_function made))
    ∙ ap (λ (l : List FunctionDef). map plain_flow_function made ++ flat_functions table (functions_of_list l) point slot) (sym (drop_of_length-le functions le)) ∙ inv
