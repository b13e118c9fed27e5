-- The points of a program are of their form.
use Rattle.std.proofs.Common.{◌≡◌, ap, ℕ, zero, suc, ◌+◌, List, [], ◌∷◌, ◌≤◌, ◌<◌, length, length-append, Some, refl, subst, arith, map, slice_get, Bool, true, false, ◌||◌}
use Rattle.std.specs.List.{AllByRecursion}
use Rattle.std.proofs.lemmas.List.Elements.{All-from_recursion}
use Rattle.php_syntax.specs.Trees.{PlainParam, PlainFunction}
use Rattle.plain_values.specs.Plain.{empty}
use Rattle.script_meaning.specs.Requests.{PlainRequest}
use Rattle.script_meaning.specs.Programs.{PlainProgram}
use Rattle.flow_code.specs.Points.{PlainFlowFunction, PlainFlow}
use Rattle.flow_code.specs.Variables.{name_of_param, names_of, variables_of}
use Rattle.flow_code.specs.Code.{Targets}
use Rattle.flow_code.specs.Expressions.{Scope, variable}
use Rattle.flow_code.specs.Completion.{all_complete, some_jump_out, reaches_end}
use Rattle.flow_code.specs.Statements.{block}
use Rattle.flow_code.specs.Flat.{end_points, end_slots, scope_of, body_of_function, flat_function, flat_functions, main_function, flat}
use Rattle.flow_code.specs.Lawful.{IsOwnSlot, IsOwnPoint, PointFits, FunctionFits, AreNumbered, IsFlow}
use Rattle.flow_runs.specs.Defaults.{HaveDefaults}
use Rattle.flow_runs.specs.Fits.{StmtsFit, ParamsFit, FunctionsFit, ProgramFits}
use Rattle.flow_runs.proofs.Ends.{world}
use Rattle.flow_runs.proofs.Has.{has_all}
use Rattle.flow_runs.proofs.Names.{HasAll, all_front, all_back}
use Rattle.flow_runs.proofs.Calls.{CallsDo}
use Rattle.flow_runs.proofs.Stmts.{stmts_units, block_does}
use Rattle.flow_runs.proofs.Program.{placed, found, names_there, no_calls, none_asked}
use Rattle.flow_runs.proofs.Leaving.{left_holds, right_holds}
use Rattle.flow_runs.proofs.FitCodes.{AllFit, last_point, all_both, Lies, own_temporary, own_variable, own_point, set_fits}
use Rattle.flow_runs.proofs.FitWrites.{null_is}
use Rattle.flow_runs.proofs.FitTrees.{Callees}
use Rattle.flow_runs.proofs.FitBlocks.{return_fits, there_is, block_fits}

functions_at : (fs : List PlainFunction) (k : ℕ) (f : PlainFunction) → FunctionsFit fs → slice_get fs k ≡ Some f → ParamsFit f.params_of
functions_at [] k f h e = cc
functions_at (g ∷ fs) zero f h e = let same : g ≡ f = cc in subst (λ f. ParamsFit f.params_of) same h.0
functions_at (g ∷ fs) (suc k) f h e = functions_at fs k f h.2 e

bodies_fit : (fs : List PlainFunction) → FunctionsFit fs → AllByRecursion (λ (f : PlainFunction). StmtsFit f.body_of) fs
bodies_fit [] h = tt
bodies_fit (f ∷ fs) h = (h.1, bodies_fit fs h.2)

map_long : (k : PlainParam → ℕ) (ps : List PlainParam) → length (map k ps) ≡ length ps
map_long k [] = refl
map_long k (p ∷ ps) = let e = map_long k ps in omega (arith, e)

numbered : (table fs : List PlainFunction) (p t : ℕ) → AreNumbered (flat_functions table fs p t) p t
unfolding AreNumbered flat_functions flat_function
numbered table [] p t = tt
numbered table (f ∷ fs) p t = let first = flat_function table f p t in (refl, refl, numbered table fs (p + length first.points_of) (t + first.slots_of))

params_own : (g : PlainFlowFunction) (w : Scope) → Lies g w → (ps : List PlainParam) → HasAll w.names (map name_of_param ps) → AllByRecursion (IsOwnSlot g) (map (λ (p : PlainParam). variable w p.name_of) ps)
params_own g w lies [] h = tt
params_own g w lies (p ∷ ps) h = (own_variable w lies p.name_of h.0, params_own g w lies ps h.1)

pub no_request : PlainRequest
no_request = record { get_of = empty; post_of = empty; cookie_of = empty; request_of = empty; server_of = empty }

pub end_long : (reach : Bool) (e y : ℕ) → length (end_points reach e y) ≤ 2
end_long true e y = omega arith
end_long false e y = omega arith

end_there : (reach : Bool) (e y : ℕ) → reach ≡ true → length (end_points reach e y) ≡ 2
end_there reach e y is = ap (λ r. length (end_points r e y)) is

slot_there : (reach : Bool) → reach ≡ true → end_slots reach ≡ 1
slot_there reach is = ap end_slots is

end_fits : (fs : List PlainFlowFunction) (g : PlainFlowFunction) (reach : Bool) (e y : ℕ) → (reach ≡ true → IsOwnSlot g y) → (reach ≡ true → IsOwnPoint g (e + 1)) → AllFit fs g (end_points reach e y)
end_fits fs g true e y hy he = let own = hy refl in (set_fits y (e + 1) _ own (null_is g) (he refl), (return_fits y own, tt))
end_fits fs g false e y hy he = tt

pub function_long : (flow : PlainFlow) (table : List PlainFunction) → HaveDefaults table → ((cost : ℕ) → CallsDo (world flow no_request false cost zero) table) → (f : PlainFunction) (point slot : ℕ) → length (flat_function table f point slot).points_of ≤ (block (scope_of table f slot) f.body_of).size + 2
unfolding flat_function body_of_function scope_of
function_long flow table defaults calls f point slot =
    let w = scope_of table f slot in
    let body = block w f.body_of in
    let e = point + body.size in
    let start = slot + length (variables_of f) in
    let y = start + body.slots in
    let to : Targets = record { stop = e; again = e } in
    let reach = reaches_end f.body_of in
    let d = block_does {m = world flow no_request false (stmts_units f.body_of) zero} {w = w} (calls (stmts_units f.body_of)) defaults f.body_of (all_back w.names (map name_of_param f.params_of) (names_of f.body_of) (names_there table f slot)) none_asked (omega arith) in
    omega (arith, length-append (body.points to point start) (end_points reach e y), d.long to point start, end_long reach e y)

pub program_calls : (program : PlainProgram) (cost : ℕ) → CallsDo (world (flat program) no_request false cost zero) program.functions_of
program_calls program cost = no_calls program.functions_of

module _ (flow : PlainFlow) (table : List PlainFunction) (defaults : HaveDefaults table) (calls : (cost : ℕ) → CallsDo (world flow no_request false cost zero) table) (fs : List PlainFlowFunction) (callees : Callees fs table) where
  function_fits : (f : PlainFunction) (point slot : ℕ) → StmtsFit f.body_of → FunctionFits fs (flat_function table f point slot)
  unfolding flat_function body_of_function scope_of reaches_end
  function_fits f point slot h =
      let w = scope_of table f slot in
      let g = flat_function table f point slot in
      let body = block w f.body_of in
      let e = point + body.size in
      let start = slot + length (variables_of f) in
      let y = start + body.slots in
      let to : Targets = record { stop = e; again = e } in
      let names = names_there table f slot in
      let of_body = all_back w.names (map name_of_param f.params_of) (names_of f.body_of) names in
      let d = block_does {m = world flow no_request false (stmts_units f.body_of) zero} {w = w} (calls (stmts_units f.body_of)) defaults f.body_of of_body none_asked (omega arith) in
      let on = all_complete f.body_of in
      let jumps = some_jump_out f.body_of in
      let reach = on || jumps in
      let ends = end_points reach e y in
      let n : length g.points_of ≡ body.size + length ends = omega (arith, length-append (body.points to point start) ends, d.long to point start) in
      let lies : Lies g w = record { low = omega arith; high = omega arith } in
      let fits = block_fits lies callees f.body_of h of_body in
      let behind : reach ≡ true → e + 1 < last_point g = λ is. (let two = end_there reach e y is in omega (arith, n, two)) in
      let below : e ≤ last_point g = omega (arith, n) in
      let at_end : on ≡ true → e < last_point g = λ is. (let m = behind (left_holds on jumps is) in omega (arith, m)) in
      let own_e : jumps ≡ true → IsOwnPoint g e = λ is. (let m = behind (right_holds on jumps is) in own_point e (omega arith) (omega (arith, m))) in
      let own_y : reach ≡ true → IsOwnSlot g y = λ is. (let one = slot_there reach is in own_temporary lies y (omega arith) (omega (arith, one))) in
      record {
        entry = own_point point (omega arith) (there_is on point body.size (last_point g) fits.some below at_end);
        params = All-from_recursion (IsOwnSlot g) g.params_of (params_own g w lies f.params_of (all_front w.names (map name_of_param f.params_of) (names_of f.body_of) names));
        points = All-from_recursion (PointFits fs g) g.points_of
            (all_both (PointFits fs g) (body.points to point start) _ (fits.fits to point start own_e own_e (omega arith) below at_end (omega arith) (omega arith))
            (end_fits fs g reach e y own_y (λ is. own_point (e + 1) (omega arith) (behind is))));
      }

  functions_fit : (gs : List PlainFunction) (point slot : ℕ) → AllByRecursion (λ (f : PlainFunction). StmtsFit f.body_of) gs → AllByRecursion (FunctionFits fs) (flat_functions table gs point slot)
  unfolding flat_functions
  functions_fit [] point slot h = tt
  functions_fit (f ∷ gs) point slot h = let first = flat_function table f point slot in (function_fits f point slot h.0, functions_fit gs (point + length first.points_of) (slot + first.slots_of) h.1)

pub flat_fits : (program : PlainProgram) → HaveDefaults program.functions_of → ProgramFits program → IsFlow (flat program)
unfolding flat flat_functions flat_function main_function
flat_fits program defaults fit =
    let main = main_function program in
    let table = program.functions_of in
    let flow = flat program in
    let fs = flat_functions table (main ∷ table) 0 0 in
    let has = has_all flow in
    let callees : Callees fs table = record {
      there = λ name n f is. (let fd = found table 1 n f name is in let pl = placed flow table (main ∷ table) 0 0 has (suc fd.place) f fd.is in let number = fd.number in let at : suc fd.place ≡ n = omega (arith, number) in
          (flat_function table f pl.at_point pl.at_slot, subst (λ n. slice_get fs n ≡ Some (flat_function table f pl.at_point pl.at_slot)) at pl.is, map_long _ f.params_of));
      fit = λ name n f is. (let fd = found table 1 n f name is in functions_at table fd.place f fit.functions fd.is);
    } in
    record {
      main = flat_function table main 0 0;
      is_main = refl;
      no_params = refl;
      numbered = numbered table (main ∷ table) 0 0;
      functions = All-from_recursion (FunctionFits fs) fs (functions_fit flow table defaults (program_calls program) fs callees (main ∷ table) 0 0 (fit.main, bodies_fit table fit.functions));
    }
