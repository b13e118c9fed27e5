-- The points of a program do what it does.
use Rattle.std.proofs.Common.{◌≡◌, ℕ, zero, suc, ◌+◌, List, [], ◌∷◌, ◌++◌, length, Some, None, Option, refl, sym, ap, ◌∙◌, subst, arith, ◌≤◌, ◌⊎◌, inl, inr, Bool, true, false, ◌||◌, map, take, drop, nat_eq, bytes_eq, slice_get}
use Rattle.std.specs.Prelude.{if◌then◌else◌}
use Rattle.std.proofs.lemmas.Bool.{eq-eqb, ne_eqb}
use Rattle.php_syntax.specs.Trees.{PlainParam, PlainFunction}
use Rattle.plain_values.specs.Plain.{Plain, null}
use Rattle.plain_values.specs.declared.fault.Fault.{Fault}
use Rattle.builtin_meaning.specs.Names.{builtin_named}
use Rattle.script_meaning.specs.Requests.{PlainRequest}
use Rattle.script_meaning.specs.Runs.{State, Run, Going, Over, ◌then_do◌, Ended, Faulted, Spent, Deep, unit_at, value_in}
use Rattle.script_meaning.specs.Programs.{PlainProgram, function_named, arguments_of}
use Rattle.script_meaning.specs.Statements.{Flow, goes_on, breaks, continues, returns, statements}
use Rattle.script_meaning.specs.Meaning.{value_returned, call_one, run_body, call_within, Outcome, outcome_of, meaning}
use Rattle.flow_code.specs.Points.{literal_source, set_point, call_point, return_point, PlainFlowFunction, PlainFlow, points_in, point_at, function_at}
use Rattle.flow_code.specs.Variables.{Name, name_of_param, names_of, variables_of}
use Rattle.flow_code.specs.Code.{Targets}
use Rattle.flow_code.specs.Expressions.{Scope, variable, function_in}
use Rattle.flow_code.specs.Completion.{all_complete, some_jump_out, reaches_end}
use Rattle.flow_code.specs.Statements.{block}
use Rattle.flow_code.specs.Flat.{end_points, scope_of, body_of_function, flat_function, flat_functions, main_function, flat}
use Rattle.flow_code.specs.Runs.{Frame, set_slot, fresh, arguments_in, source_value, FlowEnd, returned, exited, RunsFrom, FlatRun}
use Rattle.flow_runs.specs.Defaults.{HaveDefaults}
use Rattle.flow_runs.specs.Keyed.{StmtsKeyed, FunctionsKeyed, ProgramKeyed}
use Rattle.flow_runs.proofs.Steps.{World, world, credit, Inner, Comes_back, Stays_in, Calls_on, first, suc_same, some_same, returned_same, ends_apart, one_run}
use Rattle.flow_runs.proofs.Ends.{Ends, Rest, Lands, Comes_to, Post, Stuck, Follows, here, onward, unit_paid, set_comes, return_ends, call_returns, call_quits}
use Rattle.flow_runs.proofs.Has.{HasAt, has_front, has_back, has_all}
use Rattle.flow_runs.proofs.Names.{Has, HasAll, all_front, all_back, once_has, place_is, name_is, other_name}
use Rattle.flow_runs.proofs.Frames.{slot_same, Shows}
use Rattle.flow_runs.proofs.Calls.{env, default_of, handed, Came, CallsDo, by_own}
use Rattle.flow_runs.proofs.Leaving.{LeftAs, left_holds, right_holds, stmts_left}
use Rattle.flow_runs.proofs.Blocks.{Went, known}
use Rattle.flow_runs.proofs.Stmts.{stmts_units, block_does}

-- a function stands among the points
pub record Stands (flow : PlainFlow) (table : List PlainFunction) (n : ℕ) (f : PlainFunction) : Type 0 where
  pub point : ℕ
  pub slot : ℕ
  pub is : function_at flow n ≡ Some (flat_function table f point slot)
  pub has : HasAt flow point (flat_function table f point slot).points_of

pub record Placed (flow : PlainFlow) (table fs : List PlainFunction) (point slot k : ℕ) (f : PlainFunction) : Type 0 where
  pub at_point : ℕ
  pub at_slot : ℕ
  pub is : slice_get (flat_functions table fs point slot) k ≡ Some (flat_function table f at_point at_slot)
  pub has : HasAt flow at_point (flat_function table f at_point at_slot).points_of

pub placed : (flow : PlainFlow) (table fs : List PlainFunction) (point slot : ℕ) → HasAt flow point (points_in (flat_functions table fs point slot)) → (k : ℕ) (f : PlainFunction) → slice_get fs k ≡ Some f → Placed flow table fs point slot k f
unfolding flat_functions points_in flat_function
placed flow table [] point slot has k f e = cc
placed flow table (g ∷ fs) point slot has zero f e =
    let same : g ≡ f = cc in
    subst (Placed flow table (g ∷ fs) point slot zero) same (record { at_point = point; at_slot = slot; is = refl; has = has_front flow point (flat_function table g point slot).points_of _ has })
placed flow table (g ∷ fs) point slot has (suc k) f e =
    let first = flat_function table g point slot in
    let rest = placed flow table fs (point + length first.points_of) (slot + first.slots_of) (has_back flow point (length first.points_of) first.points_of _ refl has) k f e in
    record { at_point = rest.at_point; at_slot = rest.at_slot; is = rest.is; has = rest.has }

pub record Found (fs : List PlainFunction) (j n : ℕ) (f : PlainFunction) (name : Name) : Type 0 where
  pub place : ℕ
  pub number : n ≡ j + place
  pub is : slice_get fs place ≡ Some f
  pub named : function_named fs name ≡ Some f

abbrev first_of : ℕ → Option (ℕ × PlainFunction) → ℕ
first_of d None = d
first_of d (Some p) = p.0

abbrev second_of : PlainFunction → Option (ℕ × PlainFunction) → PlainFunction
second_of d None = d
second_of d (Some p) = p.1

first_place : {j n : ℕ} → j ≡ n → n ≡ j + 0
first_place e = omega (arith, e)

pub found : (fs : List PlainFunction) (j n : ℕ) (f : PlainFunction) (name : Name) → function_in j fs name ≡ Some (n, f) → Found fs j n f name
unfolding function_in function_named
found [] j n f name e = cc
found (g ∷ fs) j n f name e = by_test (found fs (j + 1) n f name) (bytes_eq g.name_of name) refl (subst (λ b. (if b then Some (j, g) else function_in (j + 1) fs name) ≡ Some (n, f)) refl e)
  where
    by_test : (function_in (j + 1) fs name ≡ Some (n, f) → Found fs (j + 1) n f name) → (b : Bool) → bytes_eq g.name_of name ≡ b → (if bytes_eq g.name_of name then Some (j, g) else function_in (j + 1) fs name) ≡ Some (n, f) → Found (g ∷ fs) j n f name
    by_test go true t e =
        let e' : Some (j, g) ≡ Some (n, f) = ap (λ b. if b then Some (j, g) else function_in (j + 1) fs name) (sym t) ∙ e in
        let same : g ≡ f = ap (second_of g) e' in
        let at : j ≡ n = ap (first_of j) e' in
        record { place = 0; number = first_place at; is = ap Some same; named = ap (λ b. if b then Some g else function_named fs name) t ∙ ap Some same }
    by_test go false t e =
        let rest = go (ap (λ b. if b then Some (j, g) else function_in (j + 1) fs name) (sym t) ∙ e) in
        let at = rest.number in
        record { place = suc rest.place; number = omega (arith, at); is = rest.is; named = ap (λ b. if b then Some g else function_named fs name) t ∙ rest.named }

take_none : (n : ℕ) → take {A = Plain} n [] ≡ []
take_none zero = refl
take_none (suc n) = refl

-- the slots of the parameters hold the values that the call begins with
module _ (w : Scope) where
  abbrev slots_of : List PlainParam → List ℕ
  slots_of ps = map (λ (p : PlainParam). variable w p.name_of) ps

  abbrev values_for : List PlainParam → List Plain → List Plain
  values_for ps vs = take (length ps) vs ++ map default_of (drop (length vs) ps)

  parameter : (y x : Name) (v rest rest' : Plain) → Has w.names x → Has w.names y → rest ≡ rest' → (if nat_eq (variable w x) (variable w y) then v else rest) ≡ (if bytes_eq y x then v else rest')
  unfolding variable
  parameter y x v rest rest' hx hy e = by_test (bytes_eq y x) refl
    where
      by_test : (b : Bool) → bytes_eq y x ≡ b → (if nat_eq (variable w x) (variable w y) then v else rest) ≡ (if b then v else rest')
      by_test true t = ap (λ b. if b then v else rest) (eq-eqb (variable w x) (variable w y) (ap (variable w) (sym (name_is y x t))))
      by_test false t = ap (λ b. if b then v else rest) (ne_eqb (variable w x) (variable w y) (λ same. other_name y x t (place_is y x w.names hy hx (omega (arith, same))))) ∙ e

  arguments_show : (ps : List PlainParam) (vs : List Plain) (x : Name) → HasAll w.names (map name_of_param ps) → Has w.names x → arguments_in (slots_of ps) (values_for ps vs) (variable w x) ≡ value_in (arguments_of ps vs) x
  unfolding arguments_in arguments_of
  arguments_show [] vs x h hx = refl
  arguments_show (p ∷ ps) [] x h hx =
      let rest : arguments_in (slots_of ps) (map default_of ps) (variable w x) ≡ value_in (arguments_of ps []) x = ap (λ (l : List Plain). arguments_in (slots_of ps) (l ++ map default_of ps) (variable w x)) (sym (take_none (length ps))) ∙ arguments_show ps [] x h.1 hx in
      parameter p.name_of x (default_of p) _ _ hx h.0 rest
  arguments_show (p ∷ ps) (v ∷ vs) x h hx = parameter p.name_of x v _ _ hx h.0 (arguments_show ps vs x h.1 hx)

-- a call of a function that is there
found_call : (r : PlainRequest) (fs : List PlainFunction) (room : ℕ) (name : Name) (f : PlainFunction) (vs : List Plain) (s : State) → builtin_named name ≡ None → function_named fs name ≡ Some f → call_within r fs (suc room) name vs s ≡ unit_at s.left s (run_body (record { request = r; call = call_within r fs room }) f vs)
unfolding call_within call_one
found_call r fs room name f vs s e k = by_own (builtin_named name) vs _ s e ∙ ap (λ o. call_one o (λ f s. run_body (record { request = r; call = call_within r fs room }) f vs s) s) k

deep_call : (r : PlainRequest) (fs : List PlainFunction) (name : Name) (f : PlainFunction) (vs : List Plain) (s : State) → builtin_named name ≡ None → function_named fs name ≡ Some f → call_within r fs zero name vs s ≡ unit_at s.left s (λ s. Over Deep s.printed)
unfolding call_within call_one
deep_call r fs name f vs s e k = by_own (builtin_named name) vs _ s e ∙ ap (λ o. call_one o (λ f s. Over Deep s.printed) s) k

-- what is run inside of a call
record Called (m : World) (room : ℕ) (g : PlainFlowFunction) (vs : List Plain) (most : ℕ) : Type 0 where
  w : List ℕ
  end : FlowEnd
  inner : Inner m room g vs w end
  paid : m.cost + credit m.cost inner ≤ most

inside : {m : World} {room x next : ℕ} {callee : PlainFlowFunction} {vs : List Plain} {f : Frame} {w : List ℕ} {end : FlowEnd} {most : ℕ} → Comes_back m room x next callee vs f w end most ⊎ Stays_in m room callee vs w end most → Called m room callee vs most
inside (inl b) = let paid = b.paid in record { w = b.u; end = returned b.v; inner = b.inner; paid = omega (arith, paid) }
inside {w = w} (inr b) = let paid = b.paid in record { w = w; end = exited; inner = b.inner; paid = omega (arith, paid) }

module _ {flow : PlainFlow} {r : PlainRequest} {strict : Bool} {cost room : ℕ} where
  -- the points behind a body, whose end can be reached where the body can be left at its end, or by a jump
  body_ends : (w : Scope) (to : Targets) (on jumps : Bool) (e t y q : ℕ) (f g : Frame) (how : Flow) (s : State) → to.stop ≡ e → to.again ≡ e → HasAt flow e (end_points (on || jumps) e y) → LeftAs on jumps how → Went (world flow r strict cost room) w to e t f how s q g → Ends (world flow r strict cost room) q g s.printed s.printed (returned (value_returned how))
  unfolding value_returned source_value
  body_ends w to on jumps e t y q f g how s stop again has left went = by_flow how left went
    where
      null_ends : HasAt flow e (end_points true e y) → Ends (world flow r strict cost room) e g s.printed s.printed (returned null)
      null_ends has = (set_comes (world flow r strict cost room) e y (e + 1) (literal_source null) g null s.printed has.0 refl).forth s.printed (returned null) (return_ends (world flow r strict cost room) (e + 1) y (set_slot g y null) s.printed null has.1.0 (slot_same g y null))

      there : (on || jumps) ≡ true → Ends (world flow r strict cost room) e g s.printed s.printed (returned null)
      there is = null_ends (subst (λ b. HasAt flow e (end_points b e y)) is has)

      by_flow : (how : Flow) → LeftAs on jumps how → Went (world flow r strict cost room) w to e t f how s q g → Ends (world flow r strict cost room) q g s.printed s.printed (returned (value_returned how))
      by_flow goes_on left went = subst (λ q. Ends (world flow r strict cost room) q g s.printed s.printed (returned null)) (sym went.at) (there (left_holds on jumps left))
      by_flow breaks left went = subst (λ q. Ends (world flow r strict cost room) q g s.printed s.printed (returned null)) (sym (went.at ∙ stop)) (there (right_holds on jumps left))
      by_flow continues left went = subst (λ q. Ends (world flow r strict cost room) q g s.printed s.printed (returned null)) (sym (went.at ∙ again)) (there (right_holds on jumps left))
      by_flow (returns v) left went = return_ends (world flow r strict cost room) q went.at.0 g s.printed v went.at.1 went.at.2

  goes_in : {x next n : ℕ} {args : List ℕ} {callee : PlainFlowFunction} {f : Frame} {w : List ℕ} {end : FlowEnd} {most : ℕ} → function_at flow n ≡ Some callee → Calls_on (world flow r strict cost (suc room)) x n args next f w end most → Comes_back (world flow r strict cost (suc room)) room x next callee (map f.slots args) f w end most ⊎ Stays_in (world flow r strict cost (suc room)) room callee (map f.slots args) w end most
  goes_in {x} {next} {n} {args} {callee} {f} {w} {end} {most} is a =
      let there = suc_same room a.room a.is_room in
      let same = some_same a.g callee (function_at flow n) a.is is in
      let Went_in : ℕ → PlainFlowFunction → Type 0 = λ k g. Comes_back (world flow r strict cost (suc room)) k x next g (map f.slots args) f w end most ⊎ Stays_in (world flow r strict cost (suc room)) k g (map f.slots args) w end most in
      subst (λ k. Went_in k callee) (sym there) (subst (λ g. Went_in a.room g) same a.went)

  -- a call's point, where the body of the function follows
  module _ (p x n next : ℕ) (args : List ℕ) (callee : PlainFlowFunction) (g : Frame) (s : State) (left c : ℕ) (few : suc c ≤ cost) (at : point_at flow p ≡ Some (call_point x n args next)) (is : function_at flow n ≡ Some callee) where
    called_back : (how : Flow) (t : State) (P : Post Flow) → (l : Lands (world flow r strict cost room) c callee.entry_of (fresh (arguments_in callee.params_of (map g.slots args))) left s.printed t (P how t)) → Ends (world flow r strict cost room) callee.entry_of (fresh (arguments_in callee.params_of (map g.slots args))) s.printed t.printed (returned (value_returned how)) → (w : List ℕ) (end : FlowEnd) (most : ℕ) → Comes_back (world flow r strict cost (suc room)) room x next callee (map g.slots args) g w end most ⊎ Stays_in (world flow r strict cost (suc room)) room callee (map g.slots args) w end most → Rest (world flow r strict cost (suc room)) next (set_slot g x (value_returned how)) (suc left) (t.left + most + 0)
    called_back how t P l inner w end most (inl b) =
        let same = one_run inner.runs b.inner in
        let a = l.back b.u (returned b.v) b.inner in
        let paid = b.paid in
        let whole : Rest (world flow r strict cost (suc room)) next (set_slot g x b.v) (suc left) (t.left + most + 0) = record { more = b.more; end = end; rest = b.rest; paid = omega (arith, a.paid, paid, few) } in
        subst (λ v. Rest (world flow r strict cost (suc room)) next (set_slot g x v) (suc left) (t.left + most + 0)) (sym (returned_same (value_returned how) b.v same.ends)) whole
    called_back how t P l inner w end most (inr b) = absurd (ends_apart (value_returned how) (one_run inner.runs b.inner).ends)

    enters : (run : Run Flow) (P : Post Flow) → ((how : Flow) (s : State) (q : ℕ) (h : Frame) → P how s q h → Ends (world flow r strict cost room) q h s.printed s.printed (returned (value_returned how))) → Follows (world flow r strict cost room) c Flow callee.entry_of (fresh (arguments_in callee.params_of (map g.slots args))) left s.printed run P → Follows (world flow r strict cost (suc room)) 0 Plain p g (suc left) s.printed (run then_do λ how after. Going (value_returned how) (record after { variables = s.variables })) (Came x next g s)
    unfolding ◌then_do◌
    enters run P ends h = record { is = by_run run h.is }
      where
        sticks : Stuck (world flow r strict cost room) callee.entry_of (fresh (arguments_in callee.params_of (map g.slots args))) → Stuck (world flow r strict cost (suc room)) p g
        sticks stuck asked w end run =
            let a = inside (goes_in is (first (world flow r strict cost (suc room)) run (call_point x n args next) at)) in
            stuck asked a.w a.end a.inner

        by_run : (run : Run Flow) → Comes_to (world flow r strict cost room) c callee.entry_of (fresh (arguments_in callee.params_of (map g.slots args))) left s.printed run P → Comes_to (world flow r strict cost (suc room)) 0 p g (suc left) s.printed (run then_do λ how after. Going (value_returned how) (record after { variables = s.variables })) (Came x next g s)
        by_run (Going how t) l =
            let inner = l.forth t.printed (returned (value_returned how)) (ends how t l.at l.frame l.holds) in
            record {
              at = next;
              frame = set_slot g x (value_returned how);
              holds = record { at = refl; frame = refl; variables = refl };
              falls = let a = l.falls in omega (arith, a);
              forth = call_returns flow r strict cost room p x n next args callee g (value_returned how) s.printed t.printed at is inner;
              back = λ w end run. called_back how t P l inner w end (credit cost run) (goes_in is (first (world flow r strict cost (suc room)) run (call_point x n args next) at));
            }
        by_run (Over Ended w) l = call_quits flow r strict cost room p x n next args callee g s.printed w at is l
        by_run (Over (Faulted fault) w) l = sticks l
        by_run (Over Spent w) l = λ w end run.
            let a = inside (goes_in is (first (world flow r strict cost (suc room)) run (call_point x n args next) at)) in
            let b = l a.w a.end a.inner in
            omega (arith, a.paid, b, few)
        by_run (Over Deep w) l = sticks l

none_open : (room : ℕ) → zero ≡ suc room → ⊥
none_open room e = cc

pub names_there : (table : List PlainFunction) (f : PlainFunction) (slot : ℕ) → HasAll (scope_of table f slot).names (map name_of_param f.params_of ++ names_of f.body_of)
unfolding scope_of variables_of
names_there table f slot = once_has (map name_of_param f.params_of ++ names_of f.body_of)

-- where no call may be open, a call of a function of the script opens too many
pub no_calls : {flow : PlainFlow} {r : PlainRequest} {strict : Bool} {cost : ℕ} (table : List PlainFunction) → CallsDo (world flow r strict cost zero) table
no_calls {flow} {r} {strict} {cost} table name n f not_builtin is p x next args g s vs at given =
    let fd = found table 1 n f name is in
    subst (λ run. Follows (world flow r strict cost zero) 0 Plain p g s.left s.printed run (Came x next g s)) (sym (deep_call r table name f vs s not_builtin fd.named)) (unit_paid s _ (λ left taken. record { is = λ asked w end run. none_open (first (world flow r strict cost zero) run (call_point x n args next) at).room (first (world flow r strict cost zero) run (call_point x n args next) at).is_room }))

module _ {flow : PlainFlow} {r : PlainRequest} {strict : Bool} {cost : ℕ} (table : List PlainFunction) (defaults : HaveDefaults table) (stands : (k : ℕ) (f : PlainFunction) → slice_get table k ≡ Some f → Stands flow table (suc k) f)
    (keyed : (k : ℕ) (f : PlainFunction) → slice_get table k ≡ Some f → strict ≡ true → StmtsKeyed f.body_of) (few : (k : ℕ) (f : PlainFunction) → slice_get table k ≡ Some f → suc (stmts_units f.body_of) ≤ cost) where
  -- a function whose points stand here, from a state whose variables its slots show
  function_follows : (room : ℕ) → CallsDo (world flow r strict cost room) table → (f : PlainFunction) (point slot : ℕ) (frame : Frame) (s : State) → (strict ≡ true → StmtsKeyed f.body_of) → suc (stmts_units f.body_of) ≤ cost → HasAt flow point (flat_function table f point slot).points_of → Shows (scope_of table f slot) s frame → Follows (world flow r strict cost room) (stmts_units f.body_of) Flow point frame s.left s.printed (statements (env (world flow r strict cost room) table) f.body_of s) (λ how t q g. Ends (world flow r strict cost room) q g t.printed t.printed (returned (value_returned how)))
  unfolding flat_function body_of_function scope_of reaches_end
  function_follows room calls f point slot frame s own_keyed own_few has shows =
      let w = scope_of table f slot in
      let body = block w f.body_of in
      let e = point + body.size in
      let start = slot + length (variables_of f) in
      let to : Targets = record { stop = e; again = e } in
      let d = block_does {m = world flow r strict cost room} {w = w} calls defaults f.body_of (all_back w.names (map name_of_param f.params_of) (names_of f.body_of) (names_there table f slot)) own_keyed (omega (arith, own_few)) in
      let ends = has_back flow point body.size (body.points to point start) _ (d.long to point start) has in
      onward (known (stmts_left (env (world flow r strict cost room) table) f.body_of s) (d.follows to point start frame s (has_front flow point (body.points to point start) _ has) (omega arith) shows))
      (λ how t q g went. here (body_ends w to (all_complete f.body_of) (some_jump_out f.body_of) e start _ q frame g how t refl refl ends went.0 went.1))

  called_follows : (room : ℕ) → CallsDo (world flow r strict cost room) table → (n : ℕ) (f : PlainFunction) (point slot : ℕ) → (strict ≡ true → StmtsKeyed f.body_of) → suc (stmts_units f.body_of) ≤ cost → HasAt flow point (flat_function table f point slot).points_of → function_at flow n ≡ Some (flat_function table f point slot) → (p x next : ℕ) (args : List ℕ) (g : Frame) (s : State) (left : ℕ) (vs : List Plain) → s.left ≡ left → point_at flow p ≡ Some (call_point x n args next) → map g.slots args ≡ handed f vs → Follows (world flow r strict cost (suc room)) 0 Plain p g (suc left) s.printed (run_body (env (world flow r strict cost room) table) f vs s) (Came x next g s)
  unfolding run_body flat_function scope_of fresh
  called_follows room calls n f point slot own_keyed own_few has is p x next args g s left vs same at given =
      let w = scope_of table f slot in
      let callee = flat_function table f point slot in
      let s1 : State = record s { variables = arguments_of f.params_of vs } in
      let shows : Shows w s1 (fresh (arguments_in callee.params_of (map g.slots args))) = λ y hy. ap (λ vs. arguments_in callee.params_of vs (variable w y)) given ∙ arguments_show w f.params_of vs y (all_front w.names (map name_of_param f.params_of) (names_of f.body_of) (names_there table f slot)) hy in
      enters p x n next args callee g s left (stmts_units f.body_of) own_few at is _ (λ how t q g. Ends (world flow r strict cost room) q g t.printed t.printed (returned (value_returned how))) (λ how t q h e. e)
      (subst (λ n. Follows (world flow r strict cost room) (stmts_units f.body_of) Flow point (fresh (arguments_in callee.params_of (map g.slots args))) n s.printed (statements (env (world flow r strict cost room) table) f.body_of s1) (λ how t q g. Ends (world flow r strict cost room) q g t.printed t.printed (returned (value_returned how)))) same
      (function_follows room calls f point slot _ s1 own_keyed own_few has shows))

  pub calls_do : (room : ℕ) → CallsDo (world flow r strict cost room) table
  calls_do zero = no_calls {flow = flow} {r = r} {strict = strict} {cost = cost} table
  calls_do (suc room) = λ name n f not_builtin is p x next args g s vs at given.
      let fd = found table 1 n f name is in
      let st = stands fd.place f fd.is in
      let number = fd.number in
      let callee = flat_function table f st.point st.slot in
      let is_callee : function_at flow n ≡ Some callee = subst (λ n. function_at flow n ≡ Some callee) (omega (arith, number)) st.is in
      subst (λ run. Follows (world flow r strict cost (suc room)) 0 Plain p g s.left s.printed run (Came x next g s)) (sym (found_call r table room name f vs s not_builtin fd.named))
      (unit_paid {P = Came x next g s} s _ (λ left taken. onward (called_follows room (calls_do room) n f st.point st.slot (keyed fd.place f fd.is) (few fd.place f fd.is) st.has is_callee p x next args g (record s { left = left }) left vs refl at given) (λ v t q h came. here (record { at = came.at; frame = came.frame; variables = came.variables }))))

faulted_apart : (fault : Fault) → Faulted fault ≡ Ended → ⊥
faulted_apart fault e = cc

spent_apart : Spent ≡ Ended → ⊥
spent_apart e = cc

deep_apart : Deep ≡ Ended → ⊥
deep_apart e = cc

outcome_ends : (run : Run Flow) (w : List ℕ) → outcome_of run ≡ record { printed = w; end = Ended } → (flow : PlainFlow) (r : PlainRequest) (strict : Bool) (cost c point n : ℕ) (frame : Frame) → Follows (world flow r strict cost 256) c Flow point frame n [] run (λ how t q g. Ends (world flow r strict cost 256) q g t.printed t.printed (returned (value_returned how))) → (end : FlowEnd) × Ends (world flow r strict cost 256) point frame [] w end
unfolding outcome_of
outcome_ends (Going how s) w e flow r strict cost c point n frame h =
    let l = h.is in
    let same : s.printed ≡ w = ap (λ (o : Outcome). o.printed) e in
    (returned (value_returned how), subst (λ w. Ends (world flow r strict cost 256) point frame [] w (returned (value_returned how))) same (l.forth s.printed (returned (value_returned how)) l.holds))
outcome_ends (Over Ended u) w e flow r strict cost c point n frame h =
    let same : u ≡ w = ap (λ (o : Outcome). o.printed) e in
    (exited, subst (λ w. Ends (world flow r strict cost 256) point frame [] w exited) same h.is)
outcome_ends (Over (Faulted fault) u) w e flow r strict cost c point n frame h = absurd (faulted_apart fault (ap (λ (o : Outcome). o.end) e))
outcome_ends (Over Spent u) w e flow r strict cost c point n frame h = absurd (spent_apart (ap (λ (o : Outcome). o.end) e))
outcome_ends (Over Deep u) w e flow r strict cost c point n frame h = absurd (deep_apart (ap (λ (o : Outcome). o.end) e))

-- where the points have a run that costs less than the units that there are, the run of the script has ended, and printed the same
ends_outcome : (run : Run Flow) (w : List ℕ) (end : FlowEnd) (flow : PlainFlow) (r : PlainRequest) (cost c point n : ℕ) (frame : Frame) → Follows (world flow r true cost 256) c Flow point frame n [] run (λ how t q g. Ends (world flow r true cost 256) q g t.printed t.printed (returned (value_returned how))) → (points : RunsFrom flow r 256 point frame w end) → suc (credit cost points + c) ≤ n → outcome_of run ≡ record { printed = w; end = Ended }
unfolding outcome_of
ends_outcome (Going how s) w end flow r cost c point n frame h points more =
    let l = h.is in
    let ends = l.forth s.printed (returned (value_returned how)) l.holds in
    let same : s.printed ≡ w = ends.all ∙ (one_run ends.runs points).bytes in
    ap (λ (w : List ℕ). (let o : Outcome = record { printed = w; end = Ended } in o)) same
ends_outcome (Over Ended u) w end flow r cost c point n frame h points more =
    let ends = h.is in
    let same : u ≡ w = ends.all ∙ (one_run ends.runs points).bytes in
    ap (λ (w : List ℕ). (let o : Outcome = record { printed = w; end = Ended } in o)) same
ends_outcome (Over (Faulted fault) u) w end flow r cost c point n frame h points more = absurd (h.is refl w end points)
ends_outcome (Over Spent u) w end flow r cost c point n frame h points more = let few = h.is w end points in absurd (omega (arith, few, more))
ends_outcome (Over Deep u) w end flow r cost c point n frame h points more = absurd (h.is refl w end points)

-- the units of all functions
abbrev functions_units : List PlainFunction → ℕ
functions_units [] = 0
functions_units (f ∷ fs) = stmts_units f.body_of + functions_units fs

units_within : (fs : List PlainFunction) (k : ℕ) (f : PlainFunction) → slice_get fs k ≡ Some f → stmts_units f.body_of ≤ functions_units fs
units_within [] k f e = absurd cc
units_within (g ∷ fs) zero f e = let same : g ≡ f = cc in subst (λ (f : PlainFunction). stmts_units f.body_of ≤ functions_units (g ∷ fs)) same (omega arith)
units_within (g ∷ fs) (suc k) f e = let h = units_within fs k f e in omega (arith, h)

keyed_within : (fs : List PlainFunction) → FunctionsKeyed fs → (k : ℕ) (f : PlainFunction) → slice_get fs k ≡ Some f → StmtsKeyed f.body_of
keyed_within [] h k f e = absurd cc
keyed_within (g ∷ fs) h zero f e = let same : g ≡ f = cc in subst (λ (f : PlainFunction). StmtsKeyed f.body_of) same h.0
keyed_within (g ∷ fs) h (suc k) f e = keyed_within fs h.1 k f e

-- what a point of the program is to cost
abbrev cost_of : PlainProgram → ℕ
cost_of program = suc (stmts_units program.main_of + functions_units program.functions_of)

module _ (program : PlainProgram) (r : PlainRequest) (strict : Bool) (defaults : HaveDefaults program.functions_of) (keyed : strict ≡ true → ProgramKeyed program) where
  main_follows : (n : ℕ) → Follows (world (flat program) r strict (cost_of program) 256) (stmts_units program.main_of) Flow 0 (fresh (λ x. null)) n [] (statements (env (world (flat program) r strict (cost_of program) 256) program.functions_of) program.main_of (record { left = n; variables = []; printed = [] })) (λ how t q g. Ends (world (flat program) r strict (cost_of program) 256) q g t.printed t.printed (returned (value_returned how)))
  unfolding flat flat_functions flat_function main_function fresh points_in
  main_follows n =
      let main = main_function program in
      let table = program.functions_of in
      let flow = flat program in
      let has = has_all flow in
      let stands : (k : ℕ) (f : PlainFunction) → slice_get table k ≡ Some f → Stands flow table (suc k) f = λ k f is. (let pl = placed flow table (main ∷ table) 0 0 has (suc k) f is in record { point = pl.at_point; slot = pl.at_slot; is = pl.is; has = pl.has }) in
      let first = has_front flow 0 (flat_function table main 0 0).points_of _ has in
      let all_keyed : (k : ℕ) (f : PlainFunction) → slice_get table k ≡ Some f → strict ≡ true → StmtsKeyed f.body_of = λ k f is asked. keyed_within table (keyed asked).functions k f is in
      let few : (k : ℕ) (f : PlainFunction) → slice_get table k ≡ Some f → suc (stmts_units f.body_of) ≤ cost_of program = λ k f is. (let a = units_within table k f is in omega (arith, a)) in
      function_follows table defaults stands all_keyed few 256 (calls_do table defaults stands all_keyed few 256) main 0 0 (fresh (λ x. null)) (record { left = n; variables = []; printed = [] }) (λ asked. (keyed asked).main) (omega arith) first (λ x hx. refl)

pub none_asked : {A : Type 0} → false ≡ true → A
none_asked e = absurd cc

pub ended_runs : (program : PlainProgram) (r : PlainRequest) (n : ℕ) (w : List ℕ) → HaveDefaults program.functions_of → meaning program r n ≡ record { printed = w; end = Ended } → FlatRun (flat program) r w
unfolding meaning flat flat_functions flat_function main_function fresh
ended_runs program r n w defaults e =
    let flow = flat program in
    let ends = outcome_ends _ w e flow r false (cost_of program) (stmts_units program.main_of) 0 n (fresh (λ x. null)) (main_follows program r false defaults none_asked n) in
    record { main = flat_function program.functions_of (main_function program) 0 0; is_main = refl; end = ends.0; runs = subst (λ w. RunsFrom flow r 256 0 (fresh (λ x. null)) w ends.0) (sym (ends.1).all) (ends.1).runs }

pub runs_ended : (program : PlainProgram) (r : PlainRequest) (w : List ℕ) → HaveDefaults program.functions_of → ProgramKeyed program → FlatRun (flat program) r w → (n : ℕ) × (meaning program r n ≡ record { printed = w; end = Ended })
unfolding meaning flat flat_functions flat_function main_function fresh
runs_ended program r w defaults keyed run =
    let flow = flat program in
    let main : PlainFlowFunction = flat_function program.functions_of (main_function program) 0 0 in
    let same : run.main ≡ main = some_same run.main main (function_at flow 0) run.is_main refl in
    let points : RunsFrom flow r 256 0 (fresh (λ x. null)) w run.end = subst (λ (g : PlainFlowFunction). RunsFrom flow r 256 g.entry_of (fresh (λ x. null)) w run.end) same run.runs in
    let n = suc (credit (cost_of program) points + stmts_units program.main_of) in
    (n, ends_outcome _ w run.end flow r (cost_of program) (stmts_units program.main_of) 0 n (fresh (λ x. null)) (main_follows program r true defaults (λ asked. keyed) n) points (omega arith))
