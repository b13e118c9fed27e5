-- Code of a call does what the call does, where the points of functions do.
use Rattle.std.proofs.Common.{◌≡◌, ℕ, zero, suc, ◌+◌, List, [], ◌∷◌, ◌++◌, length, Some, None, Option, refl, sym, ap, ap₂, ◌∙◌, subst, arith, Bool, true, false, map, take, drop, Ok, bytes_eq}
use Rattle.std.specs.Prelude.{if◌then◌else◌}
use Rattle.php_syntax.specs.Trees.{neg_expr, int_expr, MaybeExpr, no_expr, some_expr, PlainExprs, PlainParam, PlainFunction}
use Rattle.plain_values.specs.Plain.{Plain, null, int}
use Rattle.plain_values.specs.Arithmetic.{negation_of}
use Rattle.builtin_meaning.specs.declared.builtin.Builtin.{Builtin}
use Rattle.builtin_meaning.specs.Names.{builtin_named}
use Rattle.builtin_meaning.specs.Values.{builtin_value}
use Rattle.script_meaning.specs.Requests.{PlainRequest}
use Rattle.script_meaning.specs.Runs.{State, Run, Going, ◌then_do◌, result_of, value_in}
use Rattle.script_meaning.specs.Programs.{function_named, default_value, literal_value}
use Rattle.script_meaning.specs.Expressions.{Environment}
use Rattle.script_meaning.specs.Meaning.{call_within, builtin_or, call_one}
use Rattle.flow_code.specs.declared.source.Work.TheVariants as work
use Rattle.flow_code.specs.Points.{PlainSource, literal_source, number_source, call_point, point_at}
use Rattle.flow_code.specs.Variables.{Name}
use Rattle.flow_code.specs.Code.{Code, from_source}
use Rattle.flow_code.specs.Expressions.{Scope, function_in, literal, default_code, default_codes, called, call_own, call_code, number_of}
use Rattle.flow_code.specs.Builtins.{builtin_source}
use Rattle.flow_code.specs.Runs.{Slots, Frame, set_slot, source_value, worked}
use Rattle.flow_runs.specs.Defaults.{IsDefault, AreDefaults, HaveDefaults}
use Rattle.flow_runs.proofs.Ends.{World, Follows, Meets, meets_same, here, land, onward, then_same}
use Rattle.flow_runs.proofs.Has.{has_front, has_back, two_long, last_long}
use Rattle.flow_runs.proofs.Frames.{Shows, kept_same, kept_join}
use Rattle.flow_runs.proofs.Codes.{at_slot, Did, Does, bind_did, does_same, does_known, does_both, does_known_computed, does_computed, did_set, sets}
use Rattle.flow_runs.proofs.BuiltinValues.{call_value}
use Rattle.flow_runs.proofs.Literals.{Literals}

abbrev pub read_slots : Slots → List ℕ → List Plain
read_slots f xs = map f xs

-- what expressions of a function are evaluated in
abbrev pub env : World → List PlainFunction → Environment
env m fs = record { request = m.request; call = call_within m.request fs m.room }

abbrev pub default_of : PlainParam → Plain
default_of p = default_value p.default_of

-- a call came back: the slot has its value, and the variables are as before
pub record Came (x next : ℕ) (f : Frame) (s : State) (v : Plain) (t : State) (p : ℕ) (g : Frame) : Type 0 where
  pub at : p ≡ next
  pub frame : g ≡ set_slot f x v
  pub variables : t.variables ≡ s.variables

-- the values of a call's parameters
abbrev pub handed : PlainFunction → List Plain → List Plain
handed f vs = take (length f.params_of) vs ++ map default_of (drop (length vs) f.params_of)

-- a call's point does what the call does
abbrev pub CallsDo : World → List PlainFunction → Type 0
CallsDo m fs = (name : Name) (n : ℕ) (f : PlainFunction) → builtin_named name ≡ None → function_in 1 fs name ≡ Some (n, f)
    → (p x next : ℕ) (args : List ℕ) (g : Frame) (s : State) (vs : List Plain) → point_at m.flow p ≡ Some (call_point x n args next) → map g.slots args ≡ handed f vs
    → Follows m 0 Plain p g s.left s.printed (call_within m.request fs m.room name vs s) (Came x next g s)

by_builtin : (o : Option Builtin) (b : Builtin) (vs : List Plain) (own : State → Run Plain) (s : State) → o ≡ Some b → builtin_or o vs own s ≡ result_of (builtin_value b vs) s
unfolding builtin_or
by_builtin o b vs own s e = ap (λ o. builtin_or o vs own s) e

pub by_own : (o : Option Builtin) (vs : List Plain) (own : State → Run Plain) (s : State) → o ≡ None → builtin_or o vs own s ≡ own s
unfolding builtin_or
by_own o vs own s e = ap (λ o. builtin_or o vs own s) e

by_missing : (o : Option PlainFunction) (enter : PlainFunction → State → Run Plain) (s : State) → o ≡ None → call_one o enter s ≡ Going null s
unfolding call_one
by_missing o enter s e = ap (λ o. call_one o enter s) e

pub call_builtin : (r : PlainRequest) (fs : List PlainFunction) (room : ℕ) (name : Name) (b : Builtin) (vs : List Plain) (s : State) → builtin_named name ≡ Some b → call_within r fs room name vs s ≡ result_of (builtin_value b vs) s
unfolding call_within
call_builtin r fs zero name b vs s e = by_builtin (builtin_named name) b vs _ s e
call_builtin r fs (suc room) name b vs s e = by_builtin (builtin_named name) b vs _ s e

call_missing : (r : PlainRequest) (fs : List PlainFunction) (room : ℕ) (name : Name) (vs : List Plain) (s : State) → builtin_named name ≡ None → function_named fs name ≡ None → call_within r fs room name vs s ≡ Going null s
unfolding call_within
call_missing r fs zero name vs s e k = by_own (builtin_named name) vs _ s e ∙ by_missing (function_named fs name) _ s k
call_missing r fs (suc room) name vs s e k = by_own (builtin_named name) vs _ s e ∙ by_missing (function_named fs name) _ s k

missing : (fs : List PlainFunction) (n : ℕ) (name : Name) → function_in n fs name ≡ None → function_named fs name ≡ None
unfolding function_in function_named
missing [] n name e = refl
missing (f ∷ fs) n name e = by_test (missing fs (n + 1) name) (bytes_eq f.name_of name) e
  where
    by_test : (function_in (n + 1) fs name ≡ None → function_named fs name ≡ None) → (b : Bool) → (if b then Some (n, f) else function_in (n + 1) fs name) ≡ None → (if b then Some f else function_named fs name) ≡ None
    by_test go true e = cc
    by_test go false e = go e

map_take : (f : Slots) (n : ℕ) (xs : List ℕ) → map f (take n xs) ≡ take n (map f xs)
map_take f zero xs = refl
map_take f (suc n) [] = refl
map_take f (suc n) (x ∷ xs) = ap (λ l. f x ∷ l) (map_take f n xs)

map_both : (f : Slots) (xs ys : List ℕ) → map f (xs ++ ys) ≡ map f xs ++ map f ys
map_both f [] ys = refl
map_both f (x ∷ xs) ys = ap (λ l. f x ∷ l) (map_both f xs ys)

map_long : (f : Slots) (xs : List ℕ) → length (map f xs) ≡ length xs
map_long f [] = refl
map_long f (x ∷ xs) = let e = map_long f xs in omega (arith, e)

drop_defaults : (n : ℕ) (ps : List PlainParam) → AreDefaults ps → AreDefaults (drop n ps)
drop_defaults zero ps h = h
drop_defaults (suc n) [] h = tt
drop_defaults (suc n) (p ∷ ps) h = drop_defaults n ps h.1

abbrev second : PlainFunction → Option (ℕ × PlainFunction) → PlainFunction
second d None = d
second d (Some p) = p.1

pub found_defaults : (fs : List PlainFunction) (k n : ℕ) (f : PlainFunction) (name : Name) → HaveDefaults fs → function_in k fs name ≡ Some (n, f) → AreDefaults f.params_of
unfolding function_in
found_defaults [] k n f name h e = cc
found_defaults (g ∷ fs) k n f name h e = by_test (found_defaults fs (k + 1) n f name h.1) (bytes_eq g.name_of name) e
  where
    by_test : (function_in (k + 1) fs name ≡ Some (n, f) → AreDefaults f.params_of) → (b : Bool) → (if b then Some (k, g) else function_in (k + 1) fs name) ≡ Some (n, f) → AreDefaults f.params_of
    by_test go true e = let same : g ≡ f = ap (second g) e in subst (λ f. AreDefaults f.params_of) same h.0
    by_test go false e = go e

pub neg_value : (r : PlainRequest) (f : Slots) (x : ℕ) → Meets (source_value r f (number_source work.Neg (x ∷ []))) (negation_of (f x))
unfolding source_value worked
neg_value r f x = meets_same _ _ refl

pub shows_same : (w : Scope) (s s' : State) (f : Frame) → s'.variables ≡ s.variables → Shows w s f → Shows w s' f
shows_same w s s' f e h x hx = h x hx ∙ ap (λ vs. value_in vs x) (sym e)

module _ {m : World} {w : Scope} where
  -- a source that stands alone
  pub does_source : (source : PlainSource) (v : State → Plain) → ((s : State) (f : Frame) → Shows w s f → source_value m.request f.slots source ≡ Ok (v s)) → Does m w ℕ Plain (from_source source) at_slot (λ s. Going (v s) s)
  does_source source v h = record {
    long = λ p t. refl;
    reads = λ t f g k. k (t + 0) (omega arith) (omega arith);
    follows = λ p t f s has le shows. sets s has.0 (h s f shows) (did_set (t + 0) _ (v s) s f refl (omega arith) (omega arith) le shows (kept_same f));
  }

  pub does_literal : (v : Plain) → Does m w ℕ Plain (literal v) at_slot (λ s. Going v s)
  unfolding source_value
  does_literal v = does_source (literal_source v) (λ s. v) (λ s f shows. refl)

  does_default : (e : MaybeExpr) → IsDefault e → Does m w ℕ Plain (default_code e) at_slot (λ s. Going (default_value e) s)
  unfolding default_code default_value literal_value ◌then_do◌ result_of
  does_default no_expr h = does_literal null
  does_default (some_expr (neg_expr (int_expr z))) h = does_same _ _ (λ s. ap (λ r. result_of r s) h) (does_computed (λ x. number_source work.Neg (x ∷ [])) negation_of (neg_value m.request) (does_literal (int z)))
  does_default (some_expr e) h = does_literal (literal_value e)

  does_defaults : (ps : List PlainParam) → AreDefaults ps → Does m w (List ℕ) (List Plain) (default_codes ps) read_slots (λ s. Going (map default_of ps) s)
  unfolding default_codes ◌then_do◌
  does_defaults [] h = does_known read_slots [] [] (λ f. refl)
  does_defaults (p ∷ ps) h = does_both read_slots (λ x xs. x ∷ xs) (λ v vs. v ∷ vs) (λ f x xs. refl) (does_default p.default_of h.0) (does_defaults ps h.1)

  does_called : {args : Code (List ℕ)} {run : State → Run (List Plain)} (name : Name) (n number : ℕ) (f : PlainFunction) → CallsDo m w.functions → builtin_named name ≡ None → function_in 1 w.functions name ≡ Some (n, f) → AreDefaults f.params_of → ((t : ℕ) → length (args.gives t) ≡ number) → Does m w (List ℕ) (List Plain) args read_slots run → Does m w ℕ Plain (called n (length f.params_of) args (default_codes (drop number f.params_of))) at_slot (λ s. run s then_do λ vs s. call_within m.request w.functions m.room name vs s)
  unfolding ◌then_do◌
  does_called {args} {run} name n number fn calls not_builtin found defaults count d =
      let rest = default_codes (drop number fn.params_of) in
      let all : Code ℕ = called n (length fn.params_of) args (default_codes (drop number fn.params_of)) in
      let e = does_defaults (drop number fn.params_of) (drop_defaults number fn.params_of defaults) in
      record {
        long = λ p t. last_long _ _ (args.size + rest.size) (two_long _ _ args.size rest.size _ (d.long p t) (e.long (p + args.size) (t + args.slots)) refl);
        reads = λ t f g k. k (t + (args.slots + rest.slots)) (omega arith) (omega arith);
        follows = λ p t f s has le shows.
            let parts = has_front m.flow p (args.points p t ++ rest.points (p + args.size) (t + args.slots)) _ has in
            let at = (has_back m.flow p (args.size + rest.size) (args.points p t ++ rest.points (p + args.size) (t + args.slots)) _ (two_long _ _ args.size rest.size _ (d.long p t) (e.long (p + args.size) (t + args.slots)) refl) has).0 in
            bind_did _ (d.follows p t f s (has_front m.flow p _ _ parts) le shows) (λ s1 g1 vs gives1 shows1 kept1.
            land (e.follows (p + args.size) (t + args.slots) g1 s1 (has_back m.flow p args.size _ _ (d.long p t) parts) (omega (arith, le)) shows1) (λ q2 g2 did.
            let next = p + (args.size + rest.size) + 1 in
            let x = t + (args.slots + rest.slots) in
            let slots = take (length fn.params_of) (args.gives t) ++ rest.gives (t + args.slots) in
            let at' : point_at m.flow q2 ≡ Some (call_point x n slots next) = subst (λ q. point_at m.flow q ≡ Some (call_point x n slots next)) (omega (arith, did.at)) at in
            let same = d.reads t g2.slots g1.slots (λ y ge lt. did.kept.slots' y (omega (arith, ge, le)) lt) ∙ gives1 in
            let many : number ≡ length vs = sym (ap length (sym gives1) ∙ map_long g1.slots (args.gives t) ∙ count t) in
            let given : map g2.slots slots ≡ handed fn vs = map_both g2.slots (take (length fn.params_of) (args.gives t)) (rest.gives (t + args.slots)) ∙ ap₂ (λ (us vs : List Plain). us ++ vs) (map_take g2.slots (length fn.params_of) (args.gives t) ∙ ap (take (length fn.params_of)) same) (did.gives ∙ ap (λ n. map default_of (drop n fn.params_of)) many) in
            onward (calls name n fn not_builtin found q2 x next slots g2 s1 vs at' given) (λ v s3 q3 g3 came.
            subst (λ q. Follows m 0 Plain q g3 s3.left s3.printed (Going v s3) (Did w ℕ Plain all at_slot t (p + all.size) f)) (sym came.at) (subst (λ g. Follows m 0 Plain next g s3.left s3.printed (Going v s3) (Did w ℕ Plain all at_slot t (p + all.size) f)) (sym came.frame)
            (here (did_set {c = all} {q = p + all.size} x next v s3 g2 refl (omega arith) (omega arith) le (shows_same w s1 s3 g2 came.variables did.shows) (kept_join kept1 did.kept (omega arith) (omega arith))))))));
      }

  pub does_call : {args : Code (List ℕ)} {run : State → Run (List Plain)} (name : Name) (trees : PlainExprs) (b : Option Builtin) (own : Option (ℕ × PlainFunction)) → builtin_named name ≡ b → function_in 1 w.functions name ≡ own → CallsDo m w.functions → HaveDefaults w.functions → ((t : ℕ) → length (args.gives t) ≡ number_of trees) → ((s t : State) (vs : List Plain) → run s ≡ Going vs t → Literals trees vs) → Does m w (List ℕ) (List Plain) args read_slots run → Does m w ℕ Plain (call_code b own trees args) at_slot (λ s. run s then_do λ vs s. call_within m.request w.functions m.room name vs s)
  unfolding call_code call_own source_value result_of
  does_call {args} {run} name trees (Some b) own eb eo calls defaults count literals d =
      does_same _ _ (λ s. then_same (run s) _ _ (λ vs t. sym (call_builtin m.request w.functions m.room name b vs t eb))) (does_known_computed (Literals trees) (builtin_source b trees) (builtin_value b) literals (λ f xs k. meets_same _ _ (call_value m.request f b trees xs k)) d)
  does_call {args} {run} name trees None None eb eo calls defaults count literals d =
      does_same _ _ (λ s. then_same (run s) _ _ (λ vs t. sym (call_missing m.request w.functions m.room name vs t eb (missing w.functions 1 name eo)))) (does_computed (λ xs. literal_source null) (λ vs. Ok null) (λ f xs. refl) d)
  does_call name trees None (Some found) eb eo calls defaults count literals d = does_called name found.0 (number_of trees) found.1 calls eb eo (found_defaults w.functions 1 found.0 found.1 name defaults eo) count d
