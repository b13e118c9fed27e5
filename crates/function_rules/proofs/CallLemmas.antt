-- Calls that pass no test, and the first that passes one.
use Rattle.std.proofs.Common.{◌≡◌, ◌∙◌, ◌<◌, ◌+◌, ℕ, zero, suc, Bool, true, false, cond, List, [], ◌∷◌, length, drop, get_or, ◌++◌, Some, None, Result, Err, IfErr, refl, sym, ap, subst, arith}
use Rattle.std.specs.Prelude.{not}
use Rattle.std.specs.List.{Contains, find}
use Rattle.std.proofs.lemmas.List.{drop_more}
use Rattle.php_syntax.specs.Trees.{no_stmts, PlainFunction}
use Rattle.program_expressions.specs.Collected.{collected_of}
use Rattle.program_rules.specs.Calls.{PlainCall, statement_calls, function_calls}
use Rattle.include_expansion.specs.FileCalls.{calls_in_files}
use Rattle.program_rules.specs.Programs.{ReadFile}
use Rattle.program_rules.specs.Rules.{is_known, serves_call}
use Rattle.tree_walks.specs.declared.call.Call.{Call}
use Rattle.tree_walks.specs.Seen.{plain_call, calls_seen}
use Rattle.program_files.specs.declared.refusal.LoadRefusal.{LoadRefusal}
use Rattle.program_files.specs.declared.refusal.LoadRefusal.TheVariants.{Missing, Outside, ReadFault, TooLong, Script, IncludeCycle, DoubleFunction, UnknownFunction, Arity, TooMany, Memory}
use Rattle.function_rules.proofs.NameLemmas.{twice_later}
use Rattle.program_sizes.specs.FileRules.{all_functions, all_calls, AreOnce, AreKnown, AreServed}
use Rattle.function_rules.specs.Causes.{NoneIs, IsFirst, is_unknown, is_misused, IsDoubleCause, IsUnknownCause, IsArityCause, IsFunctionCause}

seen_step : (calls : List Call) (i : ℕ) (call : Call) → i < length calls → call ≡ get_or calls i call → calls_seen (drop i calls) ≡ plain_call call ∷ calls_seen (drop (i + 1) calls)
seen_step calls i call lt is = ap calls_seen (drop_more calls i call lt) ∙ ap (λ (c : Call). plain_call c ∷ calls_seen (drop (i + 1) calls)) (sym is)

-- one that passes is the first
pub stops : (test : PlainCall → Bool) (calls : List Call) (i : ℕ) (call : Call) (all : List PlainCall) → i < length calls → call ≡ get_or calls i call → test (plain_call call) ≡ true
    → find test (calls_seen (drop i calls)) ≡ find test all → find test all ≡ Some (plain_call call)
stops test calls i call all lt is passes inv =
    let rest = calls_seen (drop (i + 1) calls) in
    sym inv ∙ ap (find test) (seen_step calls i call lt is) ∙ ap (λ (b : Bool). cond b (Some (plain_call call)) (find test rest)) passes

pub first_named : (test : PlainCall → Bool) (all : List PlainCall) (call : Call) (name : List ℕ) → find test all ≡ Some (plain_call call) → name ≡ call.name → IsFirst test all name
first_named test all call name first same = (plain_call call, first, sym same)

pub not_known : (b : Bool) → false ≡ b → not b ≡ true
not_known false e = refl
not_known true e = absurd (cc)

back : (b : Bool) → not b ≡ false → b ≡ true
back true e = refl
back false e = absurd (cc)

-- where none passes, none of them does
none_passes : (test : PlainCall → Bool) (calls : List PlainCall) → find test calls ≡ None → (call : PlainCall) → Contains calls call → test call ≡ false
none_passes test [] none call c = absurd (let h = c.1 in omega arith)
none_passes test (d ∷ ds) none call c = by (test d) refl none c (λ n k. none_passes test ds n call k)
  where
    by : (b : Bool) → test d ≡ b → cond b (Some d) (find test ds) ≡ None → Contains (d ∷ ds) call → (find test ds ≡ None → Contains ds call → test call ≡ false) → test call ≡ false
    by true e n k rest = absurd (cc)
    by false e n (zero, lt, is) rest = ap test (sym is) ∙ e
    by false e n (suc i, lt, is) rest = rest n (i, omega arith, is)

pub all_known : (files : List ReadFile) (stubs : List PlainFunction) (calls : List PlainCall) → calls ≡ all_calls files stubs → NoneIs (is_unknown (all_functions files stubs)) calls → AreKnown files stubs
all_known files stubs calls same none call c =
    back (is_known (all_functions files stubs) call) (none_passes (is_unknown (all_functions files stubs)) calls none call (subst (λ (cs : List PlainCall). Contains cs call) (sym same) c))

pub all_served : (files : List ReadFile) (stubs : List PlainFunction) (calls : List PlainCall) → calls ≡ all_calls files stubs → NoneIs (is_misused (all_functions files stubs)) calls → AreServed files stubs
all_served files stubs calls same none call c =
    back (serves_call (all_functions files stubs) call) (none_passes (is_misused (all_functions files stubs)) calls none call (subst (λ (cs : List PlainCall). Contains cs call) (sym same) c))

-- the causes
pub unknown_so : (files : List ReadFile) (stubs : List PlainFunction) (calls : List PlainCall) → calls ≡ all_calls files stubs → AreOnce files stubs → (refusal : LoadRefusal) → IsUnknownCause (all_functions files stubs) calls refusal → IsFunctionCause files stubs refusal
unknown_so files stubs calls same once (Missing name) cause = cause
unknown_so files stubs calls same once (Outside name) cause = cause
unknown_so files stubs calls same once (ReadFault name) cause = cause
unknown_so files stubs calls same once (TooLong name len) cause = cause
unknown_so files stubs calls same once (Script name fault) cause = cause
unknown_so files stubs calls same once (IncludeCycle name) cause = cause
unknown_so files stubs calls same once (DoubleFunction name) cause = absurd cause
unknown_so files stubs calls same once (UnknownFunction name) cause = (once, subst (λ (cs : List PlainCall). IsFirst (is_unknown (all_functions files stubs)) cs name) same cause)
unknown_so files stubs calls same once (Arity name) cause = absurd cause
unknown_so files stubs calls same once (TooMany count) cause = cause
unknown_so files stubs calls same once Memory cause = cause

pub arity_so : (files : List ReadFile) (stubs : List PlainFunction) (calls : List PlainCall) → calls ≡ all_calls files stubs → AreOnce files stubs → AreKnown files stubs → (refusal : LoadRefusal) → IsArityCause (all_functions files stubs) calls refusal → IsFunctionCause files stubs refusal
arity_so files stubs calls same once known (Missing name) cause = cause
arity_so files stubs calls same once known (Outside name) cause = cause
arity_so files stubs calls same once known (ReadFault name) cause = cause
arity_so files stubs calls same once known (TooLong name len) cause = cause
arity_so files stubs calls same once known (Script name fault) cause = cause
arity_so files stubs calls same once known (IncludeCycle name) cause = cause
arity_so files stubs calls same once known (DoubleFunction name) cause = absurd cause
arity_so files stubs calls same once known (UnknownFunction name) cause = absurd cause
arity_so files stubs calls same once known (Arity name) cause = (once, known, subst (λ (cs : List PlainCall). IsFirst (is_misused (all_functions files stubs)) cs name) same cause)
arity_so files stubs calls same once known (TooMany count) cause = cause
arity_so files stubs calls same once known Memory cause = cause

pub double_so : (files : List ReadFile) (stubs : List PlainFunction) (refusal : LoadRefusal) → IsDoubleCause (all_functions files stubs) refusal → IsFunctionCause files stubs refusal
double_so files stubs (Missing name) cause = cause
double_so files stubs (Outside name) cause = cause
double_so files stubs (ReadFault name) cause = cause
double_so files stubs (TooLong name len) cause = cause
double_so files stubs (Script name fault) cause = cause
double_so files stubs (IncludeCycle name) cause = cause
double_so files stubs (DoubleFunction name) cause = cause
double_so files stubs (UnknownFunction name) cause = absurd cause
double_so files stubs (Arity name) cause = absurd cause
double_so files stubs (TooMany count) cause = cause
double_so files stubs Memory cause = cause

-- what is refused of some functions is, with more behind them
pub double_later : (own more : List PlainFunction) (refusal : LoadRefusal) → IsDoubleCause own refusal → IsDoubleCause (own ++ more) refusal
double_later own more (Missing name) cause = cause
double_later own more (Outside name) cause = cause
double_later own more (ReadFault name) cause = cause
double_later own more (TooLong name len) cause = cause
double_later own more (Script name fault) cause = cause
double_later own more (IncludeCycle name) cause = cause
double_later own more (DoubleFunction name) cause = twice_later own more name cause
double_later own more (UnknownFunction name) cause = cause
double_later own more (Arity name) cause = cause
double_later own more (TooMany count) cause = cause
double_later own more Memory cause = cause

-- a refusal that is handed on has its cause
pub handed_on : {A : Type 0} (files : List ReadFile) (stubs : List PlainFunction) (r : Result A LoadRefusal) (refusal : LoadRefusal) → r ≡ Err refusal → IsFunctionCause files stubs refusal → IfErr r (IsFunctionCause files stubs)
handed_on {A} files stubs r refusal is cause = subst (λ (x : Result A LoadRefusal). IfErr x (IsFunctionCause files stubs)) (sym is) cause

-- the calls of the files, and of no statements and stubs behind them
pub calls_with_stubs : (files : List ReadFile) (stubs : List PlainFunction) (old new : List PlainCall) → old ≡ calls_in_files files → new ≡ old ++ (statement_calls no_stmts ++ function_calls stubs) → new ≡ all_calls files stubs
unfolding collected_of
calls_with_stubs files stubs old new own more = more ∙ ap (λ (cs : List PlainCall). cs ++ function_calls stubs) own
