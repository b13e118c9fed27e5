-- The parameters of a function: that each name differs from the earlier ones comes to the same as from the later ones.
use Rattle.std.proofs.Common.{◌≡◌, ◌∙◌, ℕ, Bool, true, false, List, [], ◌∷◌, refl, ap, sym, Some, None}
use Rattle.std.specs.Prelude.{not, ◌&&◌, if◌then◌else◌}
use Rattle.std.proofs.lemmas.Cmp.{nat_list_eq_equiv}
use Rattle.script_grammar.specs.Terminals.{same_bytes}
use Rattle.php_syntax.specs.Trees.{PlainParam}
use Rattle.script_grammar.specs.Statements.{ParamForm, param_tree, params_trees}
use Rattle.script_grammar.specs.Rules.{is_writable, is_new_name, params_fit}
use Rattle.expr_machine.specs.Values.{PlainValue}
use Rattle.stmt_machine.specs.Actions.{StmtAction}
use Rattle.stmt_machine.specs.Postfix.{param_actions, params_actions}
use Rattle.stmt_machine.specs.Made.{PlainBody, Functions, Made, on_some, add_param, apply_stmt, execute_stmts}
use Rattle.expr_laws.proofs.Carry.{Goes, both, always, ends, tested}
use Rattle.stmt_laws.proofs.States.{made}

-- whether each of some parameters has a name that is none of the earlier ones'
abbrev pub all_new : List PlainParam → List PlainParam → Bool
all_new before [] = true
all_new before (p ∷ ps) = is_new_name p.name_of before && all_new before ps

abbrev pub append_params : List PlainParam → List PlainParam → List PlainParam
append_params [] ps = ps
append_params (q ∷ qs) ps = q ∷ append_params qs ps

pub same_either_way : (x y : List ℕ) → same_bytes x y ≡ same_bytes y x
same_either_way x y = nat_list_eq_equiv.symm x y

one_and : (b : Bool) → b && true ≡ b
one_and true = refl
one_and false = refl

regroup : (a b c : Bool) → a && (b && c) ≡ (a && b) && c
regroup true b c = refl
regroup false b c = refl

new_added : (x : List ℕ) (before : List PlainParam) (p : PlainParam) → is_new_name x (add_param before p) ≡ is_new_name x before && not (same_bytes x p.name_of)
new_added x [] p = one_and (not (same_bytes x p.name_of))
new_added x (q ∷ qs) p = ap (λ b. not (same_bytes x q.name_of) && b) (new_added x qs p) ∙ regroup (not (same_bytes x q.name_of)) (is_new_name x qs) (not (same_bytes x p.name_of))

interleaved : (a b c d : Bool) → (a && b) && (c && d) ≡ (a && c) && (b && d)
interleaved false b c d = refl
interleaved true false true d = refl
interleaved true false false d = refl
interleaved true true c d = refl

all_new_added : (before : List PlainParam) (p : PlainParam) (ps : List PlainParam) → all_new (add_param before p) ps ≡ all_new before ps && is_new_name p.name_of ps
all_new_added before p [] = refl
all_new_added before p (q ∷ ps) =
    ap (λ b. b && all_new (add_param before p) ps) (new_added q.name_of before p)
    ∙ ap (λ b. (is_new_name q.name_of before && not b) && all_new (add_param before p) ps) (same_either_way q.name_of p.name_of)
    ∙ ap (λ b. (is_new_name q.name_of before && not (same_bytes p.name_of q.name_of)) && b) (all_new_added before p ps)
    ∙ interleaved (is_new_name q.name_of before) (not (same_bytes p.name_of q.name_of)) (all_new before ps) (is_new_name p.name_of ps)

pub nothing_before : (ps : List PlainParam) → all_new [] ps ≡ true
nothing_before [] = refl
nothing_before (p ∷ ps) = nothing_before ps

append_none : (ps : List PlainParam) → append_params ps [] ≡ ps
append_none [] = refl
append_none (p ∷ ps) = ap (λ qs. p ∷ qs) (append_none ps)

append_added : (before : List PlainParam) (p : PlainParam) (ps : List PlainParam) → append_params (add_param before p) ps ≡ append_params before (p ∷ ps)
append_added [] p ps = refl
append_added (q ∷ qs) p ps = ap (λ qs. q ∷ qs) (append_added qs p ps)

parameter_by : (b : Bool) (m : Made) (k : List StmtAction) → on_some (if b then Some m else None) (execute_stmts k) ≡ (if b then execute_stmts k m else None)
parameter_by true m k = refl
parameter_by false m k = refl

param_done : (p : PlainParam) (f : List ℕ) (before : List PlainParam) (k : List StmtAction) (vs : List PlainValue) (bs : List PlainBody) (fs : Functions)
    → Goes (execute_stmts (param_actions p k) (made vs bs (Some (f, before)) fs)) (is_writable p.name_of && is_new_name p.name_of before) (execute_stmts k (made vs bs (Some (f, add_param before p)) fs))
unfolding execute_stmts apply_stmt
param_done p f before k vs bs fs = record { is = parameter_by (is_writable p.name_of && is_new_name p.name_of before) (made vs bs (Some (f, add_param before p)) fs) k }

in_sum : (w n a o f : Bool) → (w && n) && ((a && o) && f) ≡ (n && a) && (w && (o && f))
in_sum true true true o f = refl
in_sum true true false o f = refl
in_sum true false a o f = refl
in_sum false true true o f = refl
in_sum false true false o f = refl
in_sum false false a o f = refl

pub params_done : (ps : List ParamForm) (f : List ℕ) (before : List PlainParam) (k : List StmtAction) (vs : List PlainValue) (bs : List PlainBody) (fs : Functions)
    → Goes (execute_stmts (params_actions ps k) (made vs bs (Some (f, before)) fs)) (all_new before (params_trees ps) && params_fit (params_trees ps))
    (execute_stmts k (made vs bs (Some (f, append_params before (params_trees ps))) fs))
params_done [] f before k vs bs fs = always (ap (λ qs. execute_stmts k (made vs bs (Some (f, qs)) fs)) (sym (append_none before)))
params_done (p ∷ ps) f before k vs bs fs =
    tested (ap (λ b. (is_writable (param_tree p).name_of && is_new_name (param_tree p).name_of before) && (b && params_fit (params_trees ps))) (all_new_added before (param_tree p) (params_trees ps))
    ∙ in_sum (is_writable (param_tree p).name_of) (is_new_name (param_tree p).name_of before) (all_new before (params_trees ps)) (is_new_name (param_tree p).name_of (params_trees ps)) (params_fit (params_trees ps)))
    (both (param_done (param_tree p) f before (params_actions ps k) vs bs fs)
    (ends (params_done ps f (add_param before (param_tree p)) k vs bs fs)
    (ap (λ qs. execute_stmts k (made vs bs (Some (f, qs)) fs)) (append_added before (param_tree p) (params_trees ps)))))
