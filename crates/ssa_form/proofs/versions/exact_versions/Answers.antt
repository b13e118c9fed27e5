use Rattle.std.proofs.Common.{◌≡◌, ◌++◌, ℕ, List, map, length, refl, sym, subst, ap, arith}
use Rattle.std.proofs.lemmas.Result.{IfOk-weaker}
use Rattle.flow_code.specs.View.{plain_flow, plain_flow_function}
use Rattle.flow_code.specs.declared.program.FlowFunction.{FlowFunction}
use Rattle.flow_graph.specs.declared.step.Step.{Step}
use Rattle.flow_graph.specs.Steps.{steps_seen}
use Rattle.flow_graph.specs.Arrivals.{from_steps, from_functions}
use Rattle.flow_graph.specs.Heads.{AreHeads, RowsGoOn}
use Rattle.ssa_form.specs.Marks.{IsGraph}
use Rattle.ssa_form.proofs.GraphLemmas.{is_graph}
use Rattle.ssa_form.proofs.versions.exact_versions.Goals as goal

pub returns-clause-exact : goal.returns-clause-exact
returns-clause-exact c =
    let flow = plain_flow c.args.flow.now in
    let fs = c.args.flow.now.functions.items in
    let xs = c.in_ok-steps.steps.items in
    let all = c.in_ok-arrivals.arrivals.all.items in
    let heads = c.in_ok-heads.heads.items in
    let arrivals : all ≡ from_steps (length xs) 0 (steps_seen xs) ++ from_functions (length xs) 0 (map plain_flow_function fs) =
    subst (λ (ys : List Step). all ≡ from_steps (length ys) 0 (steps_seen ys) ++ from_functions (length ys) 0 (map plain_flow_function fs)) c.deref-2.ensures.value
    (subst (λ (gs : List FlowFunction). all ≡ from_steps (length c.deref-2.result.now) 0 (steps_seen c.deref-2.result.now) ++ from_functions (length c.deref-2.result.now) 0 (map plain_flow_function gs)) c.deref.ensures.value
    c.in_ok-arrivals.ensures.all) in
    let are : AreHeads (steps_seen xs) all heads = subst (λ (ys : List Step). AreHeads (steps_seen ys) all heads) c.deref-3.ensures.value c.in_ok-heads.ensures.heads in
    let go_on : RowsGoOn (steps_seen xs) all heads = subst (λ (ys : List Step). RowsGoOn (steps_seen ys) all heads) c.deref-3.ensures.value
    (c.in_ok-heads.ensures.on (let e = c.in_ok-arrivals.ensures.len in let f = ap (λ (ys : List Step). length ys) c.deref-2.ensures.value in let g = ap (λ (ys : List Step). length ys) c.deref-3.ensures.value in omega arith)) in
    let count : length c.deref-3.result.now ≡ length xs = ap (λ (ys : List Step). length ys) c.deref-3.ensures.value in
    let long : length heads ≡ length xs = (let e = c.in_ok-heads.ensures.len in omega arith) in
    let graph = is_graph flow fs xs all heads refl c.in_ok-steps.ensures arrivals are go_on long in
    let seen : IsGraph flow (steps_seen c.deref-5.result.now) all c.deref-6.result.now =
    subst (λ (hs : List ℕ). IsGraph flow (steps_seen c.deref-5.result.now) all hs) (sym c.deref-6.ensures.value)
    (subst (λ (ys : List Step). IsGraph flow (steps_seen ys) all heads) (sym c.deref-5.ensures.value) graph) in
    IfOk-weaker c.versions_of.result _ _ (λ versions are_so. are_so flow (ap (λ (gs : List FlowFunction). map plain_flow_function gs) c.deref-4.ensures.value) seen) c.versions_of.ensures.exact

pub returns-clause-joins : goal.returns-clause-joins
returns-clause-joins c =
    let flow = plain_flow c.args.flow.now in
    let fs = c.args.flow.now.functions.items in
    let xs = c.in_ok-steps.steps.items in
    let all = c.in_ok-arrivals.arrivals.all.items in
    let heads = c.in_ok-heads.heads.items in
    let arrivals : all ≡ from_steps (length xs) 0 (steps_seen xs) ++ from_functions (length xs) 0 (map plain_flow_function fs) =
    subst (λ (ys : List Step). all ≡ from_steps (length ys) 0 (steps_seen ys) ++ from_functions (length ys) 0 (map plain_flow_function fs)) c.deref-2.ensures.value
    (subst (λ (gs : List FlowFunction). all ≡ from_steps (length c.deref-2.result.now) 0 (steps_seen c.deref-2.result.now) ++ from_functions (length c.deref-2.result.now) 0 (map plain_flow_function gs)) c.deref.ensures.value
    c.in_ok-arrivals.ensures.all) in
    let are : AreHeads (steps_seen xs) all heads = subst (λ (ys : List Step). AreHeads (steps_seen ys) all heads) c.deref-3.ensures.value c.in_ok-heads.ensures.heads in
    let go_on : RowsGoOn (steps_seen xs) all heads = subst (λ (ys : List Step). RowsGoOn (steps_seen ys) all heads) c.deref-3.ensures.value
    (c.in_ok-heads.ensures.on (let e = c.in_ok-arrivals.ensures.len in let f = ap (λ (ys : List Step). length ys) c.deref-2.ensures.value in let g = ap (λ (ys : List Step). length ys) c.deref-3.ensures.value in omega arith)) in
    let count : length c.deref-3.result.now ≡ length xs = ap (λ (ys : List Step). length ys) c.deref-3.ensures.value in
    let long : length heads ≡ length xs = (let e = c.in_ok-heads.ensures.len in omega arith) in
    let graph = is_graph flow fs xs all heads refl c.in_ok-steps.ensures arrivals are go_on long in
    let seen : IsGraph flow (steps_seen c.deref-5.result.now) all c.deref-6.result.now =
    subst (λ (hs : List ℕ). IsGraph flow (steps_seen c.deref-5.result.now) all hs) (sym c.deref-6.ensures.value)
    (subst (λ (ys : List Step). IsGraph flow (steps_seen ys) all heads) (sym c.deref-5.ensures.value) graph) in
    IfOk-weaker c.versions_of.result _ _ (λ versions are_so. are_so flow (ap (λ (gs : List FlowFunction). map plain_flow_function gs) c.deref-4.ensures.value) seen) c.versions_of.ensures.joins
