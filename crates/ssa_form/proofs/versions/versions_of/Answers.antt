use Rattle.std.proofs.Common.{◌≡◌, ℕ, List, length, subst, sym, refl, arith}
use Rattle.flow_code.specs.Points.{PlainFlowFunction}
use Rattle.std.proofs.lemmas.List.{length-map}
use Rattle.flow_graph.specs.Steps.{step_seen, steps_seen}
use Rattle.ssa_form.specs.Marks.{AreMarked}
use Rattle.loose_sets.specs.Versions.{PlainVersion}
use Rattle.ssa_form.specs.Behind.{row_before, found_behind}
use Rattle.ssa_form.specs.JoinRows.{rows_in}
use Rattle.ssa_form.specs.Joins.{AreRows}
use Rattle.ssa_form.proofs.HeadLemmas.{is_first}
use Rattle.ssa_form.proofs.ReadLemmas.{contains_kept}
use Rattle.ssa_form.proofs.ExactLemmas.{versions_exact, are_joins}
use Rattle.ssa_form.proofs.versions.versions_of.Goals as goal

pub returns-clause-exact : goal.returns-clause-exact
returns-clause-exact c flow same graph =
    let steps = steps_seen c.args.steps.now in
    let all = c.args.arrivals.now.all.items in
    let heads = c.args.heads.now in
    let marks = c.in_ok-marks.marks in
    let asks = c.rows_of.new.asks.keys in
    let rows = rows_in c.in_ok-rows.rows in
    let at = c.args.arrivals.now.at.items in
    let behind : ℕ → ℕ → PlainVersion = λ h x. found_behind (row_before at all heads) marks.last 4 h x in
    let are = c.in_ok-marks.ensures flow all graph in
    let made = c.in_ok-rows.ensures.rows (λ q h e. is_first steps all heads graph.heads_are q h e) are.asked in
    let all_of_them : length c.args.steps.now ≡ length steps = sym (length-map c.args.steps.now step_seen) in
    let long : length rows ≡ length asks = (let e = c.in_ok-rows.ensures.len in omega arith) in
    versions_exact flow steps all heads graph marks (subst (λ (n : ℕ). AreMarked flow heads marks n) all_of_them are) at c.requires.places 4 asks rows
    (subst (λ (fs : List PlainFlowFunction). AreRows fs heads behind all marks.asks.keys asks rows) same made) long _ refl refl refl (λ h x k. contains_kept marks.asks.keys asks (h, x) c.in_ok-rows.ensures.keeps k)

pub returns-clause-joins : goal.returns-clause-joins
returns-clause-joins c flow same graph =
    let steps = steps_seen c.args.steps.now in
    let all = c.args.arrivals.now.all.items in
    let heads = c.args.heads.now in
    let marks = c.in_ok-marks.marks in
    let asks = c.rows_of.new.asks.keys in
    let rows = rows_in c.in_ok-rows.rows in
    let at = c.args.arrivals.now.at.items in
    let behind : ℕ → ℕ → PlainVersion = λ h x. found_behind (row_before at all heads) marks.last 4 h x in
    let are = c.in_ok-marks.ensures flow all graph in
    let made = c.in_ok-rows.ensures.rows (λ q h e. is_first steps all heads graph.heads_are q h e) are.asked in
    let all_of_them : length c.args.steps.now ≡ length steps = sym (length-map c.args.steps.now step_seen) in
    let long : length rows ≡ length asks = (let e = c.in_ok-rows.ensures.len in omega arith) in
    are_joins flow steps all heads graph marks (subst (λ (n : ℕ). AreMarked flow heads marks n) all_of_them are) at c.requires.places 4 asks rows
    (subst (λ (fs : List PlainFlowFunction). AreRows fs heads behind all marks.asks.keys asks rows) same made) long _ refl refl refl (λ h x k. contains_kept marks.asks.keys asks (h, x) c.in_ok-rows.ensures.keeps k)
