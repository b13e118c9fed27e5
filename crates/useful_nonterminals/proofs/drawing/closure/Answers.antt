use Rattle.std.proofs.Common.{◌≡◌, ◌∙◌, ℕ, List, None, Some, map, slice_get, sym, ap, arith}
use Rattle.std.proofs.lemmas.Option.{slice_get_within}
use Rattle.numbered_sets.proofs.ChainLemmas.{chains_fall}
use Rattle.useful_nonterminals.specs.declared.rule.Rule.{Rule}
use Rattle.useful_nonterminals.proofs.DrawLemmas.{work_begins, work_below, work_more, work_done, past}
use Rattle.useful_nonterminals.proofs.drawing.closure.Goals as goal

pub loop-n-init : goal.loop-n-init
loop-n-init c =
    let e = c.in_ok-mark_all.ensures in
    let f = c.in_ok-marks.ensures in
    work_begins c.args.facts.now c.args.rules.now c.args.count c.mark_all.new.marks.items c.mark_all.new.order.items (omega (arith, e.long, f.len, c.in_ok-marks.marks.ok.0)) e.noted e.exact

pub conclude-requires-clause-number : goal.conclude-requires-clause-number
conclude-requires-clause-number c =
    let at : slice_get c.loop-n.order.items c.loop-n.taken ≡ Some c.in-Some.n = ap (λ (xs : List ℕ). slice_get xs c.loop-n.taken) (sym c.as_slice.ensures.value) ∙ sym c.in-Some.ensures in
    let below = work_below c.args.facts.now c.args.rules.now c.args.count _ _ _ _ c.loop-n.invariant at in
    omega (arith, below, c.in_ok-firsts.ensures.len)

pub conclude-requires-clause-falls : goal.conclude-requires-clause-falls
conclude-requires-clause-falls c = chains_fall _ _ _ c.in_ok-firsts.ensures.chains

pub conclude-requires-in-Some-clause-number : goal.conclude-requires-in-Some-clause-number
conclude-requires-in-Some-clause-number c =
    let at : slice_get c.loop-n.order.items c.loop-n.taken ≡ Some c.in-Some.n = ap (λ (xs : List ℕ). slice_get xs c.loop-n.taken) (sym c.as_slice.ensures.value) ∙ sym c.in-Some.ensures in
    let below = work_below c.args.facts.now c.args.rules.now c.args.count _ _ _ _ c.loop-n.invariant at in
    omega (arith, below, c.in_ok-seconds.ensures.len)

pub conclude-requires-in-Some-clause-falls : goal.conclude-requires-in-Some-clause-falls
conclude-requires-in-Some-clause-falls c = chains_fall _ _ _ c.in_ok-seconds.ensures.chains

pub overflow_add-taken : goal.overflow_add-taken
overflow_add-taken c =
    let w = slice_get_within c.as_slice.result.now c.loop-n.taken c.in-Some.n (sym c.in-Some.ensures) in
    omega (arith, w, c.as_slice.ensures.len, c.loop-n.order.ok.0, c.loop-n.order.ok.1, c.loop-n.order.small)

pub loop-n-preserved : goal.loop-n-preserved
loop-n-preserved c =
    let at : slice_get c.loop-n.order.items c.loop-n.taken ≡ Some c.in-Some.n = ap (λ (xs : List ℕ). slice_get xs c.loop-n.taken) (sym c.as_slice.ensures.value) ∙ sym c.in-Some.ensures in
    work_more c.args.facts.now c.args.rules.now c.args.count _ _ _ _ _ _ c.loop-n.taken c.in-Some.n c.loop-n.invariant at
    (c.in_ok-conclude.ensures.drawn (map (λ (r : Rule). r.first) c.args.rules.now) c.in_ok-firsts.ensures.chains)
    (c.in_ok-conclude-2.ensures.drawn (map (λ (r : Rule). r.second) c.args.rules.now) c.in_ok-seconds.ensures.chains)

pub returns-clause-exact : goal.returns-clause-exact
returns-clause-exact c =
    let none : slice_get c.loop-n.order.items c.loop-n.taken ≡ None = ap (λ (xs : List ℕ). slice_get xs c.loop-n.taken) (sym c.as_slice.ensures.value) ∙ sym c.in_default.ensures in
    work_done c.args.facts.now c.args.rules.now c.args.count _ _ _ (past c.loop-n.order.items c.loop-n.taken none) c.loop-n.invariant
