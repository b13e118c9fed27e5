use Rattle.std.proofs.Common.{◌≡◌, ◌∙◌, ℕ, List, length, map, None, Some, slice_get, Contains, refl, sym, ap, subst, arith}
use Rattle.std.specs.Prelude.{◌↔◌}
use Rattle.std.proofs.lemmas.Option.{slice_get_read, slice_get_within}
use Rattle.op_system.specs.declared.system.OpRule.{OpRule}
use Rattle.op_bytes.specs.declared.uses.Use.{Use}
use Rattle.op_bytes.proofs.ListLemmas.{contained}
use Rattle.op_bytes.proofs.UseLemmas.{uses_from_below}
use Rattle.op_bytes.proofs.WorkLemmas.{work_begins, work_more, work_done}
use Rattle.op_bytes.proofs.sets.byte_sets.Goals as goal

pub by_use-requires : goal.by_use-requires
by_use-requires c = uses_from_below c.args.s.now.grammar.count c.args.s.now.grammar.productions.items c.as_slice.result.now c.args.s.now.grammar.below (c.as_slice.ensures.value ∙ c.in_ok-uses.ensures)

pub loop-x-init : goal.loop-x-init
loop-x-init c = work_begins c.args.s.now c.in_ok-sets.sets.items c.in_ok-order.order.items c.in_ok-sets.ensures c.in_ok-order.ensures

pub index-requires : goal.index-requires
index-requires c =
    let at : slice_get c.loop-x.order.items c.loop-x.taken ≡ Some c.in-Some.x = ap (λ (xs : List ℕ). slice_get xs c.loop-x.taken) (sym c.as_slice-in-loop-x.ensures.value) ∙ sym c.in-Some.ensures in
    let below = c.loop-x.invariant.within c.in-Some.x (contained c.loop-x.order.items c.loop-x.taken c.in-Some.x at) in
    omega (arith, below, c.in_ok-at_uses.ensures.len)

pub index-requires-in-Some : goal.index-requires-in-Some
index-requires-in-Some c =
    let at : slice_get c.loop-x.order.items c.loop-x.taken ≡ Some c.in-Some.x = ap (λ (xs : List ℕ). slice_get xs c.loop-x.taken) (sym c.as_slice-in-loop-x.ensures.value) ∙ sym c.in-Some.ensures in
    let below = c.loop-x.invariant.within c.in-Some.x (contained c.loop-x.order.items c.loop-x.taken c.in-Some.x at) in
    omega (arith, below, c.in_ok-at_rules.ensures.len)

pub take_up-requires-clause-at_uses : goal.take_up-requires-clause-at_uses
take_up-requires-clause-at_uses c =
    let at : slice_get c.loop-x.order.items c.loop-x.taken ≡ Some c.in-Some.x = ap (λ (xs : List ℕ). slice_get xs c.loop-x.taken) (sym c.as_slice-in-loop-x.ensures.value) ∙ sym c.in-Some.ensures in
    let below = c.loop-x.invariant.within c.in-Some.x (contained c.loop-x.order.items c.loop-x.taken c.in-Some.x at) in
    let found = slice_get_read c.in_ok-at_uses.at_uses.items (length c.in_ok-at_uses.at_uses.items) c.in-Some.x c.index.result.now refl (omega (arith, below, c.in_ok-at_uses.ensures.len, c.in_ok-at_uses.at_uses.ok.0)) c.index.ensures in
    subst (λ (us : List Use). (i : ℕ) → Contains c.as_slice-uses_of_it.result.now i ↔ (slice_get (map (λ (u : Use). u.from) us) i ≡ Some c.in-Some.x)) (c.as_slice.ensures.value ∙ sym c.as_slice-in-Some.ensures.value)
    (subst (λ (xs : List ℕ). (i : ℕ) → Contains xs i ↔ (slice_get (map (λ (u : Use). u.from) c.as_slice.result.now) i ≡ Some c.in-Some.x)) (sym c.as_slice-uses_of_it.ensures.value)
    (c.in_ok-at_uses.ensures.exact c.in-Some.x c.index.result.now found))

pub take_up-requires-clause-at_rules : goal.take_up-requires-clause-at_rules
take_up-requires-clause-at_rules c =
    let at : slice_get c.loop-x.order.items c.loop-x.taken ≡ Some c.in-Some.x = ap (λ (xs : List ℕ). slice_get xs c.loop-x.taken) (sym c.as_slice-in-loop-x.ensures.value) ∙ sym c.in-Some.ensures in
    let below = c.loop-x.invariant.within c.in-Some.x (contained c.loop-x.order.items c.loop-x.taken c.in-Some.x at) in
    let found = slice_get_read c.in_ok-at_rules.at_rules.items (length c.in_ok-at_rules.at_rules.items) c.in-Some.x c.index-in-Some.result.now refl (omega (arith, below, c.in_ok-at_rules.ensures.len, c.in_ok-at_rules.at_rules.ok.0)) c.index-in-Some.ensures in
    subst (λ (rs : List OpRule). (i : ℕ) → Contains c.as_slice-rules_of_it.result.now i ↔ (slice_get (map (λ (r : OpRule). r.operand.0) rs) i ≡ Some c.in-Some.x)) c.as_slice-2.ensures.value
    (subst (λ (xs : List ℕ). (i : ℕ) → Contains xs i ↔ (slice_get (map (λ (r : OpRule). r.operand.0) c.as_slice-2.result.now) i ≡ Some c.in-Some.x)) (sym c.as_slice-rules_of_it.ensures.value)
    (c.in_ok-at_rules.ensures.exact c.in-Some.x c.index-in-Some.result.now found))

pub take_up-requires-clause-below : goal.take_up-requires-clause-below
take_up-requires-clause-below c =
    let at : slice_get c.loop-x.order.items c.loop-x.taken ≡ Some c.in-Some.x = ap (λ (xs : List ℕ). slice_get xs c.loop-x.taken) (sym c.as_slice-in-loop-x.ensures.value) ∙ sym c.in-Some.ensures in
    c.loop-x.invariant.within c.in-Some.x (contained c.loop-x.order.items c.loop-x.taken c.in-Some.x at)

pub overflow_add-taken : goal.overflow_add-taken
overflow_add-taken c =
    let w = slice_get_within c.as_slice-in-loop-x.result.now c.loop-x.taken c.in-Some.x (sym c.in-Some.ensures) in
    omega (arith, w, c.as_slice-in-loop-x.ensures.len, c.loop-x.order.ok.0, c.loop-x.order.ok.1, c.loop-x.order.small)

pub loop-x-preserved : goal.loop-x-preserved
loop-x-preserved c =
    let at : slice_get c.loop-x.order.items c.loop-x.taken ≡ Some c.in-Some.x = ap (λ (xs : List ℕ). slice_get xs c.loop-x.taken) (sym c.as_slice-in-loop-x.ensures.value) ∙ sym c.in-Some.ensures in
    work_more c.args.s.now c.loop-x.sets.items c.take_up.new.sets.items c.loop-x.order.items c.take_up.new.order.items c.loop-x.taken c.in-Some.x c.loop-x.invariant at c.in_ok-take_up.ensures

pub returns : goal.returns
returns c =
    let none : slice_get c.loop-x.order.items c.loop-x.taken ≡ None = ap (λ (xs : List ℕ). slice_get xs c.loop-x.taken) (sym c.as_slice-in-loop-x.ensures.value) ∙ sym c.in_default.ensures in
    work_done c.args.s.now c.loop-x.sets.items c.loop-x.order.items c.loop-x.taken c.fits.ensures c.loop-x.invariant none
