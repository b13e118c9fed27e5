use Rattle.std.proofs.Common.{List, ℕ, sym, subst}
use Rattle.smallvec.specs.SmallVec.{SmallVec}
use Rattle.program_files.specs.View.{files_of}
use Rattle.include_expansion.specs.FileEdges.{AreEdges}
use Rattle.include_expansion.proofs.FileOrderLemmas.{edges_within, order_is, circle_within, cause_is}
use Rattle.include_expansion.proofs.order.order_files.Goals as goal

pub order_of-requires : goal.order_of-requires
order_of-requires c = edges_within (files_of c.args.files.now) c.as_slice.result.now (subst (λ (es : List (SmallVec ℕ)). AreEdges (files_of c.args.files.now) es) (sym c.as_slice.ensures.value) c.in_ok-edges.ensures)

pub returns-in-Ok-clause-order : goal.returns-in-Ok-clause-order
returns-in-Ok-clause-order c =
    order_is (files_of c.args.files.now) c.as_slice.result.now c.in-Ok.places.items c.requires (subst (λ (es : List (SmallVec ℕ)). AreEdges (files_of c.args.files.now) es) (sym c.as_slice.ensures.value) c.in_ok-edges.ensures) c.in-Ok.ensures.order

pub cycle_at-requires : goal.cycle_at-requires
cycle_at-requires c =
    circle_within (files_of c.args.files.now) c.as_slice.result.now c.in-Err-Cycle.place (subst (λ (es : List (SmallVec ℕ)). AreEdges (files_of c.args.files.now) es) (sym c.as_slice.ensures.value) c.in_ok-edges.ensures)
    (rw c.in-Err-Cycle.field-0-is at c.in-Err-Cycle.ensures.cycle)

pub returns-in-Err-Cycle-clause-err : goal.returns-in-Err-Cycle-clause-err
returns-in-Err-Cycle-clause-err c =
    cause_is (files_of c.args.files.now) c.as_slice.result.now c.in-Err-Cycle.place c.cycle_at.result c.requires (subst (λ (es : List (SmallVec ℕ)). AreEdges (files_of c.args.files.now) es) (sym c.as_slice.ensures.value) c.in_ok-edges.ensures)
    (rw c.in-Err-Cycle.field-0-is at c.in-Err-Cycle.ensures.cycle) c.cycle_at.ensures
