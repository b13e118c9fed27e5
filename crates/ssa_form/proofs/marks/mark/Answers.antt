use Rattle.std.proofs.Common.{ℕ, List, Option, refl, sym, subst, ap}
use Rattle.flow_code.specs.View.{maybe_slot}
use Rattle.text_base.specs.declared.numbers.Slot.{Slot}
use Rattle.flow_graph.specs.Steps.{numbers, step_seen}
use Rattle.ssa_form.specs.Marks.{Reads}
use Rattle.ssa_form.proofs.MarkLemmas.{IsNoted, noted_none, noted_some, marked}
use Rattle.ssa_form.proofs.marks.mark.Goals as goal

pub returns-in_ok-put : goal.returns-in_ok-put
returns-in_ok-put c flow heads is are =
    let mid = c.read_all.new.marks in
    let new = record mid { last = c.put.new.table } in
    marked flow heads c.args.head c.args.point (step_seen c.args.step.now) c.args.marks.now mid new is are (subst (λ (xs : List Slot). Reads c.args.marks.now mid c.args.head c.args.point (numbers xs)) c.deref.ensures.value c.in_ok-read_all.ensures)
    (subst (λ (o : Option ℕ). IsNoted mid new c.args.head c.args.point o) (sym (ap maybe_slot c.in-Some.is)) (noted_some mid new c.args.head c.args.point c.in-Some.slot.0 c.in_ok-put.ensures))
    refl refl

pub returns-in_default : goal.returns-in_default
returns-in_default c flow heads is are =
    let mid = c.read_all.new.marks in
    marked flow heads c.args.head c.args.point (step_seen c.args.step.now) c.args.marks.now mid mid is are (subst (λ (xs : List Slot). Reads c.args.marks.now mid c.args.head c.args.point (numbers xs)) c.deref.ensures.value c.in_ok-read_all.ensures)
    (subst (λ (o : Option ℕ). IsNoted mid mid c.args.head c.args.point o) (sym (ap maybe_slot c.in_default.is)) (noted_none mid c.args.head c.args.point))
    refl refl
