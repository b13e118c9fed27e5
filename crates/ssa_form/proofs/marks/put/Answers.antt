use Rattle.ssa_form.proofs.marks.put.Goals as goal

pub returns : goal.returns
returns g c a b = c.in_ok-insert.ensures.updates.0 (a, b)
