use Rattle.std.proofs.Common.{◌≡◌, ◌∙◌, ℕ, List, Option, Some, None, ap, sym, subst, false, length, slice_get, drop, take}
use Rattle.std.specs.Prelude.{ltb}
use Rattle.flow_graph.proofs.HeadLemmas.{looked, looked_past}
use Rattle.ssa_form.specs.declared.version.Version.{Version}
use Rattle.ssa_form.specs.JoinRows.{row_in, ends_before}
use Rattle.ssa_form.proofs.JoinRowLemmas.{row_at, row_past}
use Rattle.ssa_form.proofs.join_rows.JoinRows.row.Goals as goal

pub returns-in-Some : goal.returns-in-Some
returns-in-Some c =
    let this = c.args.self.now in
    let at = c.in-Some.ensures.lookup in
    let end : slice_get this.ends.items c.args.number ≡ Some c.in-Some.end.now = looked this.ends.items c.deref.result.now c.args.number c.in-Some.end.now c.deref.ensures.value at.0 at.1 in
    let row = row_at this.versions.items 0 this.ends.items c.args.number c.in-Some.end.now end in
    c.behind.ensures ∙ ap (λ (k : ℕ). drop k c.front.result.now) c.start_of.ensures
    ∙ ap (λ (vs : List Version). drop (ends_before 0 this.ends.items c.args.number) vs) (c.front.ensures ∙ ap (λ (vs : List Version). take c.in-Some.end.now vs) c.deref-in-Some.ensures.value)
    ∙ sym (ap (λ (o : Option (List Version)). row_in o) row)

pub returns-in-None : goal.returns-in-None
returns-in-None c =
    let this = c.args.self.now in
    let past : slice_get this.ends.items c.args.number ≡ None = looked_past this.ends.items c.args.number (subst (λ (ns : List ℕ). false ≡ ltb c.args.number (length ns)) c.deref.ensures.value c.in-None.ensures.lookup.0) in
    sym (ap (λ (o : Option (List Version)). row_in o) (row_past this.versions.items 0 this.ends.items c.args.number past))
