use Rattle.std.proofs.Common.{◌≡◌, false, length, map, ap, subst}
use Rattle.std.specs.Prelude.{ltb}
use Rattle.flow_code.specs.View.{plain_flow_function}
use Rattle.ssa_form.specs.Views.{versions_seen}
use Rattle.ssa_form.specs.Behind.{behind_rows}
use Rattle.ssa_form.specs.Rows.{link_at, link_by}
use Rattle.ssa_form.proofs.RowLemmas.{as_it_was, looked_past}
use Rattle.ssa_form.proofs.rows.put_link_at.Goals as goal

pub returns-in-None : goal.returns-in-None
unfolding link_at
returns-in-None c =
    let out = c.args.found_out in
    as_it_was (versions_seen c.args.row.now.items) _
    (ap (λ o. link_by (map plain_flow_function out.functions.now) out.heads.now (behind_rows out) c.args.slot o) (looked_past out.arrivals.now.all.items c.args.place (subst (λ xs. false ≡ ltb c.args.place (length xs)) c.deref.ensures.value c.in-None.ensures.lookup.0)))
