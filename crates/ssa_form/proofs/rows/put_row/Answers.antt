use Rattle.std.proofs.Common.{◌≡◌, ◌∙◌, ◌++◌, List, ap, map, flat_map}
use Rattle.indexmap.proofs.MapLemmas.{OnOk-map}
use Rattle.flow_code.specs.View.{plain_flow_function}
use Rattle.flow_graph.proofs.HeadLemmas.{looked}
use Rattle.loose_sets.specs.Versions.{PlainVersion}
use Rattle.ssa_form.specs.Views.{versions_seen}
use Rattle.ssa_form.specs.Behind.{behind_rows}
use Rattle.ssa_form.specs.Rows.{link_at}
use Rattle.ssa_form.proofs.RowLemmas.{is_row}
use Rattle.ssa_form.proofs.rows.put_row.Goals as goal

pub returns-in-Some : goal.returns-in-Some
returns-in-Some c =
    let out = c.args.found_out in
    let at = c.in-Some.ensures.lookup in
    let links = link_at (map plain_flow_function out.functions.now) out.heads.now (behind_rows out) c.args.slot out.arrivals.now.all.items in
    let Puts : Type 0 = versions_seen c.put_links.new.row.items ≡ versions_seen c.args.row.now.items ++ flat_map links c.deref-in-Some.result.now in
    OnOk-map c.put_links.result Puts _ (λ puts below.
    is_row (map plain_flow_function out.functions.now) out.heads.now (behind_rows out) out.arrivals.now.all.items out.arrivals.now.at.items c.args.point c.args.slot c.in-Some.places.now _ c.requires.places c.requires.order
    (looked out.arrivals.now.at.items c.deref.result.now c.args.point c.in-Some.places.now c.deref.ensures.value at.0 at.1)
    (puts ∙ ap (λ (vs : List PlainVersion). vs ++ flat_map links c.deref-in-Some.result.now) (ap versions_seen c.requires.empty) ∙ ap (flat_map links) c.deref-in-Some.ensures.value))
    c.put_links.ensures
