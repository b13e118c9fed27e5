use Rattle.std.proofs.Common.{◌≡◌, ◌++◌, drop, map, flat_map}
use Rattle.flow_code.specs.View.{plain_flow_function}
use Rattle.ssa_form.specs.Views.{versions_seen}
use Rattle.ssa_form.specs.Behind.{behind_rows}
use Rattle.ssa_form.specs.Rows.{link_at}
use Rattle.ssa_form.proofs.rows.put_links.Given as goal

abbrev pub invariant-loop-place : goal.invariant-loop-place
invariant-loop-place l =
    let links = flat_map (link_at (map plain_flow_function l.found_out.functions.now) l.found_out.heads.now (behind_rows l.found_out) l.slot l.found_out.arrivals.now.all.items) in
    versions_seen l.row.items ++ links (drop l.place-index l.places) ≡ versions_seen l.initial.row.items ++ links l.places
