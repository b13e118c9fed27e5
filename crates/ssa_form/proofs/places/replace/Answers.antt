use Rattle.std.proofs.Common.{List, sym, subst, slice_get}
use Rattle.ssa_form.specs.declared.version.Version.{Version}
use Rattle.loose_sets.specs.Versions.{join_at}
use Rattle.ssa_form.specs.Views.{version_seen, versions_seen}
use Rattle.ssa_form.specs.JoinRows.{rows_in, row_in}
use Rattle.ssa_form.specs.Replacing.{ArePut, IsAll}
use Rattle.ssa_form.proofs.ReplacingLemmas.{replaced, put_more, set_cases}
use Rattle.ssa_form.proofs.places.replace.Goals as goal

pub returns-clause-put : goal.returns-clause-put
returns-clause-put c flow are put =
    let asks = c.args.asks.now.keys in
    let rows = rows_in c.args.rows.now in
    let old = c.args.places.now.items in
    let n = c.args.number in
    let j = c.join_of-point.result in
    let v = c.in-Some.version in
    let seen : ArePut flow asks c.deref.result.now = subst (λ (ps : List Version). ArePut flow asks ps) (sym c.deref.ensures.value) put in
    let all : IsAll flow asks (versions_seen (row_in (slice_get rows n))) (join_at j.0 j.1) (version_seen v) =
    subst (λ (r : List Version). IsAll flow asks (versions_seen r) (join_at j.0 j.1) (version_seen v)) c.row.ensures (c.in-Some.ensures flow seen) in
    put_more flow asks old _ n j.0 j.1 v c.join_of-point.ensures
    (replaced flow asks rows are n j.0 j.1 c.count-count.ensures.different c.join_of-point.ensures (version_seen v) all) (λ i w e. set_cases old n v i w e) put
