use Rattle.std.proofs.Common.{◌≡◌, ◌↔◌, ◌∙◌, ℕ, List, Option, Some, ap, sym, subst}
use Rattle.std.specs.Prelude.{Contains}
use Rattle.loose_sets.specs.Versions.{linked_in}
use Rattle.ssa_form.specs.declared.version.Version.{Version}
use Rattle.ssa_form.specs.Views.{versions_seen}
use Rattle.ssa_form.specs.JoinRows.{rows_in}
use Rattle.flow_graph.specs.Found.{number_in}
use Rattle.ssa_form.specs.Versions.{joins_in, row_of}
use Rattle.ssa_form.proofs.ExactLemmas.{linked_row, none_linked}
use Rattle.ssa_form.proofs.joins.joined.Goals as goal

pub returns-in_default-clause-exact : goal.returns-in_default-clause-exact
returns-in_default-clause-exact c = none_linked c.args.asks.now.keys (rows_in c.args.rows.now) c.args.point c.args.slot c.in_default.ensures.none

pub returns-clause-exact : goal.returns-clause-exact
returns-clause-exact c v =
    let asks = c.args.asks.now.keys in
    let rows = rows_in c.args.rows.now in
    subst (λ (vs : List Version). Contains (versions_seen vs) v ↔ linked_in (joins_in asks rows) c.args.point c.args.slot v) (sym c.row.ensures)
    (linked_row asks rows c.in-Some.number c.args.point c.args.slot c.count-count.ensures.different c.in-Some.ensures.some v)

pub returns-clause-list : goal.returns-clause-list
returns-clause-list c =
    let number : number_in c.args.asks.now.keys c.args.point c.args.slot ≡ Some c.in-Some.number = sym c.row_number.ensures.number ∙ c.in-Some.is in
    ap (λ (vs : List Version). versions_seen vs) c.row.ensures ∙ sym (ap (λ (i : Option ℕ). row_of (rows_in c.args.rows.now) i) number)
