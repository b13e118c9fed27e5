use Rattle.std.proofs.Common.{◌≡◌, ℕ, List, Some, slice_get, length, sym, subst, arith}
use Rattle.policy_matching.specs.declared.rows.Row.{Row}
use Rattle.policy_matching.specs.Outside.{AreRows}
use Rattle.policy_matching.proofs.RowLemmas.{rows_more}
use Rattle.policy_matching.proofs.exploring.add_row.Goals as goal

pub returns-clause-rows : goal.returns-clause-rows
returns-clause-rows c e are =
    let b = c.row_of.new.arena in
    let old = c.args.places.now.keys in
    let new = c.row_of.new.places.keys in
    let rows = c.args.rows.now.items in
    let place = c.place_of-place.result in
    let long : c.len.result ≡ length rows = omega (arith, c.len.ensures, c.args.rows.now.ok.0) in
    let placed : slice_get old (length rows) ≡ Some place = subst (λ (n : ℕ). slice_get old n ≡ Some place) long c.place_of-place.ensures in
    subst (λ (rs : List Row). AreRows e b new rs) (sym c.in_ok-push.ensures.items)
    (rows_more e c.args.arena.now b old new rows c.in_ok-row.row place are c.in_ok-row.ensures.grows placed c.in_ok-row.ensures.reaches c.in_ok-row.ensures.row)
