use Rattle.std.proofs.Common.{◌≡◌, ◌<◌, ◌∙◌, ℕ, List, Some, subst, sym, slice_get, length, arith}
use Rattle.std.specs.Prelude.{Contains}
use Rattle.flow_graph.specs.Found.{number_in}
use Rattle.loose_sets.specs.Versions.{PlainVersion, IsKept}
use Rattle.ssa_form.specs.declared.version.Version.{Version}
use Rattle.ssa_form.specs.Views.{versions_seen}
use Rattle.ssa_form.specs.Marks.{asked_by}
use Rattle.ssa_form.specs.Joins.{AsksFor}
use Rattle.ssa_form.specs.JoinRows.{rows_in, PutsRow}
use Rattle.ssa_form.specs.Versions.{row_of}
use Rattle.ssa_form.specs.Replacing.{ReplacesAll, AreMadeAnew}
use Rattle.ssa_form.proofs.JoinRowLemmas.{rows_count, asks_row}
use Rattle.ssa_form.proofs.RemakingLemmas.{row_replaces, anew_more}
use Rattle.ssa_form.proofs.AnewLemmas.{asked_kept}
use Rattle.ssa_form.proofs.remaking.next_row.Goals as goal

pub returns-clause-rows : goal.returns-clause-rows
returns-clause-rows c flow are linked so =
    let asks = c.args.placed.asks.now.keys in
    let made = rows_in c.args.placed.rows.now in
    let keys = c.args.asks.now.keys in
    let new = c.ask_all.new.asks.keys in
    let old = c.args.rows.now in
    let rows = rows_in old in
    let us = versions_seen c.joined.result.now in
    let vs = versions_seen c.settle_all.new.row.items in
    let j = c.join_of-point.result in
    let puts : PutsRow old c.push.new.self vs = subst (λ (ws : List Version). PutsRow old c.push.new.self (versions_seen ws)) c.deref-2.ensures.value (c.in_ok-push.ensures c.requires.ends) in
    let count : length rows ≡ length old.ends.items = rows_count old.versions.items 0 old.ends.items in
    let long : c.len.result ≡ length rows = c.len.ensures ∙ sym count in
    let there : slice_get keys (length rows) ≡ Some j = subst (λ (n : ℕ). slice_get keys n ≡ Some j) long c.join_of-point.ensures in
    let less : length rows < length keys = (let n = c.requires.next in omega (arith, count, n)) in
    let asked : AsksFor keys new vs = subst (λ (ws : List Version). AsksFor keys new (versions_seen ws)) c.deref.ensures.value c.in_ok-ask_all.ensures in
    let row : ReplacesAll flow asks (row_of made (number_in asks j.0 j.1)) (versions_seen puts.row) =
    subst (λ (ws : List PlainVersion). ReplacesAll flow asks ws (versions_seen puts.row)) c.joined.ensures.list (row_replaces flow asks us vs puts.row (c.in_ok-settle_all.ensures flow are) puts.is) in
    let closed : (u : PlainVersion) → Contains (row_of made (number_in asks j.0 j.1)) u → IsKept (asked_by asks) u =
    λ u k. asked_kept asks made u (linked.closed j.0 j.1 u ((c.joined.ensures.exact u).0 (subst (λ (ws : List PlainVersion). Contains ws u) (sym c.joined.ensures.list) k))) in
    subst (λ (rs : List (List Version)). AreMadeAnew flow asks made new rs) (sym puts.rows)
    (anew_more flow asks made keys new rows puts.row j so less there row (asks_row keys new puts.row vs puts.is asked) closed)
