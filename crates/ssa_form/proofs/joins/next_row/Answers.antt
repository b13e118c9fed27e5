use Rattle.std.proofs.Common.{◌≡◌, ◌<◌, ◌∙◌, ℕ, List, Some, map, subst, sym, slice_get, length, arith}
use Rattle.std.specs.Prelude.{vec_len}
use Rattle.std.proofs.lemmas.Option.{slice_get_within}
use Rattle.flow_code.specs.View.{plain_flow_function}
use Rattle.ssa_form.specs.declared.version.Version.{Version}
use Rattle.ssa_form.specs.Views.{versions_seen}
use Rattle.ssa_form.specs.Rows.{IsRow}
use Rattle.ssa_form.specs.Joins.{AsksFor, AreRows}
use Rattle.ssa_form.specs.JoinRows.{rows_in, PutsRow}
use Rattle.ssa_form.specs.Behind.{row_before, behind_rows}
use Rattle.ssa_form.proofs.ReadLemmas.{contains_at}
use Rattle.ssa_form.proofs.JoinLemmas.{rows_more}
use Rattle.ssa_form.proofs.JoinRowLemmas.{rows_count, asks_row, row_row}
use Rattle.ssa_form.proofs.BehindLemmas.{before_first, joins_first}
use Rattle.ssa_form.proofs.joins.next_row.Goals as goal

pub returns-clause-rows : goal.returns-clause-rows
returns-clause-rows c firsts first are =
    let out = c.args.found_out in
    let fs = map plain_flow_function out.functions.now in
    let heads = out.heads.now in
    let all = out.arrivals.now.all.items in
    let at = out.arrivals.now.at.items in
    let asks = c.args.asks.now.keys in
    let new = c.ask_all.new.asks.keys in
    let old = c.args.rows.now in
    let rows = rows_in old in
    let vs = versions_seen c.put_row.new.row.items in
    let j = c.join_of-point.result in
    let puts : PutsRow old c.push.new.self vs = subst (λ (us : List Version). PutsRow old c.push.new.self (versions_seen us)) c.deref-2.ensures.value (c.in_ok-push.ensures c.requires.ends) in
    let count : length rows ≡ length old.ends.items = rows_count old.versions.items 0 old.ends.items in
    let long : c.len.result ≡ length rows = c.len.ensures ∙ sym count in
    let there : slice_get asks (length rows) ≡ Some j = subst (λ (n : ℕ). slice_get asks n ≡ Some j) long c.join_of-point.ensures in
    let less : length rows < length asks = (let n = c.requires.next in omega (arith, count, n)) in
    let here = are.asked j.0 j.1 (contains_at asks (length rows) j there) in
    let below : j.0 < vec_len out.arrivals.now.at = (let w = slice_get_within heads j.0 j.0 here in let l = c.requires.heads in omega arith) in
    let row : IsRow fs heads (behind_rows out) all j.0 j.1 vs = c.in_ok-put_row.ensures below in
    let asked : AsksFor asks new vs = subst (λ (us : List Version). AsksFor asks new (versions_seen us)) c.deref.ensures.value c.in_ok-ask_all.ensures in
    subst (λ (rs : List (List Version)). AreRows fs heads (behind_rows out) all firsts new rs) (sym puts.rows)
    (rows_more fs heads (behind_rows out) all first (joins_first (row_before at all heads) out.last.now heads (before_first at all heads first) out.rows_behind) firsts asks new rows puts.row j are less there
    (row_row fs heads (behind_rows out) all j.0 j.1 puts.row vs puts.is row) (asks_row asks new puts.row vs puts.is asked))
