use Rattle.std.proofs.Common.{◌≡◌, ◌≤◌, length, arith}
use Rattle.ssa_form.specs.JoinRows.{rows_in}
use Rattle.ssa_form.proofs.JoinLemmas.{keeps_length}
use Rattle.ssa_form.proofs.JoinRowLemmas.{rows_count}
use Rattle.ssa_form.proofs.remaking.rows_anew.Goals as goal

pub loop-placed-preserved : goal.loop-placed-preserved
loop-placed-preserved c =
    let before = c.loop-placed.invariant in
    let long : length c.next_row.new.rows.ends.items ≤ length c.next_row.new.asks.keys =
    (let k = keeps_length c.loop-placed.asks.keys c.next_row.new.asks.keys c.in_ok-next_row.ensures.keeps in let m = c.in_ok-next_row.ensures.more in let t = c.loop-placed-test.true in let e = c.len.ensures in let f = c.count.ensures.length in omega arith) in
    (λ n x h. c.in_ok-next_row.ensures.keeps n x (before.0 n x h), long, c.in_ok-next_row.ensures.ends, λ flow are linked known. c.in_ok-next_row.ensures.rows flow are linked (before.3 flow are linked known))

pub returns-clause-len : goal.returns-clause-len
returns-clause-len c =
    let rows = c.loop-placed.rows in
    let within : length rows.ends.items ≤ length c.loop-placed.asks.keys = c.loop-placed.invariant.1 in
    let count : length (rows_in rows) ≡ length rows.ends.items = rows_count rows.versions.items 0 rows.ends.items in
    let past = c.loop-placed-test.false in
    let len = c.len.ensures in
    let asks = c.count.ensures.length in
    omega (arith, within, count, past, len, asks)
