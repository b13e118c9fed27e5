use Rattle.std.proofs.Common.{arith}
use Rattle.derivatives.specs.Standing.{expr_at}
use Rattle.derivatives.proofs.BehindLemmas.{grows_on}
use Rattle.policy_matching.proofs.RowLemmas.{is_outside}
use Rattle.policy_matching.proofs.exploring.outside_of.Goals as goal

pub loop-alloc-preserved : goal.loop-alloc-preserved
loop-alloc-preserved c = record {
  grows = grows_on c.args.arena.now c.loop-alloc.arena c.add_row.new.arena c.loop-alloc.invariant.grows c.in_ok-add_row.ensures.grows;
  rows = c.in_ok-add_row.ensures.rows (expr_at c.args.arena.now c.args.root) c.loop-alloc.invariant.rows;
}

pub returns-in_err-add_row-clause-grows : goal.returns-in_err-add_row-clause-grows
returns-in_err-add_row-clause-grows c = grows_on c.args.arena.now c.loop-alloc.arena c.add_row.new.arena c.loop-alloc.invariant.grows c.in_err-add_row.ensures.grows

pub returns-clause-outside : goal.returns-clause-outside
returns-clause-outside c =
    is_outside (expr_at c.args.arena.now c.args.root) c.loop-alloc.arena c.loop-alloc.places.keys c.loop-alloc.rows.items c.loop-alloc.invariant.rows
    (omega (arith, c.loop-alloc-test.false, c.len.ensures, c.count.ensures.length)) c.count.ensures.different c.len-each_once.ensures.once
