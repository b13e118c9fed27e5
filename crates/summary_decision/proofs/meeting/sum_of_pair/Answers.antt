use Rattle.std.proofs.Common.{sym, arith}
use Rattle.summary_decision.proofs.KnownLemmas.{known_length, not_absent, sum_within, pair_sum}
use Rattle.summary_decision.proofs.meeting.sum_of_pair.Goals as goal

pub unreachable-requires : goal.unreachable-requires
unreachable-requires g c =
    let t = c.args.table.now in
    let l = known_length t.sums.keys t.entries.keys c.requires.numbered in
    not_absent t.entries.keys c.args.pair (omega (arith, l, c.requires.within)) c.in_default.ensures.key

pub unreachable-requires-in_default-get_index : goal.unreachable-requires-in_default-get_index
unreachable-requires-in_default-get_index g c =
    let t = c.args.table.now in
    not_absent t.sums.keys c.in-Some.entry.now.sum (sum_within t.sums.keys t.entries.keys c.requires.numbered c.args.pair c.in-Some.entry.now (sym c.in-Some.ensures.key)) c.in_default-get_index.ensures.key

pub returns : goal.returns
returns g c =
    let t = c.args.table.now in
    pair_sum t.sums.keys t.entries.keys c.requires.numbered c.args.pair c.in-Some.entry.now c.in-Some-get_index.sum.now (sym c.in-Some.ensures.key) (sym c.in-Some-get_index.ensures.key)
