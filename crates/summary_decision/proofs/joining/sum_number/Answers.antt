use Rattle.std.proofs.Common.{sym, arith, ◌∙◌, ap, slice_get}
use Rattle.std.proofs.lemmas.Option.{same_Some}
use Rattle.summary_decision.specs.declared.table.Entry.{Entry}
use Rattle.summary_decision.proofs.KnownLemmas.{known_length, not_absent, sum_within, at_known}
use Rattle.summary_decision.proofs.joining.sum_number.Goals as goal

pub unreachable-requires : goal.unreachable-requires
unreachable-requires g c =
    let t = c.args.table.now in
    let l = known_length t.sums.keys t.entries.keys c.requires.numbered in
    not_absent t.entries.keys c.args.pair (omega (arith, l, c.requires.within)) c.in_default.ensures.key

pub returns-clause-sum : goal.returns-clause-sum
returns-clause-sum g c x at =
    let t = c.args.table.now in
    let k = at_known t.sums.keys t.entries.keys c.args.pair x c.requires.numbered at in
    let same = same_Some k.0 c.in-Some.entry.now (sym k.1 ∙ sym c.in-Some.ensures.key) in
    ap (λ (e : Entry). slice_get t.sums.keys e.sum) (sym same) ∙ k.3

pub returns-clause-below : goal.returns-clause-below
returns-clause-below g c =
    let t = c.args.table.now in
    sum_within t.sums.keys t.entries.keys c.requires.numbered c.args.pair c.in-Some.entry.now (sym c.in-Some.ensures.key)
