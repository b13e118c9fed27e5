use Rattle.std.proofs.Common.{length, refl, arith}
use Rattle.std.proofs.lemmas.Option.{slice_get_read}
use Rattle.summary_decision.proofs.AddLemmas.{parts_are_below, left_within, count_within, added_old, added_result, explained, length_counts}
use Rattle.summary_decision.proofs.adding.add.Goals as goal

pub note-requires-clause-below : goal.note-requires-clause-below
note-requires-clause-below g c =
    let q = c.args.question.now in
    parts_are_below (g.S.Summary.sum_of q.summary.now) (g.S.Summary.composed q.summary.now) (g.S.Summary.is_whole q.summary.now) q.grammar.now.productions.items q.grammar.now.start (g.S.Summary.appended q.summary.now) q.grammar.now.count q.grammar.now.below c.args.table.now c.requires.table c.args.place c.args.parts c.args.sum c.requires.makes c.index.result.now c.index.ensures

pub note-requires-clause-left : goal.note-requires-clause-left
note-requires-clause-left g c =
    let q = c.args.question.now in
    left_within (g.S.Summary.sum_of q.summary.now) (g.S.Summary.composed q.summary.now) (g.S.Summary.is_whole q.summary.now) q.grammar.now.productions.items q.grammar.now.start (g.S.Summary.appended q.summary.now) q.grammar.now.count q.grammar.now.below c.args.table.now c.requires.table c.args.place c.args.parts c.args.sum c.requires.makes c.index.result.now c.index.ensures

pub note-requires-clause-counted : goal.note-requires-clause-counted
note-requires-clause-counted g c =
    let q = c.args.question.now in
    count_within (g.S.Summary.sum_of q.summary.now) (g.S.Summary.composed q.summary.now) (g.S.Summary.is_whole q.summary.now) q.grammar.now.productions.items q.grammar.now.start (g.S.Summary.appended q.summary.now) q.grammar.now.count q.grammar.now.below c.args.table.now c.requires.table c.args.place c.args.parts c.args.sum c.requires.makes c.index.result.now c.index.ensures

pub returns-then-not-branch-clause-ok : goal.returns-then-not-branch-clause-ok
returns-then-not-branch-clause-ok g c =
    let q = c.args.question.now in
    added_old (g.S.Summary.sum_of q.summary.now) (g.S.Summary.composed q.summary.now) (g.S.Summary.is_whole q.summary.now) q.grammar.now.productions.items q.grammar.now.start (g.S.Summary.appended q.summary.now) q.grammar.now.count q.grammar.now.below c.args.table.now c.requires.table c.args.place c.args.parts c.args.sum c.requires.makes c.index.result.now c.index.ensures c.note.new.table c.in_ok-note.field-0 c.if-not-branch.true c.in_ok-note.ensures

pub index-count-requires : goal.index-count-requires
index-count-requires g c =
    let q = c.args.question.now in
    let l = left_within (g.S.Summary.sum_of q.summary.now) (g.S.Summary.composed q.summary.now) (g.S.Summary.is_whole q.summary.now) q.grammar.now.productions.items q.grammar.now.start (g.S.Summary.appended q.summary.now) q.grammar.now.count q.grammar.now.below c.args.table.now c.requires.table c.args.place c.args.parts c.args.sum c.requires.makes c.index.result.now c.index.ensures in
    let e = length_counts c.args.table.now c.note.new.table c.args.place c.args.parts c.index.result.now.left.0 c.args.sum c.in_ok-note.field-0 c.in_ok-note.ensures in
    omega (arith, l, e, c.note.new.table.counts.ok.0)

pub returns-clause-ok : goal.returns-clause-ok
returns-clause-ok g c =
    let q = c.args.question.now in
    added_result (g.S.Summary.sum_of q.summary.now) (g.S.Summary.composed q.summary.now) (g.S.Summary.is_whole q.summary.now) q.grammar.now.productions.items q.grammar.now.start (g.S.Summary.appended q.summary.now) q.grammar.now.count q.grammar.now.below c.args.table.now c.requires.table c.args.place c.args.parts c.args.sum c.requires.makes c.index.result.now c.index.ensures c.note.new.table c.judge.result c.in_ok-note.field-0 c.if-not-branch.false c.in_ok-note.ensures c.is_wrong-is_wrong.result c.whole.result c.is_wrong-is_wrong.ensures c.whole.ensures c.judge.ensures.ok

pub returns-clause-err : goal.returns-clause-err
returns-clause-err g c =
    let q = c.args.question.now in
    let l = left_within (g.S.Summary.sum_of q.summary.now) (g.S.Summary.composed q.summary.now) (g.S.Summary.is_whole q.summary.now) q.grammar.now.productions.items q.grammar.now.start (g.S.Summary.appended q.summary.now) q.grammar.now.count q.grammar.now.below c.args.table.now c.requires.table c.args.place c.args.parts c.args.sum c.requires.makes c.index.result.now c.index.ensures in
    let e = length_counts c.args.table.now c.note.new.table c.args.place c.args.parts c.index.result.now.left.0 c.args.sum c.in_ok-note.field-0 c.in_ok-note.ensures in
    explained (g.S.Summary.sum_of q.summary.now) (g.S.Summary.composed q.summary.now) (g.S.Summary.is_whole q.summary.now) q.grammar.now.productions.items q.grammar.now.start (g.S.Summary.appended q.summary.now) q.grammar.now.count q.grammar.now.below c.args.table.now c.requires.table c.args.place c.args.parts c.args.sum c.requires.makes c.index.result.now c.index.ensures c.note.new.table (g.S.Summary.tag_count q.summary.now) q.limit c.judge.result c.in_ok-note.field-0 c.if-not-branch.false c.in_ok-note.ensures c.is_wrong-is_wrong.result c.whole.result c.is_wrong-is_wrong.ensures c.whole.ensures
    c.tags-tags.result c.index-count.result.now c.tags-tags.ensures
    (slice_get_read c.note.new.table.counts.items (length c.note.new.table.counts.items) c.index.result.now.left.0 c.index-count.result.now refl (omega (arith, l, e)) c.index-count.ensures) c.judge.ensures.err
