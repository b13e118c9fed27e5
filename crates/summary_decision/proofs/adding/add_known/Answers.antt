use Rattle.std.proofs.Common.{length, refl, sym, ap, ◌∙◌, arith, subst}
use Rattle.std.proofs.lemmas.Option.{slice_get_read, slice_get_within, same_Some}
use Rattle.summary_decision.specs.Tables.{Adds}
use Rattle.summary_decision.proofs.AddLemmas.{known_only, parts_are_below, left_within, count_within, added_old, added_result, explained, length_counts}
use Rattle.summary_decision.proofs.adding.add_known.Goals as goal

pub note_known-requires-clause-below : goal.note_known-requires-clause-below
note_known-requires-clause-below g c =
    let q = c.args.question.now in
    parts_are_below (g.S.Summary.sum_of q.summary.now) (g.S.Summary.composed q.summary.now) (g.S.Summary.is_whole q.summary.now) q.grammar.now.productions.items q.grammar.now.start (g.S.Summary.appended q.summary.now) q.grammar.now.count q.grammar.now.below c.args.table.now c.requires.table c.args.place c.args.parts c.requires.makes.0 c.requires.makes.2 c.index.result.now c.index.ensures

pub note_known-requires-clause-left : goal.note_known-requires-clause-left
note_known-requires-clause-left g c =
    let q = c.args.question.now in
    left_within (g.S.Summary.sum_of q.summary.now) (g.S.Summary.composed q.summary.now) (g.S.Summary.is_whole q.summary.now) q.grammar.now.productions.items q.grammar.now.start (g.S.Summary.appended q.summary.now) q.grammar.now.count q.grammar.now.below c.args.table.now c.requires.table c.args.place c.args.parts c.requires.makes.0 c.requires.makes.2 c.index.result.now c.index.ensures

pub note_known-requires-clause-counted : goal.note_known-requires-clause-counted
note_known-requires-clause-counted g c =
    let q = c.args.question.now in
    count_within (g.S.Summary.sum_of q.summary.now) (g.S.Summary.composed q.summary.now) (g.S.Summary.is_whole q.summary.now) q.grammar.now.productions.items q.grammar.now.start (g.S.Summary.appended q.summary.now) q.grammar.now.count q.grammar.now.below c.args.table.now c.requires.table c.args.place c.args.parts c.requires.makes.0 c.requires.makes.2 c.index.result.now c.index.ensures

pub returns-then-not-branch-clause-ok : goal.returns-then-not-branch-clause-ok
returns-then-not-branch-clause-ok g c = λ t at.
    let q = c.args.question.now in
    subst (λ (x : _). Adds (g.S.Summary.sum_of q.summary.now) (g.S.Summary.composed q.summary.now) (g.S.Summary.is_whole q.summary.now) q.grammar.now.productions.items q.grammar.now.start q.grammar.now.count c.args.table.now c.note_known.new.table c.args.place x) (same_Some c.requires.makes.0 t (sym c.requires.makes.1 ∙ at))
    (added_old (g.S.Summary.sum_of q.summary.now) (g.S.Summary.composed q.summary.now) (g.S.Summary.is_whole q.summary.now) q.grammar.now.productions.items q.grammar.now.start (g.S.Summary.appended q.summary.now) q.grammar.now.count q.grammar.now.below c.args.table.now c.requires.table c.args.place c.args.parts c.requires.makes.0 c.requires.makes.2 c.index.result.now c.index.ensures c.note_known.new.table c.in_ok-note_known.field-0 c.if-not-branch.true (c.in_ok-note_known.ensures c.requires.makes.0 c.requires.makes.1))

pub index-count-requires : goal.index-count-requires
index-count-requires g c =
    let q = c.args.question.now in
    let l = left_within (g.S.Summary.sum_of q.summary.now) (g.S.Summary.composed q.summary.now) (g.S.Summary.is_whole q.summary.now) q.grammar.now.productions.items q.grammar.now.start (g.S.Summary.appended q.summary.now) q.grammar.now.count q.grammar.now.below c.args.table.now c.requires.table c.args.place c.args.parts c.requires.makes.0 c.requires.makes.2 c.index.result.now c.index.ensures in
    let e = length_counts c.args.table.now c.note_known.new.table c.args.place c.args.parts c.index.result.now.left.0 c.requires.makes.0 c.in_ok-note_known.field-0 (c.in_ok-note_known.ensures c.requires.makes.0 c.requires.makes.1) in
    omega (arith, l, e, c.note_known.new.table.counts.ok.0)

pub returns-clause-ok : goal.returns-clause-ok
returns-clause-ok g c =
    let q = c.args.question.now in
    let here = same_Some c.sum_at-sum.result.now c.requires.makes.0 (sym c.sum_at-sum.ensures ∙ c.requires.makes.1) in
    known_only c.judge.result (λ (x : _). Adds (g.S.Summary.sum_of q.summary.now) (g.S.Summary.composed q.summary.now) (g.S.Summary.is_whole q.summary.now) q.grammar.now.productions.items q.grammar.now.start q.grammar.now.count c.args.table.now c.note_known.new.table c.args.place x) c.args.table.now.sums.keys c.args.number c.requires.makes.0 c.requires.makes.1
    (added_result (g.S.Summary.sum_of q.summary.now) (g.S.Summary.composed q.summary.now) (g.S.Summary.is_whole q.summary.now) q.grammar.now.productions.items q.grammar.now.start (g.S.Summary.appended q.summary.now) q.grammar.now.count q.grammar.now.below c.args.table.now c.requires.table c.args.place c.args.parts c.requires.makes.0 c.requires.makes.2 c.index.result.now c.index.ensures c.note_known.new.table c.judge.result c.in_ok-note_known.field-0 c.if-not-branch.false (c.in_ok-note_known.ensures c.requires.makes.0 c.requires.makes.1) c.is_wrong-is_wrong.result c.whole.result c.is_wrong-is_wrong.ensures (c.whole.ensures ∙ ap (g.S.Summary.is_whole q.summary.now) here) c.judge.ensures.ok)

pub returns-clause-err : goal.returns-clause-err
returns-clause-err g c =
    let q = c.args.question.now in
    let here = same_Some c.sum_at-sum.result.now c.requires.makes.0 (sym c.sum_at-sum.ensures ∙ c.requires.makes.1) in
    let l = left_within (g.S.Summary.sum_of q.summary.now) (g.S.Summary.composed q.summary.now) (g.S.Summary.is_whole q.summary.now) q.grammar.now.productions.items q.grammar.now.start (g.S.Summary.appended q.summary.now) q.grammar.now.count q.grammar.now.below c.args.table.now c.requires.table c.args.place c.args.parts c.requires.makes.0 c.requires.makes.2 c.index.result.now c.index.ensures in
    let e = length_counts c.args.table.now c.note_known.new.table c.args.place c.args.parts c.index.result.now.left.0 c.requires.makes.0 c.in_ok-note_known.field-0 (c.in_ok-note_known.ensures c.requires.makes.0 c.requires.makes.1) in
    explained (g.S.Summary.sum_of q.summary.now) (g.S.Summary.composed q.summary.now) (g.S.Summary.is_whole q.summary.now) q.grammar.now.productions.items q.grammar.now.start (g.S.Summary.appended q.summary.now) q.grammar.now.count q.grammar.now.below c.args.table.now c.requires.table c.args.place c.args.parts c.requires.makes.0 c.requires.makes.2 c.index.result.now c.index.ensures c.note_known.new.table (g.S.Summary.tag_count q.summary.now) q.limit c.judge.result c.in_ok-note_known.field-0 c.if-not-branch.false (c.in_ok-note_known.ensures c.requires.makes.0 c.requires.makes.1) c.is_wrong-is_wrong.result c.whole.result c.is_wrong-is_wrong.ensures (c.whole.ensures ∙ ap (g.S.Summary.is_whole q.summary.now) here)
    c.tags-tags.result c.index-count.result.now (c.tags-tags.ensures ∙ ap (g.S.Summary.tag_count q.summary.now) here)
    (slice_get_read c.note_known.new.table.counts.items (length c.note_known.new.table.counts.items) c.index.result.now.left.0 c.index-count.result.now refl (omega (arith, l, e)) c.index-count.ensures) c.judge.ensures.err

pub sum_at-sum-requires : goal.sum_at-sum-requires
sum_at-sum-requires g c = slice_get_within c.args.table.now.sums.keys c.args.number c.requires.makes.0 c.requires.makes.1
