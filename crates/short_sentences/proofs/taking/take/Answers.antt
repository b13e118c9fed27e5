use Rattle.std.proofs.Common.{◌≡◌, ◌↔◌, Bool, false, IsTrue, length, refl, sym, subst, arith}
use Rattle.std.proofs.lemmas.Option.{slice_get_read}
use Rattle.summary_decision.proofs.KnownLemmas.{not_absent}
use Rattle.short_sentences.proofs.SettleLemmas.{ok_then, err_then, place_known, entry_sum, left_below, parts_are_below, place_is_within, count_within, up_but_last, explained, not_wrong, counts_long, entries_long}
use Rattle.short_sentences.proofs.taking.take.Goals as goal

pub unreachable-requires : goal.unreachable-requires
unreachable-requires g c = not_absent c.args.table.now.found.keys c.args.place (place_known (g.S.Summary.sum_of c.args.question.now.summary.now) (g.S.Summary.composed c.args.question.now.summary.now) (g.S.Summary.is_whole c.args.question.now.summary.now) c.args.question.now.grammar.now.productions.items c.args.question.now.grammar.now.start c.args.question.now.grammar.now.count c.args.table.now c.requires.up.0 c.args.taken.now c.args.chains.now c.requires.up.1 c.args.place c.requires.is_next) c.in_default.ensures.key

pub at-sum-requires : goal.at-sum-requires
at-sum-requires g c = entry_sum (g.S.Summary.sum_of c.args.question.now.summary.now) (g.S.Summary.composed c.args.question.now.summary.now) (g.S.Summary.is_whole c.args.question.now.summary.now) c.args.question.now.grammar.now.productions.items c.args.question.now.grammar.now.start c.args.question.now.grammar.now.count c.args.table.now c.requires.up.0 c.args.taken.now c.args.chains.now c.requires.up.1 c.args.place c.in-Some.entry.now (sym c.in-Some.ensures.key)

pub settle-requires-clause-below : goal.settle-requires-clause-below
settle-requires-clause-below g c = parts_are_below (g.S.Summary.sum_of c.args.question.now.summary.now) (g.S.Summary.composed c.args.question.now.summary.now) (g.S.Summary.is_whole c.args.question.now.summary.now) c.args.question.now.grammar.now.productions.items c.args.question.now.grammar.now.start c.args.question.now.grammar.now.count c.args.table.now c.requires.up.0 c.args.taken.now c.args.chains.now c.requires.up.1 c.args.place c.requires.is_next c.in-Some.entry.now c.at-sum.result.now (sym c.in-Some.ensures.key) c.at-sum.ensures

pub settle-requires-clause-within : goal.settle-requires-clause-within
settle-requires-clause-within g c = place_is_within (g.S.Summary.sum_of c.args.question.now.summary.now) (g.S.Summary.composed c.args.question.now.summary.now) (g.S.Summary.is_whole c.args.question.now.summary.now) c.args.question.now.grammar.now.productions.items c.args.question.now.grammar.now.start c.args.question.now.grammar.now.count c.args.table.now c.requires.up.0 c.args.taken.now c.args.chains.now c.requires.up.1 c.args.place c.requires.is_next c.in-Some.entry.now c.at-sum.result.now (sym c.in-Some.ensures.key) c.at-sum.ensures

pub settle-requires-clause-left : goal.settle-requires-clause-left
settle-requires-clause-left g c =
    let l = left_below (g.S.Summary.sum_of c.args.question.now.summary.now) (g.S.Summary.composed c.args.question.now.summary.now) (g.S.Summary.is_whole c.args.question.now.summary.now) c.args.question.now.grammar.now.productions.items c.args.question.now.grammar.now.start c.args.question.now.grammar.now.count c.args.table.now c.requires.up.0 c.args.taken.now c.args.chains.now c.requires.up.1 c.args.place c.requires.is_next c.in-Some.entry.now c.at-sum.result.now (sym c.in-Some.ensures.key) c.at-sum.ensures c.args.question.now.grammar.now.below in
    omega (arith, l, c.requires.up.1.table.up.spread)

pub settle-requires-clause-counted : goal.settle-requires-clause-counted
settle-requires-clause-counted g c = count_within (g.S.Summary.sum_of c.args.question.now.summary.now) (g.S.Summary.composed c.args.question.now.summary.now) (g.S.Summary.is_whole c.args.question.now.summary.now) c.args.question.now.grammar.now.productions.items c.args.question.now.grammar.now.start c.args.question.now.grammar.now.count c.args.table.now c.requires.up.0 c.args.taken.now c.args.chains.now c.requires.up.1 c.args.place c.requires.is_next c.in-Some.entry.now c.at-sum.result.now (sym c.in-Some.ensures.key) c.at-sum.ensures (left_below (g.S.Summary.sum_of c.args.question.now.summary.now) (g.S.Summary.composed c.args.question.now.summary.now) (g.S.Summary.is_whole c.args.question.now.summary.now) c.args.question.now.grammar.now.productions.items c.args.question.now.grammar.now.start c.args.question.now.grammar.now.count c.args.table.now c.requires.up.0 c.args.taken.now c.args.chains.now c.requires.up.1 c.args.place c.requires.is_next c.in-Some.entry.now c.at-sum.result.now (sym c.in-Some.ensures.key) c.at-sum.ensures c.args.question.now.grammar.now.below)

pub index-sums-requires : goal.index-sums-requires
index-sums-requires g c =
    let l = left_below (g.S.Summary.sum_of c.args.question.now.summary.now) (g.S.Summary.composed c.args.question.now.summary.now) (g.S.Summary.is_whole c.args.question.now.summary.now) c.args.question.now.grammar.now.productions.items c.args.question.now.grammar.now.start c.args.question.now.grammar.now.count c.args.table.now c.requires.up.0 c.args.taken.now c.args.chains.now c.requires.up.1 c.args.place c.requires.is_next c.in-Some.entry.now c.at-sum.result.now (sym c.in-Some.ensures.key) c.at-sum.ensures c.args.question.now.grammar.now.below in
    let e = counts_long (g.S.Summary.sum_of c.args.question.now.summary.now) (g.S.Summary.composed c.args.question.now.summary.now) (g.S.Summary.is_whole c.args.question.now.summary.now) c.args.question.now.grammar.now.productions.items c.args.question.now.grammar.now.start c.args.question.now.grammar.now.count c.args.table.now c.requires.up.0 c.args.taken.now c.args.chains.now c.requires.up.1 c.args.place c.requires.is_next c.in-Some.entry.now c.at-sum.result.now (sym c.in-Some.ensures.key) c.at-sum.ensures (record c.args.table.now { drafts = c.settle.new.drafts }) c.settle.new.taken c.count-sums.ensures.different c.count-found.ensures.different (c.in_ok-settle.ensures c.requires.is_next.draft c.requires.is_next.at) in
    omega (arith, l, e, c.settle.new.taken.counts.ok.0)

pub returns-clause-ok : goal.returns-clause-ok
returns-clause-ok g c =
    ok_then c.judge.result c.judge.ensures.ok
    (λ is. up_but_last (g.S.Summary.sum_of c.args.question.now.summary.now) (g.S.Summary.composed c.args.question.now.summary.now) (g.S.Summary.is_whole c.args.question.now.summary.now) c.args.question.now.grammar.now.productions.items c.args.question.now.grammar.now.start c.args.question.now.grammar.now.count c.args.table.now c.requires.up.0 c.args.taken.now c.args.chains.now c.requires.up.1 c.args.place c.requires.is_next c.in-Some.entry.now c.at-sum.result.now (sym c.in-Some.ensures.key) c.at-sum.ensures (record c.args.table.now { drafts = c.settle.new.drafts }) c.settle.new.taken c.count-sums.ensures.different c.count-found.ensures.different (c.in_ok-settle.ensures c.requires.is_next.draft c.requires.is_next.at) (g.S.Summary.appended c.args.question.now.summary.now) (left_below (g.S.Summary.sum_of c.args.question.now.summary.now) (g.S.Summary.composed c.args.question.now.summary.now) (g.S.Summary.is_whole c.args.question.now.summary.now) c.args.question.now.grammar.now.productions.items c.args.question.now.grammar.now.start c.args.question.now.grammar.now.count c.args.table.now c.requires.up.0 c.args.taken.now c.args.chains.now c.requires.up.1 c.args.place c.requires.is_next c.in-Some.entry.now c.at-sum.result.now (sym c.in-Some.ensures.key) c.at-sum.ensures c.args.question.now.grammar.now.below) (not_wrong (g.S.Summary.sum_of c.args.question.now.summary.now) (g.S.Summary.composed c.args.question.now.summary.now) (g.S.Summary.is_whole c.args.question.now.summary.now) c.args.question.now.grammar.now.productions.items c.args.question.now.grammar.now.start c.args.question.now.grammar.now.count c.args.table.now c.requires.up.0 c.args.taken.now c.args.chains.now c.requires.up.1 c.args.place c.requires.is_next c.in-Some.entry.now c.at-sum.result.now (sym c.in-Some.ensures.key) c.at-sum.ensures (record c.args.table.now { drafts = c.settle.new.drafts }) c.settle.new.taken c.count-sums.ensures.different c.count-found.ensures.different (c.in_ok-settle.ensures c.requires.is_next.draft c.requires.is_next.at) (g.S.Summary.appended c.args.question.now.summary.now) c.is_wrong-is_wrong.result (subst (λ (b : Bool). IsTrue c.is_wrong-is_wrong.result ↔ ((c.in-Some.entry.now.nonterminal ≡ c.args.question.now.grammar.now.start.0) × (b ≡ false))) c.whole.ensures c.is_wrong-is_wrong.ensures) is))

pub returns-clause-one_more : goal.returns-clause-one_more
returns-clause-one_more g c =
    ok_then c.judge.result c.judge.ensures.ok
    (λ is. entries_long (g.S.Summary.sum_of c.args.question.now.summary.now) (g.S.Summary.composed c.args.question.now.summary.now) (g.S.Summary.is_whole c.args.question.now.summary.now) c.args.question.now.grammar.now.productions.items c.args.question.now.grammar.now.start c.args.question.now.grammar.now.count c.args.table.now c.requires.up.0 c.args.taken.now c.args.chains.now c.requires.up.1 c.args.place c.requires.is_next c.in-Some.entry.now c.at-sum.result.now (sym c.in-Some.ensures.key) c.at-sum.ensures (record c.args.table.now { drafts = c.settle.new.drafts }) c.settle.new.taken c.count-sums.ensures.different c.count-found.ensures.different (c.in_ok-settle.ensures c.requires.is_next.draft c.requires.is_next.at))

pub returns-clause-err : goal.returns-clause-err
returns-clause-err g c =
    let l = left_below (g.S.Summary.sum_of c.args.question.now.summary.now) (g.S.Summary.composed c.args.question.now.summary.now) (g.S.Summary.is_whole c.args.question.now.summary.now) c.args.question.now.grammar.now.productions.items c.args.question.now.grammar.now.start c.args.question.now.grammar.now.count c.args.table.now c.requires.up.0 c.args.taken.now c.args.chains.now c.requires.up.1 c.args.place c.requires.is_next c.in-Some.entry.now c.at-sum.result.now (sym c.in-Some.ensures.key) c.at-sum.ensures c.args.question.now.grammar.now.below in
    let e = counts_long (g.S.Summary.sum_of c.args.question.now.summary.now) (g.S.Summary.composed c.args.question.now.summary.now) (g.S.Summary.is_whole c.args.question.now.summary.now) c.args.question.now.grammar.now.productions.items c.args.question.now.grammar.now.start c.args.question.now.grammar.now.count c.args.table.now c.requires.up.0 c.args.taken.now c.args.chains.now c.requires.up.1 c.args.place c.requires.is_next c.in-Some.entry.now c.at-sum.result.now (sym c.in-Some.ensures.key) c.at-sum.ensures (record c.args.table.now { drafts = c.settle.new.drafts }) c.settle.new.taken c.count-sums.ensures.different c.count-found.ensures.different (c.in_ok-settle.ensures c.requires.is_next.draft c.requires.is_next.at) in
    err_then c.judge.result c.judge.ensures.err
    (λ h judges. explained (g.S.Summary.sum_of c.args.question.now.summary.now) (g.S.Summary.composed c.args.question.now.summary.now) (g.S.Summary.is_whole c.args.question.now.summary.now) c.args.question.now.grammar.now.productions.items c.args.question.now.grammar.now.start c.args.question.now.grammar.now.count c.args.table.now c.requires.up.0 c.args.taken.now c.args.chains.now c.requires.up.1 c.args.place c.requires.is_next c.in-Some.entry.now c.at-sum.result.now (sym c.in-Some.ensures.key) c.at-sum.ensures (record c.args.table.now { drafts = c.settle.new.drafts }) c.settle.new.taken c.count-sums.ensures.different c.count-found.ensures.different (c.in_ok-settle.ensures c.requires.is_next.draft c.requires.is_next.at) (g.S.Summary.appended c.args.question.now.summary.now) (g.S.Summary.tag_count c.args.question.now.summary.now) c.args.question.now.limit c.is_wrong-is_wrong.result c.tags-tags.result c.index-sums.result.now h l (subst (λ (b : Bool). IsTrue c.is_wrong-is_wrong.result ↔ ((c.in-Some.entry.now.nonterminal ≡ c.args.question.now.grammar.now.start.0) × (b ≡ false))) c.whole.ensures c.is_wrong-is_wrong.ensures) c.tags-tags.ensures
    (slice_get_read c.settle.new.taken.counts.items (length c.settle.new.taken.counts.items) c.in-Some.entry.now.nonterminal c.index-sums.result.now refl (omega (arith, l, e)) c.index-sums.ensures) judges)
