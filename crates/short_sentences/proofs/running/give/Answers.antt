use Rattle.std.proofs.Common.{◌≡◌, ℕ, Some, slice_get, sym, subst, arith}
use Rattle.short_sentences.specs.Tables.{known}
use Rattle.short_sentences.specs.Joints.{chained, AreTaken}
use Rattle.short_sentences.proofs.GiveLemmas.{pair_below, chains_more, give_code}
use Rattle.short_sentences.proofs.NoteLemmas.{pair_read}
use Rattle.short_sentences.proofs.running.give.Goals as goal

pub give_side-requires-clause-here : goal.give_side-requires-clause-here
give_side-requires-clause-here g c = (c.index-entry.result.now.nonterminal, pair_read c.args.table.now.sums.numbered.keys c.args.taken.now.entries.items c.len-pair.result c.index-entry.result.now c.at.result.now c.in_ok-sum.sum c.requires.up.table.taken_numbered (omega (arith, c.len-pair.ensures, c.requires.up.one_more, c.args.chains.now.before.ok.0)) c.index-entry.ensures c.at.ensures c.in_ok-sum.ensures)

pub push-requires : goal.push-requires
push-requires g c =
    let here = pair_read c.args.table.now.sums.numbered.keys c.args.taken.now.entries.items c.len-pair.result c.index-entry.result.now c.at.result.now c.in_ok-sum.sum c.requires.up.table.taken_numbered (omega (arith, c.len-pair.ensures, c.requires.up.one_more, c.args.chains.now.before.ok.0)) c.index-entry.ensures c.at.ensures c.in_ok-sum.ensures in
    let l = pair_below (g.S.Summary.sum_of c.args.question.now.summary.now) (g.S.Summary.composed c.args.question.now.summary.now) (g.S.Summary.is_whole c.args.question.now.summary.now) c.args.question.now.grammar.now.productions.items c.args.question.now.grammar.now.start c.args.question.now.grammar.now.count c.args.taken.now c.args.question.now.grammar.now.below c.args.table.now c.requires.up.table c.len-pair.result _ here in
    omega (arith, l, c.requires.up.spread)

pub give_side-requires-2-clause-table : goal.give_side-requires-2-clause-table
give_side-requires-2-clause-table g c =
    let here = pair_read c.args.table.now.sums.numbered.keys c.args.taken.now.entries.items c.len-pair.result c.index-entry.result.now c.at.result.now c.in_ok-sum.sum c.requires.up.table.taken_numbered (omega (arith, c.len-pair.ensures, c.requires.up.one_more, c.args.chains.now.before.ok.0)) c.index-entry.ensures c.at.ensures c.in_ok-sum.ensures in
    (c.in_ok-give_side.ensures c.index-entry.result.now.nonterminal here).goes.table

pub give_side-requires-2-clause-here : goal.give_side-requires-2-clause-here
give_side-requires-2-clause-here g c =
    let here = pair_read c.args.table.now.sums.numbered.keys c.args.taken.now.entries.items c.len-pair.result c.index-entry.result.now c.at.result.now c.in_ok-sum.sum c.requires.up.table.taken_numbered (omega (arith, c.len-pair.ensures, c.requires.up.one_more, c.args.chains.now.before.ok.0)) c.index-entry.ensures c.at.ensures c.in_ok-sum.ensures in
    let goes = (c.in_ok-give_side.ensures c.index-entry.result.now.nonterminal here).goes in
    (c.index-entry.result.now.nonterminal, subst (λ (z : _). slice_get z c.len-pair.result ≡ Some (c.index-entry.result.now.nonterminal, c.in_ok-sum.sum)) (sym goes.known_same) here)

pub give_side-requires-2-clause-taken : goal.give_side-requires-2-clause-taken
give_side-requires-2-clause-taken g c =
    let here = pair_read c.args.table.now.sums.numbered.keys c.args.taken.now.entries.items c.len-pair.result c.index-entry.result.now c.at.result.now c.in_ok-sum.sum c.requires.up.table.taken_numbered (omega (arith, c.len-pair.ensures, c.requires.up.one_more, c.args.chains.now.before.ok.0)) c.index-entry.ensures c.at.ensures c.in_ok-sum.ensures in
    let goes = (c.in_ok-give_side.ensures c.index-entry.result.now.nonterminal here).goes in
    let same : c.len-pair.result ≡ chained c.args.chains.now = omega (arith, c.len-pair.ensures, c.args.chains.now.before.ok.0) in
    subst (λ (z : _). AreTaken z c.push.new.self) (sym goes.known_same)
    (chains_more (g.S.Summary.sum_of c.args.question.now.summary.now) (g.S.Summary.composed c.args.question.now.summary.now) (g.S.Summary.is_whole c.args.question.now.summary.now) c.args.question.now.grammar.now.productions.items c.args.question.now.grammar.now.start c.args.question.now.grammar.now.count c.args.taken.now c.args.chains.now c.push.new.self c.index-entry.result.now.nonterminal c.in_ok-push.ensures.chains (known c.args.table.now c.args.taken.now) c.in_ok-sum.sum c.requires.up.are_taken
    (subst (λ (k : ℕ). slice_get (known c.args.table.now c.args.taken.now) k ≡ Some (c.index-entry.result.now.nonterminal, c.in_ok-sum.sum)) same here))

pub returns : goal.returns
returns g c =
    let here = pair_read c.args.table.now.sums.numbered.keys c.args.taken.now.entries.items c.len-pair.result c.index-entry.result.now c.at.result.now c.in_ok-sum.sum c.requires.up.table.taken_numbered (omega (arith, c.len-pair.ensures, c.requires.up.one_more, c.args.chains.now.before.ok.0)) c.index-entry.ensures c.at.ensures c.in_ok-sum.ensures in
    let same : c.len-pair.result ≡ chained c.args.chains.now = omega (arith, c.len-pair.ensures, c.args.chains.now.before.ok.0) in
    give_code (g.S.Summary.sum_of c.args.question.now.summary.now) (g.S.Summary.composed c.args.question.now.summary.now) (g.S.Summary.is_whole c.args.question.now.summary.now) c.args.question.now.grammar.now.productions.items c.args.question.now.grammar.now.start c.args.question.now.grammar.now.count c.args.taken.now c.give_side-2.result c.args.chains.now c.push.new.self c.len-pair.result c.index-entry.result.now.nonterminal c.in_ok-sum.sum c.args.table.now c.give_side.new.table c.give_side-2.new.table same c.in_ok-push.ensures.chains c.in_ok-push.ensures.len c.requires.up here (c.in_ok-give_side.ensures c.index-entry.result.now.nonterminal here) c.give_side-2.ensures
