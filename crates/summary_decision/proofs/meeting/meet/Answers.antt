use Rattle.std.proofs.Common.{subst, sym, arith}
use Rattle.cfg_grammar.specs.declared.symbol.Symbol.{Symbol}
use Rattle.cfg_grammar.specs.declared.symbol.Symbol.TheVariants.{Nt}
use Rattle.summary_decision.specs.Joints.{IsBeside, taken_count}
use Rattle.summary_decision.proofs.JointLemmas.{beside_below, letter_taken, symbol_along}
use Rattle.summary_decision.proofs.meeting.meet.Goals as goal

pub meet_pairs-requires-clause-partner : goal.meet_pairs-requires-clause-partner
meet_pairs-requires-clause-partner g c =
    let q = c.args.question.now in
    let beside = subst (λ (b : Symbol). IsBeside (g.S.Summary.sum_of q.summary.now) (g.S.Summary.composed q.summary.now) (g.S.Summary.is_whole q.summary.now) q.grammar.now.productions.items q.grammar.now.start c.args.table.now c.args.joint c.args.sum.now b) c.in-Nt.is c.requires.beside in
    let l = beside_below (g.S.Summary.sum_of q.summary.now) (g.S.Summary.composed q.summary.now) (g.S.Summary.is_whole q.summary.now) q.grammar.now.productions.items q.grammar.now.start q.grammar.now.count q.grammar.now.below c.args.table.now c.args.joint c.args.sum.now c.in-Nt.partner beside in
    omega (arith, l, c.requires.spread)

pub returns-clause-ok : goal.returns-clause-ok
returns-clause-ok g c =
    let q = c.args.question.now in
    symbol_along (g.S.Summary.sum_of q.summary.now) (g.S.Summary.composed q.summary.now) (g.S.Summary.is_whole q.summary.now) q.grammar.now.productions.items q.grammar.now.start q.grammar.now.count c.meet_pairs.result c.args.table.now c.meet_pairs.new.table c.args.joint c.args.sum.now (taken_count c.args.taken.now) (Nt c.in-Nt.partner) c.args.symbol (sym c.in-Nt.is) c.meet_pairs.ensures.ok

pub returns-in_default : goal.returns-in_default
returns-in_default g c =
    let q = c.args.question.now in
    record {
      ok = letter_taken (g.S.Summary.sum_of q.summary.now) (g.S.Summary.composed q.summary.now) (g.S.Summary.is_whole q.summary.now) q.grammar.now.productions.items q.grammar.now.start q.grammar.now.count c.meet_letter.result c.args.table.now c.meet_letter.new.table c.args.joint c.args.sum.now c.args.symbol (taken_count c.args.taken.now) c.meet_letter.ensures.ok;
      err = c.meet_letter.ensures.err;
    }
