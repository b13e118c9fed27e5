use Rattle.std.proofs.Common.{subst, sym, arith}
use Rattle.cfg_grammar.specs.declared.symbol.Symbol.{Symbol}
use Rattle.cfg_grammar.specs.declared.symbol.Symbol.TheVariants.{Nt}
use Rattle.short_sentences.specs.Joints.{chained, IsBeside}
use Rattle.short_sentences.proofs.JointLemmas.{beside_below, letter_taken, symbol_along}
use Rattle.short_sentences.proofs.step.Step.meet.Goals as goal

pub meet_pairs-requires-clause-partner : goal.meet_pairs-requires-clause-partner
meet_pairs-requires-clause-partner g c =
    let beside = subst (λ (b : Symbol). IsBeside (g.S.Summary.sum_of c.args.self.now.question.now.summary.now) (g.S.Summary.composed c.args.self.now.question.now.summary.now) (g.S.Summary.is_whole c.args.self.now.question.now.summary.now) c.args.self.now.question.now.grammar.now.productions.items c.args.self.now.question.now.grammar.now.start c.args.table.now c.args.self.now.taken.now c.args.joint c.args.sum.now b) c.in-Nt.is c.requires.beside in
    let l = beside_below (g.S.Summary.sum_of c.args.self.now.question.now.summary.now) (g.S.Summary.composed c.args.self.now.question.now.summary.now) (g.S.Summary.is_whole c.args.self.now.question.now.summary.now) c.args.self.now.question.now.grammar.now.productions.items c.args.self.now.question.now.grammar.now.start c.args.self.now.question.now.grammar.now.count c.args.self.now.taken.now c.args.self.now.question.now.grammar.now.below c.args.table.now c.args.joint c.args.sum.now c.in-Nt.partner beside in
    omega (arith, l, c.requires.spread)

pub returns : goal.returns
returns g c =
    symbol_along (g.S.Summary.sum_of c.args.self.now.question.now.summary.now) (g.S.Summary.composed c.args.self.now.question.now.summary.now) (g.S.Summary.is_whole c.args.self.now.question.now.summary.now) c.args.self.now.question.now.grammar.now.productions.items c.args.self.now.question.now.grammar.now.start c.args.self.now.question.now.grammar.now.count c.args.self.now.taken.now c.meet_pairs.result c.args.table.now c.meet_pairs.new.table c.args.joint c.args.sum.now (chained c.args.self.now.chains.now) (Nt c.in-Nt.partner) c.args.symbol (sym c.in-Nt.is) c.meet_pairs.ensures

pub returns-in_default : goal.returns-in_default
returns-in_default g c =
    letter_taken (g.S.Summary.sum_of c.args.self.now.question.now.summary.now) (g.S.Summary.composed c.args.self.now.question.now.summary.now) (g.S.Summary.is_whole c.args.self.now.question.now.summary.now) c.args.self.now.question.now.grammar.now.productions.items c.args.self.now.question.now.grammar.now.start c.args.self.now.question.now.grammar.now.count c.args.self.now.taken.now c.meet_letter.result c.args.table.now c.meet_letter.new.table c.args.joint c.args.sum.now c.args.symbol (chained c.args.self.now.chains.now) c.meet_letter.ensures
