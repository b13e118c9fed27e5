use Rattle.std.proofs.Common.{List, sym, subst}
use Rattle.derivations.specs.declared.node.Node.{Node}
use Rattle.derivations.specs.Stands.{IsDerivation}
use Rattle.summary_decision.specs.declared.halt.Halt.{Halt}
use Rattle.summary_decision.proofs.DecideLemmas.{is_rooted}
use Rattle.short_sentences.specs.Halts.{Explains}
use Rattle.short_sentences.proofs.finding.halted.Goals as goal

pub new-requires : goal.new-requires
new-requires g c =
    let q = c.args.question.now in
    let e = subst (λ (h : Halt). Explains (g.S.Summary.sum_of q.summary.now) (g.S.Summary.is_whole q.summary.now) (g.S.Summary.tag_count q.summary.now) q.grammar.now.productions.items q.grammar.now.start q.limit c.args.taken.nodes.nodes.items c.args.taken.length h) c.in-NotWhole.is c.requires in
    is_rooted q.grammar.now.productions.items c.args.taken.nodes.nodes.items q.grammar.now.start e.0 e.1

pub returns-in-NotWhole : goal.returns-in-NotWhole
returns-in-NotWhole g c =
    let q = c.args.question.now in
    let e = subst (λ (h : Halt). Explains (g.S.Summary.sum_of q.summary.now) (g.S.Summary.is_whole q.summary.now) (g.S.Summary.tag_count q.summary.now) q.grammar.now.productions.items q.grammar.now.start q.limit c.args.taken.nodes.nodes.items c.args.taken.length h) c.in-NotWhole.is c.requires in
    record {
      sentence = e.0;
      derives = subst (λ (ns : List Node). IsDerivation q.grammar.now.productions.items ns q.grammar.now.start e.0) (sym c.new.ensures) e.1;
      not_whole = e.2;
      shortest = e.3;
    }

pub returns-in-TooMany : goal.returns-in-TooMany
returns-in-TooMany g c =
    let q = c.args.question.now in
    subst (λ (h : Halt). Explains (g.S.Summary.sum_of q.summary.now) (g.S.Summary.is_whole q.summary.now) (g.S.Summary.tag_count q.summary.now) q.grammar.now.productions.items q.grammar.now.start q.limit c.args.taken.nodes.nodes.items c.args.taken.length h) c.in-TooMany.is c.requires

pub returns-in-TooLong : goal.returns-in-TooLong
returns-in-TooLong g c =
    let q = c.args.question.now in
    subst (λ (h : Halt). Explains (g.S.Summary.sum_of q.summary.now) (g.S.Summary.is_whole q.summary.now) (g.S.Summary.tag_count q.summary.now) q.grammar.now.productions.items q.grammar.now.start q.limit c.args.taken.nodes.nodes.items c.args.taken.length h) c.in-TooLong.is c.requires
