use Rattle.std.proofs.Common.{Result, OnOk, IfErr, subst}
use Rattle.summary_decision.specs.declared.halt.Halt.{Halt}
use Rattle.summary_decision.specs.Pairs.{AreWhole}
use Rattle.short_sentences.specs.Halts.{Explains}
use Rattle.short_sentences.proofs.finding.answer.Goals as goal

pub halted-requires : goal.halted-requires
halted-requires g c =
    let q = c.args.question.now in
    subst (λ (r : Result (Unit {0}) Halt). IfErr r (λ h. Explains (g.S.Summary.sum_of q.summary.now) (g.S.Summary.is_whole q.summary.now) (g.S.Summary.tag_count q.summary.now) q.grammar.now.productions.items q.grammar.now.start q.limit c.args.taken.nodes.nodes.items c.args.taken.length h)) c.in-Err.is c.requires.explained

pub returns-in-Ok : goal.returns-in-Ok
returns-in-Ok g c =
    let q = c.args.question.now in
    subst (λ (r : Result (Unit {0}) Halt). OnOk r (AreWhole (g.S.Summary.sum_of q.summary.now) (g.S.Summary.is_whole q.summary.now) q.grammar.now.productions.items q.grammar.now.start)) c.in-Ok.is c.requires.whole

pub returns-in-Err : goal.returns-in-Err
returns-in-Err g c = c.halted.ensures
