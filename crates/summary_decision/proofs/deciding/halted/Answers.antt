use Rattle.std.proofs.Common.{◌≡◌, ◌+◌, ℕ, List, sym, subst}
use Rattle.text_base.specs.declared.numbers.Nt as nt
use Rattle.derivations.specs.declared.node.Node.{Node}
use Rattle.derivations.specs.Stands.{IsDerivation}
use Rattle.summary_decision.specs.declared.halt.Halt.{Halt}
use Rattle.summary_decision.specs.Pairs.{IsPair, HasPairs, AreWholeBelow}
use Rattle.summary_decision.specs.Halts.{Explains}
use Rattle.summary_decision.proofs.DecideLemmas.{is_rooted}
use Rattle.summary_decision.proofs.deciding.halted.Goals as goal

pub new-requires : goal.new-requires
new-requires g c =
    let q = c.args.question.now in
    let e = subst (λ (h : Halt). Explains (g.S.Summary.sum_of q.summary.now) (g.S.Summary.is_whole q.summary.now) (g.S.Summary.tag_count q.summary.now) q.grammar.now.productions.items q.grammar.now.start q.limit c.args.table.nodes.nodes.items c.args.table.height h) c.in-NotWhole.is c.requires in
    is_rooted q.grammar.now.productions.items c.args.table.nodes.nodes.items q.grammar.now.start e.0 e.1

pub returns-in-NotWhole : goal.returns-in-NotWhole
returns-in-NotWhole g c =
    let q = c.args.question.now in
    let e = subst (λ (h : Halt). Explains (g.S.Summary.sum_of q.summary.now) (g.S.Summary.is_whole q.summary.now) (g.S.Summary.tag_count q.summary.now) q.grammar.now.productions.items q.grammar.now.start q.limit c.args.table.nodes.nodes.items c.args.table.height h) c.in-NotWhole.is c.requires in
    (e.0, subst (λ (ns : List Node). IsDerivation q.grammar.now.productions.items ns q.grammar.now.start e.0) (sym c.new.ensures) e.1, e.2)

pub returns-in-TooMany : goal.returns-in-TooMany
returns-in-TooMany g c =
    let q = c.args.question.now in
    let e = subst (λ (h : Halt). Explains (g.S.Summary.sum_of q.summary.now) (g.S.Summary.is_whole q.summary.now) (g.S.Summary.tag_count q.summary.now) q.grammar.now.productions.items q.grammar.now.start q.limit c.args.table.nodes.nodes.items c.args.table.height h) c.in-TooMany.is c.requires in
    let h : c.in-Some.height ≡ c.args.table.height + 1 = c.in-Some.ensures.1 in (
      e.0,
      subst (λ (k : ℕ). HasPairs (g.S.Summary.sum_of q.summary.now) q.grammar.now.productions.items q.grammar.now.start k c.in-TooMany.count) (sym h) e.1,
      subst (λ (k : ℕ). AreWholeBelow (g.S.Summary.sum_of q.summary.now) (g.S.Summary.is_whole q.summary.now) q.grammar.now.productions.items q.grammar.now.start k) (sym h) e.2,
    )

pub returns-in-TooLong : goal.returns-in-TooLong
returns-in-TooLong g c =
    let q = c.args.question.now in
    let e = subst (λ (h : Halt). Explains (g.S.Summary.sum_of q.summary.now) (g.S.Summary.is_whole q.summary.now) (g.S.Summary.tag_count q.summary.now) q.grammar.now.productions.items q.grammar.now.start q.limit c.args.table.nodes.nodes.items c.args.table.height h) c.in-TooLong.is c.requires in
    let h : c.in-Some.height ≡ c.args.table.height + 1 = c.in-Some.ensures.1 in (
      e.0,
      subst (λ (k : ℕ). (a : nt.Nt) × (s : g.row.S-Sum.Denot) × IsPair (g.S.Summary.sum_of q.summary.now) q.grammar.now.productions.items q.grammar.now.start k a s × (g.S.Summary.tag_count q.summary.now s ≡ c.in-TooLong.count)) (sym h) e.1,
      subst (λ (k : ℕ). AreWholeBelow (g.S.Summary.sum_of q.summary.now) (g.S.Summary.is_whole q.summary.now) q.grammar.now.productions.items q.grammar.now.start k) (sym h) e.2,
    )
