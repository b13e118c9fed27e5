use Rattle.std.proofs.Common.{◌≡◌, ◌<◌, ℕ, length, sym, subst, ◌∙◌, ap, arith}
use Rattle.summary_decision.specs.declared.table.Table.{Table}
use Rattle.summary_decision.specs.Tables.{known}
use Rattle.summary_decision.specs.Joints.{taken_count}
use Rattle.summary_decision.proofs.KnownLemmas.{known_length}
use Rattle.summary_decision.specs.Running.{raised}
use Rattle.summary_decision.specs.Taking.{AreUp}
use Rattle.summary_decision.proofs.RunLemmas.{up_raised, raised_more, all_whole}
use Rattle.summary_decision.proofs.running.run.Goals as goal

pub raise-requires : goal.raise-requires
raise-requires g c = record { within = omega (arith, c.loop-table-test.true, c.count.ensures, c.count-in-loop-table.ensures.length, c.count-in-loop-table-2.ensures); raised = c.loop-table.invariant.table.raised }

pub take-requires : goal.take-requires
take-requires g c =
    let q = c.args.question.now in
    let t = c.loop-table.table in
    let taken = c.loop-table.taken in
    let l = known_length t.sums.keys t.entries.keys c.loop-table.invariant.table.numbered in
    let more : taken_count taken < length (known t) = omega (arith, l, c.loop-table-test.true, c.count.ensures, c.count-in-loop-table.ensures.length) in
    let is : c.raise.new.table ≡ raised (taken_count taken) t = c.raise.ensures ∙ ap (λ (n : ℕ). raised n t) c.count-in-loop-table-2.ensures in
    record {
      up = subst (λ (z : Table g.row.S-Sum.Denot). AreUp (g.S.Summary.sum_of q.summary.now) (g.S.Summary.composed q.summary.now) (g.S.Summary.is_whole q.summary.now) q.grammar.now.productions.items q.grammar.now.start q.grammar.now.count z taken) (sym is) (up_raised (g.S.Summary.sum_of q.summary.now) (g.S.Summary.composed q.summary.now) (g.S.Summary.is_whole q.summary.now) q.grammar.now.productions.items q.grammar.now.start (g.S.Summary.appended q.summary.now) q.grammar.now.count t taken c.loop-table.invariant more);
      more = subst (λ (z : Table g.row.S-Sum.Denot). taken_count taken < z.bound) (sym is) (raised_more (g.S.Summary.sum_of q.summary.now) (g.S.Summary.composed q.summary.now) (g.S.Summary.is_whole q.summary.now) q.grammar.now.productions.items q.grammar.now.start (g.S.Summary.appended q.summary.now) q.grammar.now.count t taken c.loop-table.invariant more);
      firsts = c.requires.firsts;
      seconds = c.requires.seconds;
    }

pub loop-table-preserved : goal.loop-table-preserved
loop-table-preserved g c = c.in_ok-take.ensures.ok.up

pub loop-table-smaller : goal.loop-table-smaller
loop-table-smaller g c = omega (arith, c.in_ok-take.ensures.ok.one, c.loop-table-test.true, c.count.ensures, c.count-in-loop-table.ensures.small)

pub returns-clause-ok : goal.returns-clause-ok
returns-clause-ok g c =
    let q = c.args.question.now in
    all_whole (g.S.Summary.sum_of q.summary.now) (g.S.Summary.composed q.summary.now) (g.S.Summary.is_whole q.summary.now) q.grammar.now.productions.items q.grammar.now.start (g.S.Summary.appended q.summary.now) q.grammar.now.count c.loop-table.table c.loop-table.taken c.loop-table.invariant (omega (arith, c.loop-table-test.false, c.count.ensures, c.count-in-loop-table.ensures.length))
