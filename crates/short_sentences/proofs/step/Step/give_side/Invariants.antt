use Rattle.std.proofs.Common.{◌≡◌, ℕ, ◌+◌, length, if◌then◌else◌, nat_lt, Some, slice_get}
use Rattle.numbered_sets.proofs.WalkLemmas.{HasWalked}
use Rattle.summary_decision.specs.Joints.{AreUses}
use Rattle.short_sentences.specs.Tables.{known}
use Rattle.short_sentences.specs.Joints.{chained, Gives}
use Rattle.short_sentences.proofs.step.Step.give_side.Given as goal

abbrev pub invariant-loop-before : goal.invariant-loop-before
invariant-loop-before g l =
    (a : ℕ) → slice_get (known l.initial.table l.self.taken.now) l.pair ≡ Some (a, l.sum)
    → (are : AreUses l.side l.self.question.now.grammar.now.productions.items l.self.question.now.grammar.now.start l.self.question.now.grammar.now.count l.uses) → HasWalked are.keys a l.place (Gives (g.S.Summary.sum_of l.self.question.now.summary.now) (g.S.Summary.composed l.self.question.now.summary.now) (g.S.Summary.is_whole l.self.question.now.summary.now) l.self.question.now.grammar.now.productions.items l.self.question.now.grammar.now.start l.self.question.now.grammar.now.count l.self.taken.now l.initial.table l.table l.side l.sum l.pair (chained l.self.chains.now))

abbrev pub decreases-loop-before : goal.decreases-loop-before
decreases-loop-before g l = if nat_lt l.place (length l.uses.before.items) then l.place + 1 else 0
