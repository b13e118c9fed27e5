use Rattle.std.proofs.Common.{◌≡◌, ◌↔◌, ℕ, length, Contains}
use Rattle.useful_nonterminals.specs.Work.{IsNoted, IsAmong}
use Rattle.useful_nonterminals.proofs.drawing.mark_all.Given as goal

abbrev pub invariant-loop-fact : goal.invariant-loop-fact
invariant-loop-fact l = record { long : length l.marks.items ≡ length l.initial.marks.items; noted : IsNoted l.marks.items l.order.items; exact : (n : ℕ) → Contains l.order.items n ↔ IsAmong l.facts l.fact-index n }
