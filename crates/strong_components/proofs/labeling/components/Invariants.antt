use Rattle.std.proofs.Common.{◌≡◌, ◌<◌, ℕ, []}
use Rattle.strong_components.specs.Opening.{Keeps, IsMet}
use Rattle.strong_components.proofs.labeling.components.Given as goal

abbrev pub invariant-loop-node : goal.invariant-loop-node
invariant-loop-node l = record { keeps : Keeps l.edges l.search; none : l.search.starts ≡ []; met : (u : ℕ) → u < l.node → IsMet l.search.marks.items u }
