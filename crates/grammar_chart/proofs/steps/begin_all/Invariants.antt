use Rattle.std.proofs.Common.{◌+◌, ℕ, List, length, if◌then◌else◌, nat_lt}
use Rattle.numbered_sets.specs.Chains.{AreChains}
use Rattle.numbered_sets.proofs.WalkLemmas.{HasWalked}
use Rattle.grammar_chart.specs.Adding.{AddsAsked}
use Rattle.grammar_chart.specs.declared.keys.Read.TheVariants.{Nothing}
use Rattle.grammar_chart.proofs.steps.begin_all.Given as goal

abbrev pub invariant-loop-before : goal.invariant-loop-before
invariant-loop-before l = (keys : List ℕ) → AreChains keys l.places.last.items l.places.before.items
    → HasWalked keys l.left l.place (AddsAsked l.fn.begun.items l.begun.items (λ (p : ℕ). record { place = p; from = l.from; read = Nothing }))

abbrev pub decreases-loop-before : goal.decreases-loop-before
decreases-loop-before l = if nat_lt l.place (length l.places.before.items) then l.place + 1 else 0
