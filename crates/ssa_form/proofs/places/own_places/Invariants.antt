use Rattle.std.proofs.Common.{◌≡◌, length}
use Rattle.ssa_form.specs.Replacing.{AreThemselves}
use Rattle.ssa_form.proofs.places.own_places.Given as goal

abbrev pub invariant-loop-number : goal.invariant-loop-number
invariant-loop-number l = (length l.places.items ≡ l.number) × AreThemselves l.asks.keys l.places.items
