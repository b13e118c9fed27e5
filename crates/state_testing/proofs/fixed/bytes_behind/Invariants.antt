use Rattle.std.proofs.Common.{◌≡◌, drop}
use Rattle.page_endings.specs.Ending.{bytes_behind}
use Rattle.state_testing.proofs.fixed.bytes_behind.Given as goal

abbrev pub invariant-loop-c : goal.invariant-loop-c
invariant-loop-c l = bytes_behind l.rest (drop l.c-index l.value) ≡ bytes_behind l.wanted l.value
