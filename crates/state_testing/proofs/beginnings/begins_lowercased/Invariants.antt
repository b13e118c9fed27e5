use Rattle.std.proofs.Common.{◌≡◌, drop}
use Rattle.std.specs.Str.{str_to_ascii_lowercase}
use Rattle.page_steps.specs.DoctypeSteps.{begins}
use Rattle.state_testing.proofs.beginnings.begins_lowercased.Given as goal

abbrev pub invariant-loop-c : goal.invariant-loop-c
invariant-loop-c l = begins l.rest (str_to_ascii_lowercase (drop l.c-index l.front)) ≡ begins l.whole (str_to_ascii_lowercase l.front)
