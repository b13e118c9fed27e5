use Rattle.std.proofs.Common.{◌≡◌, ◌++◌, drop}
use Rattle.std.specs.Str.{str_to_ascii_lowercase}
use Rattle.piece_reasons.proofs.finding.lowered.Given as goal

abbrev pub invariant-loop-c : goal.invariant-loop-c
invariant-loop-c l = l.lower.items ++ str_to_ascii_lowercase (drop l.c-index l.cs) ≡ str_to_ascii_lowercase l.cs
