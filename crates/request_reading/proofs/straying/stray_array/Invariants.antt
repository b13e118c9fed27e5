use Rattle.std.proofs.Common.{◌≡◌}
use Rattle.serde_json.specs.View.{members_view}
use Rattle.request_reading.specs.Admission as spec
use Rattle.request_reading.proofs.straying.stray_array.Given as goal

-- what is left to look at decides
abbrev pub invariant-loop-name : goal.invariant-loop-name
invariant-loop-name l = spec.stray_array (members_view l.arrays.entries) ≡ spec.stray_array (members_view l.name-iterator)
