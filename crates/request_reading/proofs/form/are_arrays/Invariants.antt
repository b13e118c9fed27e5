use Rattle.std.proofs.Common.{◌≡◌}
use Rattle.serde_json.specs.View.{members_view}
use Rattle.request_reading.specs.RequestFile as spec
use Rattle.request_reading.proofs.form.are_arrays.Given as goal

-- what is left to look at decides
abbrev pub invariant-loop-name : goal.invariant-loop-name
invariant-loop-name l = spec.are_arrays (members_view l.members.entries) ≡ spec.are_arrays (members_view l.name-iterator)
