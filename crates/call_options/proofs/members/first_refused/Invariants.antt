use Rattle.std.proofs.Common.{◌≡◌}
use Rattle.toml.specs.View.{members_view}
use Rattle.call_options.specs.Members as spec
use Rattle.call_options.proofs.members.first_refused.Given as goal

-- what is left to look at decides
abbrev pub invariant-loop-name : goal.invariant-loop-name
invariant-loop-name l = spec.first_refused (members_view l.table.entries) ≡ spec.first_refused (members_view l.name-iterator)
