use Rattle.std.proofs.Common.{◌≡◌, ◌++◌}
use Rattle.toml.specs.View.{members_view}
use Rattle.call_options.specs.Members as spec
use Rattle.call_options.specs.Views.{settings_as}
use Rattle.call_options.proofs.members.settings_in.Given as goal

-- the options so far and those that are left
abbrev pub invariant-loop-name : goal.invariant-loop-name
invariant-loop-name l = spec.settings_in (members_view l.table.entries) ≡ settings_as l.settings.items ++ spec.settings_in (members_view l.name-iterator)
