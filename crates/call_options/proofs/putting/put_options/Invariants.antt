use Rattle.std.proofs.Common.{◌≡◌, map, drop, string_bytes}
use Rattle.call_options.specs.Views.{settings_as}
use Rattle.call_options.specs.Words as spec
use Rattle.call_options.proofs.putting.put_options.Given as goal

-- what is left to put in makes of the words so far what all make of all
abbrev pub invariant-loop-setting : goal.invariant-loop-setting
invariant-loop-setting l =
    spec.with_options (map string_bytes l.words.items) (settings_as (drop l.setting-index l.settings)) ≡ spec.with_options (map string_bytes l.fn.words.items) (settings_as l.settings)
