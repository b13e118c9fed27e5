-- The plain form of what the code gives.
use Rattle.std.specs.Prelude.{List, map, string_bytes}
use Rattle.call_options.specs.Members.{Setting}
use Rattle.call_options.specs.Members as members
use Rattle.call_options.specs.declared.setting.Setting as code
use Rattle.call_options.specs.declared.setting.Kind.{Kind}
use Rattle.call_options.specs.declared.setting.Kind.TheVariants.{Name, Number}

-- an option and its value as their bytes
abbrev pub setting_as : code.Setting → Setting
setting_as setting = (string_bytes setting.name, string_bytes setting.value)

-- options and their values as their bytes
abbrev pub settings_as : List code.Setting → List Setting
settings_as settings = map setting_as settings

-- a kind of the code as one of the definitions
abbrev pub kind_as : Kind → members.Kind
kind_as Name = members.name
kind_as Number = members.number
