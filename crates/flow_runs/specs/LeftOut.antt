-- The arguments that the calls of a program leave out.
use Rattle.std.specs.Prelude.{ℕ, ◌+◌, List, [], ◌∷◌, length, drop, Option, Some, None}
use Rattle.php_syntax.specs.Trees.{PlainFunction}
use Rattle.builtin_meaning.specs.declared.builtin.Builtin.{Builtin}
use Rattle.builtin_meaning.specs.Names.{builtin_named}
use Rattle.script_meaning.specs.Programs.{function_named}
use Rattle.program_rules.specs.Calls.{PlainCall}

-- of a function of the script, the parameters behind the arguments; of one of PHP's functions none
abbrev pub left_out_of : Option Builtin → Option PlainFunction → ℕ → ℕ
left_out_of (Some b) own n = 0
left_out_of None None n = 0
left_out_of None (Some f) n = length (drop n f.params_of)

-- how many arguments all these calls leave out
abbrev pub left_out : List PlainFunction → List PlainCall → ℕ
left_out functions [] = 0
left_out functions (call ∷ calls) =
    left_out_of (builtin_named call.name_of) (function_named functions call.name_of) call.arguments + left_out functions calls
