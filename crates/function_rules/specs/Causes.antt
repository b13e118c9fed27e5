-- Why the rules on functions are broken, and by which name (PHP manual, "User-defined functions", "Function parameters and arguments").
use Rattle.std.specs.Prelude.{◌≡◌, ⊤, ℕ, Bool, not, List, Some, None}
use Rattle.std.specs.List.{find}
use Rattle.php_syntax.specs.Trees.{PlainFunction}
use Rattle.program_rules.specs.Calls.{PlainCall}
use Rattle.program_rules.specs.Programs.{ReadFile}
use Rattle.program_rules.specs.Rules.{DefinesTwice, is_known, serves_call}
use Rattle.program_files.specs.declared.refusal.LoadRefusal.{LoadRefusal}
use Rattle.program_files.specs.declared.refusal.LoadRefusal.TheVariants.{Missing, Outside, ReadFault, TooLong, Script, IncludeCycle, DoubleFunction, UnknownFunction, Arity, TooMany, Memory}
use Rattle.program_sizes.specs.FileRules.{all_functions, all_calls, AreOnce, AreKnown}

-- a call of no function that there is
abbrev pub is_unknown : List PlainFunction → PlainCall → Bool
is_unknown functions call = not (is_known functions call)

-- a call with too few or too many arguments
abbrev pub is_misused : List PlainFunction → PlainCall → Bool
is_misused functions call = not (serves_call functions call)

-- the first call that passes a test is of this name
abbrev pub IsFirst : (PlainCall → Bool) → List PlainCall → List ℕ → Type 0
IsFirst test calls name = (call : PlainCall) × (find test calls ≡ Some call) × (call.name_of ≡ name)

-- no call passes a test
abbrev pub NoneIs : (PlainCall → Bool) → List PlainCall → Type 0
NoneIs test calls = find test calls ≡ None

-- why the definitions of functions are refused
abbrev pub IsDoubleCause : List PlainFunction → LoadRefusal → Type 0
IsDoubleCause functions (Missing name) = ⊥
IsDoubleCause functions (Outside name) = ⊥
IsDoubleCause functions (ReadFault name) = ⊥
IsDoubleCause functions (TooLong name len) = ⊥
IsDoubleCause functions (Script name fault) = ⊥
IsDoubleCause functions (IncludeCycle name) = ⊥
IsDoubleCause functions (DoubleFunction name) = DefinesTwice functions name
IsDoubleCause functions (UnknownFunction name) = ⊥
IsDoubleCause functions (Arity name) = ⊥
IsDoubleCause functions (TooMany count) = ⊥
IsDoubleCause functions Memory = ⊤

-- why calls are refused for their names
abbrev pub IsUnknownCause : List PlainFunction → List PlainCall → LoadRefusal → Type 0
IsUnknownCause functions calls (Missing name) = ⊥
IsUnknownCause functions calls (Outside name) = ⊥
IsUnknownCause functions calls (ReadFault name) = ⊥
IsUnknownCause functions calls (TooLong name len) = ⊥
IsUnknownCause functions calls (Script name fault) = ⊥
IsUnknownCause functions calls (IncludeCycle name) = ⊥
IsUnknownCause functions calls (DoubleFunction name) = ⊥
IsUnknownCause functions calls (UnknownFunction name) = IsFirst (is_unknown functions) calls name
IsUnknownCause functions calls (Arity name) = ⊥
IsUnknownCause functions calls (TooMany count) = ⊥
IsUnknownCause functions calls Memory = ⊤

-- and for their arguments
abbrev pub IsArityCause : List PlainFunction → List PlainCall → LoadRefusal → Type 0
IsArityCause functions calls (Missing name) = ⊥
IsArityCause functions calls (Outside name) = ⊥
IsArityCause functions calls (ReadFault name) = ⊥
IsArityCause functions calls (TooLong name len) = ⊥
IsArityCause functions calls (Script name fault) = ⊥
IsArityCause functions calls (IncludeCycle name) = ⊥
IsArityCause functions calls (DoubleFunction name) = ⊥
IsArityCause functions calls (UnknownFunction name) = ⊥
IsArityCause functions calls (Arity name) = IsFirst (is_misused functions) calls name
IsArityCause functions calls (TooMany count) = ⊥
IsArityCause functions calls Memory = ⊤

-- why the files of a program, with stubs behind their functions, break the rules on functions: the first rule that is broken, in this order
abbrev pub IsFunctionCause : List ReadFile → List PlainFunction → LoadRefusal → Type 0
IsFunctionCause files stubs (Missing name) = ⊥
IsFunctionCause files stubs (Outside name) = ⊥
IsFunctionCause files stubs (ReadFault name) = ⊥
IsFunctionCause files stubs (TooLong name len) = ⊥
IsFunctionCause files stubs (Script name fault) = ⊥
IsFunctionCause files stubs (IncludeCycle name) = ⊥
IsFunctionCause files stubs (DoubleFunction name) = DefinesTwice (all_functions files stubs) name
IsFunctionCause files stubs (UnknownFunction name) =
    AreOnce files stubs × IsFirst (is_unknown (all_functions files stubs)) (all_calls files stubs) name
IsFunctionCause files stubs (Arity name) =
    AreOnce files stubs × AreKnown files stubs × IsFirst (is_misused (all_functions files stubs)) (all_calls files stubs) name
IsFunctionCause files stubs (TooMany count) = ⊥
IsFunctionCause files stubs Memory = ⊤
