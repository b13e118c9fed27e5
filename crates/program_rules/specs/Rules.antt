-- The rules on the functions of a program (PHP manual, "User-defined functions" and "Function parameters and arguments").
use Rattle.std.specs.Prelude.{◌≡◌, ◌⊎◌, ℕ, zero, suc, Bool, true, false, ◌&&◌, ◌||◌, nat_le, List, [], ◌∷◌, Option, Some, None, bytes_eq}
use Rattle.std.specs.List.{Contains, list_any}
use Rattle.php_syntax.specs.Trees.{MaybeExpr, no_expr, some_expr, PlainParam, PlainFunction}
use Rattle.builtin_meaning.specs.declared.builtin.Builtin.{Builtin}
use Rattle.builtin_meaning.specs.Names.{builtin_named}
use Rattle.builtin_meaning.specs.Arity.{arity_of}
use Rattle.script_meaning.specs.Programs.{PlainProgram, function_named}
use Rattle.program_rules.specs.Calls.{PlainCall, calls_of_program}

-- whether there is one
abbrev pub is_there : {A : Type 0} → Option A → Bool
is_there None = false
is_there (Some x) = true

-- a name is that of one of PHP's functions, or stands again further on
abbrev pub is_double : List ℕ → List PlainFunction → Bool
is_double name fs = is_there (builtin_named name) || list_any (λ (f : PlainFunction). bytes_eq f.name_of name) fs

-- a name is defined twice, or as one of PHP's functions
unfoldable pub DefinesTwice : List PlainFunction → List ℕ → Type 0
DefinesTwice [] name = ⊥
DefinesTwice (f ∷ fs) name = ((f.name_of ≡ name) × (is_double name fs ≡ true)) ⊎ DefinesTwice fs name

-- whether a default is written
abbrev pub has_default : MaybeExpr → Bool
has_default no_expr = false
has_default (some_expr e) = true

-- each parameter has a default
unfoldable pub have_defaults : List PlainParam → Bool
have_defaults [] = true
have_defaults (p ∷ ps) = has_default p.default_of && have_defaults ps

-- so many arguments serve these parameters: there are no more of them, and those that are left out have defaults
unfoldable pub serves : ℕ → List PlainParam → Bool
unfolding have_defaults
serves zero ps = have_defaults ps
serves (suc n) [] = false
serves (suc n) (p ∷ ps) = serves n ps

-- a call names a function that there is
abbrev pub is_known : List PlainFunction → PlainCall → Bool
is_known functions call = is_there (builtin_named call.name_of) || is_there (function_named functions call.name_of)

-- the numbers of arguments that one of PHP's functions takes
abbrev pub serves_builtin : ℕ → Builtin → Bool
serves_builtin n f = nat_le (arity_of f).0 n && nat_le n (arity_of f).1

-- a call hands in as many arguments as the function takes, if there is one
abbrev pub serves_call : List PlainFunction → PlainCall → Bool
serves_call functions call = served (builtin_named call.name_of) (function_named functions call.name_of) call.arguments
  where
    served : Option Builtin → Option PlainFunction → ℕ → Bool
    served (Some f) own n = serves_builtin n f
    served None (Some f) n = serves n f.params_of
    served None None n = true

-- the rules: no function is defined twice or as one of PHP's, each call is known, and each hands in as many arguments as its function takes
pub record KeepsRules (program : PlainProgram) : Type 0 where
  pub once : (name : List ℕ) → DefinesTwice program.functions_of name → ⊥
  pub known : (call : PlainCall) → Contains (calls_of_program program) call → is_known program.functions_of call ≡ true
  pub served : (call : PlainCall) → Contains (calls_of_program program) call → serves_call program.functions_of call ≡ true
