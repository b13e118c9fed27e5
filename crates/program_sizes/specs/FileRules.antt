-- The rules on functions, tested on files before their includes are replaced. Behind the functions of the files may stand stubs.
use Rattle.std.specs.Prelude.{◌≡◌, ℕ, true, List, ◌++◌}
use Rattle.std.specs.List.{Contains}
use Rattle.php_syntax.specs.Trees.{PlainFunction}
use Rattle.program_rules.specs.Calls.{PlainCall, function_calls}
use Rattle.program_rules.specs.Programs.{ReadFile, functions_in}
use Rattle.program_rules.specs.Rules.{DefinesTwice, is_known, serves_call}
use Rattle.include_expansion.specs.FileCalls.{calls_in_files}

-- the functions of files, each file's in turn, and behind them stubs
abbrev pub all_functions : List ReadFile → List PlainFunction → List PlainFunction
all_functions files stubs = functions_in files ++ stubs

-- the calls in files, each file's in turn, and behind them those in stubs
abbrev pub all_calls : List ReadFile → List PlainFunction → List PlainCall
all_calls files stubs = calls_in_files files ++ function_calls stubs

-- no function is defined twice or as one of PHP's
abbrev pub AreOnce : List ReadFile → List PlainFunction → Type 0
AreOnce files stubs = (name : List ℕ) → DefinesTwice (all_functions files stubs) name → ⊥

-- each call is of a function that there is
abbrev pub AreKnown : List ReadFile → List PlainFunction → Type 0
AreKnown files stubs = (call : PlainCall) → Contains (all_calls files stubs) call → is_known (all_functions files stubs) call ≡ true

-- and hands in as many arguments as the function takes
abbrev pub AreServed : List ReadFile → List PlainFunction → Type 0
AreServed files stubs = (call : PlainCall) → Contains (all_calls files stubs) call → serves_call (all_functions files stubs) call ≡ true

-- the rules on functions, kept by these files and stubs together
pub record KeepFunctionRules (files : List ReadFile) (stubs : List PlainFunction) : Type 0 where
  pub once : AreOnce files stubs
  pub known : AreKnown files stubs
  pub served : AreServed files stubs
