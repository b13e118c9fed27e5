-- A table of functions by their names, and what is known while it is made. No public clause cites this.
use Rattle.std.specs.Prelude.{◌≡◌, ◌++◌, ℕ, List, Some, None, MatchOption, bytes_eq}
use Rattle.indexmap.specs.IndexMap.{IndexMap, get}
use Rattle.php_syntax.specs.Trees.{PlainFunction}
use Rattle.script_meaning.specs.Programs.{function_named}
use Rattle.program_rules.specs.Rules.{DefinesTwice}
use Rattle.function_rules.specs.declared.arity.Numbers.{Numbers}
use Rattle.function_rules.specs.Arguments.{AreNumbersOf}
use Rattle.program_files.specs.declared.refusal.LoadRefusal.{LoadRefusal}
use Rattle.function_rules.specs.Causes.{IsDoubleCause}

-- the first function of a name takes these numbers of arguments
pub record Takes (functions : List PlainFunction) (name : List ℕ) (numbers : Numbers) : Type 0 where
  pub function : PlainFunction
  pub named : function_named functions name ≡ Some function
  pub takes : AreNumbersOf numbers function.params_of

-- a table has a row for the name of each function, and no other
abbrev pub IsTable : {S : Type 0} → IndexMap (List ℕ) Numbers S → List PlainFunction → Type 0
IsTable rows functions = (name : List ℕ)
    → MatchOption (get bytes_eq rows name) (function_named functions name ≡ None) (Takes functions name)

-- whatever the functions of a table are, this holds of them
abbrev pub OfTable : {S : Type 0} → IndexMap (List ℕ) Numbers S → (List PlainFunction → Type 0) → Type 0
OfTable rows So = (functions : List PlainFunction) → IsTable rows functions → So functions

-- the first of all functions are in the table, where no name stands twice; these are left
pub record HasPut {S : Type 0} (rows : IndexMap (List ℕ) Numbers S) (rest all : List PlainFunction) : Type 0 where
  pub done : List PlainFunction
  pub split : done ++ rest ≡ all
  pub table : IsTable rows done
  pub once : (name : List ℕ) → DefinesTwice done name → ⊥

-- these functions, which are the next, are put into a table
abbrev pub Puts : {S : Type 0} → IndexMap (List ℕ) Numbers S → IndexMap (List ℕ) Numbers S → List PlainFunction → Type 0
Puts old new functions = (rest all : List PlainFunction) → HasPut old (functions ++ rest) all → HasPut new rest all

-- one of them is a double, whatever is left behind them
abbrev pub PutsNone : {S : Type 0} → IndexMap (List ℕ) Numbers S → List PlainFunction → LoadRefusal → Type 0
PutsNone old functions refusal = (rest all : List PlainFunction) → HasPut old (functions ++ rest) all → IsDoubleCause all refusal
