-- What files that were read make, with stubs behind their functions, and why they make no program. No public clause cites this.
use Rattle.std.specs.Prelude.{◌≡◌, ◌⊎◌, ℕ, true, List, length, Option}
use Rattle.php_syntax.specs.Trees.{PlainFunction, PlainFile}
use Rattle.script_meaning.specs.Programs.{PlainProgram}
use Rattle.program_rules.specs.Limits.{IsWithin}
use Rattle.program_rules.specs.Programs.{ReadFile}
use Rattle.program_files.specs.declared.refusal.LoadRefusal.{LoadRefusal}
use Rattle.program_files.specs.Order.{is_read}
use Rattle.program_files.specs.Source.{SourceCall, source_call}
use Rattle.program_files.specs.Causes.{ReadsAll}
use Rattle.program_files.specs.Stubs.{ReadsStubs, IsStubCause}
use Rattle.include_expansion.specs.Within.{tree_named, program_within, IsIncludeOrder}
use Rattle.include_expansion.specs.FileOrder.{AreWhole, IsOrderCause}
use Rattle.program_sizes.specs.Limits.{program_places, IsSizeCause}
use Rattle.program_sizes.specs.FileRules.{KeepFunctionRules}
use Rattle.program_sizes.specs.Loaded.{AreScripts, AreStubs, with_stubs, MakeProgram}
use Rattle.function_rules.specs.Causes.{IsFunctionCause}
use Rattle.program_loader.specs.Told.{stubs_for}

-- files that may make a program of a name: each is a script, none has the name of another, and all that they include is among them
pub record AreReady (files : List ReadFile) (name : List ℕ) : Type 0 where
  pub whole : AreWhole files
  pub scripts : AreScripts files
  pub named : is_read files name ≡ true

-- they have an order of their includes, of so many names, and keep the rules with these stubs, and their program, from this tree, is within
-- the limits
pub record AreChecked (files : List ReadFile) (stubs : List PlainFunction) (nesting : ℕ) (tree : PlainFile) : Type 0 where
  pub scripts : AreScripts files
  pub are_stubs : AreStubs stubs
  pub name : List ℕ
  pub tree_is : tree ≡ tree_named files name
  pub order : List (List ℕ)
  pub sorted : IsIncludeOrder files order
  pub size : length order ≡ nesting
  pub rules : KeepFunctionRules files stubs
  pub within : IsWithin (program_places files nesting tree) (with_stubs stubs (program_within files nesting tree))

-- they make this program, where a file of stubs has these functions
abbrev pub Make : List ReadFile → List PlainFunction → List ℕ → PlainProgram → Type 0
Make files functions name program = (order : List (List ℕ)) × MakeProgram files (stubs_for files functions) order name program

-- the functions of files with an order of their includes break the rules
pub record BreakRules (files : List ReadFile) (functions : List PlainFunction) (refusal : LoadRefusal) : Type 0 where
  pub order : List (List ℕ)
  pub sorted : IsIncludeOrder files order
  pub cause : IsFunctionCause files (stubs_for files functions) refusal

-- files that keep the rules make a program that passes a limit
pub record PassLimit (files : List ReadFile) (functions : List PlainFunction) (name : List ℕ) (refusal : LoadRefusal) : Type 0 where
  pub order : List (List ℕ)
  pub sorted : IsIncludeOrder files order
  pub rules : KeepFunctionRules files (stubs_for files functions)
  pub cause : IsSizeCause (program_places files (length order) (tree_named files name))
      (with_stubs (stubs_for files functions) (program_within files (length order) (tree_named files name))) refusal

-- why they make none: a file includes itself, a rule is broken, or a limit is passed
abbrev pub IsMakeCause : List ReadFile → List PlainFunction → List ℕ → LoadRefusal → Type 0
IsMakeCause files functions name refusal =
    IsOrderCause files refusal ⊎ (BreakRules files functions refusal ⊎ PassLimit files functions name refusal)

-- all files were read, up to these counts, and then the file of stubs, if there is one
pub record ReadBoth (call : SourceCall) (root name : List ℕ) (stubs : Option (List ℕ)) (files : List ReadFile)
    (functions : List PlainFunction) : Type 0 where
  pub faults : ℕ
  pub misses : ℕ
  pub reads : ℕ
  pub all : ReadsAll (source_call call.content call.faults faults call.misses misses call.reads reads) root name files
  pub then_stubs : ReadsStubs (source_call call.content faults call.faults' misses call.misses' reads call.reads') stubs functions

-- all files were read, up to these counts, and then the file of stubs was refused
pub record ReadFirst (call : SourceCall) (root name : List ℕ) (stubs : Option (List ℕ)) (refusal : LoadRefusal) : Type 0 where
  pub files : List ReadFile
  pub faults : ℕ
  pub misses : ℕ
  pub reads : ℕ
  pub all : ReadsAll (source_call call.content call.faults faults call.misses misses call.reads reads) root name files
  pub cause : IsStubCause (source_call call.content faults call.faults' misses call.misses' reads call.reads') stubs refusal
