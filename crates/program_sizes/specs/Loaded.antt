-- What files say of the program that they stand for, with stubs behind their functions.
use Rattle.std.specs.Prelude.{◌≡◌, ℕ, ◌+◌, ◌++◌, true, List, [], length}
use Rattle.std.specs.List.{Contains}
use Rattle.php_syntax.specs.Trees.{PlainFunction, PlainFile}
use Rattle.script_grammar.specs.Rules.{functions_fit, file_fits}
use Rattle.spellable.specs.Spellable.{functions_spellable, is_spellable}
use Rattle.script_meaning.specs.Programs.{PlainProgram}
use Rattle.program_rules.specs.Bodies.{file_with_bodies, include_of}
use Rattle.program_rules.specs.Files.{Held, HasTree}
use Rattle.program_rules.specs.Includes.{includes_in_functions}
use Rattle.program_rules.specs.Expansion.{StandsFor}
use Rattle.program_rules.specs.Limits.{HasPlaces, HavePlaces, IsWithin}
use Rattle.program_rules.specs.Programs.{ReadFile, functions_in, TableStandsFor}
use Rattle.include_expansion.specs.Within.{tree_named, program_within, IsIncludeOrder}
use Rattle.program_sizes.specs.FileRules.{KeepFunctionRules}
use Rattle.program_sizes.specs.Limits.{program_places}

-- a tree is that of a script with each include by another path, and the script has the forms of the grammar and keeps the rules beside it,
-- as one that is read does
pub record IsOfScript (tree : PlainFile) : Type 0 where
  pub script : PlainFile
  pub found : List ℕ → List ℕ
  pub is : tree ≡ file_with_bodies (λ written. include_of (found written)) script
  pub spellable : is_spellable script ≡ true
  pub fits : file_fits script ≡ true

-- each file is one of a script
abbrev pub AreScripts : List ReadFile → Type 0
AreScripts files = (file : ReadFile) → Contains files file → IsOfScript file.tree

-- functions may stand behind those of files as they are: they have the forms of the grammar, keep the rules beside it and include nothing
pub record AreStubs (stubs : List PlainFunction) : Type 0 where
  pub spellable : functions_spellable stubs ≡ true
  pub fit : functions_fit stubs ≡ true
  pub whole : includes_in_functions stubs ≡ []

-- a program with stubs behind its functions
abbrev pub with_stubs : List PlainFunction → PlainProgram → PlainProgram
with_stubs stubs program = record { main_of = program.main_of; functions_of = program.functions_of ++ stubs }

-- files are those of a name, in an order of their includes, and keep the rules and the limits with these stubs: their program
pub record MakeProgram (files : List ReadFile) (stubs : List PlainFunction) (order : List (List ℕ)) (name : List ℕ)
    (program : PlainProgram) : Type 0 where
  pub sorted : IsIncludeOrder files order
  pub rules : KeepFunctionRules files stubs
  pub within : IsWithin (program_places files (length order) (tree_named files name)) program
  pub program_is : program ≡ with_stubs stubs (program_within files (length order) (tree_named files name))

-- the file of a name, whose program reads these files, stands for a program with these stubs, however large: so many places of includes are
-- replaced
pub record StandsForProgram (held : Held) (name : List ℕ) (files : List ReadFile) (stubs : List PlainFunction) (places : ℕ)
    (program : PlainProgram) : Type 0 where
  pub tree : PlainFile
  pub spelled : HasTree held name tree
  pub main : StandsFor held tree.body_of program.main_of
  pub own : List PlainFunction
  pub stand : TableStandsFor held (functions_in files) own
  pub functions : program.functions_of ≡ own ++ stubs
  pub own_places : ℕ
  pub has_places : HasPlaces held tree.body_of own_places
  pub function_places : ℕ
  pub have_places : HavePlaces held (functions_in files) function_places
  pub all_places : places ≡ own_places + function_places
