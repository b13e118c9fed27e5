-- What every program in memory keeps.
use Rattle.std.specs.Prelude.{◌≡◌, ◌≤◌, ℕ, List, true}
use Rattle.std.specs.List.{Contains}
use Rattle.php_syntax.specs.declared.tree.Stmt.{Stmt}
use Rattle.php_syntax.specs.declared.tree.FunctionDef.{FunctionDef}
use Rattle.php_syntax.specs.Trees.{stmts_of, functions_of_list}
use Rattle.php_syntax.specs.Height.{file_nodes, file_height}
use Rattle.script_grammar.specs.Rules.{file_fits}
use Rattle.spellable.specs.Spellable.{is_spellable}
use Rattle.script_meaning.specs.Programs.{PlainProgram}
use Rattle.program_rules.specs.declared.limits.TheConstants.{NODE_LIMIT, PROGRAM_HEIGHT_LIMIT}
use Rattle.program_rules.specs.Includes.{includes_of_file}
use Rattle.program_rules.specs.Limits.{as_file}
use Rattle.program_rules.specs.Rules.{KeepsRules}

-- the plain form of these statements and functions
abbrev pub program_with : List Stmt → List FunctionDef → PlainProgram
program_with main functions = record { main_of = stmts_of main; functions_of = functions_of_list functions }

-- no include is left
abbrev pub HasNoInclude : PlainProgram → Type 0
HasNoInclude program = (path : List ℕ) → Contains (includes_of_file (as_file program)) path → ⊥

-- each part has a form of the grammar: names are names, a default is a literal, and every list has as many members as it has to have
abbrev pub IsOfGrammar : PlainProgram → Type 0
IsOfGrammar program = is_spellable (as_file program) ≡ true

-- the rules beside the grammar: no variable of the request is written, `break` stands in a loop, `return` in a function, parameters differ
abbrev pub FitsGrammar : PlainProgram → Type 0
FitsGrammar program = file_fits (as_file program) ≡ true

-- all of it
pub record IsLawful (program : PlainProgram) : Type 0 where
  pub whole : HasNoInclude program
  pub of_grammar : IsOfGrammar program
  pub fits : FitsGrammar program
  pub rules : KeepsRules program
  pub nodes_within : file_nodes (as_file program) ≤ NODE_LIMIT
  pub height_within : file_height (as_file program) ≤ PROGRAM_HEIGHT_LIMIT
