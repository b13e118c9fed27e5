-- Texts within the limit of a run.
use Rattle.std.specs.Prelude.{◌<◌, ℕ, Bool, List, length, nat_le, ◌++◌}
use Rattle.std.specs.List.{Contains, list_all}
use Rattle.text_base.specs.declared.limits.TheConstants.{TEXT_LIMIT}
use Rattle.script_meaning.specs.Programs.{PlainProgram}
use Rattle.flow_runs.specs.Texts.{statement_texts, function_texts}

-- whether a text is within the limit of a run
abbrev pub is_short : List ℕ → Bool
is_short t = nat_le (length t) TEXT_LIMIT

-- whether each of the texts is
unfoldable pub all_short : List (List ℕ) → Bool
all_short ts = list_all is_short ts

-- a text literal of the program is too long to be a text of a run
pub record HasLongText (program : PlainProgram) : Type 0 where
  pub long : List ℕ
  pub stands : Contains (statement_texts program.main_of ++ function_texts program.functions_of) long
  pub is_long : TEXT_LIMIT < length long
