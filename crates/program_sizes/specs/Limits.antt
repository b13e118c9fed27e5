-- Whether the program that files stand for is within the limits, and which limit it passes first: places of includes, nodes, height.
use Rattle.std.specs.Prelude.{◌≡◌, ◌≤◌, ◌<◌, ◌⊎◌, ⊤, ℕ, ◌+◌, List, [], ◌∷◌}
use Rattle.php_syntax.specs.Trees.{PlainFunction, PlainFile}
use Rattle.php_syntax.specs.Height.{file_nodes, file_height}
use Rattle.script_meaning.specs.Programs.{PlainProgram}
use Rattle.program_rules.specs.declared.limits.TheConstants.{PLACE_LIMIT, NODE_LIMIT, PROGRAM_HEIGHT_LIMIT}
use Rattle.program_rules.specs.Includes.{includes_in}
use Rattle.program_rules.specs.Limits.{one_each, as_file}
use Rattle.program_rules.specs.Programs.{ReadFile, functions_in}
use Rattle.program_files.specs.declared.refusal.LoadRefusal.{LoadRefusal}
use Rattle.program_files.specs.declared.refusal.LoadRefusal.TheVariants.{Missing, Outside, ReadFault, TooLong, Script, IncludeCycle, DoubleFunction, UnknownFunction, Arity, TooMany, Memory}
use Rattle.include_expansion.specs.Within.{places_within}

-- the places of includes in the bodies of functions, where includes are replaced so many times over
unfoldable pub function_places : List ReadFile → ℕ → List PlainFunction → ℕ
function_places files n [] = 0
function_places files n (f ∷ fs) = one_each (places_within files n) (includes_in f.body_of) + function_places files n fs

-- and in the program of a tree
abbrev pub program_places : List ReadFile → ℕ → PlainFile → ℕ
program_places files n tree = one_each (places_within files n) (includes_in tree.body_of) + function_places files n (functions_in files)

-- a program, for which so many places of includes are replaced, passes a limit, and no limit before that one; the count is that limit and
-- one more
abbrev pub PassesLimit : ℕ → PlainProgram → ℕ → Type 0
PassesLimit places program count =
    ((PLACE_LIMIT < places) × (count ≡ PLACE_LIMIT + 1))
    ⊎ ((places ≤ PLACE_LIMIT) × (NODE_LIMIT < file_nodes (as_file program)) × (count ≡ NODE_LIMIT + 1))
    ⊎ ((places ≤ PLACE_LIMIT) × (file_nodes (as_file program) ≤ NODE_LIMIT) × (PROGRAM_HEIGHT_LIMIT < file_height (as_file program))
    × (count ≡ PROGRAM_HEIGHT_LIMIT + 1))

-- why a program is too large
abbrev pub IsSizeCause : ℕ → PlainProgram → LoadRefusal → Type 0
IsSizeCause places program (Missing name) = ⊥
IsSizeCause places program (Outside name) = ⊥
IsSizeCause places program (ReadFault name) = ⊥
IsSizeCause places program (TooLong name len) = ⊥
IsSizeCause places program (Script name fault) = ⊥
IsSizeCause places program (IncludeCycle name) = ⊥
IsSizeCause places program (DoubleFunction name) = ⊥
IsSizeCause places program (UnknownFunction name) = ⊥
IsSizeCause places program (Arity name) = ⊥
IsSizeCause places program (TooMany count) = PassesLimit places program count
IsSizeCause places program Memory = ⊤
