-- How reading goes on by one include and by one file. No public clause cites this.
use Rattle.std.specs.Prelude.{◌≡◌, ◌<◌, ◌≤◌, ◌⊎◌, ℕ, ◌+◌, true, false, Bool, if◌then◌else◌, ◌||◌, List, [], ◌∷◌, ◌++◌, map, drop, length, Some, None, string_bytes, bytes_eq, ⊤}
use Rattle.std.specs.List.{list_any, Contains}
use Rattle.text_base.specs.declared.limits.TheConstants.{FILE_LIMIT}
use Rattle.io_edge.specs.Counts.{Rises, one_more}
use Rattle.io_edge.specs.Told.{Tells, HasAtLeast}
use Rattle.io_edge.specs.Names.{beside, is_outside}
use Rattle.php_syntax.specs.Trees.{PlainFile, PlainStmts}
use Rattle.script_grammar.specs.Rules.{is_utf8}
use Rattle.program_rules.specs.declared.limits.TheConstants.{PLACE_LIMIT}
use Rattle.program_rules.specs.Bodies.{include_of, file_with_bodies}
use Rattle.program_rules.specs.Files.{has_one_place}
use Rattle.program_rules.specs.Includes.{includes_of_file}
use Rattle.program_rules.specs.Programs.{ReadFile}
use Rattle.program_files.specs.declared.refusal.LoadRefusal.{LoadRefusal}
use Rattle.program_files.specs.declared.refusal.LoadRefusal.TheVariants.{Missing, Outside, ReadFault, TooLong, Script, IncludeCycle, DoubleFunction, UnknownFunction, Arity, TooMany, Memory}
use Rattle.program_files.specs.declared.places.Look.{Look}
use Rattle.program_files.specs.declared.places.Look.TheVariants as look
use Rattle.program_files.specs.declared.places.Step.{Step}
use Rattle.program_files.specs.declared.places.Step.TheVariants as step
use Rattle.program_files.specs.Order.{is_read}
use Rattle.program_files.specs.Source.{SourceCall}
use Rattle.program_files.specs.Scripts.{IsScript, IsScriptFault}

-- an include: the file that names it, and its name as it is written
abbrev pub Include : Type 0
Include = List ℕ × List ℕ

-- the includes of a file
abbrev pub written_in : List ℕ → PlainFile → List Include
written_in file tree = map (λ (written : List ℕ). (file, written)) (includes_of_file tree)

-- a name is among some
abbrev pub is_among : List (List ℕ) → List ℕ → Bool
is_among names path = list_any (bytes_eq path) names

-- a name was asked for
abbrev pub WasAsked : List ReadFile → List (List ℕ) → List ℕ → Type 0
WasAsked files missed path = (is_read files path ≡ true) ⊎ (is_among missed path ≡ true)

-- an include's place in the folder of a file is this, in the root, and was not asked for
abbrev pub IsUnasked : List ℕ → List ReadFile → List (List ℕ) → List ℕ → List ℕ → List ℕ → Type 0
IsUnasked root files missed file written place =
    (is_outside root file written ≡ false) × (is_read files (beside file written) ≡ false) × (is_among missed (beside file written) ≡ false)
    × (place ≡ beside file written)

-- and was asked for, and missed
abbrev pub IsMissedAt : List ℕ → List (List ℕ) → List ℕ → List ℕ → Type 0
IsMissedAt root missed file written = (is_outside root file written ≡ false) × (is_among missed (beside file written) ≡ true)

-- what is next of an include, by its place in the folder of a file
abbrev pub IsLookAt : List ℕ → List ReadFile → List (List ℕ) → List ℕ → List ℕ → Look → Type 0
IsLookAt root files missed file written look.Found =
    (is_outside root file written ≡ false) × (is_read files (beside file written) ≡ true)
IsLookAt root files missed file written (look.Ask place) = IsUnasked root files missed file written (string_bytes place)
IsLookAt root files missed file written look.Missed = IsMissedAt root missed file written
IsLookAt root files missed file written look.LeadsOut = is_outside root file written ≡ true

-- a name that was missed in one place was looked for in its last
abbrev pub IsLast : List ℕ → Look → Type 0
IsLast written look.Found = ⊤
IsLast written (look.Ask place) = ⊤
IsLast written look.Missed = has_one_place written ≡ true
IsLast written look.LeadsOut = ⊤

-- what is next of an include: by its first place, or, where it has two and the first was missed, by the second
abbrev pub IsLook : List ℕ → List ℕ → List ReadFile → List (List ℕ) → Include → Look → Type 0
IsLook root main files missed include l =
    (IsLookAt root files missed main include.1 l × IsLast include.1 l)
    ⊎ (IsLookAt root files missed main include.1 look.Missed × (has_one_place include.1 ≡ false)
    × IsLookAt root files missed include.0 include.1 l)

-- a name that was not asked for is the next place of an include
abbrev pub IsNextPlace : List ℕ → List ℕ → List ReadFile → List (List ℕ) → Include → List ℕ → Type 0
IsNextPlace root main files missed include place =
    (IsUnasked root files missed main include.1 place × ⊤)
    ⊎ (IsMissedAt root missed main include.1 × (has_one_place include.1 ≡ false)
    × IsUnasked root files missed include.0 include.1 place)

-- includes that are found among the files are passed over
pub data Passes (root main : List ℕ) (files : List ReadFile) (missed : List (List ℕ)) (all : List Include) : List Include → Type 0 where
  stay : Passes root main files missed all all
  pass : (include : Include) (rest : List Include) → Passes root main files missed all (include ∷ rest)
      → IsLook root main files missed include look.Found → Passes root main files missed all rest

-- what is next of a program, behind the includes that are found: an include stays whose place is asked for
abbrev pub IsStep : List ℕ → List ℕ → List ReadFile → List (List ℕ) → List Include → List Include → Step → Type 0
IsStep root main files missed all left (step.Ask place) =
    (include : Include) × (rest : List Include) × Passes root main files missed all (include ∷ rest) × (left ≡ include ∷ rest)
    × IsLook root main files missed include (look.Ask place)
IsStep root main files missed all left (step.Missing written) =
    (file : List ℕ) × (rest : List Include) × Passes root main files missed all ((file, written) ∷ rest)
    × IsLook root main files missed (file, written) look.Missed
IsStep root main files missed all left (step.Outside written) =
    (file : List ℕ) × (rest : List Include) × Passes root main files missed all ((file, written) ∷ rest)
    × IsLook root main files missed (file, written) look.LeadsOut

-- the names of includes and of their files are UTF-8
abbrev pub AreTexts : List Include → Type 0
AreTexts includes = (include : Include) → Contains includes include → (is_utf8 include.0 ≡ true) × (is_utf8 include.1 ≡ true)

-- names are UTF-8
abbrev pub AreUtf8 : List (List ℕ) → Type 0
AreUtf8 names = (name : List ℕ) → Contains names name → is_utf8 name ≡ true

-- what was asked for before a call, and the includes that are next
pub record State : Type 0 where
  pub files : List ReadFile
  pub missed : List (List ℕ)
  pub includes : List Include

-- such a state by its parts
abbrev pub state : List ReadFile → List (List ℕ) → List Include → State
state files missed includes = record { files = files; missed = missed; includes = includes }

-- a name was asked for, and there is a script: its file goes behind those before it, and its includes take the place of the first of all
pub record AddsFile (call : SourceCall) (path : List ℕ) (files : List ReadFile) (includes : List Include) (files' : List ReadFile)
    (includes' : List Include) : Type 0 where
  pub tree : PlainFile
  pub bytes : List ℕ
  pub told : Tells (call.content path) (Some bytes)
  pub is_script : IsScript bytes tree
  pub more : files' ≡ files ++ record { name = path; tree = tree } ∷ []
  pub first : includes' ≡ written_in path tree ++ drop 1 includes
  pub few : length files < PLACE_LIMIT + 1
  pub counted : call.reads' ≡ one_more call.reads
  pub unfailed : call.faults' ≡ call.faults
  pub unmissed : call.misses' ≡ call.misses

-- a name was asked for, and there is no such file: it goes behind those that were missed before
pub record AddsMissed (call : SourceCall) (path : List ℕ) (missed missed' : List (List ℕ)) : Type 0 where
  pub told : Tells (call.content path) None
  pub more : missed' ≡ missed ++ path ∷ []
  pub few : length missed < PLACE_LIMIT
  pub counted : call.reads' ≡ one_more call.reads
  pub unfailed : call.faults' ≡ call.faults
  pub rises : Rises call.misses call.misses'

-- one name is asked for
abbrev pub AsksOne : SourceCall → List ℕ → State → State → Type 0
AsksOne call path before now =
    (AddsFile call path before.files before.includes now.files now.includes × (now.missed ≡ before.missed))
    ⊎ (AddsMissed call path before.missed now.missed × (now.files ≡ before.files) × (now.includes ≡ before.includes))

-- a script is there under a name: its file goes behind those before it, and its includes take the place of the first of all
pub record AddsScript (path script : List ℕ) (before now : State) : Type 0 where
  pub tree : PlainFile
  pub is_script : IsScript script tree
  pub more : now.files ≡ before.files ++ record { name = path; tree = tree } ∷ []
  pub first : now.includes ≡ written_in path tree ++ drop 1 before.includes
  pub few : length before.files < PLACE_LIMIT + 1
  pub same : now.missed ≡ before.missed

-- a script under a name has no tree
abbrev pub IsTreeCause : List ℕ → List ℕ → LoadRefusal → Type 0
IsTreeCause path script (Script name fault) = (name ≡ path) × IsScriptFault script fault
IsTreeCause path script Memory = ⊤
IsTreeCause path script refusal = ⊥

-- a script under a name is refused: there are too many files, or it has no tree
abbrev pub IsScriptCause : List ℕ → List ℕ → List ReadFile → LoadRefusal → Type 0
IsScriptCause path script files (TooMany count) = (count ≡ PLACE_LIMIT + 1) × (PLACE_LIMIT < length files)
IsScriptCause path script files refusal = IsTreeCause path script refusal

-- a missed name is refused: there are too many
abbrev pub IsMissCause : List (List ℕ) → LoadRefusal → Type 0
IsMissCause missed (TooMany count) = (count ≡ PLACE_LIMIT + 1) × (PLACE_LIMIT ≤ length missed)
IsMissCause missed Memory = ⊤
IsMissCause missed refusal = ⊥

-- one name is asked for, and reading is refused
abbrev pub IsOneCause : SourceCall → List ℕ → List ReadFile → List (List ℕ) → LoadRefusal → Type 0
IsOneCause call path files missed (Missing name) = ⊥
IsOneCause call path files missed (Outside name) = ⊥
IsOneCause call path files missed (ReadFault name) =
    (name ≡ path) × (call.reads' ≡ one_more call.reads) × Rises call.faults call.faults' × (call.misses' ≡ call.misses)
IsOneCause call path files missed (TooLong name len) =
    (name ≡ path) × (call.reads' ≡ one_more call.reads) × (FILE_LIMIT < len) × HasAtLeast (call.content path) len
    × (call.faults' ≡ call.faults) × (call.misses' ≡ call.misses)
IsOneCause call path files missed (Script name fault) =
    (name ≡ path) × (call.reads' ≡ one_more call.reads)
    × ((bytes : List ℕ) × Tells (call.content path) (Some bytes) × IsScriptFault bytes fault) × (call.faults' ≡ call.faults)
    × (call.misses' ≡ call.misses)
IsOneCause call path files missed (IncludeCycle file) = ⊥
IsOneCause call path files missed (DoubleFunction function) = ⊥
IsOneCause call path files missed (UnknownFunction function) = ⊥
IsOneCause call path files missed (Arity function) = ⊥
IsOneCause call path files missed (TooMany count) =
    (count ≡ PLACE_LIMIT + 1) × (call.reads' ≡ one_more call.reads) × (call.faults' ≡ call.faults)
    × (((PLACE_LIMIT < length files) × ((bytes : List ℕ) × Tells (call.content path) (Some bytes)) × (call.misses' ≡ call.misses))
    ⊎ ((PLACE_LIMIT ≤ length missed) × Tells (call.content path) None × Rises call.misses call.misses'))
IsOneCause call path files missed Memory =
    (call.faults' ≡ call.faults)
    × ((call.misses' ≡ call.misses)
    ⊎ (Tells (call.content path) None × Rises call.misses call.misses' × (call.reads' ≡ one_more call.reads)))

-- an include of a file by the names that were read: that of its first place, where it was read or is the only one, and else of its second
unfoldable pub placed : List (List ℕ) → List ℕ → List ℕ → List ℕ → List ℕ
placed names main file written =
    if has_one_place written || is_among names (beside main written) then beside main written else beside file written

-- the same; a name that is no UTF-8 stays
unfoldable pub placed_or_same : List (List ℕ) → List ℕ → List ℕ → List ℕ → List ℕ
unfolding placed
placed_or_same names main file written = if is_utf8 written then placed names main file written else written

-- the include of that name
abbrev pub placed_include : List (List ℕ) → List ℕ → List ℕ → List ℕ → PlainStmts
placed_include names main file written = include_of (placed_or_same names main file written)

-- a file with each include by that name
abbrev pub placed_file : List (List ℕ) → List ℕ → ReadFile → ReadFile
placed_file names main file = record { name = file.name; tree = file_with_bodies (placed_include names main file.name) file.tree }
