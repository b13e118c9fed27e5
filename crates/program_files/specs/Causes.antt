-- What reading the files of a program comes to, and why it is refused.
use Rattle.std.specs.Prelude.{◌≡◌, ◌<◌, ◌≤◌, ◌⊎◌, ℕ, ◌+◌, suc, true, false, List, [], ◌∷◌, length, Some, None}
use Rattle.std.specs.List.{Contains}
use Rattle.text_base.specs.declared.limits.TheConstants.{FILE_LIMIT}
use Rattle.io_edge.specs.Counts.{Rises, one_more}
use Rattle.io_edge.specs.Told.{Content, Tells, HasAtLeast}
use Rattle.io_edge.specs.Names.{normal, beside, is_outside}
use Rattle.program_rules.specs.declared.limits.TheConstants.{PLACE_LIMIT}
use Rattle.program_rules.specs.Files.{Held, Agrees, HasTree, found_name, is_at_first}
use Rattle.program_rules.specs.Includes.{includes_of_file, Writes, Asks, StaysInside}
use Rattle.program_rules.specs.Programs.{ReadFile, StandOnce}
use Rattle.program_files.specs.declared.refusal.LoadRefusal.{LoadRefusal}
use Rattle.program_files.specs.declared.refusal.LoadRefusal.TheVariants.{Missing, Outside, ReadFault, TooLong, Script, IncludeCycle, DoubleFunction, UnknownFunction, Arity, TooMany, Memory}
use Rattle.program_files.specs.Order.{is_read, Reached}
use Rattle.program_files.specs.Source.{SourceCall, so_many_more, RisesBy}
use Rattle.program_files.specs.Scripts.{IsScriptFault}

-- The program of a file, by its name as it was handed over, is being read: what the source held agrees with all that it tells, and is what
-- it answered. These files are read and these names missed, each asked for by the program and once, and these names are
-- looked at next.
pub record IsReading (content : Content) (name : List ℕ) (files : List ReadFile) (missed paths : List (List ℕ)) : Type 0 where
  pub held : Held
  pub main : held.main ≡ normal name
  pub agrees : Agrees content held
  pub reached : Reached (HasTree held) (normal name) files paths
  pub answered : (path : List ℕ) → is_read files path ≡ true → Tells (content path) (held.bytes path)
  pub not_there : (path : List ℕ) → Contains missed path
      → Tells (content path) None × (held.bytes path ≡ None) × Asks held (normal name) path
  pub once : StandOnce missed

-- an include in a file: it stays in the root, and its first place was asked for
pub record IsSettled (root : List ℕ) (held : Held) (files : List ReadFile) (missed : List (List ℕ)) (file written : List ℕ) : Type 0 where
  pub inside : StaysInside root held file written
  pub asked : (is_read files (beside held.main written) ≡ true) ⊎ Contains missed (beside held.main written)

-- a file has its tree, and its includes are settled
pub record HasSettledTree (root : List ℕ) (held : Held) (files : List ReadFile) (missed : List (List ℕ)) (file : ReadFile) : Type 0 where
  pub tree : HasTree held file.name file.tree
  pub settled : (written : List ℕ) → Contains (includes_of_file tree.script) written → IsSettled root held files missed file.name written

-- all files are read, each once, at most 256 beside the program's own; at most 256 names were missed, and no include leads out of the root
pub record ReadsAll (call : SourceCall) (root name : List ℕ) (files : List ReadFile) : Type 0 where
  pub missed : List (List ℕ)
  pub reading : IsReading call.content name files missed []
  pub settled : (file : ReadFile) → Contains files file → HasSettledTree root reading.held files missed file
  pub few : length files ≤ PLACE_LIMIT + 1
  pub few_missed : length missed ≤ PLACE_LIMIT
  pub counted : call.reads' ≡ so_many_more (length files + length missed) call.reads
  pub unfailed : call.faults' ≡ call.faults
  pub misses : RisesBy (length missed) call.misses call.misses'

-- a name is the first place of an include in a file that is read, and the found name of that include is this
pub record IsFirstPlace (held : Held) (files : List ReadFile) (path found : List ℕ) : Type 0 where
  pub file : List ℕ
  pub written : List ℕ
  pub known : is_read files file ≡ true
  pub writes : Writes held file written
  pub place : path ≡ beside held.main written
  pub found_as : found ≡ found_name held file written

-- reading stopped at a name that was asked for: the next one, or the first place of the include whose found name is the next one; what was
-- read and missed before it was asked for once each
pub record StopsAt (call : SourceCall) (name path : List ℕ) : Type 0 where
  pub files : List ReadFile
  pub missed : List (List ℕ)
  pub next : List ℕ
  pub paths : List (List ℕ)
  pub reading : IsReading call.content name files missed (next ∷ paths)
  pub place : (path ≡ next) ⊎ IsFirstPlace reading.held files path next
  pub unread : is_read files path ≡ false
  pub unmissed : Contains missed path → ⊥
  pub counted : call.reads' ≡ so_many_more (suc (length files + length missed)) call.reads

-- an include in a file that is read is next
pub record IsNext (call : SourceCall) (name written : List ℕ) : Type 0 where
  pub files : List ReadFile
  pub missed : List (List ℕ)
  pub paths : List (List ℕ)
  pub file : List ℕ
  pub next : List ℕ
  pub reading : IsReading call.content name files missed (next ∷ paths)
  pub known : is_read files file ≡ true
  pub writes : Writes reading.held file written
  pub next_is : next ≡ found_name reading.held file written
  pub counted : call.reads' ≡ so_many_more (length files + length missed) call.reads
  pub misses : RisesBy (length missed) call.misses call.misses'

-- the file of the program is missing, or an include is: it stays in the root, and each place where it is looked for was missed
abbrev pub IsMissing : SourceCall → List ℕ → List ℕ → List ℕ → Type 0
IsMissing call root name written =
    ((written ≡ name) × Tells (call.content (normal name)) None × (call.reads' ≡ one_more call.reads) × Rises call.misses call.misses')
    ⊎ ((n : IsNext call name written) × StaysInside root n.reading.held n.file written
    × Contains n.missed (beside n.reading.held.main written) × Contains n.missed n.next)

-- an include leads out of the root: from the folder of the program's file, and then nothing is asked for it; or it was missed there, and
-- leads out of the root from the folder of the file that names it
abbrev pub LeadsOut : SourceCall → List ℕ → List ℕ → List ℕ → Type 0
LeadsOut call root name written =
    (n : IsNext call name written) ×
    ((is_outside root n.reading.held.main written ≡ true)
    ⊎ ((is_at_first n.reading.held written ≡ false) × Contains n.missed (beside n.reading.held.main written)
    × (is_outside root n.file written ≡ true)))

-- so many names were missed, by what is told of them, and no more misses were counted
pub record HasMissed (call : SourceCall) (name : List ℕ) : Type 0 where
  pub files : List ReadFile
  pub missed : List (List ℕ)
  pub paths : List (List ℕ)
  pub reading : IsReading call.content name files missed paths
  pub misses : RisesBy (length missed) call.misses call.misses'

-- a 257th included file is there, and was asked for; or a 257th name is missed
abbrev pub HasTooMany : SourceCall → List ℕ → Type 0
HasTooMany call name =
    ((path : List ℕ) × (s : StopsAt call name path) × (length s.files ≡ PLACE_LIMIT + 1)
    × ((bytes : List ℕ) × Tells (call.content path) (Some bytes)) × RisesBy (length s.missed) call.misses call.misses')
    ⊎ ((h : HasMissed call name) × (length h.missed ≡ PLACE_LIMIT + 1)
    × (call.reads' ≡ so_many_more (length h.files + length h.missed) call.reads))

-- the cause of a refusal while files are read, in a root
abbrev pub IsReadCause : SourceCall → List ℕ → List ℕ → LoadRefusal → Type 0
IsReadCause call root name (Missing written) = IsMissing call root name written × (call.faults' ≡ call.faults)
IsReadCause call root name (Outside written) = LeadsOut call root name written × (call.faults' ≡ call.faults)
IsReadCause call root name (ReadFault path) =
    (s : StopsAt call name path) × Rises call.faults call.faults' × RisesBy (length s.missed) call.misses call.misses'
IsReadCause call root name (TooLong path len) =
    (s : StopsAt call name path) × (FILE_LIMIT < len) × HasAtLeast (call.content path) len × (call.faults' ≡ call.faults)
    × RisesBy (length s.missed) call.misses call.misses'
IsReadCause call root name (Script path fault) =
    (s : StopsAt call name path) × ((bytes : List ℕ) × Tells (call.content path) (Some bytes) × IsScriptFault bytes fault)
    × (call.faults' ≡ call.faults) × RisesBy (length s.missed) call.misses call.misses'
IsReadCause call root name (IncludeCycle path) = ⊥
IsReadCause call root name (DoubleFunction function) = ⊥
IsReadCause call root name (UnknownFunction function) = ⊥
IsReadCause call root name (Arity function) = ⊥
IsReadCause call root name (TooMany count) = (count ≡ PLACE_LIMIT + 1) × HasTooMany call name × (call.faults' ≡ call.faults)
IsReadCause call root name Memory = HasMissed call name × (call.faults' ≡ call.faults)
