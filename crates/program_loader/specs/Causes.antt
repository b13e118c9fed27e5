-- What loading a program comes to, and why it is refused.
use Rattle.std.specs.Prelude.{◌≡◌, ◌⊎◌, ◌≤◌, ℕ, ◌+◌, List, [], length, Option, Some, None}
use Rattle.io_edge.specs.Names.{normal}
use Rattle.php_syntax.specs.Trees.{PlainFunction}
use Rattle.script_meaning.specs.Programs.{PlainProgram}
use Rattle.program_rules.specs.declared.limits.TheConstants.{PLACE_LIMIT}
use Rattle.program_rules.specs.Files.{Held, Agrees, HasTree}
use Rattle.program_rules.specs.Includes.{Reads, Asks, Writes, LeadsTo, AllStayInside}
use Rattle.program_rules.specs.Programs.{ReadFile, AreRead, AreMissed, HasNoCycle, IsProgram}
use Rattle.program_files.specs.declared.refusal.LoadRefusal.{LoadRefusal}
use Rattle.program_files.specs.declared.refusal.LoadRefusal.TheVariants.{Missing, Outside, ReadFault, TooLong, Script, IncludeCycle, DoubleFunction, UnknownFunction, Arity, TooMany, Memory}
use Rattle.program_files.specs.Order.{Reached}
use Rattle.program_files.specs.Source.{SourceCall, source_call, so_many_more, RisesBy}
use Rattle.program_files.specs.Causes.{HasMissed, IsReadCause}
use Rattle.program_files.specs.Stubs.{HasStubs, stub_reads, IsStubFileCause}
use Rattle.program_sizes.specs.Limits.{PassesLimit}
use Rattle.program_sizes.specs.FileRules.{KeepFunctionRules}
use Rattle.program_sizes.specs.Loaded.{StandsForProgram}
use Rattle.function_rules.specs.Causes.{IsFunctionCause}
use Rattle.program_loader.specs.Told.{AreAnswered, stubs_for}

-- what the source held agrees with all that it tells, and is what it answered in this call; these are the files that the program of the
-- name reads, in the order of first include, at most 256 beside its own, and these the names that it asks for and that are not there, at
-- most 256; the file of stubs, if there is one, has these functions; each was asked for once; no include leads out of the root; no count of
-- faults rose, and that of misses by those names
pub record HasFiles (call : SourceCall) (root name : List ℕ) (stubs : Option (List ℕ)) : Type 0 where
  pub held : Held
  pub main : held.main ≡ normal name
  pub agrees : Agrees call.content held
  pub answered : AreAnswered call.content held name
  pub files : List ReadFile
  pub read : AreRead held (normal name) files
  pub in_order : Reached (HasTree held) (normal name) files []
  pub few : length files ≤ PLACE_LIMIT + 1
  pub missed : List (List ℕ)
  pub are_missed : AreMissed held (normal name) missed
  pub few_missed : length missed ≤ PLACE_LIMIT
  pub inside : AllStayInside root held (normal name)
  pub functions : List PlainFunction
  pub has_stubs : HasStubs call.content stubs functions
  pub counted : call.reads' ≡ so_many_more (length files + length missed + stub_reads stubs) call.reads
  pub unfailed : call.faults' ≡ call.faults
  pub misses : RisesBy (length missed) call.misses call.misses'

-- a program is loaded: it is that of the name, with the functions of these files in their order, and stubs behind them
pub record Loads (call : SourceCall) (root name : List ℕ) (stubs : Option (List ℕ)) (program : PlainProgram) : Type 0 where
  pub source : HasFiles call root name stubs
  pub is_program : IsProgram source.held (normal name) source.functions program
  pub its_files : is_program.files ≡ source.files

-- a path is one that the program of the name asks for
pub record IsNamed (call : SourceCall) (name path : List ℕ) : Type 0 where
  pub held : Held
  pub main : held.main ≡ normal name
  pub agrees : Agrees call.content held
  pub asks : Asks held (normal name) path

-- in a file that the program of the name reads stands an include of this name, as it is written
pub record IsWritten (call : SourceCall) (name written : List ℕ) : Type 0 where
  pub held : Held
  pub main : held.main ≡ normal name
  pub agrees : Agrees call.content held
  pub file : List ℕ
  pub reads : Reads held (normal name) file
  pub writes : Writes held file written

-- all files of the program were read, up to these counts, and then the file of stubs, by its name as it was handed over, was refused
pub record RefusesStubs (call : SourceCall) (root name stubs : List ℕ) (refusal : LoadRefusal) : Type 0 where
  pub faults : ℕ
  pub misses : ℕ
  pub reads : ℕ
  pub source : HasFiles (source_call call.content call.faults faults call.misses misses call.reads reads) root name None
  pub cause : IsStubFileCause (source_call call.content faults call.faults' misses call.misses' reads call.reads') stubs refusal

-- the stubs were refused: where there is no file of stubs, they are not
abbrev pub LacksStubs : SourceCall → List ℕ → List ℕ → Option (List ℕ) → LoadRefusal → Type 0
LacksStubs call root name None refusal = ⊥
LacksStubs call root name (Some stubs) refusal = RefusesStubs call root name stubs refusal

-- a file that the program reads includes itself, directly or through others
pub record IncludesItself (call : SourceCall) (root name : List ℕ) (stubs : Option (List ℕ)) (path : List ℕ) : Type 0 where
  pub source : HasFiles call root name stubs
  pub reads : Reads source.held (normal name) path
  pub leads : LeadsTo source.held path path

-- no file includes itself, and the functions of the files, with the stubs that are taken, break a rule
pub record BreaksRule (call : SourceCall) (root name : List ℕ) (stubs : Option (List ℕ)) (refusal : LoadRefusal) : Type 0 where
  pub source : HasFiles call root name stubs
  pub acyclic : HasNoCycle source.held (normal name)
  pub cause : IsFunctionCause source.files (stubs_for source.files source.functions) refusal

-- no file includes itself and the rules are kept, and the program that the file of the name stands for passes a limit
pub record IsTooLarge (call : SourceCall) (root name : List ℕ) (stubs : Option (List ℕ)) (count : ℕ) : Type 0 where
  pub source : HasFiles call root name stubs
  pub acyclic : HasNoCycle source.held (normal name)
  pub rules : KeepFunctionRules source.files (stubs_for source.files source.functions)
  pub places : ℕ
  pub program : PlainProgram
  pub stands : StandsForProgram source.held (normal name) source.files (stubs_for source.files source.functions) places program
  pub passes : PassesLimit places program count

-- the cause of each refusal of a name in a root, in the order of the tests: while files are read, and then the file of stubs, if there is
-- one; by cycles of includes, by the rules on functions, by size
abbrev pub IsLoadCause : SourceCall → List ℕ → List ℕ → Option (List ℕ) → LoadRefusal → Type 0
IsLoadCause call root name stubs (Missing written) =
    (((written ≡ name) ⊎ IsWritten call name written) × IsReadCause call root name (Missing written))
    ⊎ LacksStubs call root name stubs (Missing written)
IsLoadCause call root name stubs (Outside written) = IsWritten call name written × IsReadCause call root name (Outside written)
IsLoadCause call root name stubs (ReadFault path) =
    (IsNamed call name path × IsReadCause call root name (ReadFault path)) ⊎ LacksStubs call root name stubs (ReadFault path)
IsLoadCause call root name stubs (TooLong path len) =
    (IsNamed call name path × IsReadCause call root name (TooLong path len)) ⊎ LacksStubs call root name stubs (TooLong path len)
IsLoadCause call root name stubs (Script path fault) =
    (IsNamed call name path × IsReadCause call root name (Script path fault)) ⊎ LacksStubs call root name stubs (Script path fault)
IsLoadCause call root name stubs (IncludeCycle path) = IncludesItself call root name stubs path
IsLoadCause call root name stubs (DoubleFunction function) = BreaksRule call root name stubs (DoubleFunction function)
IsLoadCause call root name stubs (UnknownFunction function) = BreaksRule call root name stubs (UnknownFunction function)
IsLoadCause call root name stubs (Arity function) = BreaksRule call root name stubs (Arity function)
IsLoadCause call root name stubs (TooMany count) =
    IsReadCause call root name (TooMany count) ⊎ IsTooLarge call root name stubs count
IsLoadCause call root name stubs Memory = HasMissed call name × (call.faults' ≡ call.faults)
