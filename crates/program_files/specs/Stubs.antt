-- A file of stubs: a script that includes nothing, whose functions stand for functions of the host's PHP that the language has not. What
-- reading it comes to, and why it is refused.
use Rattle.std.specs.Prelude.{◌≡◌, ◌<◌, ◌⊎◌, ℕ, Bool, false, if◌then◌else◌, List, [], ◌∷◌, Option, Some, None}
use Rattle.text_base.specs.declared.limits.TheConstants.{FILE_LIMIT}
use Rattle.io_edge.specs.Counts.{Rises, one_more}
use Rattle.io_edge.specs.Told.{Content, Tells, HasAtLeast}
use Rattle.io_edge.specs.Names.{normal}
use Rattle.php_syntax.specs.Tokens.{PlainKind, PlainToken}
use Rattle.php_syntax.specs.Tokens as kinds
use Rattle.php_syntax.specs.Trees.{PlainFunction, PlainFile}
use Rattle.lexical_grammar.specs.Cuts.{Cuts}
use Rattle.script_grammar.specs.declared.keyword.Keyword.{Keyword}
use Rattle.script_grammar.specs.Terminals.{keyword_of}
use Rattle.script_grammar.specs.Statements.{is_include}
use Rattle.script_grammar.specs.Grammar.{SpellsTree, IsTooDeep}
use Rattle.php_parser.specs.declared.refusal.ParseRefusal.TheVariants.{NotInSubset}
use Rattle.program_rules.specs.Includes.{includes_of_file}
use Rattle.program_files.specs.declared.refusal.ScriptRefusal.{ScriptRefusal}
use Rattle.program_files.specs.declared.refusal.ScriptRefusal.TheVariants.{Parse}
use Rattle.program_files.specs.declared.refusal.LoadRefusal.{LoadRefusal}
use Rattle.program_files.specs.declared.refusal.LoadRefusal.TheVariants.{Missing, Outside, ReadFault, TooLong, Script, IncludeCycle, DoubleFunction, UnknownFunction, Arity, TooMany, Memory}
use Rattle.program_files.specs.Source.{SourceCall, so_many_more}
use Rattle.program_files.specs.Scripts.{IsScript, IsScriptFault}

-- a script spells this tree and includes nothing
pub record IsStubScript (script : List ℕ) (tree : PlainFile) : Type 0 where
  pub is_script : IsScript script tree
  pub whole : includes_of_file tree ≡ []

-- a file of stubs has these functions, whatever the source tells: they are those of a script that it answered with
pub record HasStubFile (content : Content) (name : List ℕ) (functions : List PlainFunction) : Type 0 where
  pub bytes : List ℕ
  pub tree : PlainFile
  pub told : Tells (content (normal name)) (Some bytes)
  pub is_stub : IsStubScript bytes tree
  pub are : functions ≡ tree.functions_of

-- the functions of the file of stubs of a name, if there is one; and none without
abbrev pub HasStubs : Content → Option (List ℕ) → List PlainFunction → Type 0
HasStubs content None functions = functions ≡ []
HasStubs content (Some name) functions = HasStubFile content name functions

-- how often a source is asked for it
abbrev pub stub_reads : Option (List ℕ) → ℕ
stub_reads None = 0
stub_reads (Some name) = 1

-- the file of stubs was read, if there is one, and no count rose but that of reads
pub record ReadsStubs (call : SourceCall) (stubs : Option (List ℕ)) (functions : List PlainFunction) : Type 0 where
  pub has : HasStubs call.content stubs functions
  pub counted : call.reads' ≡ so_many_more (stub_reads stubs) call.reads
  pub unfailed : call.faults' ≡ call.faults
  pub unmissed : call.misses' ≡ call.misses

-- a keyword begins an include
abbrev pub begins_include : Option Keyword → Bool
begins_include None = false
begins_include (Some word) = is_include word

-- a token is the word that begins an include
abbrev pub is_include_word : PlainKind → Bool
is_include_word (kinds.name word) = begins_include (keyword_of word)
is_include_word _ = false

-- the place of the first such word, in bytes from 0, and 0 where there is none
unfoldable pub include_place : List PlainToken → ℕ
include_place [] = 0
include_place (token ∷ tokens) = if is_include_word token.kind then token.at else include_place tokens

-- a script spells a tree that includes something; the place is that of the first word that begins an include
pub record IncludesSome (script : List ℕ) (at : ℕ) : Type 0 where
  pub tokens : List PlainToken
  pub tree : PlainFile
  pub cut : Cuts script tokens
  pub spelled : SpellsTree tokens tree
  pub within : IsTooDeep tokens → ⊥
  pub includes : includes_of_file tree ≡ [] → ⊥
  pub first : at ≡ include_place tokens

-- what is wrong with a script of stubs: what is wrong with any script, or that it includes something
abbrev pub IsStubFault : List ℕ → ScriptRefusal → Type 0
IsStubFault script fault = IsScriptFault script fault ⊎ ((at : ℕ) × (fault ≡ Parse (NotInSubset at)) × IncludesSome script at)

-- why a file of stubs, by its name as it was handed over, is refused; the source was asked once, but where memory ran out
abbrev pub IsStubFileCause : SourceCall → List ℕ → LoadRefusal → Type 0
IsStubFileCause call name (Missing written) =
    (written ≡ name) × Tells (call.content (normal name)) None × (call.reads' ≡ one_more call.reads) × Rises call.misses call.misses'
    × (call.faults' ≡ call.faults)
IsStubFileCause call name (Outside written) = ⊥
IsStubFileCause call name (ReadFault path) =
    (path ≡ normal name) × (call.reads' ≡ one_more call.reads) × Rises call.faults call.faults' × (call.misses' ≡ call.misses)
IsStubFileCause call name (TooLong path len) =
    (path ≡ normal name) × (call.reads' ≡ one_more call.reads) × (FILE_LIMIT < len) × HasAtLeast (call.content (normal name)) len
    × (call.faults' ≡ call.faults) × (call.misses' ≡ call.misses)
IsStubFileCause call name (Script path fault) =
    (path ≡ normal name) × (call.reads' ≡ one_more call.reads)
    × ((bytes : List ℕ) × Tells (call.content (normal name)) (Some bytes) × IsStubFault bytes fault) × (call.faults' ≡ call.faults)
    × (call.misses' ≡ call.misses)
IsStubFileCause call name (IncludeCycle path) = ⊥
IsStubFileCause call name (DoubleFunction function) = ⊥
IsStubFileCause call name (UnknownFunction function) = ⊥
IsStubFileCause call name (Arity function) = ⊥
IsStubFileCause call name (TooMany count) = ⊥
IsStubFileCause call name Memory = (call.faults' ≡ call.faults) × (call.misses' ≡ call.misses)

-- why the stubs are refused: where there is no file of stubs, they are not
abbrev pub IsStubCause : SourceCall → Option (List ℕ) → LoadRefusal → Type 0
IsStubCause call None refusal = ⊥
IsStubCause call (Some name) refusal = IsStubFileCause call name refusal
