-- Why a script has no tree, and which functions one of stubs has. No public clause cites this.
use Rattle.std.specs.Prelude.{◌≡◌, ◌⊎◌, ℕ, List, ⊤}
use Rattle.php_syntax.specs.Trees.{PlainFunction, PlainFile}
use Rattle.php_lexer.specs.declared.refusal.LexRefusal.{LexRefusal}
use Rattle.php_lexer.specs.declared.refusal.LexRefusal.TheVariants as lexed
use Rattle.php_parser.specs.declared.refusal.ParseRefusal.{ParseRefusal}
use Rattle.php_parser.specs.declared.refusal.ParseRefusal.TheVariants as parsed
use Rattle.program_files.specs.declared.refusal.ScriptRefusal.TheVariants.{Lex, Parse}
use Rattle.program_files.specs.declared.tree.Unread.{Unread}
use Rattle.program_files.specs.declared.tree.Unread.TheVariants as unread
use Rattle.program_files.specs.Scripts.{IsScriptFault}
use Rattle.program_files.specs.Stubs.{IsStubScript, IncludesSome}

-- a refusal of the lexer, as a reason for a script without a tree
abbrev pub lexed_as : LexRefusal → Unread
lexed_as lexed.Memory = unread.Memory
lexed_as refusal = unread.Script (Lex refusal)

-- a refusal of the parser, as a reason for a script without a tree
abbrev pub parsed_as : ParseRefusal → Unread
parsed_as parsed.Memory = unread.Memory
parsed_as refusal = unread.Script (Parse refusal)

-- the reason is so of the script; want of memory is none
abbrev pub IsUnread : List ℕ → Unread → Type 0
IsUnread script (unread.Script fault) = IsScriptFault script fault
IsUnread script unread.Memory = ⊤

-- of a script of stubs: or it includes something
abbrev pub IsUnreadStub : List ℕ → Unread → Type 0
IsUnreadStub script reason =
    IsUnread script reason
    ⊎ ((at : ℕ) × (reason ≡ unread.Script (Parse (parsed.NotInSubset at))) × IncludesSome script at)

-- these are the functions of a script of stubs
pub record StubsOf (script : List ℕ) (functions : List PlainFunction) : Type 0 where
  pub tree : PlainFile
  pub is_stub : IsStubScript script tree
  pub are : functions ≡ tree.functions_of
