-- The files of a program: what a source held, under which name an include is found, and the trees that files spell.
use Rattle.std.specs.Prelude.{◌≡◌, ◌||◌, ℕ, List, Bool, Option, Some, is_some, if◌then◌else◌}
use Rattle.io_edge.specs.Told.{Content, Allows}
use Rattle.io_edge.specs.Names.{beside, is_absolute, is_dotted}
use Rattle.php_syntax.specs.Tokens.{PlainToken}
use Rattle.php_syntax.specs.Trees.{PlainFile}
use Rattle.lexical_grammar.specs.Cuts.{Cuts}
use Rattle.script_grammar.specs.Grammar.{SpellsTree, IsTooDeep}
use Rattle.program_rules.specs.Bodies.{file_with_bodies, include_of}

-- what a source held while the program of a file was read: the normal name of that file, and the bytes under each name, or none
pub record Held : Type 0 where
  pub main : List ℕ
  pub bytes : List ℕ → Option (List ℕ)

-- what was held is what the source tells, of each name of which it tells
abbrev pub Agrees : Content → Held → Type 0
Agrees content held = (name : List ℕ) → Allows (content name) (held.bytes name)

-- an include is looked for in one place alone where its name as it is written begins with `/`, `./` or `../` (PHP manual, "include")
abbrev pub has_one_place : List ℕ → Bool
has_one_place written = is_absolute written || is_dotted written

-- an include is taken from its first place, in the folder of the program's file: a file is there, or there is no other place
abbrev pub is_at_first : Held → List ℕ → Bool
is_at_first held written = has_one_place written || is_some (held.bytes (beside held.main written))

-- the found name of an include that is written so in a file: it is looked for in the folder of the program's file, and then in that of the
-- file that names it (PHP manual, "include", where that file's folder comes after the folders of the call; own, that the first is the
-- program's)
unfoldable pub found_name : Held → List ℕ → List ℕ → List ℕ
found_name held file written = if is_at_first held written then beside held.main written else beside file written

-- the file of a name is held, its bytes are cut into tokens, and these spell a tree and are not too deep
pub record HasScript (held : Held) (name : List ℕ) (script : PlainFile) : Type 0 where
  pub bytes : List ℕ
  pub tokens : List PlainToken
  pub is_held : held.bytes name ≡ Some bytes
  pub cut : Cuts bytes tokens
  pub spelled : SpellsTree tokens script
  pub within : IsTooDeep tokens → ⊥

-- the tree of a file, as it is written, with each include by its found name
abbrev pub with_found_names : Held → List ℕ → PlainFile → PlainFile
with_found_names held name script = file_with_bodies (λ written. include_of (found_name held name written)) script

-- the file of a name has this tree: that which its bytes spell, with each include by its found name
pub record HasTree (held : Held) (name : List ℕ) (tree : PlainFile) : Type 0 where
  pub script : PlainFile
  pub has_script : HasScript held name script
  pub found : tree ≡ with_found_names held name script

-- each name has one script at most
abbrev pub HasOneScript : Held → Type 0
HasOneScript held = (name : List ℕ) (script other : PlainFile) → HasScript held name script → HasScript held name other → script ≡ other

-- each name has one tree at most
abbrev pub HasOneTree : Held → Type 0
HasOneTree held = (name : List ℕ) (tree other : PlainFile) → HasTree held name tree → HasTree held name other → tree ≡ other
