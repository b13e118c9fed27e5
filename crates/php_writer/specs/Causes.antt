-- Why a tree that some file spells is not read again after it was written: the file is too long or nested too deep, or no memory was left.
use Rattle.std.specs.Prelude.{◌≡◌, ◌<◌, ℕ, List, length, ⊤}
use Rattle.text_base.specs.declared.limits.TheConstants.{FILE_LIMIT}
use Rattle.php_syntax.specs.Tokens.{PlainToken}
use Rattle.php_syntax.specs.Trees.{PlainFile}
use Rattle.lexical_grammar.specs.Cuts.{Cuts}
use Rattle.script_grammar.specs.Grammar.{IsTooDeep}
use Rattle.spellable.specs.Marks.{file_written}
use Rattle.php_writer.specs.Written.{file_marks}
use Rattle.php_lexer.specs.declared.refusal.LexRefusal.{LexRefusal}
use Rattle.php_lexer.specs.declared.refusal.LexRefusal.TheVariants as lex
use Rattle.php_parser.specs.declared.refusal.ParseRefusal.{ParseRefusal}
use Rattle.php_parser.specs.declared.refusal.ParseRefusal.TheVariants as parse
use Rattle.php_writer.specs.declared.unread.Unread.{Unread}
use Rattle.php_writer.specs.declared.unread.Unread.TheVariants as unread

-- the file that is written for a tree
abbrev pub written : PlainFile → List ℕ
written tree = file_written (file_marks tree)

-- the written file is too long, and has this many bytes; it never breaks the lexical grammar
abbrev pub IsLexCause : PlainFile → LexRefusal → Type 0
IsLexCause tree (lex.TooLong len) = (FILE_LIMIT < length (written tree)) × (len ≡ length (written tree))
IsLexCause tree lex.Memory = ⊤
IsLexCause tree _ = ⊥

-- the tokens of the written file are too deep; they are always in the subset
abbrev pub IsParseCause : PlainFile → ParseRefusal → Type 0
IsParseCause tree (parse.TooDeep at) = (tokens : List PlainToken) × Cuts (written tree) tokens × IsTooDeep tokens
IsParseCause tree parse.Memory = ⊤
IsParseCause tree _ = ⊥

-- why the written file is not read again
abbrev pub IsCauseOf : PlainFile → Unread → Type 0
IsCauseOf tree (unread.Lex refusal) = IsLexCause tree refusal
IsCauseOf tree (unread.Parse refusal) = IsParseCause tree refusal
IsCauseOf tree unread.Memory = ⊤
