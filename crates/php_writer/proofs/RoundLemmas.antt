-- What was written spells the tree: so it is cut into tokens that spell the tree, and no refusal but of size has a cause.
use Rattle.std.proofs.Common.{◌≡◌, ℕ, List, subst, sym}
use Rattle.std.specs.Prelude.{◌<◌, length, Result, Ok, Err, IfErr}
use Rattle.text_base.specs.declared.limits.TheConstants.{FILE_LIMIT}
use Rattle.php_syntax.specs.Tokens.{PlainToken}
use Rattle.php_syntax.specs.Trees.{PlainFile}
use Rattle.lexical_grammar.specs.declared.fault.LexicalFault.{LexicalFault}
use Rattle.lexical_grammar.specs.Cuts.{Cuts, Breaks}
use Rattle.script_grammar.specs.Grammar.{SpellsTree}
use Rattle.php_writer.specs.Spelled.{Spells}
use Rattle.php_lexer.specs.Refusals as lexer
use Rattle.php_lexer.specs.declared.refusal.LexRefusal.{LexRefusal}
use Rattle.php_lexer.specs.declared.refusal.LexRefusal.TheVariants as lex
use Rattle.php_parser.specs.Refusals as parser
use Rattle.php_parser.specs.declared.refusal.ParseRefusal.{ParseRefusal}
use Rattle.php_parser.specs.declared.refusal.ParseRefusal.TheVariants as parse
use Rattle.php_writer.specs.declared.unread.Unread.{Unread}
use Rattle.php_writer.specs.declared.unread.Unread.TheVariants as unread
use Rattle.php_writer.specs.Causes.{written, IsLexCause, IsParseCause, IsCauseOf}

-- the laws of the lexical grammar
abbrev pub OneList : Type 0
OneList = (file : List ℕ) (tokens others : List PlainToken) → Cuts file tokens → Cuts file others → tokens ≡ others

abbrev pub NeverBoth : Type 0
NeverBoth = (file : List ℕ) (tokens : List PlainToken) (fault : LexicalFault) (place : ℕ) → Cuts file tokens → Breaks file fault place → ⊥

pub cut_so : OneList → (file : List ℕ) (tree : PlainFile) (tokens : List PlainToken) → Spells file tree → Cuts file tokens → SpellsTree tokens tree
cut_so law file tree tokens s c = let P : List PlainToken → Type 0 = λ ts. SpellsTree ts tree in subst P (law file s.0 tokens s.1 c) s.2

pub lex_cause : NeverBoth → (file : List ℕ) (tree : PlainFile) (e : LexRefusal) → file ≡ written tree → Spells file tree → lexer.IsCauseOf file e → IsLexCause tree e
lex_cause law file tree (lex.TooLong len) w s c = subst (λ (f : List ℕ). (FILE_LIMIT < length f) × (len ≡ length f)) w c
lex_cause law file tree lex.Memory w s c = tt
lex_cause law file tree (lex.Breaks fault at) w s c = law file s.0 fault at s.1 c.1

pub parse_cause : (file : List ℕ) (tokens : List PlainToken) (tree : PlainFile) (e : ParseRefusal) → file ≡ written tree → Cuts file tokens → SpellsTree tokens tree → parser.IsCauseOf tokens e → IsParseCause tree e
parse_cause file tokens tree (parse.NotInSubset at) w k s c = c.1 tree s
parse_cause file tokens tree (parse.TooDeep at) w k s c = (tokens, subst (λ (f : List ℕ). Cuts f tokens) w k, c)
parse_cause file tokens tree parse.Memory w k s c = tt

-- the refusal that is handed on
pub lex_refused : {X : Type 0} → NeverBoth → (file : List ℕ) (tree : PlainFile) (e : LexRefusal) (result : Result X Unread) → file ≡ written tree → Spells file tree → lexer.IsCauseOf file e → IfErr result (λ r. r ≡ unread.Lex e) → IfErr result (λ r. IsCauseOf tree r)
lex_refused law file tree e (Ok x) w s c is = tt
lex_refused law file tree e (Err r) w s c is = subst (IsCauseOf tree) (sym is) (lex_cause law file tree e w s c)

pub parse_refused : {X : Type 0} (file : List ℕ) (tokens : List PlainToken) (tree : PlainFile) (e : ParseRefusal) (result : Result X Unread) → file ≡ written tree → Cuts file tokens → SpellsTree tokens tree → parser.IsCauseOf tokens e → IfErr result (λ r. r ≡ unread.Parse e) → IfErr result (λ r. IsCauseOf tree r)
parse_refused file tokens tree e (Ok x) w k s c is = tt
parse_refused file tokens tree e (Err r) w k s c is = subst (IsCauseOf tree) (sym is) (parse_cause file tokens tree e w k s c)

-- with the premise that some file spells the tree put last
pub under : {X : Type 0} {P : Type 0} (tree : PlainFile) (result : Result X Unread) → (P → IfErr result (λ r. IsCauseOf tree r)) → IfErr result (λ r. P → IsCauseOf tree r)
under tree (Ok x) h = tt
under tree (Err r) h = h
