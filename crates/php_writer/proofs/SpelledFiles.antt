-- The bytes that a spellable tree is written with spell it.
use Rattle.std.proofs.Common.{◌≡◌, ◌∙◌, true, List, sym}
use Rattle.php_syntax.specs.Tokens.{PlainToken}
use Rattle.php_syntax.specs.Trees.{PlainFile}
use Rattle.lexical_grammar.specs.Cuts.{Cuts}
use Rattle.script_grammar.specs.Rules.{file_fits}
use Rattle.script_grammar.specs.Grammar.{SpellsTree}
use Rattle.spellable.specs.Marks.{file_written}
use Rattle.spellable.specs.Spellable.{is_spellable}
use Rattle.php_writer.specs.Written.{file_marks}
use Rattle.php_writer.proofs.AllCut.{IsCutFile, file_cut}
use Rattle.php_writer.proofs.FileForms.{IsFile, file_formed, file_made}
use Rattle.php_writer.proofs.WritableFiles.{file_writable}

spelled_by : (t : PlainFile) (f : IsFile t.functions_of t.body_of) (c : IsCutFile (file_marks t)) → file_fits t ≡ true → (tokens : List PlainToken) × Cuts (file_written (file_marks t)) tokens × SpellsTree tokens t
spelled_by t f c fits = (c.tokens, c.cut, record { form = f.form; spelled = f.spelled ∙ sym c.are; made = file_made t f; nearest_if = f.near; fits = fits })

pub file_spelled : (t : PlainFile) → is_spellable t ≡ true → file_fits t ≡ true → (tokens : List PlainToken) × Cuts (file_written (file_marks t)) tokens × SpellsTree tokens t
file_spelled t h fits = spelled_by t (file_formed t h) (file_cut (file_marks t) (file_writable t h)) fits
