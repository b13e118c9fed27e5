-- Marks that can be written are cut into the tokens of their terminals.
use Rattle.std.proofs.Common.{◌≡◌, ℕ, List, [], ◌∷◌, ◌++◌, refl, ap, subst, None}
use Rattle.php_syntax.specs.Tokens.{PlainToken}
use Rattle.script_grammar.specs.Terminals.{Terminal, terminals, name_terminal, word_or_name, keyword_of}
use Rattle.lexical_grammar.specs.Cuts.{Cuts, at_end, after_blank}
use Rattle.lexical_grammar.specs.Spelled.{IsName}
use Rattle.std.specs.Fmt.{decimal}
use Rattle.spellable.specs.Marks.{Mark, keyword, name, variable, integer, text, read, sign, outside as outside_mark, marked, all_written, file_written}
use Rattle.spellable.proofs.Cutting.{IsCut, IsCutInto, name_cut, variable_cut, integer_cut, text_cut}
use Rattle.php_writer.proofs.CutWords.{keyword_cut, sign_cut}
use Rattle.spellable.proofs.CutOutside.{outside_cut, opening}
use Rattle.spellable.proofs.CutRead.{read_cut}
use Rattle.spellable.proofs.Decimals.{decimal_integer, decimal_value}
use Rattle.php_writer.proofs.NoCasts.{AllWritable, no_cast}

call_name_cut : (w rest : List ℕ) (ts : List Terminal) → IsName w → keyword_of w ≡ None → IsCutInto rest ts → IsCutInto (w ++ 32 ∷ rest) (name_terminal w ∷ ts)
call_name_cut w rest ts is none next =
    let P : Terminal → Type 0 = λ t. IsCutInto (w ++ 32 ∷ rest) (t ∷ ts)
    in subst P (ap (λ k. word_or_name k w) none) (name_cut w rest ts is next)

pub all_cut : (ms : List Mark) → AllWritable ms → IsCutInto (all_written ms) (marked ms)
unfolding all_written
all_cut [] all at = record { tokens = []; cut = at_end; are = refl }
all_cut (keyword k ∷ ms) all at = keyword_cut k (all_written ms) (marked ms) (all_cut ms all) at
all_cut (name w ∷ ms) all at = call_name_cut w (all_written ms) (marked ms) all.0 all.1 (all_cut ms all.3) at
all_cut (variable x ∷ ms) all at = variable_cut x (all_written ms) (marked ms) all.0 (all_cut ms all.1) at
all_cut (integer n ∷ ms) all at = integer_cut (decimal n) (all_written ms) n (marked ms) (decimal_integer n all.0) (decimal_value n all.0) (all_cut ms all.1) at
all_cut (text t ∷ ms) all at = text_cut t (all_written ms) (marked ms) (all_cut ms all) at
all_cut (read x ks ∷ ms) all at = read_cut x ks (all_written ms) (marked ms) all.0 all.1 (all_cut ms all.2) at
all_cut (sign s ∷ ms) all at = sign_cut s (all_written ms) (marked ms) (no_cast ms all) (all_cut ms all) at
all_cut (outside_mark t ∷ ms) all at = outside_cut t (all_written ms) (marked ms) all.0 (all_cut ms all.1) at

-- a file of marks
pub record IsCutFile (ms : List Mark) : Type 0 where
  pub tokens : List PlainToken
  pub cut : Cuts (file_written ms) tokens
  pub are : terminals tokens ≡ marked ms

file_of : (ms : List Mark) → IsCut 6 (all_written ms) (marked ms) → IsCutFile ms
file_of ms c = record { tokens = c.tokens; cut = after_blank (opening (all_written ms)) c.cut; are = c.are }

pub file_cut : (ms : List Mark) → AllWritable ms → IsCutFile ms
file_cut ms all = file_of ms (all_cut ms all 6)
