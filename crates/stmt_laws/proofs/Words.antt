-- Each move where a statement begins carries what stands behind it.
use Rattle.std.proofs.Common.{◌≡◌, true, List, ◌∷◌, refl}
use Rattle.php_syntax.specs.declared.token.Sign.{Sign}
use Rattle.php_syntax.specs.declared.token.Sign.TheVariants as sign
use Rattle.script_grammar.specs.declared.keyword.Keyword.{Keyword}
use Rattle.script_grammar.specs.declared.keyword.Keyword.TheVariants as word
use Rattle.script_grammar.specs.Terminals.{Terminal, inline_terminal, word_terminal, text_terminal, sign_terminal}
use Rattle.script_grammar.specs.Statements.{is_include}
use Rattle.stmt_machine.specs.declared.frame.Row.TheVariants as row
use Rattle.stmt_machine.specs.declared.frame.Frame.{Frame}
use Rattle.stmt_machine.specs.Actions.{echo_action, break_action, continue_action, include_action}
use Rattle.stmt_machine.specs.Machine.{include_move, word_move, sign_move, begin_move}
use Rattle.stmt_laws.proofs.Stands.{Begun, Later, Carries}
use Rattle.stmt_laws.proofs.Built.{semicolon_begun, inline_begun, block_begun, print_begun, do_begun, break_begun, continue_begun, include_begun, include_parens_begun}
use Rattle.stmt_laws.proofs.SoundRows.{echo_begun}
use Rattle.stmt_laws.proofs.Cases.{ExprSound}
use Rattle.stmt_laws.proofs.SoundBegins.{value_carries, run_carries, listed_carries, if_carries, while_carries, foreach_carries, for_carries, jump_carries, return_carries, exit_carries}

include_carries : (w : Keyword) → is_include w ≡ true → (fs : List Frame) (ts : List Terminal) → Carries (include_move fs ts) (Begun (Later fs) (word_terminal w ∷ ts))
include_carries w is fs (text_terminal t ∷ ts) = jump_carries (include_action t) fs (λ us bs. Begun (Later fs) (word_terminal w ∷ text_terminal t ∷ us) bs) (λ r bs g. include_begun w is t r bs g) ts
include_carries w is fs (sign_terminal sign.OpenParen ∷ text_terminal t ∷ sign_terminal sign.CloseParen ∷ ts) =
    jump_carries (include_action t) fs (λ us bs. Begun (Later fs) (word_terminal w ∷ sign_terminal sign.OpenParen ∷ text_terminal t ∷ sign_terminal sign.CloseParen ∷ us) bs) (λ r bs g. include_parens_begun w is t r bs g) ts
include_carries w is fs ts = tt

echo_carries : ExprSound → (fs : List Frame) (ts : List Terminal) → Carries (word_move word.Echo fs ts) (Begun (Later fs) (word_terminal word.Echo ∷ ts))
echo_carries sound fs ts = listed_carries sound row.Echo 1 fs (λ us bs. Begun (Later fs) (word_terminal word.Echo ∷ us) bs) (λ e r bs g. echo_begun e g) ts

print_carries : ExprSound → (fs : List Frame) (ts : List Terminal) → Carries (word_move word.Print fs ts) (Begun (Later fs) (word_terminal word.Print ∷ ts))
print_carries sound fs ts = value_carries sound (echo_action 1) fs (λ us bs. Begun (Later fs) (word_terminal word.Print ∷ us) bs) (λ e r bs g. print_begun e r bs g) ts

break_carries : (fs : List Frame) (ts : List Terminal) → Carries (word_move word.Break fs ts) (Begun (Later fs) (word_terminal word.Break ∷ ts))
break_carries fs ts = jump_carries break_action fs (λ us bs. Begun (Later fs) (word_terminal word.Break ∷ us) bs) (λ r bs g. break_begun r bs g) ts

continue_carries : (fs : List Frame) (ts : List Terminal) → Carries (word_move word.Continue fs ts) (Begun (Later fs) (word_terminal word.Continue ∷ ts))
continue_carries fs ts = jump_carries continue_action fs (λ us bs. Begun (Later fs) (word_terminal word.Continue ∷ us) bs) (λ r bs g. continue_begun r bs g) ts

word_carries : ExprSound → (k : Keyword) (fs : List Frame) (ts : List Terminal) → Carries (word_move k fs ts) (Begun (Later fs) (word_terminal k ∷ ts))
word_carries sound word.Echo fs ts = echo_carries sound fs ts
word_carries sound word.Print fs ts = print_carries sound fs ts
word_carries sound word.If fs ts = if_carries sound fs ts
word_carries sound word.While fs ts = while_carries sound fs ts
word_carries sound word.Do fs ts = λ bs g. do_begun g
word_carries sound word.For fs ts = for_carries fs ts
word_carries sound word.Foreach fs ts = foreach_carries sound fs ts
word_carries sound word.Break fs ts = break_carries fs ts
word_carries sound word.Continue fs ts = continue_carries fs ts
word_carries sound word.Return fs ts = return_carries sound fs ts
word_carries sound word.Include fs ts = include_carries word.Include refl fs ts
word_carries sound word.Require fs ts = include_carries word.Require refl fs ts
word_carries sound word.Exit fs ts = exit_carries sound fs ts
word_carries sound k fs ts = run_carries sound fs (word_terminal k ∷ ts)

sign_carries : ExprSound → (s : Sign) (fs : List Frame) (ts : List Terminal) → Carries (sign_move s fs ts) (Begun (Later fs) (sign_terminal s ∷ ts))
sign_carries sound sign.Semicolon fs ts = λ bs g. semicolon_begun ts bs g
sign_carries sound sign.OpenBrace fs ts = λ bs g. block_begun g
sign_carries sound s fs ts = run_carries sound fs (sign_terminal s ∷ ts)

pub begin_carries : ExprSound → (fs : List Frame) (ts : List Terminal) → Carries (begin_move fs ts) (Begun (Later fs) ts)
begin_carries sound fs (inline_terminal t ∷ ts) = λ bs g. inline_begun t ts bs g
begin_carries sound fs (sign_terminal s ∷ ts) = sign_carries sound s fs ts
begin_carries sound fs (word_terminal k ∷ ts) = word_carries sound k fs ts
begin_carries sound fs ts = run_carries sound fs ts
