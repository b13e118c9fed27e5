-- Moves where something stands next, whatever it is.
use Rattle.std.proofs.Common.{◌≡◌, ℕ, List, [], ◌∷◌, ap, sym, ◌∙◌}
use Rattle.php_syntax.specs.declared.token.Sign.TheVariants as sign
use Rattle.script_grammar.specs.declared.keyword.Keyword.TheVariants as word
use Rattle.php_syntax.specs.Trees.{no_expr}
use Rattle.script_grammar.specs.Terminals.{Terminal, variable_terminal, sign_terminal}
use Rattle.stmt_machine.specs.declared.frame.Focus.TheVariants as focus
use Rattle.stmt_machine.specs.declared.frame.Frame.{Frame}
use Rattle.stmt_machine.specs.Actions.{parameter_action}
use Rattle.stmt_machine.specs.Machine.{moves, parameter_move, part_move}
use Rattle.stmt_machine.specs.Made.{Made}
use Rattle.stmt_parser.specs.Nexts.{default_at, default_next}
use Rattle.stmt_parser.specs.Outcomes.{acted, gone}
use Rattle.stmt_parser.proofs.ActedLemmas.{acted_none}
use Rattle.stmt_parser.proofs.OtherLemmas.{NoWord, part_stmt, parameter_default}

pub part_other : (ts : List Terminal) (t : Terminal) (r : List Terminal) → ts ≡ t ∷ r → NoWord word.Function ts → (m : Made) → acted (part_move ts) m ≡ gone focus.Begin [] ts m
part_other ts t r e h m =
    ap (λ x. acted (part_move x) m) e
    ∙ ap (λ x. acted x m) (part_stmt t r (λ q k. h q (e ∙ k)))
    ∙ acted_none focus.Begin [] (t ∷ r) m
    ∙ ap (λ x. gone focus.Begin [] x m) (sym e)

pub parameter_given : (x : List ℕ) (fs : List Frame) (ts : List Terminal) (t : Terminal) (r : List Terminal) → ts ≡ t ∷ r → parameter_move fs (variable_terminal x ∷ sign_terminal sign.Assign ∷ ts) ≡ default_next x fs (default_at ts)
parameter_given x fs ts t r e = ap (λ q. parameter_move fs (variable_terminal x ∷ sign_terminal sign.Assign ∷ q)) e ∙ parameter_default x fs t r ∙ ap (λ q. default_next x fs (default_at q)) (sym e)

pub parameter_empty : (x : List ℕ) (fs : List Frame) (bs ts : List Terminal) → bs ≡ sign_terminal sign.Assign ∷ ts → ts ≡ [] → (m : Made) → acted (parameter_move fs (variable_terminal x ∷ sign_terminal sign.Assign ∷ ts)) m ≡ acted (moves focus.BehindParameter fs bs (parameter_action x no_expr ∷ [])) m
parameter_empty x fs bs ts e f m =
    ap (λ q. acted (parameter_move fs (variable_terminal x ∷ sign_terminal sign.Assign ∷ q)) m) f
    ∙ ap (λ q. acted (moves focus.BehindParameter fs (sign_terminal sign.Assign ∷ q) (parameter_action x no_expr ∷ [])) m) (sym f)
    ∙ ap (λ q. acted (moves focus.BehindParameter fs q (parameter_action x no_expr ∷ [])) m) (sym e)
