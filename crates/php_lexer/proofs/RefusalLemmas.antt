-- A file is refused in one way.
use Rattle.std.proofs.Common.{◌≡◌, ◌∙◌, ℕ, List, ap}
use Rattle.lexical_grammar.specs.declared.fault.LexicalFault.{LexicalFault}
use Rattle.lexical_grammar.specs.Cuts as grammar
use Rattle.lexical_grammar.proofs.CutLemmas.{break_once}
use Rattle.php_lexer.specs.declared.refusal.LexRefusal.TheVariants.{Breaks}

pub one_refusal : (file : List ℕ) (fault other : LexicalFault) (at place : ℕ) → grammar.Breaks file fault at → grammar.Breaks file other place → Breaks fault at ≡ Breaks other place
one_refusal file fault other at place first second =
    let one = break_once first second
    in ap (λ f. Breaks f at) one.0 ∙ ap (Breaks other) one.1
