-- Derivatives that were asked for, and what was answered.
use Rattle.std.specs.Prelude.{◌≡◌, ℕ, Bool, true, ◌&&◌, Option, Some, slice_get}
use Rattle.indexmap.specs.IndexMap.{IndexMap, get}
use Rattle.derivatives.specs.Derivatives.{after, same}
use Rattle.derivatives.specs.Nodes.{is_expr_at}
use Rattle.derivatives.specs.Standing.{expr_at}
use Rattle.derivatives.specs.declared.arena.Arena.{Arena}
use Rattle.derivatives.specs.declared.ask.Ask.{Ask}
use Rattle.derivatives.specs.contracts.ask.AskPartialEq.TheImpl as asks

-- what was answered
abbrev pub answer_of : {S : Type 0} → IndexMap Ask ℕ S → Ask → Option ℕ
answer_of answers ask = get (asks.ghosts).eq answers ask

-- the number is that of an expression, and the other that of its derivative by the byte
abbrev pub is_answer : Arena → Ask → ℕ → Bool
is_answer arena ask n =
    is_expr_at (slice_get arena.nodes.keys ask.place) && (is_expr_at (slice_get arena.nodes.keys n) && same (expr_at arena n) (after ask.byte (expr_at arena ask.place)))

-- each answer is right
abbrev pub AreAnswers : {S : Type 0} → Arena → IndexMap Ask ℕ S → Type 0
AreAnswers arena answers = (ask : Ask) (n : ℕ) → answer_of answers ask ≡ Some n → is_answer arena ask n ≡ true
