-- What the types of this crate stand for.
use Rattle.std.specs.Prelude.{◌≡◌, ℕ, ◌<◌, ◌≤◌, List, [], ◌∷◌, ◌++◌, Option, Some, None, option_map, Result, IfOk, IfSome}
use Rattle.text_base.specs.declared.memory.NoMemory.{NoMemory}
use Rattle.php_syntax.specs.Tokens.{PlainToken, PlainKind, plain_kind}
use Rattle.lexical_grammar.specs.Steps as syntax
use Rattle.php_lexer.specs.declared.step.Mode.{Mode}
use Rattle.php_lexer.specs.declared.step.Mode.TheVariants.{Outside, Inside}
use Rattle.php_lexer.specs.declared.step.Step.{Step}
use Rattle.php_lexer.specs.declared.step.Step.TheVariants.{Goes, Refuses}

-- the plain form of whether the lexer is inside PHP or outside
abbrev pub mode_of : Mode → syntax.Mode
mode_of Outside = syntax.outside
mode_of Inside = syntax.inside

-- a step in its plain form
abbrev pub plain_step : Step → syntax.Step
plain_step (Goes kind n mode) = syntax.goes (option_map plain_kind kind) n (mode_of mode)
plain_step (Refuses fault n) = syntax.refuses fault n

-- a step, where there is one
abbrev pub maybe_step : Option Step → Option syntax.Step
maybe_step o = option_map plain_step o

-- a step takes one byte at least, and no more than so many
abbrev pub IsWithin : ℕ → Step → Type 0
IsWithin most (Goes kind n mode) = (0 < n) × (n ≤ most)
IsWithin most (Refuses fault n) = n ≤ most

-- what stands at the head is this, want of memory aside
abbrev pub Reads : Result (Option Step) NoMemory → Option syntax.Step → Type 0
Reads result step = IfOk result (λ o. maybe_step o ≡ step)

-- where something stands there, it takes no more than so many bytes
abbrev pub ReadsWithin : Result (Option Step) NoMemory → ℕ → Type 0
ReadsWithin result most = IfOk result (λ o. IfSome o (IsWithin most))

-- the tokens, and behind them the token that a step gives, if it gives one
abbrev pub tokens_with : List PlainToken → Option PlainKind → ℕ → List PlainToken
tokens_with tokens None at = tokens
tokens_with tokens (Some kind) at = tokens ++ record { kind = kind; at = at } ∷ []
