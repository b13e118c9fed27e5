-- When a file is refused, and as what.
use Rattle.std.specs.Prelude.{◌≡◌, ◌≤◌, ◌<◌, ◌⊎◌, ℕ, Result, MatchResult, List, length}
use Rattle.text_base.specs.declared.limits.TheConstants.{FILE_LIMIT}
use Rattle.lexical_grammar.specs.Cuts as grammar
use Rattle.php_lexer.specs.declared.refusal.LexRefusal.{LexRefusal}
use Rattle.php_lexer.specs.declared.refusal.LexRefusal.TheVariants.{Breaks, TooLong, Memory}

-- a file that is not too long
abbrev pub IsShort : List ℕ → Type 0
IsShort file = length file ≤ FILE_LIMIT

-- the file is one that is refused so; want of memory is free
abbrev pub IsCauseOf : List ℕ → LexRefusal → Type 0
IsCauseOf file (Breaks fault at) = IsShort file × grammar.Breaks file fault at
IsCauseOf file (TooLong len) = (FILE_LIMIT < length file) × (len ≡ length file)
IsCauseOf file Memory = Unit {0}

-- the answer is this refusal, or want of memory
abbrev pub IsRefused : {X : Type 0} → Result X LexRefusal → LexRefusal → Type 0
IsRefused result refusal = MatchResult result (λ found. ⊥) (λ e. (e ≡ refusal) ⊎ (e ≡ Memory))
