-- What the last thing begun waits for, where it waits for less than an expression.
use Rattle.std.specs.Prelude.{ℕ, List, [], ◌∷◌}
use Rattle.expr_machine.specs.declared.frame.Frame.{Frame}
use Rattle.expr_machine.specs.declared.frame.Frame.TheVariants as frame
use Rattle.expr_machine.specs.Machine.{level_rank}
use Rattle.expr_parser.specs.declared.reader.Waiting.{Waiting}
use Rattle.expr_parser.specs.declared.reader.Waiting.TheVariants as waiting

-- what a thing that was begun waits for; all others wait for a whole expression
abbrev pub waiting_for : Frame → Waiting
waiting_for (frame.Prefix p) = waiting.Prefix p
waiting_for (frame.Operator l o) = waiting.Operator l o
waiting_for (frame.Join n) = waiting.Join n
waiting_for frame.Coalesce = waiting.Coalesce
waiting_for frame.ShortChoice = waiting.ShortChoice
waiting_for frame.FullChoice = waiting.FullChoice
waiting_for _ = waiting.Whole

-- what the last thing begun waits for; a whole expression where nothing is
abbrev pub waiting_of : List Frame → Waiting
waiting_of [] = waiting.Whole
waiting_of (f ∷ fs) = waiting_for f

-- how loose a value that is
abbrev pub rank_of : Waiting → ℕ
rank_of (waiting.Prefix p) = 0
rank_of (waiting.Operator l o) = level_rank l
rank_of (waiting.Join n) = 3
rank_of waiting.Coalesce = 8
rank_of waiting.ShortChoice = 8
rank_of waiting.FullChoice = 8
rank_of waiting.Whole = 10

-- what was begun before the last thing
abbrev pub behind_top : List Frame → List Frame
behind_top [] = []
behind_top (f ∷ fs) = fs
