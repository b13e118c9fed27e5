-- Points of statements while it is not known yet where `break` and `continue` lead, and at the head of a loop while its end is not known.
use Rattle.std.specs.Prelude.{ℕ, ◌+◌, List, [], ◌∷◌, slice_set}
use Rattle.flow_code.specs.Points.{PlainPoint, branch_point, jump_point, next_point}
use Rattle.flow_code.specs.Code.{Targets}
use Rattle.flow_lowering.specs.Emits.{Progress}
use Rattle.flow_lowering.specs.declared.exits.Exit.{Exit}
use Rattle.flow_lowering.specs.declared.exits.Exit.TheVariants as exit
use Rattle.flow_lowering.specs.declared.heads.Head.{Head}
use Rattle.flow_lowering.specs.declared.heads.Head.TheVariants as head

-- a point that stays as it is, one of a `break`, or one of a `continue`
pub data Draft : Type 0 where
  settled : PlainPoint → Draft
  leaving : Draft
  turning : Draft

-- what stands among the points until it is known where it leads
abbrev pub unaimed : Draft → PlainPoint
unaimed (settled x) = x
unaimed leaving = jump_point 0
unaimed turning = jump_point 0

-- what stands there then
abbrev pub aimed : Targets → Draft → PlainPoint
aimed to (settled x) = x
aimed to leaving = jump_point to.stop
aimed to turning = jump_point to.again

-- the exits, by their places, where the first point has this place
abbrev pub exits_from : ℕ → List Draft → List Exit
exits_from n [] = []
exits_from n (settled x ∷ d) = exits_from (n + 1) d
exits_from n (leaving ∷ d) = exit.Stop n ∷ exits_from (n + 1) d
exits_from n (turning ∷ d) = exit.Again n ∷ exits_from (n + 1) d

-- one point is replaced
abbrev pub replaced : Progress → ℕ → PlainPoint → Progress
replaced s i x = record { first = s.first; points = slice_set s.points i x; slot = s.slot }

-- each exit is replaced by a jump
abbrev pub filled : Targets → List Exit → Progress → Progress
filled to [] s = s
filled to (exit.Stop i ∷ es) s = replaced (filled to es s) i (jump_point to.stop)
filled to (exit.Again i ∷ es) s = replaced (filled to es s) i (jump_point to.again)

-- the head of a loop leads to its end
abbrev pub closed : ℕ → Head → Progress → Progress
closed stop (head.Test x point) s = replaced s point.index (branch_point x.0 point.behind.0 stop)
closed stop (head.Walk x point) s = replaced s point.index (next_point x.0 point.behind.0 stop)
closed stop head.Always s = s
