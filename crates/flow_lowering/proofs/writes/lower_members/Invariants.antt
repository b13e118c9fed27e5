use Rattle.std.proofs.Common.{◌≡◌, ◌+◌, length, map, drop}
use Rattle.flow_code.specs.View.{plain_maybe_key}
use Rattle.flow_code.specs.Expressions.{members_along}
use Rattle.flow_lowering.specs.View.{progress}
use Rattle.flow_lowering.specs.Emits.{Progress, Puts, place}
use Rattle.flow_lowering.proofs.writes.lower_members.Given as goal

-- what puts the members that are left puts all
abbrev pub invariant-loop-key : goal.invariant-loop-key
invariant-loop-key l = record {
  slot : l.member.0 + 1 ≡ l.points.slot;
  rest : (s : Progress) → Puts (progress l.points) s (members_along l.member.0 (map plain_maybe_key (drop l.key-index l.path)) (place (progress l.points)) l.points.slot) (length (drop l.key-index l.path))
      → Puts (progress l.initial.points) s (members_along l.initial.member.0 (map plain_maybe_key l.path) (place (progress l.initial.points)) l.initial.points.slot) (length l.path);
}
