use Rattle.std.proofs.Common.{◌+◌, arith, subst}
use Rattle.flow_code.specs.Points.{PlainSource}
use Rattle.flow_code.specs.View.{plain_maybe_key}
use Rattle.flow_code.specs.Expressions.{member_at}
use Rattle.flow_lowering.specs.View.{progress}
use Rattle.flow_lowering.specs.Emits.{Sets, place}
use Rattle.flow_lowering.proofs.WriteLemmas.{members_further, members_end}
use Rattle.flow_lowering.proofs.writes.lower_members.Goals as goal

pub loop-key-init : goal.loop-key-init
loop-key-init c = record { slot = c.requires; rest = λ s p. p }

pub loop-key-preserved : goal.loop-key-preserved
loop-key-preserved c =
    let d : Sets (progress c.loop-key.points) (progress c.compute.new.self) (member_at c.loop-key.member.0 (plain_maybe_key c.key-item.result)) (place (progress c.loop-key.points) + 1) c.in_ok-member.member.0 =
    subst (λ (x : PlainSource). Sets (progress c.loop-key.points) (progress c.compute.new.self) x (place (progress c.loop-key.points) + 1) c.in_ok-member.member.0) c.in_ok-source.ensures c.in_ok-member.ensures in
    record {
      slot = omega (arith, d.slot, d.puts.slot);
      rest = members_further c.loop-key.member.0 c.in_ok-member.member.0 c.args.base.0 c.args.path.now c.loop-key.key-index c.key-item.result c.loop-key-test.true c.key-item.is d c.loop-key.invariant.rest;
    }

pub returns : goal.returns
returns c = record {
  puts = members_end c.loop-key.member.0 c.args.base.0 c.args.path.now c.loop-key.key-index c.loop-key-test.false c.loop-key.invariant.rest;
  slot = c.loop-key.invariant.slot;
}
