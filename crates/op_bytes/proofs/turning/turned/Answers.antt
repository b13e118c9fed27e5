use Rattle.std.proofs.Common.{◌<◌, ℕ, Bool, List, sym, subst}
use Rattle.std.specs.Prelude.{◌↔◌}
use Rattle.text_base.specs.ByteSet.{Has}
use Rattle.op_bytes.proofs.OpLemmas.{IsTurnedBelow, turned_none, turned_step, turned_end}
use Rattle.op_bytes.proofs.turning.turned.Goals as goal

pub loop-byte-init : goal.loop-byte-init
loop-byte-init c = subst (λ (e : List Bool). (x : ℕ) → x < 256 → Has e x ↔ IsTurnedBelow c.args.op.now c.args.own.now 0 x) (sym c.empty-set.ensures) (turned_none c.args.own.now c.args.op.now)

pub loop-byte-preserved : goal.loop-byte-preserved
loop-byte-preserved c = turned_step c.loop-byte.set c.add_made.new.set c.args.own.now c.args.op.now c.loop-byte.byte c.loop-byte-test.true c.loop-byte.invariant c.add_made.ensures

pub returns : goal.returns
returns c = turned_end c.loop-byte.set c.args.own.now c.args.op.now c.loop-byte.byte c.loop-byte-test.false c.loop-byte.invariant
