use Rattle.std.proofs.Common.{◌∙◌, sym}
use Rattle.php_writer.proofs.OpenerLemmas.{opens_here, opens_later}
use Rattle.php_writer.proofs.openers.none_opens.Goals as goal

pub returns-then-opens_at : goal.returns-then-opens_at
returns-then-opens_at c = opens_here c.args.bytes.now c.loop-place.place c.loop-place-test.true (sym c.opens_at.ensures ∙ c.if-opens_at.true) c.loop-place.invariant

pub loop-place-preserved : goal.loop-place-preserved
loop-place-preserved c = opens_later c.args.bytes.now c.loop-place.place c.loop-place-test.true (sym c.opens_at.ensures ∙ c.if-opens_at.false) c.loop-place.invariant
