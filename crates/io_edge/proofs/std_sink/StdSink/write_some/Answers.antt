use Rattle.std.proofs.Common.{rules, refl}
use Rattle.std.proofs.KnownBytes.{Keeps-refl, Keeps-trans}
use Rattle.io_edge.proofs.Grown.{Keeps-appends, Keeps-none}
use Rattle.io_edge.proofs.std_sink.StdSink.write_some.Goals as goal

pub loop-init : goal.loop-init
loop-init g c = (Keeps-refl _, refl)

pub returns-in-Ok-eq0-clause-none : goal.returns-in-Ok-eq0-clause-none
returns-in-Ok-eq0-clause-none g c = λ _. Keeps-none _ _ _ _ _ c.loop.invariant.0 c.in-Ok-eq0.ensures.bytes c.in-Ok-eq0.field-0-test

pub returns-in-Ok-clause-some : goal.returns-in-Ok-clause-some
returns-in-Ok-clause-some g c = (search rules, search rules, Keeps-appends _ _ _ _ c.loop.invariant.0 c.in-Ok.ensures.bytes)

pub returns-in_default-clause-none : goal.returns-in_default-clause-none
returns-in_default-clause-none g c = λ _. Keeps-trans _ _ _ c.loop.invariant.0 c.in-Err.ensures.bytes

pub returns-in_default-2 : goal.returns-in_default-2
returns-in_default-2 g c = record { some = tt; none = λ _. Keeps-trans _ _ _ c.loop.invariant.0 c.in-Err.ensures.bytes; faults = c.loop.invariant.1 }

pub loop-preserved : goal.loop-preserved
loop-preserved g c = (Keeps-trans _ _ _ c.loop.invariant.0 c.in-Err.ensures.bytes, c.loop.invariant.1)
