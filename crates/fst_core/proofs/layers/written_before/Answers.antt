use Rattle.std.proofs.Common.{◌≡◌, ◌+◌, ◌-◌, length, arith}
use Rattle.fst_core.proofs.LayerLemmas.{before_found, before_none, before_long}
use Rattle.fst_core.proofs.layers.written_before.Goals as goal

pub returns-in-Some : goal.returns-in-Some
returns-in-Some c =
    let out = c.args.out.now in
    let output = c.args.output.now in
    let sum : (length output - length out) + length out ≡ length output = omega arith in
    (omega arith, before_found out output (length output - length out) c.in-Some.field-0 sum c.in-Some.ensures.puts)

pub returns-in-None : goal.returns-in-None
returns-in-None c =
    let out = c.args.out.now in
    let output = c.args.output.now in
    let sum : (length output - length out) + length out ≡ length output = omega arith in
    before_none out output (length output - length out) sum c.in-None.ensures.puts

pub returns-then-out-output : goal.returns-then-out-output
returns-then-out-output c = before_long c.args.out.now c.args.output.now c.if-out-output.true
