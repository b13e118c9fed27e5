use Rattle.std.proofs.Common.{◌≡◌, suc, ◌-◌, ◌∙◌, sym, arith}
use Rattle.form_maker.specs.Making.{making_of}
use Rattle.form_maker.proofs.Before.{no_byte, byte_in, byte_out}
use Rattle.form_maker.proofs.maker.Maker.+ranges_below.Goals as goal

pub returns-then-end-eq0 : goal.returns-then-end-eq0
returns-then-end-eq0 g t c =
    no_byte (g.T.ByteTest.passing c.args.test.now) c.args.end c.args.last (making_of c.args.self.now) (making_of c.range_before.new.self) c.if-end-eq0.true c.in_ok-range_before.ensures

pub returns-then-passes : goal.returns-then-passes
returns-then-passes g t c =
    let byte = c.args.end - 1 in
    let is : c.args.end ≡ suc byte = omega arith in
    byte_in (g.T.ByteTest.passing c.args.test.now) c.args.end byte c.args.last c.unwrap_or.result (making_of c.args.self.now) (making_of c.ranges_below.new.self) is (sym c.passes.ensures ∙ c.if-passes.true)
    c.unwrap_or.ensures c.in_ok-ranges_below.ensures

pub returns : goal.returns
returns g t c =
    let byte = c.args.end - 1 in
    let is : c.args.end ≡ suc byte = omega arith in
    byte_out (g.T.ByteTest.passing c.args.test.now) c.args.end byte c.args.last (making_of c.args.self.now) (making_of c.range_before-2.new.self) (making_of c.ranges_below-2.new.self) is
    (sym c.passes.ensures ∙ c.if-passes.false) c.in_ok-range_before-2.ensures c.in_ok-ranges_below-2.ensures
