use Rattle.std.proofs.lemmas.List.{nil_from_length}
use Rattle.form_maker.specs.Making.{making_of}
use Rattle.form_maker.specs.Words.{word_before}
use Rattle.form_maker.proofs.Before.{begun, byte_before, all_before}
use Rattle.form_maker.proofs.maker.Maker.word_before.Goals as goal

pub loop-last-init : goal.loop-last-init
loop-last-init c = begun (word_before c.args.word.now) (making_of c.args.self.now)

pub loop-last-preserved : goal.loop-last-preserved
loop-last-preserved c =
    byte_before c.args.word.now c.loop-last.left.now c.in-Some.others.now c.in-Some.last.now (making_of c.args.self.now) (making_of c.loop-last.self) (making_of c.byte.new.self) (making_of c.chain_before.new.self)
    c.loop-last.invariant c.in-Some.ensures.cases.0 c.in_ok-byte.ensures c.in_ok-chain_before.ensures

pub returns : goal.returns
returns c = all_before c.args.word.now c.loop-last.left.now (making_of c.args.self.now) (making_of c.loop-last.self) c.loop-last.invariant (nil_from_length c.loop-last.left.now c.in_default.ensures.cases)
