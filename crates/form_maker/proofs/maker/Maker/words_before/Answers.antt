use Rattle.std.proofs.Common.{ap, sym, ◌∙◌, ◌++◌, ◌∷◌, [], List, ℕ}
use Rattle.std.proofs.lemmas.List.{nil_from_length}
use Rattle.form_maker.specs.Making.{making_of}
use Rattle.form_maker.specs.Words.{word_test, words_before}
use Rattle.form_maker.proofs.Before.{begun, one_before, none_before}
use Rattle.form_maker.proofs.maker.Maker.words_before.Goals as goal

pub loop-last-init : goal.loop-last-init
loop-last-init c = begun (words_before (word_test c.args.test) c.args.words.now) (making_of c.args.self.now)

pub loop-last-preserved : goal.loop-last-preserved
loop-last-preserved c =
    one_before (word_test c.args.test) c.args.words.now c.loop-last.left.now c.in-Some.others.now c.as_slice-word.result.now c.passes.result (making_of c.args.self.now) (making_of c.loop-last.self) (making_of c.word_if.new.self)
    c.loop-last.invariant (c.in-Some.ensures.cases.0 ∙ ap (λ (w : List ℕ). c.in-Some.others.now ++ w ∷ []) (sym c.as_slice-word.ensures)) c.passes.ensures c.in_ok-word_if.ensures

pub returns : goal.returns
returns c = none_before (word_test c.args.test) c.args.words.now c.loop-last.left.now (making_of c.args.self.now) (making_of c.loop-last.self) c.loop-last.invariant (nil_from_length c.loop-last.left.now c.in_default.ensures.cases)
