use Rattle.std.proofs.Common.{◌≡◌, ◌∙◌, length, drop, ap, subst, arith}
use Rattle.std.proofs.lemmas.List.{length-drop}
use Rattle.dtd_entities.specs.Positions.{state_of, seen, IsWithin}
use Rattle.dtd_texts.specs.Reading.{move}
use Rattle.dtd_texts.specs.Spells.{seen_from}
use Rattle.dtd_reader.specs.Views.{frames_of}
use Rattle.dtd_reader.proofs.SoFar.{took_by, broken_by, omitted_by}
use Rattle.dtd_reader.proofs.reader.Reader.take.Goals as goal

pub returns-in-On-clause-told : goal.returns-in-On-clause-told
returns-in-On-clause-told g c = λ content file stays so_far. took_by (seen_from c.args.origin.root.now c.args.origin.name.now content) file (state_of c.args.self.now.reading) (state_of c.step.new.self) c.in-On.n c.args.self.now.at c.args.self.now.text c.behind.result.now (frames_of c.args.self.now.frames)
    (subst (λ m. seen m (state_of c.step.new.self) c.behind.result.now ≡ move (state_of c.args.self.now.reading) c.behind.result.now) c.in-On.is c.in_ok-n.ensures.value) (c.behind.ensures.value ∙ ap (drop c.args.self.now.at) c.as_slice.ensures) (omega (arith, length-drop c.args.self.now.at c.args.self.now.text, c.requires.at, ap length (c.behind.ensures.value ∙ ap (drop c.args.self.now.at) c.as_slice.ensures))) so_far

pub returns-in-Omits-clause-told : goal.returns-in-Omits-clause-told
returns-in-Omits-clause-told g c = λ content file stays so_far. (
  omitted_by (seen_from c.args.origin.root.now c.args.origin.name.now content) file (state_of c.args.self.now.reading) c.args.self.now.at c.args.self.now.text c.behind.result.now (frames_of c.args.self.now.frames)
      (subst (λ m. seen m (state_of c.step.new.self) c.behind.result.now ≡ move (state_of c.args.self.now.reading) c.behind.result.now) c.in-Omits.is c.in_ok-n.ensures.value) (c.behind.ensures.value ∙ ap (drop c.args.self.now.at) c.as_slice.ensures) (omega (arith, length-drop c.args.self.now.at c.args.self.now.text, c.requires.at, ap length (c.behind.ensures.value ∙ ap (drop c.args.self.now.at) c.as_slice.ensures))) so_far,
  (subst (λ m. IsWithin m (state_of c.args.self.now.reading) (state_of c.step.new.self) c.behind.result.now) c.in-Omits.is c.in_ok-n.ensures.within),
)

pub returns-in-Stuck-clause-told : goal.returns-in-Stuck-clause-told
returns-in-Stuck-clause-told g c = λ content file stays so_far. (
  broken_by (seen_from c.args.origin.root.now c.args.origin.name.now content) file (state_of c.args.self.now.reading) c.args.self.now.at c.args.self.now.text c.behind.result.now (frames_of c.args.self.now.frames)
      (subst (λ m. seen m (state_of c.step.new.self) c.behind.result.now ≡ move (state_of c.args.self.now.reading) c.behind.result.now) c.in-Stuck.is c.in_ok-n.ensures.value) (c.behind.ensures.value ∙ ap (drop c.args.self.now.at) c.as_slice.ensures) (omega (arith, length-drop c.args.self.now.at c.args.self.now.text, c.requires.at, ap length (c.behind.ensures.value ∙ ap (drop c.args.self.now.at) c.as_slice.ensures))) so_far,
  (subst (λ m. IsWithin m (state_of c.args.self.now.reading) (state_of c.step.new.self) c.behind.result.now) c.in-Stuck.is c.in_ok-n.ensures.within),
)
