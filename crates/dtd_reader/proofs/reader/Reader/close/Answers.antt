use Rattle.std.proofs.Common.{refl, subst}
use Rattle.std.proofs.Math.ListN.{drop_of_length-le}
use Rattle.dtd_texts.specs.Spells.{seen_from}
use Rattle.dtd_entities.specs.Positions.{state_of}
use Rattle.dtd_reader.specs.SoFar.{SoFar}
use Rattle.dtd_reader.specs.Views.{position_of}
use Rattle.dtd_reader.proofs.SoFar.{at, ended, closed_to}
use Rattle.dtd_reader.proofs.reader.Reader.close.Goals as goal

pub returns-in-None-clause-told : goal.returns-in-None-clause-told
returns-in-None-clause-told c = λ root name content file so_far. (
  ended (seen_from root name content) file (state_of c.args.self.now.reading) (position_of c.args.self.now).text (drop_of_length-le c.args.self.now.text c.requires.at)
      (subst (λ fs. SoFar (seen_from root name content) file (at (state_of c.args.self.now.reading) (position_of c.args.self.now).text fs)) c.in-None.ensures so_far),
  refl,
)

pub returns-in_ok-leave-in-Some-clause-told : goal.returns-in_ok-leave-in-Some-clause-told
returns-in_ok-leave-in-Some-clause-told c = λ root name content file so_far.
    closed_to (seen_from root name content) file (state_of c.args.self.now.reading) (state_of c.leave.new.self) (position_of c.args.self.now).text _ c.in-Some.rest.file c.in-Some.ensures.0
    (position_of c.args.self.now).frames _ (drop_of_length-le c.args.self.now.text c.requires.at) c.in-Some.ensures.1 c.in-Some.ensures.2 c.in-Some.ensures.3 c.in_ok-leave-in-Some.ensures so_far
