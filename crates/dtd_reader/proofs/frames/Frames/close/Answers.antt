use Rattle.std.proofs.Common.{◌∙◌, ap, refl}
use Rattle.dtd_reader.specs.Views.{frame_of}
use Rattle.dtd_reader.proofs.Stack.{stack_of, more_frames}
use Rattle.dtd_reader.proofs.frames.Frames.close.Goals as goal

pub returns-in-Some : goal.returns-in-Some
returns-in-Some c = (frame_of (c.in-Some.field-0-0, c.in-Some.rest), ap stack_of c.in-Some.ensures.entries ∙ more_frames c.pop.new.self.entries (c.in-Some.field-0-0, c.in-Some.rest), refl, refl)
