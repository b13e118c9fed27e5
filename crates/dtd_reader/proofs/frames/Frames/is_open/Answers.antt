use Rattle.std.proofs.Common.{◌∙◌, sym}
use Rattle.dtd_reader.proofs.Stack.{open_is}
use Rattle.dtd_reader.proofs.frames.Frames.is_open.Goals as goal

pub returns : goal.returns
returns c = c.contains_key.ensures ∙ sym (open_is c.args.self.now.frames.entries c.args.name.now)
