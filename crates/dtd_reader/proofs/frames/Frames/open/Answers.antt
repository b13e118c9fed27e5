use Rattle.dtd_reader.proofs.Stack.{opened_stack}
use Rattle.dtd_reader.proofs.frames.Frames.open.Goals as goal

pub returns : goal.returns
returns c = opened_stack c.args.self.now.frames.entries c.insert.new.self.entries c.args.name c.args.rest c.requires c.in_ok-insert.ensures.entries
