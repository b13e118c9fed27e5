use Rattle.std.proofs.Common.{◌∙◌}
use Rattle.program_files.proofs.Pairs.{name_at}
use Rattle.program_files.proofs.files.ScriptFiles.name.Goals as goal

pub returns : goal.returns
returns c = c.get_index.ensures.key ∙ name_at c.args.self.now.names.keys c.args.self.now.trees.items c.args.place c.args.self.now.paired
