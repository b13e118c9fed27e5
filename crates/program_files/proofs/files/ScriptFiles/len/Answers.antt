use Rattle.std.proofs.Common.{arith}
use Rattle.program_files.proofs.Pairs.{length_paired}
use Rattle.program_files.proofs.files.ScriptFiles.len.Goals as goal

pub returns : goal.returns
returns c = omega (arith, c.len.ensures, length_paired c.args.self.now.names.keys c.args.self.now.trees.items c.args.self.now.paired, c.args.self.now.trees.ok.0)
