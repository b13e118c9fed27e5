use Rattle.std.proofs.Common.{sym}
use Rattle.program_files.specs.View.{files_of}
use Rattle.program_loader.proofs.MakeLemmas.{tree_found}
use Rattle.program_loader.proofs.making.tree_of.Goals as goal

pub returns-in-Some : goal.returns-in-Some
returns-in-Some c = tree_found (files_of c.args.files.now) c.args.name.now c.in-Some.place c.tree.result (sym c.in-Some.ensures.place) c.tree.ensures
