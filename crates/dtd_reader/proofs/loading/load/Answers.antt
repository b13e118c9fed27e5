use Rattle.std.proofs.Common.{subst}
use Rattle.dtd_reader.specs.Views.{IsBehind}
use Rattle.dtd_reader.proofs.Later.{loaded_from}
use Rattle.dtd_reader.proofs.loading.load.Goals as goal

pub returns-in_ok-loaded-in-Ok-clause-loaded : goal.returns-in_ok-loaded-in-Ok-clause-loaded
returns-in_ok-loaded-in-Ok-clause-loaded g c =
    loaded_from (g.F.Files.content c.read.new.self) c.args.path.now c.in-Ok.whole c.in_ok-loaded-in-Ok.loaded c.in-Ok.ensures.content
    (subst (λ w. IsBehind w c.in_ok-loaded-in-Ok.loaded) c.as_slice.ensures c.in_ok-loaded-in-Ok.ensures)
