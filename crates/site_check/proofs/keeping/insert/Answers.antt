use Rattle.std.proofs.Common.{◌∙◌}
use Rattle.std.specs.Prelude.{bytes_eq}
use Rattle.indexmap.proofs.CallerLemmas.{insert_entry-new}
use Rattle.site_check.proofs.keeping.insert.Goals as goal

pub returns : goal.returns
returns c = c.in-Ok.ensures.entries ∙ insert_entry-new bytes_eq c.args.files.now c.args.name c.args.file c.requires.new
