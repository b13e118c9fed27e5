use Rattle.ssa_form.specs.Versions.{version_of}
use Rattle.point_listing.proofs.ReadLemmas.{read_some, read_none}
use Rattle.point_listing.proofs.set_versions.version_read.Goals as goal

pub returns-in-Some : goal.returns-in-Some
returns-in-Some c =
    read_some c.args.point c.args.slot.0 (version_of c.args.versions.now c.args.point c.args.slot.0) c.version_at.result c.in-Some.version c.by_numbers.result c.version_at.ensures c.in-Some.is c.by_numbers.ensures

pub returns-in-None : goal.returns-in-None
returns-in-None c = read_none c.args.point c.args.slot.0 (version_of c.args.versions.now c.args.point c.args.slot.0) c.version_at.result c.version_at.ensures c.in-None.is
