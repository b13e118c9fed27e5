use Rattle.std.proofs.Common.{rules, bytes_eq}
use Rattle.std.specs.Map.{lookup}
use Rattle.site_check.specs.Answers.{IsAsked}
use Rattle.site_check.specs.Views.{kept_of}
use Rattle.site_check.proofs.Reasons.{first_content, first_reasons, first_stays}
use Rattle.site_check.proofs.reading.ReadOnceFiles.read.Goals as goal

pub returns-clause-content : goal.returns-clause-content
returns-clause-content g c =
    let new : IsAsked (lookup (bytes_eq c.args.name.now) c.args.self.now.kept.files.entries) = search rules in
    first_content (kept_of c.args.self.now.kept) (kept_of c.ask.new.kept) c.args.name.now new (g.F.Files.content c.args.self.now.inner) (g.F.Files.content c.ask.new.inner) c.ask.ensures.stays
    c.ask.result c.ask.ensures.kept c.ask.ensures.content

pub returns-clause-reason : goal.returns-clause-reason
returns-clause-reason g c =
    let new : IsAsked (lookup (bytes_eq c.args.name.now) c.args.self.now.kept.files.entries) = search rules in
    first_reasons (kept_of c.args.self.now.kept) (kept_of c.ask.new.kept) c.args.name.now new (g.F.Files.content c.args.self.now.inner) (g.F.Files.content c.ask.new.inner) c.ask.ensures.stays
    (g.F.Files.faults c.args.self.now.inner) (g.F.Files.faults c.ask.new.inner) (g.F.Files.misses c.args.self.now.inner) (g.F.Files.misses c.ask.new.inner) c.args.self.now.missed
    c.ask.result c.ask.ensures.kept c.ask.ensures.reason

pub returns-clause-stays : goal.returns-clause-stays
returns-clause-stays g c =
    let new : IsAsked (lookup (bytes_eq c.args.name.now) c.args.self.now.kept.files.entries) = search rules in
    first_stays (kept_of c.args.self.now.kept) (kept_of c.ask.new.kept) c.args.name.now new (g.F.Files.content c.args.self.now.inner) (g.F.Files.content c.ask.new.inner) c.ask.ensures.stays
    (g.F.Files.faults c.args.self.now.inner) (g.F.Files.faults c.ask.new.inner) (g.F.Files.misses c.args.self.now.inner) (g.F.Files.misses c.ask.new.inner)
    c.ask.result c.ask.ensures.kept c.ask.ensures.content c.ask.ensures.reason
