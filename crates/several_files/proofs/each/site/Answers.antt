use Rattle.std.proofs.Common.{◌∙◌, List, map, refl, ap, inl, inr}
use Rattle.std.specs.Prelude.{string_bytes}
use Rattle.several_files.specs.Listing.{site_words}
use Rattle.several_files.specs.Endings.{moment_of}
use Rattle.several_files.specs.Views.{checks_as}
use Rattle.several_files.proofs.Ways.{site_is_called, site_is_refused, site_wants}
use Rattle.several_files.proofs.each.site.Goals as goal

pub returns-in-Err : goal.returns-in-Err
returns-in-Err g c = inr (site_wants (checks_as c.args.checks.now) (moment_of g.F.Files.content g.F.Files.faults g.F.Files.misses c.args.files.now) (moment_of g.F.Files.content g.F.Files.faults g.F.Files.misses c.args.files.now) _ _ c.refuse.result (c.refuse.ensures _ refl))

pub returns-in-Ok-list_for : goal.returns-in-Ok-list_for
returns-in-Ok-list_for g c =
    inl (site_is_called _ g.F.Files.content g.F.Files.faults g.F.Files.misses (checks_as c.args.checks.now) (moment_of g.F.Files.content g.F.Files.faults g.F.Files.misses c.args.files.now) c.list_for.new.files c.hold.new.self c.phpsa.new.files
    c.in-Ok-list_for.list (map string_bytes c.in-Ok.words.items) _ _ c.phpsa.result c.in-Ok-list_for.ensures c.hold.ensures.inner c.hold.ensures.list c.hold.ensures.reads
    (c.in-Ok.ensures ∙ ap (λ (os : List _). site_words (map string_bytes os)) c.as_slice.ensures.value) c.phpsa.ensures)

pub returns : goal.returns
returns g c =
    inr (site_is_refused (checks_as c.args.checks.now) (moment_of g.F.Files.content g.F.Files.faults g.F.Files.misses c.args.files.now) (moment_of g.F.Files.content g.F.Files.faults g.F.Files.misses c.list_for.new.files) c.in-Err-list_for.refusal _ _ c.refuse-in-Err-list_for.result c.in-Err-list_for.ensures
    (c.refuse-in-Err-list_for.ensures _ refl))
