use Rattle.std.proofs.Common.{◌≡◌, ◌∙◌, List, length, map, refl, sym, ap}
use Rattle.std.specs.Prelude.{string_bytes}
use Rattle.std.specs.List.{list_any}
use Rattle.std.proofs.lemmas.List.{length-map}
use Rattle.several_files.specs.Listing.{is_json}
use Rattle.several_files.specs.Endings.{moment_of}
use Rattle.several_files.specs.Views.{checks_as, file_as}
use Rattle.several_files.proofs.Ways.{count_is_refused, report_is_told, site_is_told}
use Rattle.several_files.proofs.each.check_each.Goals as goal

pub returns-in-Some : goal.returns-in-Some
returns-in-Some g c =
    let is : length c.as_slice-names.result.now ≡ length (map file_as c.args.checks.now.files.items) =
    ap length c.as_slice-names.ensures.value ∙ sym (length-map c.args.checks.now.files.items file_as) in
    count_is_refused (checks_as c.args.checks.now) (moment_of g.F.Files.content g.F.Files.faults g.F.Files.misses c.args.files.now) (moment_of g.F.Files.content g.F.Files.faults g.F.Files.misses c.args.files.now) (length c.as_slice-names.result.now) c.in-Some.refusal _ _ c.refuse.result is c.in-Some.ensures (c.refuse.ensures _ refl)

pub returns-then-asks_json : goal.returns-then-asks_json
returns-then-asks_json g c =
    let is : length c.as_slice-names.result.now ≡ length (map file_as c.args.checks.now.files.items) =
    ap length c.as_slice-names.ensures.value ∙ sym (length-map c.args.checks.now.files.items file_as) in
    site_is_told (checks_as c.args.checks.now) (moment_of g.F.Files.content g.F.Files.faults g.F.Files.misses c.args.files.now) (moment_of g.F.Files.content g.F.Files.faults g.F.Files.misses c.site.new.files) (length c.as_slice-names.result.now) _ _ c.site.result is c.in_default.ensures
    (sym (c.asks_json.ensures ∙ ap (λ (os : List _). list_any is_json (map string_bytes os)) c.as_slice.ensures.value) ∙ c.if-asks_json.true) c.site.ensures

pub returns : goal.returns
returns g c =
    let is : length c.as_slice-names.result.now ≡ length (map file_as c.args.checks.now.files.items) =
    ap length c.as_slice-names.ensures.value ∙ sym (length-map c.args.checks.now.files.items file_as) in
    report_is_told (checks_as c.args.checks.now) (moment_of g.F.Files.content g.F.Files.faults g.F.Files.misses c.args.files.now) (moment_of g.F.Files.content g.F.Files.faults g.F.Files.misses c.report_on.new.files) (length c.as_slice-names.result.now) c.report_on.result _ _ c.tell.result is c.in_default.ensures
    (sym (c.asks_json.ensures ∙ ap (λ (os : List _). list_any is_json (map string_bytes os)) c.as_slice.ensures.value) ∙ c.if-asks_json.false) c.report_on.ensures c.tell.ensures
