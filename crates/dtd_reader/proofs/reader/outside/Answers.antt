use Rattle.std.proofs.Common.{◌∙◌, sym, ap, subst}
use Rattle.io_edge.specs.Names.{beside, is_outside}
use Rattle.dtd_reader.specs.Views.{IsLoaded}
use Rattle.dtd_reader.proofs.Later.{outside_later}
use Rattle.dtd_reader.proofs.reader.outside.Goals as goal

pub returns-clause-found : goal.returns-clause-found
returns-clause-found g c = λ content stays.
    let inside = sym (c.in_ok-leads_out.ensures ∙ ap (is_outside c.args.origin.root.now c.args.origin.name.now) c.as_str-2.ensures) ∙ c.if-leads_out.false in
    outside_later c.args.origin.root.now c.args.origin.name.now (g.F.Files.content c.load.new.files) content c.args.meant.now c.as_str-3.result.now
    (record { text = c.in-Text.text; over = c.in-Text.over; file = c.in_ok-file-in-Text.file }) stays
    (c.as_str-3.ensures.value ∙ c.in_ok-path.ensures ∙ ap (beside c.args.origin.name.now) c.as_str.ensures) inside c.in_ok-file-in-Text.ensures
    (subst (IsLoaded (g.F.Files.content c.load.new.files) c.as_str-3.result.now) c.in-Text.is c.in_ok-path-3.ensures.loaded)

pub returns-in-NotRead-clause-found : goal.returns-in-NotRead-clause-found
returns-in-NotRead-clause-found g c = λ content stays. (
  subst (IsLoaded (g.F.Files.content c.load.new.files) c.as_str-3.result.now) c.in-NotRead.is c.in_ok-path-3.ensures.loaded
      ∙ c.as_str-3.ensures.value ∙ c.in_ok-path.ensures ∙ ap (beside c.args.origin.name.now) c.as_str.ensures,
  sym (c.in_ok-leads_out.ensures ∙ ap (is_outside c.args.origin.root.now c.args.origin.name.now) c.as_str-2.ensures) ∙ c.if-leads_out.false,
)
