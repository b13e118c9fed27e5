use Rattle.std.proofs.Common.{sym, ◌∙◌}
use Rattle.page_rules.specs.Views.{place_of}
use Rattle.piece_reasons.specs.Sites.{table_at}
use Rattle.piece_reasons.proofs.Fronts.{one_behind}
use Rattle.piece_reasons.proofs.Told.{stray_behind}
use Rattle.piece_reasons.proofs.remarks.stray.Goals as goal

pub returns-then-not-is_character : goal.returns-then-not-is_character
returns-then-not-is_character c = λ opener.
    stray_behind (table_at c.args.site.now) c.args.site.now.size (place_of c.args.site.now.place) opener c.args.text.now c.loop-left.left.now c.in-Some.c.now c.in-Some.rest.now c.before-at.result
    c.loop-left.invariant c.in-Some.ensures.cases.0 (sym c.is_character.ensures ∙ c.if-not-is_character.true) c.before-at.ensures

pub loop-left-preserved : goal.loop-left-preserved
loop-left-preserved c = one_behind c.args.text.now c.loop-left.left.now c.in-Some.c.now c.in-Some.rest.now c.loop-left.invariant c.in-Some.ensures.cases.0
