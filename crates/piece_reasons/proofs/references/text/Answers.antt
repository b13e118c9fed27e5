use Rattle.std.proofs.Common.{sym, ◌∙◌}
use Rattle.page_rules.specs.Views.{place_of}
use Rattle.piece_reasons.specs.Sites.{table_at}
use Rattle.piece_reasons.proofs.Found.{stray_here}
use Rattle.piece_reasons.proofs.references.text.Goals as goal

pub returns-then-not-is_character : goal.returns-then-not-is_character
returns-then-not-is_character c =
    stray_here (table_at c.args.site.now) c.args.site.now.size (place_of c.args.site.now.place) c.args.cs.now c.in-Some.c.now _ c.before-at.result c.in-Some.ensures.cases.0
    (sym c.is_character.ensures ∙ c.if-not-is_character.true) c.before-at.ensures
