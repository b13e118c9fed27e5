use Rattle.std.proofs.Common.{map, sym, ◌∙◌}
use Rattle.page_rules.specs.Views.{attribute_of, place_of}
use Rattle.piece_reasons.specs.Sites.{table_at}
use Rattle.piece_reasons.proofs.Told.{not_closed}
use Rattle.piece_reasons.proofs.tags.OpenTag.end.Goals as goal

pub returns-else-is_tag_end : goal.returns-else-is_tag_end
returns-else-is_tag_end c = λ rest behind n h.
    not_closed (table_at c.args.self.now.site.now) c.args.self.now.site.now.size (place_of c.args.self.now.site.now.place) rest c.args.self.now.name.now behind
    (map attribute_of c.args.done.now) c.args.left.now c.split.result.1.now c.before-else-is_tag_end.result n h c.requires.ended c.split.ensures.rest
    (sym c.is_tag_end.ensures ∙ c.if-is_tag_end.false) c.before-else-is_tag_end.ensures
