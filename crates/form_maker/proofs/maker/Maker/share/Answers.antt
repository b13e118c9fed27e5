use Rattle.std.proofs.Common.{[], ◌∷◌}
use Rattle.dtd_model.specs.Table.{cdata, id, idrefs, nmtoken}
use Rattle.page_forms.specs.References.{reference_form}
use Rattle.form_maker.specs.Kept.{shared, value_behind}
use Rattle.form_maker.specs.Making.{making_of}
use Rattle.form_maker.proofs.Keeping.{kept_first, kept_next}
use Rattle.form_maker.proofs.maker.Maker.share.Goals as goal

pub returns : goal.returns
unfolding shared
returns c =
    let es = c.args.entities.now in
    let first = kept_first (making_of c.args.self.now) c.in_ok-reference.ensures c.in_ok-keep.ensures in
    let second = kept_next (reference_form es ∷ []) (making_of c.args.self.now) first c.in_ok-text_behind.ensures c.in_ok-keep-2.ensures in
    let third = kept_next (reference_form es ∷ value_behind es cdata ∷ []) (making_of c.args.self.now) second c.in_ok-one_word_behind.ensures c.in_ok-keep-3.ensures in
    let fourth = kept_next (reference_form es ∷ value_behind es cdata ∷ value_behind es id ∷ []) (making_of c.args.self.now) third c.in_ok-some_words_behind.ensures c.in_ok-keep-4.ensures in
    let fifth = kept_next (reference_form es ∷ value_behind es cdata ∷ value_behind es id ∷ value_behind es idrefs ∷ []) (making_of c.args.self.now) fourth c.in_ok-one_word_behind-2.ensures c.in_ok-keep-5.ensures in
    kept_next (reference_form es ∷ value_behind es cdata ∷ value_behind es id ∷ value_behind es idrefs ∷ value_behind es nmtoken ∷ []) (making_of c.args.self.now) fifth c.in_ok-some_words_behind-2.ensures c.in_ok-keep-6.ensures
