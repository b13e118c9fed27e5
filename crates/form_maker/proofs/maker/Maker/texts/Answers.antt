use Rattle.std.proofs.Common.{[], ◌∷◌}
use Rattle.page_forms.specs.Simple.{text_form}
use Rattle.page_model.specs.Places.{at_beginning, behind_mark, behind}
use Rattle.form_maker.specs.Making.{making_of}
use Rattle.form_maker.proofs.Keeping.{kept_first, kept_next}
use Rattle.form_maker.proofs.maker.Maker.texts.Goals as goal

pub returns : goal.returns
returns c =
    let first = kept_first (making_of c.args.self.now) c.in_ok-first_text.ensures c.in_ok-keep.ensures in
    let second = kept_next (text_form at_beginning ∷ []) (making_of c.args.self.now) first c.in_ok-character.ensures c.in_ok-keep-2.ensures in
    let third = kept_next (text_form at_beginning ∷ text_form behind_mark ∷ []) (making_of c.args.self.now) second c.in_ok-character-2.ensures c.in_ok-keep-3.ensures in
    kept_next (text_form at_beginning ∷ text_form behind_mark ∷ text_form (behind 0) ∷ []) (making_of c.args.self.now) third c.in_ok-character-3.ensures c.in_ok-keep-4.ensures
