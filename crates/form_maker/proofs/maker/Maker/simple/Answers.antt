use Rattle.std.proofs.Common.{[], ◌∷◌}
use Rattle.page_forms.specs.Declarations.{declaration_form}
use Rattle.page_forms.specs.Doctypes.{doctype_form}
use Rattle.page_forms.specs.Remarks.{comment_form, section_form, instruction_form}
use Rattle.page_forms.specs.Simple.{blank_form, bracket_form, mark_form}
use Rattle.form_maker.specs.Kept.{simple_forms, text_forms}
use Rattle.form_maker.specs.Making.{making_of}
use Rattle.form_maker.proofs.Keeping.{kept_first, kept_next, kept_both}
use Rattle.form_maker.proofs.maker.Maker.simple.Goals as goal

pub returns : goal.returns
unfolding simple_forms
returns c =
    let first = kept_first (making_of c.args.self.now) c.in_ok-word.ensures c.in_ok-keep.ensures in
    let second = kept_next (mark_form ∷ []) (making_of c.args.self.now) first c.in_ok-declaration.ensures c.in_ok-keep-2.ensures in
    let third = kept_next (mark_form ∷ declaration_form ∷ []) (making_of c.args.self.now) second c.in_ok-ascii.ensures c.in_ok-keep-3.ensures in
    let fourth = kept_next (mark_form ∷ declaration_form ∷ blank_form ∷ []) (making_of c.args.self.now) third c.in_ok-word-2.ensures c.in_ok-keep-4.ensures in
    let fifth = kept_next (mark_form ∷ declaration_form ∷ blank_form ∷ bracket_form ∷ []) (making_of c.args.self.now) fourth c.in_ok-section.ensures c.in_ok-keep-5.ensures in
    let sixth = kept_next (mark_form ∷ declaration_form ∷ blank_form ∷ bracket_form ∷ section_form ∷ []) (making_of c.args.self.now) fifth c.in_ok-comment.ensures c.in_ok-keep-6.ensures in
    let seventh = kept_next (mark_form ∷ declaration_form ∷ blank_form ∷ bracket_form ∷ section_form ∷ comment_form ∷ []) (making_of c.args.self.now) sixth c.in_ok-instruction.ensures c.in_ok-keep-7.ensures in
    let eighth =
    kept_next (mark_form ∷ declaration_form ∷ blank_form ∷ bracket_form ∷ section_form ∷ comment_form ∷ instruction_form ∷ []) (making_of c.args.self.now) seventh c.in_ok-doctype.ensures c.in_ok-keep-8.ensures in
    kept_both (mark_form ∷ declaration_form ∷ blank_form ∷ bracket_form ∷ section_form ∷ comment_form ∷ instruction_form ∷ doctype_form c.args.rule ∷ []) text_forms (making_of c.args.self.now)
    (making_of c.keep-8.new.self) (making_of c.texts.new.self) eighth c.in_ok-texts.ensures
