use Rattle.std.proofs.Common.{◌≡◌, ◌++◌, ℕ, List, ◌∷◌, Some, sym, ◌∙◌, ap, subst, codes}
use Rattle.std.proofs.lemmas.Slice.Eq.{strip_prefix_is}
use Rattle.piece_reasons.specs.Sites.{HasCause}
use Rattle.piece_reasons.proofs.Found.{decides}
use Rattle.piece_reasons.proofs.telling.bang.Goals as goal

pub returns-in-Some-strip_prefix : goal.returns-in-Some-strip_prefix
returns-in-Some-strip_prefix c =
    let text = c.in-Some-strip_prefix.text in
    let e : c.args.rest.now ≡ codes "[CDATA[" ++ text.now = strip_prefix_is decides c.args.rest.now (codes "[CDATA[") (Some text) c.in-Some-strip_prefix.ensures.cases in
    subst (λ (xs : List ℕ). HasCause c.args.site.now xs c.section.result) (sym (c.requires ∙ ap (λ (xs : List ℕ). 60 ∷ 33 ∷ xs) e)) c.section.ensures
