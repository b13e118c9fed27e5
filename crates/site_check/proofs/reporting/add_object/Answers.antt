use Rattle.std.proofs.Common.{◌≡◌, ◌∙◌, ◌++◌, ◌∷◌, [], ℕ, List, ap}
use Rattle.std.proofs.lemmas.List.{append_assoc}
use Rattle.serde_json.specs.Written.{compact_text, has_float}
use Rattle.site_check.specs.Report.{object_of}
use Rattle.site_check.proofs.Objects.{object_text, no_float}
use Rattle.site_check.proofs.reporting.add_object.Goals as goal

pub returns : goal.returns
returns c =
    let name = c.args.name.now in
    let line = c.args.line.now in
    let object : c.as_bytes.result.now ≡ object_of name line =
    c.as_bytes.ensures.value ∙ c.in_ok-object.ensures.text (ap has_float c.in_ok-value.ensures ∙ no_float name line) ∙ ap compact_text c.in_ok-value.ensures ∙ object_text name line in
    c.in_ok-append-2.ensures.ok ∙ ap (λ (t : List ℕ). t ++ 10 ∷ []) (c.in_ok-append.ensures.ok ∙ ap (λ (o : List ℕ). c.args.text.now ++ o) object)
    ∙ append_assoc c.args.text.now (object_of name line) (10 ∷ [])
