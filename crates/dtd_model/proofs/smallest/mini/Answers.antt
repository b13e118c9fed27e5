use Rattle.std.proofs.Common.{◌≡◌, ℕ, List, [], ◌∷◌, ◌++◌, ap, ◌∙◌, codes}
use Rattle.std.specs.Prelude.{map}
use Rattle.text_base.specs.declared.numbers.Elem.{Elem}
use Rattle.dtd_model.specs.declared.dtd.ElementRule.{ElementRule}
use Rattle.dtd_model.specs.declared.dtd.DoctypeRule.TheVariants.{Free}
use Rattle.dtd_model.specs.Table.{rule_of, text_and, Rule, Table}
use Rattle.dtd_model.specs.Mini.{mini_table, plain_rule}
use Rattle.dtd_model.proofs.MiniLemmas.{three_rules, lawful_as_mini}
use Rattle.dtd_model.proofs.smallest.mini.Goals as goal

pub invariant_of-result : goal.invariant_of-result
unfolding mini_table
invariant_of-result c =
    let pushed : c.push-3.new.self.items ≡ c.in_ok-html.html ∷ c.in_ok-body.body ∷ c.in_ok-paragraph.paragraph ∷ [] =
    c.in_ok-push-3.ensures.items
    ∙ ap (λ (xs : List ElementRule). xs ++ c.in_ok-paragraph.paragraph ∷ []) (c.in_ok-push-2.ensures.items
    ∙ ap (λ (xs : List ElementRule). xs ++ c.in_ok-body.body ∷ []) (c.in_ok-push.ensures.items
    ∙ ap (λ (xs : List ElementRule). xs ++ c.in_ok-html.html ∷ []) c.new-elements.ensures.items)) in
    let text : rule_of c.in_ok-paragraph.paragraph ≡ plain_rule (codes "p") (text_and []) =
    c.in_ok-paragraph.ensures ∙ ap (λ (es : List Elem). plain_rule (codes "p") (text_and (map (λ (e : Elem). e.0) es))) c.new.ensures.items in
    let html = c.in_ok-html.ensures ∙ ap (plain_rule (codes "html")) c.in_ok-html_content.ensures in
    let body = c.in_ok-body.ensures ∙ ap (plain_rule (codes "body")) c.in_ok-body_content.ensures in
    let rules = three_rules c.push-3.new.self.items c.in_ok-html.html c.in_ok-body.body c.in_ok-paragraph.paragraph pushed html body text in
    record { lawful = lawful_as_mini _ _ rules c.new-2.ensures.items }

pub returns : goal.returns
unfolding mini_table
returns c =
    let pushed : c.push-3.new.self.items ≡ c.in_ok-html.html ∷ c.in_ok-body.body ∷ c.in_ok-paragraph.paragraph ∷ [] =
    c.in_ok-push-3.ensures.items
    ∙ ap (λ (xs : List ElementRule). xs ++ c.in_ok-paragraph.paragraph ∷ []) (c.in_ok-push-2.ensures.items
    ∙ ap (λ (xs : List ElementRule). xs ++ c.in_ok-body.body ∷ []) (c.in_ok-push.ensures.items
    ∙ ap (λ (xs : List ElementRule). xs ++ c.in_ok-html.html ∷ []) c.new-elements.ensures.items)) in
    let text : rule_of c.in_ok-paragraph.paragraph ≡ plain_rule (codes "p") (text_and []) =
    c.in_ok-paragraph.ensures ∙ ap (λ (es : List Elem). plain_rule (codes "p") (text_and (map (λ (e : Elem). e.0) es))) c.new.ensures.items in
    let html = c.in_ok-html.ensures ∙ ap (plain_rule (codes "html")) c.in_ok-html_content.ensures in
    let body = c.in_ok-body.ensures ∙ ap (plain_rule (codes "body")) c.in_ok-body_content.ensures in
    let rules = three_rules c.push-3.new.self.items c.in_ok-html.html c.in_ok-body.body c.in_ok-paragraph.paragraph pushed html body text in
    ap (λ (es : List Rule). let t : Table = record { elements = es; entities = c.new-2.result.items; doctype = Free } in t) rules
    ∙ ap (λ (ns : List (List ℕ)). let t : Table = record { elements = mini_table.elements; entities = ns; doctype = Free } in t) c.new-2.ensures.items
