-- Three rules make the smallest document type.
use Rattle.std.proofs.Common.{◌≡◌, ℕ, true, List, [], ◌∷◌, refl, ap, ◌∙◌, codes}
use Rattle.std.specs.Prelude.{map}
use Rattle.dtd_model.specs.declared.dtd.ElementRule.{ElementRule}
use Rattle.dtd_model.specs.Lawful.{is_lawful, height, is_within, has_matches}
use Rattle.dtd_model.specs.Table.{Rule, rule_of, text_and, children, any_number, one, sequence, more_models, no_models}
use Rattle.dtd_model.specs.Mini.{mini_table, plain_rule}

pub three_rules : (rules : List ElementRule) (a b c : ElementRule) → rules ≡ a ∷ b ∷ c ∷ [] → rule_of a ≡ plain_rule (codes "html") (children (sequence (more_models (one 1) no_models))) → rule_of b ≡ plain_rule (codes "body") (children (any_number (one 2))) → rule_of c ≡ plain_rule (codes "p") (text_and []) → map rule_of rules ≡ mini_table.elements
unfolding mini_table
three_rules rules a b c e p q r =
    ap (map rule_of) e
    ∙ ap (λ (x : Rule). x ∷ rule_of b ∷ rule_of c ∷ []) p
    ∙ ap (λ (x : Rule). plain_rule (codes "html") (children (sequence (more_models (one 1) no_models))) ∷ x ∷ rule_of c ∷ []) q
    ∙ ap (λ (x : Rule). plain_rule (codes "html") (children (sequence (more_models (one 1) no_models))) ∷ plain_rule (codes "body") (children (any_number (one 2))) ∷ x ∷ []) r

pub mini_lawful : is_lawful mini_table.elements [] ≡ true
unfolding mini_table is_lawful height is_within has_matches
mini_lawful = refl

-- and so are rules and names that are those
pub lawful_as_mini : (rules : List Rule) (names : List (List ℕ)) → rules ≡ mini_table.elements → names ≡ [] → is_lawful rules names ≡ true
lawful_as_mini rules names e n = ap (λ (rs : List Rule). is_lawful rs names) e ∙ ap (is_lawful mini_table.elements) n ∙ mini_lawful
