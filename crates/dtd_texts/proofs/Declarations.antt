-- What declarations say is lawful.
use Rattle.std.proofs.Common.{◌≡◌, ℕ, Bool, true, false, if◌then◌else◌, List, length, Option, Some, None, codes, refl, subst}
use Rattle.xml_text.specs.Names.{is_name}
use Rattle.dtd_model.specs.Lawful.{is_lawful_holding}
use Rattle.dtd_texts.specs.Heads.{same}
use Rattle.dtd_texts.specs.Tokens.{Token, tokens, first_word, next_word}
use Rattle.dtd_texts.specs.Went.{leads, refused, left_out, then_go}
use Rattle.dtd_texts.specs.ContentModels.{content_of}
use Rattle.dtd_texts.specs.AttributeLists.{attributes_of}
use Rattle.dtd_texts.specs.Tables.{Said, element, attributes, element_said, attributes_said, said_by, said, declared_as, declared_by, declared}
use Rattle.dtd_texts.specs.Lawful.{are_lawful, IsLawfulSaid}
use Rattle.dtd_texts.proofs.Holdings.{Leads, WentTo, went_on, content_lawful}
use Rattle.dtd_texts.proofs.Attributes.{text_tokens, RestIs, first_rest, next_rest, attributes_lawful}

-- where the element that is declared is given
abbrev SaidIs : List (List ℕ) → Option (List ℕ) → Said → Type 0
SaidIs names d (element name h) = (d ≡ Some name) × (is_name name ≡ true) × (is_lawful_holding (length names) h ≡ true)
SaidIs names d (attributes name ds) = (d ≡ None) × (is_name name ≡ true) × are_lawful ds

element_is : (names : List (List ℕ)) (found : Option (List ℕ × List Token)) → WentTo (SaidIs names (declared_as found)) (element_said names found)
element_is names None = record { is = tt }
element_is names (Some found) = by (is_name found.0) refl
  where
    by : (x : Bool) → is_name found.0 ≡ x
        → WentTo (SaidIs names (if x then Some found.0 else None)) (if x then then_go (content_of names found.1) (λ h. leads (element found.0 h)) else refused)
    by true e = went_on _ _ (content_of names found.1) _ (content_lawful names found.1) (λ h l. record { is = (refl, e, l) })
    by false e = record { is = tt }

attributes_are : (names : List (List ℕ)) (found : Option (List ℕ × List Token)) → RestIs found → WentTo (SaidIs names None) (attributes_said found)
attributes_are names None h = record { is = tt }
attributes_are names (Some found) h = by (is_name found.0) refl
  where
    by : (x : Bool) → is_name found.0 ≡ x → WentTo (SaidIs names None) (if x then then_go (attributes_of found.1) (λ ds. leads (attributes found.0 ds)) else refused)
    by true e = went_on _ _ (attributes_of found.1) _ (attributes_lawful found.1 h) (λ ds l. record { is = (refl, e, l) })
    by false e = record { is = tt }

said_is : (names : List (List ℕ)) (found : Option (List ℕ × List Token)) → RestIs found → WentTo (SaidIs names (declared_by found)) (said_by names found)
said_is names None h = record { is = tt }
said_is names (Some found) h = by (same found.0 (codes "ELEMENT")) (same found.0 (codes "ATTLIST")) (same found.0 (codes "NOTATION"))
  where
    by : (x y z : Bool) → WentTo (SaidIs names (if x then declared_as (next_word found.1) else None))
        (if x then element_said names (next_word found.1) else if y then attributes_said (next_word found.1) else if z then left_out else refused)
    by true y z = element_is names (next_word found.1)
    by false true z = attributes_are names (next_word found.1) (next_rest found.1 h)
    by false false true = record { is = tt }
    by false false false = record { is = tt }

same_said : (names : List (List ℕ)) (text : List ℕ) (s : Said) → SaidIs names (declared text) s → IsLawfulSaid names text s
same_said names text (element name h) k = k
same_said names text (attributes name ds) k = k

text_is : (names : List (List ℕ)) (text : List ℕ) → WentTo (SaidIs names (declared text)) (said names text)
unfolding said declared
text_is names text = said_is names (first_word (tokens text)) (first_rest (tokens text) (text_tokens text))

pub said_lawful : (names : List (List ℕ)) (text : List ℕ) (s : Said) → said names text ≡ leads s → IsLawfulSaid names text s
said_lawful names text s e = same_said names text s (subst (Leads (SaidIs names (declared text))) e (text_is names text).is)
