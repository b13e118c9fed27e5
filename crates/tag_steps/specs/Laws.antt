-- Laws of tags, as statements.
use Rattle.std.specs.Prelude.{◌≡◌, ℕ, Bool, true, false, List, [], ◌∷◌, ◌++◌, Some}
use Rattle.std.specs.List.{list_all}
use Rattle.text_base.specs.declared.page_token.PageToken.{PageToken}
use Rattle.text_base.specs.declared.page_token.PageToken.TheVariants as token
use Rattle.xml_text.specs.Characters.{is_blank}
use Rattle.xml_text.specs.Names.{is_name}
use Rattle.dtd_model.specs.Lawful.{is_lawful_kind}
use Rattle.dtd_model.specs.Table.{Declared, Rule, Table}
use Rattle.page_model.specs.Attributes.{find_rule, is_some_rule, tag_fits}
use Rattle.page_model.specs.PageTokens.{element_of}
use Rattle.page_model.specs.Parts.{Tag, tag_then, IsTag}
use Rattle.page_model.specs.Places.{Place, behind}
use Rattle.piece_steps.specs.Readers.{whole}
use Rattle.page_model.specs.Fronts.{in_tag_name, in_end_tag}
use Rattle.page_insides.specs.Laws.{read, ends_with}

-- the types of the attributes are lawful
abbrev pub HasLawfulKinds : Table → Type 0
HasLawfulKinds table = (name : List ℕ) (rule : Rule) → find_rule table.elements name ≡ Some rule
    → list_all (λ (d : Declared). is_lawful_kind d.kind) rule.attributes ≡ true

-- `>`, or `/>` of an empty element
abbrev pub end_then : Bool → List ℕ → List ℕ
end_then false rest = 62 ∷ rest
end_then true rest = 47 ∷ 62 ∷ rest

-- the tokens of a tag, by whether it is that of an empty element
abbrev pub tag_tokens : Table → Bool → List ℕ → List PageToken
tag_tokens table false name = token.Start (element_of table name) ∷ []
tag_tokens table true name = token.Start (element_of table name) ∷ token.End (element_of table name) ∷ []

-- the characters are a tag, its end, and the rest
pub record IsTagThen (table : Table) (cs rest : List ℕ) (behind_it : Place) (given : List PageToken) : Type 0 where
  pub tag : Tag
  pub empty : Bool
  pub spelled : tag_then tag (end_then empty rest) ≡ cs
  pub is : IsTag tag
  pub fits : tag_fits table tag ≡ true
  pub leads : behind_it ≡ behind 0
  pub gives : given ≡ tag_tokens table empty tag.name

-- the first character of the name is read
pub record StartTagsRead : Type 0 where
  pub complete : (table : Table) → HasLawfulKinds table → (place : Place) (tag : Tag) (empty : Bool) (n : ℕ) (cs rest : List ℕ) → IsTag tag
      → tag_fits table tag ≡ true → tag_then tag (end_then empty rest) ≡ n ∷ cs
      → read table place (in_tag_name (n ∷ [])) cs ≡ ends_with (tag_tokens table empty tag.name) rest
  pub sound : (table : Table) → HasLawfulKinds table → (place next : Place) (n : ℕ) (cs : List ℕ) (given : List PageToken) (rest : List ℕ)
      → is_name (n ∷ []) ≡ true → read table place (in_tag_name (n ∷ [])) cs ≡ whole next given rest
      → IsTagThen table (n ∷ cs) rest next given

-- a name, white space, `>`, and the rest
pub record IsEndThen (table : Table) (cs rest : List ℕ) (behind_it : Place) (given : List PageToken) : Type 0 where
  pub name : List ℕ
  pub space : List ℕ
  pub spelled : name ++ (space ++ 62 ∷ rest) ≡ cs
  pub named : is_name name ≡ true
  pub blank : list_all is_blank space ≡ true
  pub declared : is_some_rule (find_rule table.elements name) ≡ true
  pub leads : behind_it ≡ behind 0
  pub gives : given ≡ token.End (element_of table name) ∷ []

-- behind `</` the reader comes to an end exactly behind a name of a declared element, white space and `>`
pub record EndTagsRead : Type 0 where
  pub complete : (table : Table) (place : Place) (name space rest : List ℕ) → is_name name ≡ true → list_all is_blank space ≡ true
      → is_some_rule (find_rule table.elements name) ≡ true
      → read table place (in_end_tag [] false) (name ++ (space ++ 62 ∷ rest)) ≡ ends_with (token.End (element_of table name) ∷ []) rest
  pub sound : (table : Table) (place next : Place) (cs : List ℕ) (given : List PageToken) (rest : List ℕ)
      → read table place (in_end_tag [] false) cs ≡ whole next given rest → IsEndThen table cs rest next given
