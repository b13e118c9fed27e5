-- Why declarations make no table.
use Rattle.std.specs.Prelude.{◌≡◌, ◌≢◌, ◌<◌, ◌≤◌, ◌⊎◌, ◌+◌, ℕ, true, List, [], ◌∷◌, ◌++◌, length, map, Contains}
use Rattle.dtd_model.specs.Lawful.{is_distinct, element_limit, attribute_limit}
use Rattle.dtd_texts.specs.Reading.{Written, is_among}
use Rattle.dtd_texts.specs.Went.{Went, leads, refused, left_out, too_deep, undeclared}
use Rattle.dtd_texts.specs.ContentModels.{bracket_limit}
use Rattle.dtd_texts.specs.Tables.{Said, said, element_names, attributes_for, with_others}
use Rattle.dtd_texts.specs.Spells.{Says}
use Rattle.dtd_tables.specs.declared.refusal.TableRefusal.{TableRefusal}
use Rattle.dtd_tables.specs.declared.refusal.TableRefusal.TheVariants.{Twice, Undeclared, Refused, LeftOut, Limit, Memory}

-- the name stands twice among these
pub record StandsTwice (names : List (List ℕ)) (name : List ℕ) : Type 0 where
  pub before : List (List ℕ)
  pub behind : List (List ℕ)
  pub is : names ≡ before ++ name ∷ behind
  pub among : is_among before name ≡ true

-- a declaration at this place comes to this, where all elements differ and each declaration before it says something
pub record GoesWrong (written : List Written) (at : ℕ) (how : Went Said) : Type 0 where
  pub one : Written
  pub among : Contains written one
  pub once : is_distinct (element_names written) ≡ true
  pub says : said (element_names written) one.text ≡ how
  pub there : one.at ≡ at
  pub front : List Written
  pub behind : List Written
  pub is : written ≡ front ++ one ∷ behind
  pub fine : List Said
  pub before : map (λ (w : Written). said (element_names written) w.text) front ≡ map leads fine

-- the declaration at this place is none, and it is the first that is none, where these elements are declared
pub record FirstRefused (written : List Written) (at : ℕ) : Type 0 where
  pub one : Written
  pub front : List Written
  pub behind : List Written
  pub is : written ≡ front ++ one ∷ behind
  pub there : one.at ≡ at
  pub says : said (element_names written) one.text ≡ refused
  pub before : (w : Written) → Contains front w → said (element_names written) w.text ≢ refused

-- where no element stands twice and there are not too many, none of the declarations is none
abbrev pub NoneRefused : List Written → Type 0
NoneRefused written =
    ((name : List ℕ) → StandsTwice (element_names written) name → ⊥) → length (element_names written) ≤ element_limit
    → (w : Written) → Contains written w → said (element_names written) w.text ≢ refused

-- the first place of a fault, where behind these declarations a text breaks: that of a declaration, or where it breaks
abbrev pub IsFirstFault : List Written → ℕ → ℕ → Type 0
IsFirstFault written broken at = FirstRefused written at ⊎ (NoneRefused written × (at ≡ broken))

-- an element has so many attributes
pub record HasAttributes (written : List Written) (count : ℕ) : Type 0 where
  pub says : List Said
  pub said : Says written says
  pub name : List ℕ
  pub many : count ≤ length (with_others [] (attributes_for name says))

-- there are so many elements, open brackets, or attributes of an element, or more, and these are too many
abbrev pub IsTooMany : List Written → ℕ → Type 0
IsTooMany written count =
    ((element_limit < count) × (count ≤ length (element_names written)))
    ⊎ (((count ≡ bracket_limit + 1) × ((at : ℕ) × GoesWrong written at too_deep))
    ⊎ ((attribute_limit < count) × HasAttributes written count))

-- why the declarations make no table, by the refusal; want of memory may be said of any
abbrev pub IsTableCause : List Written → TableRefusal → Type 0
IsTableCause written (Twice name) = StandsTwice (element_names written) name
IsTableCause written (Undeclared name) = (at : ℕ) × GoesWrong written at (undeclared name)
IsTableCause written (Refused at) = GoesWrong written at refused
IsTableCause written (LeftOut at) = GoesWrong written at left_out
IsTableCause written (Limit count) = IsTooMany written count
IsTableCause written Memory = Unit {0}
