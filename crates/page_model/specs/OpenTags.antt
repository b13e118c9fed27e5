-- What is open in a tag or in the XML declaration behind its whole attributes, by the characters read so far (XML 1.0, 2.8 and
-- 3.1).
use Rattle.std.specs.Prelude.{◌≡◌, ◌≢◌, ℕ, Bool, true, false, not, ◌==◌, List, [], ◌∷◌, ◌++◌}
use Rattle.std.specs.List.{list_all}
use Rattle.xml_text.specs.Characters.{is_blank}
use Rattle.xml_text.specs.Names.{in_name}
use Rattle.page_model.specs.Parts.{is_quote}
use Rattle.page_model.specs.OpenValues.{OpenValue}

-- what is open, by what is reached of an attribute
pub data OpenAttribute : Type 0 where
  -- nothing, or white space (true), behind a name or a value
  between : Bool → OpenAttribute
  -- so much of a name, at least one character
  in_attribute_name : List ℕ → OpenAttribute
  -- white space behind a name
  behind_name : List ℕ → OpenAttribute
  -- behind the `=`, and white space
  behind_equals : List ℕ → OpenAttribute
  -- in the value of the name, with its quote
  in_value : List ℕ → ℕ → OpenValue → OpenAttribute

-- some white space
abbrev pub IsGap : List ℕ → Type 0
IsGap space = (space ≢ []) × (list_all is_blank space ≡ true)

-- so much of a name
abbrev pub IsFrontOfName : List ℕ → Type 0
IsFrontOfName name = (name ≢ []) × (list_all in_name name ≡ true)

-- whether there is any white space
abbrev pub is_some_space : List ℕ → Bool
is_some_space [] = false
is_some_space (c ∷ cs) = true

-- white space, a name, white space, `=`, white space, a quote, and so much of a value, which `Stands` says of the name
pub record InValue (Stands : List ℕ → OpenValue → List ℕ → Type 0) (name : List ℕ) (quote : ℕ) (v : OpenValue) (cs : List ℕ) : Type 0 where
  pub gap : List ℕ
  pub before : List ℕ
  pub after : List ℕ
  pub value : List ℕ
  pub is : cs ≡ gap ++ (name ++ (before ++ 61 ∷ (after ++ quote ∷ value)))
  pub some_gap : IsGap gap
  pub named : IsFrontOfName name
  pub blank_before : list_all is_blank before ≡ true
  pub blank_after : list_all is_blank after ≡ true
  pub quoted : is_quote quote ≡ true
  pub quoted_value : list_all (λ c. not (c == quote)) value ≡ true
  pub stands : Stands name v value

-- the characters behind a name or a whole attribute are so much of the next one, by what is open
abbrev pub AttributeStands : (List ℕ → OpenValue → List ℕ → Type 0) → OpenAttribute → List ℕ → Type 0
AttributeStands Stands (between spaced) cs = (list_all is_blank cs ≡ true) × (spaced ≡ is_some_space cs)
AttributeStands Stands (in_attribute_name name) cs = (gap : List ℕ) × (cs ≡ gap ++ name) × IsGap gap × IsFrontOfName name
AttributeStands Stands (behind_name name) cs =
    (gap : List ℕ) × (before : List ℕ) × (cs ≡ gap ++ (name ++ before)) × IsGap gap × IsFrontOfName name × IsGap before
AttributeStands Stands (behind_equals name) cs =
    (gap : List ℕ) × (before : List ℕ) × (after : List ℕ) × (cs ≡ gap ++ (name ++ (before ++ 61 ∷ after)))
    × IsGap gap × IsFrontOfName name × (list_all is_blank before ≡ true) × (list_all is_blank after ≡ true)
AttributeStands Stands (in_value name quote v) cs = InValue Stands name quote v cs
