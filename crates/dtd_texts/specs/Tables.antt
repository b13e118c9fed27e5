-- What the declarations of a text say, and the table of it (XML 1.0, 3.2 and 3.3).
use Rattle.std.specs.Prelude.{ℕ, Bool, ◌&&◌, if◌then◌else◌, List, [], ◌∷◌, ◌++◌, codes, Option, Some, None}
use Rattle.std.specs.List.{list_any}
use Rattle.xml_text.specs.Names.{is_name}
use Rattle.dtd_model.specs.Table.{Holding, Declared, Rule}
use Rattle.dtd_texts.specs.Heads.{same}
use Rattle.dtd_texts.specs.Tokens.{Token, tokens, first_word, next_word}
use Rattle.dtd_texts.specs.Reading.{Written}
use Rattle.dtd_texts.specs.Went.{Went, leads, refused, left_out, then_go}
use Rattle.dtd_texts.specs.ContentModels.{content_of}
use Rattle.dtd_texts.specs.AttributeLists.{attributes_of}

-- what one declaration says
pub data Said : Type 0 where
  -- the declaration of an element (3.2)
  element : List ℕ → Holding → Said
  -- an attribute list declaration (3.3)
  attributes : List ℕ → List Declared → Said

-- the name, and what is said by it and the tokens behind it
abbrev pub with_name : {S : Type 0} → Option (List ℕ × List Token) → (List ℕ → List Token → Went S) → Went S
with_name None f = refused
with_name (Some found) f = if is_name found.0 then f found.0 found.1 else refused

-- the declaration of an element by its name, with the tokens behind it, where these elements are declared
abbrev pub element_said : List (List ℕ) → Option (List ℕ × List Token) → Went Said
element_said names found = with_name found (λ name rest. then_go (content_of names rest) (λ h. leads (element name h)))

-- an attribute list declaration by the name of its element, with the tokens behind it
abbrev pub attributes_said : Option (List ℕ × List Token) → Went Said
attributes_said found = with_name found (λ name rest. then_go (attributes_of rest) (λ ds. leads (attributes name ds)))

-- what a declaration says by its first word, with the tokens behind it; notations are left out (4.7)
abbrev pub said_by : List (List ℕ) → Option (List ℕ × List Token) → Went Said
said_by names None = refused
said_by names (Some found) =
    if same found.0 (codes "ELEMENT") then element_said names (next_word found.1)
    else if same found.0 (codes "ATTLIST") then attributes_said (next_word found.1)
    else if same found.0 (codes "NOTATION") then left_out else refused

-- what the text of a declaration says, where these elements are declared
unfoldable pub said : List (List ℕ) → List ℕ → Went Said
said names text = said_by names (first_word (tokens text))

-- the element that a text declares
abbrev pub declared_as : Option (List ℕ × List Token) → Option (List ℕ)
declared_as None = None
declared_as (Some found) = if is_name found.0 then Some found.0 else None

-- the element that a declaration with this first word, and these tokens behind it, declares, if it is one of an element
abbrev pub declared_by : Option (List ℕ × List Token) → Option (List ℕ)
declared_by None = None
declared_by (Some found) = if same found.0 (codes "ELEMENT") then declared_as (next_word found.1) else None

-- the element that the text of a declaration declares, if it declares one
unfoldable pub declared : List ℕ → Option (List ℕ)
declared text = declared_by (first_word (tokens text))

-- the name before the names, if there is one
abbrev pub put_name : Option (List ℕ) → List (List ℕ) → List (List ℕ)
put_name None names = names
put_name (Some name) names = name ∷ names

-- the elements that are declared, in order
abbrev pub element_names : List Written → List (List ℕ)
element_names [] = []
element_names (w ∷ more) = put_name (declared w.text) (element_names more)

-- the attributes of all lists for an element
abbrev pub attributes_for : List ℕ → List Said → List Declared
attributes_for name [] = []
attributes_for name (element n h ∷ more) = attributes_for name more
attributes_for name (attributes n ds ∷ more) = if same n name then ds ++ attributes_for name more else attributes_for name more

-- the attribute of this name is among these
abbrev pub is_declared : List Declared → List ℕ → Bool
is_declared ds name = list_any (λ (d : Declared). same name d.name) ds

-- behind these attributes the others, but for those that are declared already: the first declaration counts (3.3)
unfoldable pub with_others : List Declared → List Declared → List Declared
with_others ds [] = ds
with_others ds (d ∷ more) = with_others (if is_declared ds d.name then ds else ds ++ d ∷ []) more

-- the elements with what they may hold and their attributes; lists for elements that are not declared say nothing
abbrev pub rules_of : List Said → List Said → List Rule
rules_of all [] = []
rules_of all (element name h ∷ more) =
    record { name = name; holding = h; attributes = with_others [] (attributes_for name all) } ∷ rules_of all more
rules_of all (attributes name ds ∷ more) = rules_of all more
