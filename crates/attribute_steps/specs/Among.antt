-- A reader among attributes, in a tag or in the XML declaration.
use Rattle.std.specs.Prelude.{◌≡◌, ◌≢◌, ℕ, Bool, true, false, not, ◌==◌, if◌then◌else◌, List, [], ◌∷◌, None}
use Rattle.std.specs.List.{list_all}
use Rattle.xml_text.specs.Characters.{is_blank, is_character}
use Rattle.xml_text.specs.Names.{is_name}
use Rattle.page_model.specs.Parts.{Attribute, is_quote}
use Rattle.piece_steps.specs.Insides.{accepts}
use Rattle.piece_steps.specs.Readers.{Move, go, fail, Reader}
use Rattle.page_model.specs.OpenTags.{OpenAttribute, between}
use Rattle.page_model.specs.OpenValues.{OpenValue}
use Rattle.page_steps.specs.AttributeSteps.{Allowing, AttributeMove, stays, ends_with, leaves, stops, attribute_move}

-- the move of the reader by that among attributes, with the one that it makes where the character is none of an attribute
abbrev pub moved : {P T S : Type 0} → (List (List ℕ) → OpenAttribute → S) → List (List ℕ) → Move P T S → AttributeMove → Move P T S
moved wrap names leave (stays o) = go (wrap names o)
moved wrap names leave (ends_with more) = go (wrap more (between false))
moved wrap names leave leaves = leave
moved wrap names leave stops = fail

-- the reader follows the moves in these states, and fails at what is no character of XML, at which no value goes on
pub record IsAmong {P T S : Type 0} (r : Reader P T S) (a : Allowing) (wrap : List (List ℕ) → OpenAttribute → S)
    (leave : List (List ℕ) → ℕ → Move P T S) : Type 0 where
  pub steps : (names : List (List ℕ)) (o : OpenAttribute) (c : ℕ)
      → r.step (wrap names o) c ≡ (if is_character c then moved wrap names (leave names c) (attribute_move a names o c) else fail)
  pub strict : (name : List ℕ) (v : OpenValue) (c : ℕ) → is_character c ≡ false → a.step name v c ≡ None

-- the quote does not stand in the value
abbrev pub is_free : ℕ → ℕ → Bool
is_free quote c = not (c == quote)

-- an attribute of its form that may stand behind these names, with a value that is accepted
pub record May (a : Allowing) (names : List (List ℕ)) (x : Attribute) : Type 0 where
  pub some_space : x.space ≢ []
  pub blank_space : list_all is_blank x.space ≡ true
  pub named : is_name x.name ≡ true
  pub blank_before : list_all is_blank x.before_equals ≡ true
  pub blank_after : list_all is_blank x.after_equals ≡ true
  pub quoted : is_quote x.quote ≡ true
  pub free : list_all (is_free x.quote) x.value ≡ true
  pub may : a.may names x.name ≡ true
  pub accepted : accepts (a.step x.name) (a.good x.name) (a.start x.name) x.value ≡ true

-- each of the attributes may stand behind the names before it
abbrev pub AllMay : Allowing → List (List ℕ) → List Attribute → Type 0
AllMay a names [] = Unit {0}
AllMay a names (x ∷ xs) = May a names x × AllMay a (a.added names x.name) xs

-- the names that stand behind the attributes
abbrev pub names_behind : Allowing → List (List ℕ) → List Attribute → List (List ℕ)
names_behind a names [] = names
names_behind a names (x ∷ xs) = names_behind a (a.added names x.name) xs
