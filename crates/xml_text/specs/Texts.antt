-- Texts of XML's characters in UTF-8 (XML 1.0, 2.2 and 4.3.3).
use Rattle.std.specs.Prelude.{◌≡◌, ℕ, Bool, true, false, ◌||◌, List, [], ◌∷◌, nat_eq, IsUtf8, chars}
use Rattle.std.specs.List.{list_all, starts_with}
use Rattle.xml_text.specs.Characters.{is_character}

-- the bytes are UTF-8, and their characters are those of XML
pub record IsText (bytes : List ℕ) : Type 0 where
  pub utf8 : IsUtf8 bytes
  pub characters : list_all is_character (chars bytes) ≡ true

-- a text stands in another, at any place
abbrev pub holds : List ℕ → List ℕ → Bool
holds part [] = false
holds part (c ∷ cs) = starts_with nat_eq (c ∷ cs) part || holds part cs
