-- Tests of values by their words and by their declaration.
use Rattle.std.specs.Prelude.{◌≡◌, ◌<◌, ℕ, Bool, ◌&&◌, List, [], ◌∷◌, length, Option, Some, None, bytes_eq}
use Rattle.std.specs.Borrow.{Bor}
use Rattle.std.specs.List.{list_any}
use Rattle.xml_text.specs.Names.{is_name, is_name_token}
use Rattle.dtd_model.specs.Table.{Declared}
use Rattle.page_model.specs.Attributes.{has_kind, has_fixed, words_of}
use Rattle.page_rules.specs.declared.values.WordTest.{WordTest}
use Rattle.page_rules.specs.declared.values.WordTest.TheVariants.{Name, Token, OneOf}

-- the value is of the type, and the fixed one where one is declared (XML 1.0, 3.3.1 and 3.3.2)
abbrev pub has_value : Declared → List ℕ → Bool
has_value d value = has_kind d.kind value && has_fixed d.presence value

-- What private functions compute and promise of each other. Nobody has to believe it.

-- the test of one word: a name, a name token, or one of an enumeration
abbrev pub word_test : WordTest → List ℕ → Bool
word_test Name word = is_name word
word_test Token word = is_name_token word
word_test (OneOf tokens) word = list_any (bytes_eq word) tokens.now.items

-- the first word of a value, and what stands behind it
abbrev pub IsWord : List ℕ → Option (Bor (List ℕ) × Bor (List ℕ)) → Type 0
IsWord value None = words_of value ≡ []
IsWord value (Some z) = (words_of value ≡ z.0.now ∷ words_of z.1.now) × (length z.1.now < length value)
