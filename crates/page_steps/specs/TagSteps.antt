-- One character more in a tag (XML 1.0, 3.1) or in the XML declaration (2.8).
use Rattle.std.specs.Prelude.{ℕ, Bool, true, false, not, ◌&&◌, ◌||◌, if◌then◌else◌, List, [], ◌∷◌, ◌++◌, Option, Some, None, bytes_eq, codes}
use Rattle.std.specs.List.{list_all, list_any}
use Rattle.std.specs.Str.{str_eq_ignore_ascii_case}
use Rattle.dtd_model.specs.Table.{Declared}
use Rattle.page_model.specs.Attributes.{must_stand}
use Rattle.page_model.specs.Fronts.{find_declared}
use Rattle.page_model.specs.OpenValues.{OpenValue, in_text, in_fixed}
use Rattle.page_steps.specs.AttributeSteps.{Allowing}
use Rattle.page_steps.specs.ValueSteps.{value_start, value_step, value_good, may_stand}

-- the name is among these
abbrev pub is_among : List (List ℕ) → List ℕ → Bool
is_among names name = list_any (bytes_eq name) names

-- the attribute is declared, and no other of its name stands in the tag (3.1, Unique Att Spec)
abbrev pub is_declared_once : List (List ℕ) → List ℕ → Option Declared → Bool
is_declared_once names name None = false
is_declared_once names name (Some d) = not (is_among names name)

-- the declared names that are among these, or the one, in the order of their declaration
abbrev pub names_with : List Declared → List (List ℕ) → List ℕ → List (List ℕ)
names_with [] names name = []
names_with (d ∷ ds) names name =
    if is_among names d.name || bytes_eq name d.name then d.name ∷ names_with ds names name else names_with ds names name

-- a value behind its quote, by the declaration of its attribute, if it has one
abbrev pub start_of : Option Declared → OpenValue
start_of None = in_text
start_of (Some d) = value_start d

-- one character more of a value; none may stand where the attribute is not declared
abbrev pub step_of : List (List ℕ) → Option Declared → OpenValue → ℕ → Option OpenValue
step_of entities None v c = None
step_of entities (Some d) v c = value_step entities d v c

-- the value may end there; it may not where the attribute is not declared
abbrev pub good_of : List (List ℕ) → Option Declared → OpenValue → Bool
good_of entities None v = false
good_of entities (Some d) v = value_good entities d v

-- the attributes of an element: those that are declared, each once
abbrev pub of_element : List (List ℕ) → List Declared → Allowing
of_element entities rules = record {
  may = λ names name. is_declared_once names name (find_declared rules name);
  added = names_with rules;
  start = λ name. start_of (find_declared rules name);
  step = λ name v c. step_of entities (find_declared rules name) v c;
  good = λ name v. good_of entities (find_declared rules name) v;
}

-- all that have to stand are among these
abbrev pub are_all : List ℕ → List Declared → List (List ℕ) → Bool
are_all tag_name rules names = list_all (λ (d : Declared). if must_stand tag_name d then is_among names d.name else true) rules

-- The XML declaration: the version, maybe the encoding and whether it stands alone, in this order.

-- behind these names this one may stand: the version first, then the encoding, then whether the page stands alone
abbrev pub may_be_word : List (List ℕ) → List ℕ → Bool
may_be_word [] name = bytes_eq name (codes "version")
may_be_word (version ∷ []) name = bytes_eq name (codes "encoding") || bytes_eq name (codes "standalone")
may_be_word (version ∷ second ∷ []) name = bytes_eq second (codes "encoding") && bytes_eq name (codes "standalone")
may_be_word (version ∷ second ∷ third ∷ names) name = false

-- what the name may be set to: the version to 1.0, the encoding to UTF-8 in any case, and the last to yes or no
abbrev pub is_word_value : List ℕ → List ℕ → Bool
is_word_value name value =
    if bytes_eq name (codes "version") then bytes_eq value (codes "1.0")
    else (if bytes_eq name (codes "encoding") then str_eq_ignore_ascii_case value (codes "UTF-8") else bytes_eq value (codes "yes")
    || bytes_eq value (codes "no"))

-- one character more of a value of the XML declaration, of which all is kept
abbrev pub word_step : OpenValue → ℕ → Option OpenValue
word_step (in_fixed value) c = if may_stand c then Some (in_fixed (value ++ c ∷ [])) else None
word_step v c = None

-- the value of the XML declaration may end there, by its name
abbrev pub word_good : List ℕ → OpenValue → Bool
word_good name (in_fixed value) = is_word_value name value
word_good name v = false

-- the attributes of the XML declaration: its names in their order, each with its values
abbrev pub of_declaration : Allowing
of_declaration = record {
  may = may_be_word;
  added = λ names name. names ++ name ∷ [];
  start = λ name. in_fixed [];
  step = λ name v c. word_step v c;
  good = word_good;
}
