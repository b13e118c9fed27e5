-- What each document type definition of this program keeps. The limits are this project's own: 1,024 elements, 64
-- attributes of one element, and content models at most 402 high, which is two levels for each of 200 open brackets
-- and two for an element.
use Rattle.std.specs.Prelude.{ℕ, suc, Bool, true, false, not, ◌&&◌, List, [], ◌∷◌, map, length, max, nat_le, nat_lt, bytes_eq}
use Rattle.std.specs.List.{list_all, list_any}
use Rattle.xml_text.specs.Names.{is_name, is_name_token}
use Rattle.dtd_model.specs.Table.{Model, one, sequence, choice, optional, any_number, at_least_one, Models, no_models, more_models, Holding, nothing, anything, text_and, children, Kind, cdata, id, idref, idrefs, nmtoken, nmtokens, one_of, Declared, Rule}

-- how many elements a definition declares at most
abbrev pub element_limit : ℕ
element_limit = 1024

-- how many attributes are declared of an element at most
abbrev pub attribute_limit : ℕ
attribute_limit = 64

-- how many levels a content model has at most
abbrev pub height_limit : ℕ
height_limit = 402

-- no name stands twice
abbrev pub is_distinct : List (List ℕ) → Bool
is_distinct [] = true
is_distinct (name ∷ names) = not (list_any (bytes_eq name) names) && is_distinct names

-- these are names, and none stands twice
abbrev pub are_names : List (List ℕ) → Bool
are_names names = is_distinct names && list_all is_name names

-- how many levels a content particle has
unfoldable mutual
  -- one element has one level, and any other particle one more than the highest of its parts
  pub height : Model → ℕ
  height (one e) = 1
  height (sequence ms) = suc (highest ms)
  height (choice ms) = suc (highest ms)
  height (optional m) = suc (height m)
  height (any_number m) = suc (height m)
  height (at_least_one m) = suc (height m)

  -- the levels of the highest of the particles; 0 where there is none
  pub highest : Models → ℕ
  highest no_models = 0
  highest (more_models m ms) = max (height m) (highest ms)

-- each element that it names is one of so many
unfoldable mutual
  -- whether the place of each element that the particle names is below this number
  pub is_within : ℕ → Model → Bool
  is_within count (one e) = nat_lt e count
  is_within count (sequence ms) = are_within count ms
  is_within count (choice ms) = are_within count ms
  is_within count (optional m) = is_within count m
  is_within count (any_number m) = is_within count m
  is_within count (at_least_one m) = is_within count m

  -- whether the place of each element that the particles name is below this number
  pub are_within : ℕ → Models → Bool
  are_within count no_models = true
  are_within count (more_models m ms) = is_within count m && are_within count ms

-- whether there is a particle at all
abbrev pub is_nonempty : Models → Bool
is_nonempty no_models = false
is_nonempty (more_models m ms) = true

-- no choice in it is empty, so some list of elements matches it
unfoldable mutual
  -- whether each choice in the particle has a particle to choose
  pub has_matches : Model → Bool
  has_matches (one e) = true
  has_matches (sequence ms) = all_have_matches ms
  has_matches (choice ms) = is_nonempty ms && all_have_matches ms
  has_matches (optional m) = has_matches m
  has_matches (any_number m) = has_matches m
  has_matches (at_least_one m) = has_matches m

  -- whether each choice in the particles has a particle to choose
  pub all_have_matches : Models → Bool
  all_have_matches no_models = true
  all_have_matches (more_models m ms) = has_matches m && all_have_matches ms

-- a lawful content model, where so many elements are declared
abbrev pub is_lawful_holding : ℕ → Holding → Bool
is_lawful_holding count nothing = true
is_lawful_holding count anything = true
is_lawful_holding count (text_and es) = list_all (λ e. nat_lt e count) es
is_lawful_holding count (children m) = nat_le (height m) height_limit && is_within count m && has_matches m

-- a choice is one of name tokens (XML 1.0, 3.3.1, Enumeration)
abbrev pub is_lawful_kind : Kind → Bool
is_lawful_kind cdata = true
is_lawful_kind id = true
is_lawful_kind idref = true
is_lawful_kind idrefs = true
is_lawful_kind nmtoken = true
is_lawful_kind nmtokens = true
is_lawful_kind (one_of tokens) = list_all is_name_token tokens

-- at most 64 attributes, under names none of which stands twice, and each of a lawful type
abbrev pub are_lawful_attributes : List Declared → Bool
are_lawful_attributes ds =
    nat_le (length ds) attribute_limit && are_names (map (λ (d : Declared). d.name) ds)
    && list_all (λ (d : Declared). is_lawful_kind d.kind) ds

-- an element with a lawful content model and lawful attributes, where so many elements are declared
abbrev pub is_lawful_rule : ℕ → Rule → Bool
is_lawful_rule count rule = is_lawful_holding count rule.holding && are_lawful_attributes rule.attributes

-- the elements and the names of the entities are those of a lawful definition
unfoldable pub is_lawful : List Rule → List (List ℕ) → Bool
is_lawful rules entities =
    nat_le (length rules) element_limit && are_names (map (λ (r : Rule). r.name) rules) && list_all (is_lawful_rule (length rules)) rules
    && are_names entities
