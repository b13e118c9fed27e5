-- One character more in the quotes of a value, by how its attribute is declared (XML 1.0, 3.3).
use Rattle.std.specs.Prelude.{ℕ, Bool, true, false, not, ◌==◌, ◌&&◌, ◌||◌, if◌then◌else◌, List, [], ◌∷◌, ◌++◌, Option, Some, None, bytes_eq}
use Rattle.std.specs.List.{list_any}
use Rattle.xml_text.specs.Characters.{is_blank, is_character}
use Rattle.xml_text.specs.Names.{begins_name, in_name}
use Rattle.dtd_model.specs.References.{is_reference, is_known, is_some}
use Rattle.dtd_model.specs.Table.{Kind, cdata, id, idref, idrefs, nmtokens, one_of, Presence, implied, required, with_default, fixed, Declared}
use Rattle.page_model.specs.Attributes.{has_kind, has_fixed}
use Rattle.page_model.specs.Parts.{refers_by}
use Rattle.page_model.specs.OpenValues.{OpenReference, in_entity, OpenValue, in_text, in_reference, in_fixed, in_choice, in_words}
use Rattle.page_steps.specs.ReferenceSteps.{reference_step, reference_good}

-- behind the quote
abbrev pub kind_start : Kind → OpenValue
kind_start cdata = in_text
kind_start (one_of tokens) = in_choice [] false
kind_start kind = in_words false false

-- behind the quote: a fixed value is compared with its default and so is kept as it stands; any other goes by its type
abbrev pub start_by : Kind → Presence → OpenValue
start_by kind (fixed wanted) = in_fixed []
start_by kind implied = kind_start kind
start_by kind required = kind_start kind
start_by kind with_default = kind_start kind

-- behind the quote of a declared attribute's value
abbrev pub value_start : Declared → OpenValue
value_start d = start_by d.kind d.presence

-- the type has names, and not name tokens; it has many of them
abbrev pub has_names : Kind → Bool
has_names id = true
has_names idref = true
has_names idrefs = true
has_names kind = false

-- the type has names or name tokens, and not one alone
abbrev pub has_many : Kind → Bool
has_many idrefs = true
has_many nmtokens = true
has_many kind = false

-- what a name or a name token of the type may begin with
abbrev pub begins_word : Kind → ℕ → Bool
begins_word kind c = if has_names kind then begins_name c else in_name c

-- among names or name tokens: one character more of one, or the first of another, where there is none yet or many may stand
abbrev pub words_step : Kind → Bool → Bool → ℕ → Option OpenValue
words_step kind true one c = if in_name c then Some (in_words true one) else None
words_step kind false one c = if (not one || has_many kind) && begins_word kind c then Some (in_words true one) else None

-- in a value of an enumeration: one character more of its token, which white space ends
abbrev pub choice_step : List ℕ → Bool → ℕ → Option OpenValue
choice_step word spaced c = if not spaced && in_name c then Some (in_choice (word ++ c ∷ []) false) else None

-- in a reference, where its character may stand
abbrev pub in_reference_of : Option OpenReference → Option OpenValue
in_reference_of None = None
in_reference_of (Some r) = Some (in_reference r)

-- in a text: `&` opens a reference
abbrev pub text_step : ℕ → Option OpenValue
text_step c = Some (if c == 38 then in_reference (in_entity []) else in_text)

-- in a reference: its `;`, where it may end, or one character more
abbrev pub semicolon_step : List (List ℕ) → OpenReference → ℕ → Option OpenValue
semicolon_step entities r c = if c == 59 then (if reference_good entities r then Some in_text else None)
    else in_reference_of (reference_step r c)

-- one character more, by what is kept of the value; white space does not count round name tokens
abbrev pub kept_step : List (List ℕ) → Kind → OpenValue → ℕ → Option OpenValue
kept_step entities kind in_text c = text_step c
kept_step entities kind (in_reference r) c = semicolon_step entities r c
kept_step entities kind (in_fixed value) c = Some (in_fixed (value ++ c ∷ []))
kept_step entities kind (in_choice word spaced) c =
    if is_blank c then Some (in_choice word (spaced || is_some word)) else choice_step word spaced c
kept_step entities kind (in_words inside one) c = if is_blank c then Some (in_words false (inside || one)) else words_step kind inside one c

-- no `<` stands in a value (XML 1.0, 2.3, AttValue)
abbrev pub may_stand : ℕ → Bool
may_stand c = is_character c && not (c == 60)

-- one character more of a declared attribute's value, where it may stand in one
abbrev pub value_step : List (List ℕ) → Declared → OpenValue → ℕ → Option OpenValue
value_step entities d v c = if may_stand c then kept_step entities d.kind v c else None

-- the token is one of those that the enumeration has (3.3.1, Enumeration)
abbrev pub is_chosen : Kind → List ℕ → Bool
is_chosen (one_of tokens) word = list_any (bytes_eq word) tokens
is_chosen kind word = false

-- the value may end there
abbrev pub value_good : List (List ℕ) → Declared → OpenValue → Bool
value_good entities d in_text = true
value_good entities d (in_reference r) = false
value_good entities d (in_fixed value) =
    refers_by is_reference value && refers_by (is_known entities) value && (has_kind d.kind value && has_fixed d.presence value)
value_good entities d (in_choice word spaced) = is_some word && is_chosen d.kind word
value_good entities d (in_words inside one) = inside || one
