-- What a step answers, and parts of one that the code has as calls.
use Rattle.std.specs.Prelude.{ℕ, Bool, false, ◌||◌, if◌then◌else◌, List, Option, Some, None}
use Rattle.xml_text.specs.Characters.{is_blank}
use Rattle.dtd_model.specs.References.{is_some}
use Rattle.dtd_model.specs.Table.{Kind}
use Rattle.page_model.specs.OpenValues as value
use Rattle.page_steps.specs.ReferenceSteps.{reference_good}
use Rattle.page_steps.specs.ValueSteps.{choice_step, words_step}
use Rattle.open_pieces.specs.declared.value.OpenValue.{OpenValue}
use Rattle.open_pieces.specs.Views.{plain_value}

-- the open value of the definition, or none
abbrev pub plain_next : Option OpenValue → Option value.OpenValue
plain_next None = None
plain_next (Some v) = Some (plain_value v)

-- one character more in a choice, in words, and behind the `;` of a reference, as `kept_step` has them
abbrev pub choice_next : List ℕ → Bool → ℕ → Option value.OpenValue
choice_next word spaced c = if is_blank c then Some (value.in_choice word (spaced || is_some word)) else choice_step word spaced c

-- one character more among names or name tokens
abbrev pub words_next : Kind → Bool → Bool → ℕ → Option value.OpenValue
words_next kind inside one c = if is_blank c then Some (value.in_words false (inside || one)) else words_step kind inside one c

-- behind the `;` of a reference, where it may end there
abbrev pub reference_ended : List (List ℕ) → value.OpenReference → Option value.OpenValue
reference_ended entities r = if reference_good entities r then Some value.in_text else None
