-- The states of a page in which all characters of several bytes lead on alike.
use Rattle.std.specs.Prelude.{ℕ, List, Bool, true, false, ◌&&◌, if◌then◌else◌}
use Rattle.character_steps.specs.Encoded.{Held}
use Rattle.page_model.specs.Parts.{is_quote}
use Rattle.page_model.specs.Places.{Place, at_beginning, behind_mark, behind}
use Rattle.page_model.specs.Fronts.{Open, nothing, in_tag, in_comment, in_section, in_instruction, in_doctype}
use Rattle.page_model.specs.OpenDoctypes.{OpenDoctype, in_system}
use Rattle.page_model.specs.OpenTags.{OpenAttribute, in_value}
use Rattle.page_model.specs.OpenValues.{OpenValue, in_text}
use Rattle.page_steps.specs.PageSteps.{PageState}
use Rattle.merged_reader.specs.Alike.{representative}
use Rattle.merged_reader.specs.Numbers.{merged_numbers}

-- between pieces; at the beginning U+FEFF is the byte order mark
abbrev pub place_alike : Place → Bool
place_alike at_beginning = false
place_alike behind_mark = true
place_alike (behind k) = true

-- a value of CDATA; a fixed value is compared
abbrev pub value_alike : OpenValue → Bool
value_alike in_text = true
value_alike v = false

-- a value between quotes in which all characters of several bytes lead on alike
abbrev pub attribute_alike : OpenAttribute → Bool
attribute_alike (in_value name quote v) = is_quote quote && value_alike v
attribute_alike o = false

-- the system literal; in the public literal no character of several bytes stands
abbrev pub doctype_alike : OpenDoctype → Bool
doctype_alike (in_system quote) = is_quote quote
doctype_alike o = false

-- what is open, where all characters of several bytes lead on alike
abbrev pub open_alike : Place → Open → Bool
open_alike place nothing = place_alike place
open_alike place (in_tag name names o) = attribute_alike o
open_alike place (in_comment dashes) = true
open_alike place (in_section brackets) = true
open_alike place (in_instruction asked) = true
open_alike place (in_doctype o) = doctype_alike o
open_alike place o = false

-- whether all characters of several bytes lead on alike from the state
abbrev pub takes_all_alike : PageState → Bool
takes_all_alike s = open_alike s.place s.inside

-- what is kept of an open character
abbrev pub merged_begun : PageState → List ℕ → List ℕ
merged_begun s begun = if takes_all_alike s then representative begun else begun

-- the state with the first bytes that stand for those of its open character, and the number that stands for that of its open reference
abbrev pub merged_held : Held PageState → Held PageState
merged_held h = record { state = merged_numbers h.state; begun = merged_begun h.state h.begun }
