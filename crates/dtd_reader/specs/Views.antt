-- What the reader stands for.
use Rattle.std.specs.Prelude.{◌≡◌, ◌⊎◌, ◌<◌, ◌≤◌, ◌+◌, ◌*◌, ◌-◌, length, ℕ, List, [], ◌∷◌, map, reverse, drop, true, false, Some, None}
use Rattle.dtd_texts.specs.Tokens.{behind_declaration}
use Rattle.dtd_texts.specs.Places.{external}
use Rattle.text_base.specs.declared.limits.TheConstants.{FILE_LIMIT}
use Rattle.io_edge.specs.Names.{beside, is_outside}
use Rattle.io_edge.specs.Told.{Content}
use Rattle.dtd_texts.specs.Reading.{State, Holds, Replacement, Stands, start, enter, is_among, source_of, Reads}
use Rattle.dtd_texts.specs.Causes.{Breaks, Omits, Misses}
use Rattle.dtd_texts.specs.Spells.{seen_from}
use Rattle.dtd_entities.specs.Positions.{state_of}
use Rattle.dtd_reader.specs.SoFar.{Frame, names, Position, SoFar}
use Rattle.dtd_reader.specs.Source.{SourceCall, IsCalm, IsUnread}
use Rattle.dtd_reader.specs.Causes.{AsksFor, AsksOutside}
use Rattle.dtd_reader.specs.declared.limits.TheConstants.{REPLACED_LIMIT}
use Rattle.dtd_reader.specs.declared.frames.Rest.{Rest}
use Rattle.dtd_reader.specs.declared.frames.Frames.{Frames}
use Rattle.dtd_reader.specs.declared.reader.Reader.{Reader}
use Rattle.dtd_reader.specs.declared.outcome.Outcome.{Outcome}
use Rattle.dtd_reader.specs.declared.outcome.Outcome.TheVariants.{Goes, Ends, Breaks as DoesBreak, Omits as DoesOmit, Misses as DoesMiss, Unread, LeadsOut}
use Rattle.dtd_reader.specs.declared.outcome.Found.{Found}
use Rattle.dtd_reader.specs.declared.outcome.Found.TheVariants.{Nowhere, NotRead, Outside, Text}
use Rattle.dtd_reader.specs.declared.outcome.Inner.{Inner}
use Rattle.dtd_reader.specs.declared.outcome.Loaded.{Loaded}
use Rattle.dtd_reader.specs.declared.outcome.Loaded.TheVariants.{NotRead as WasNotRead, Text as Whole}

-- the plain form of an open entity, with what is left of the text that refers to it
abbrev pub frame_of : (List ℕ × Rest) → Frame
frame_of f = record { name = f.0; rest = drop f.1.at f.1.text; file = f.1.file }

-- the last one first
abbrev pub frames_of : Frames → List Frame
frames_of f = map frame_of (reverse f.frames.entries)

-- the plain form of a reader: where it is in the text, and which entities are open
abbrev pub position_of : Reader → Position
position_of r = record { state = state_of r.reading; text = drop r.at r.text; frames = frames_of r.frames }

-- what became of one step, where so far whatever the rest leads to, so does the text of the file of this name, with this root
abbrev pub Told : List ℕ → List ℕ → Content → List ℕ → Outcome → Position → Position → Type 0
Told root name content file Goes old now = SoFar (seen_from root name content) file now
Told root name content file Ends old now = Reads (seen_from root name content) [] start file old.state × (now.state ≡ old.state)
Told root name content file DoesBreak old now =
    ((at : ℕ) → old.state.begun ≡ at → Breaks (seen_from root name content) file at) × (now.state ≡ old.state)
Told root name content file DoesOmit old now =
    ((at : ℕ) → old.state.begun ≡ at → Omits (seen_from root name content) file at) × (now.state ≡ old.state)
Told root name content file (DoesMiss entity) old now = Misses (seen_from root name content) file entity
Told root name content file (Unread path fault) old now = AsksFor content root name file path
Told root name content file (LeadsOut path) old now = AsksOutside content root name file path

-- the plain form of the text of an entity
abbrev pub inner_of : Inner → Replacement
inner_of i = record { text = i.text; over = i.over; file = i.file }

-- the text of an entity outside that is meant under this name
abbrev pub IsOutside : List ℕ → List ℕ → Content → List ℕ → Found → Type 0
IsOutside root name content meant Nowhere = ⊥
IsOutside root name content meant (NotRead path fault) = (path ≡ beside name meant) × (is_outside root name meant ≡ false)
IsOutside root name content meant (Outside path) = (path ≡ beside name meant) × (is_outside root name meant ≡ true)
IsOutside root name content meant (Text inner) =
    (held : Holds (seen_from root name content) meant inner.text) × (length held.whole ≡ inner.over + length inner.text) × (inner.file ≡ meant)
    × (inner.over ≤ FILE_LIMIT)

-- the text of an entity, where it is declared so far and not open
abbrev pub IsFound : List ℕ → List ℕ → Content → State → List Frame → List ℕ → Found → Type 0
IsFound root name content s frames entity Nowhere = (is_among (names frames) entity ≡ true) ⊎ (source_of s.parameters entity ≡ None)
IsFound root name content s frames entity (NotRead path fault) =
    (is_among (names frames) entity ≡ false)
    × ((meant : List ℕ) × (source_of s.parameters entity ≡ Some (external meant)) × (path ≡ beside name meant) × (is_outside root name meant ≡ false))
IsFound root name content s frames entity (Outside path) =
    (is_among (names frames) entity ≡ false)
    × ((meant : List ℕ) × (source_of s.parameters entity ≡ Some (external meant)) × (path ≡ beside name meant) × (is_outside root name meant ≡ true))
IsFound root name content s frames entity (Text inner) =
    (is_among (names frames) entity ≡ false)
    × Stands (seen_from root name content) s.file (source_of s.parameters entity) (inner_of inner)
    × (inner.over ≤ FILE_LIMIT)

-- behind the beginning of an entity, whose reference has so many bytes
abbrev pub entered : Position → List ℕ → Replacement → ℕ → Position
entered p name r n = record {
  state = enter p.state r.over r.file;
  text = r.text;
  frames = record { name = name; rest = drop n p.text; file = p.state.file } ∷ p.frames;
}

-- how much may still be read: bytes, references, and entities that are open
abbrev pub work_left : Position → ℕ
work_left p = (REPLACED_LIMIT + 1 - p.state.length) + 2 * (REPLACED_LIMIT + 1 - p.state.references) + length p.frames

-- where the reading goes on, less is left
abbrev pub IsNearer : Outcome → Position → Position → Type 0
IsNearer Goes old now = work_left now < work_left old
IsNearer Ends old now = Unit {0}
IsNearer DoesBreak old now = Unit {0}
IsNearer DoesOmit old now = Unit {0}
IsNearer (DoesMiss name) old now = Unit {0}
IsNearer (Unread path fault) old now = Unit {0}
IsNearer (LeadsOut path) old now = Unit {0}

-- what a file of these bytes holds: its text, and how many bytes stand before it
abbrev pub IsBehind : List ℕ → Loaded → Type 0
IsBehind whole (WasNotRead name fault) = ⊥
IsBehind whole (Whole text over) = (behind_declaration whole ≡ text) × (length whole ≡ over + length text) × (over ≤ FILE_LIMIT)

-- the text of a file and how many bytes stand before it, or why it was not read
abbrev pub IsLoaded : Content → List ℕ → Loaded → Type 0
IsLoaded content path (WasNotRead name fault) = name ≡ path
IsLoaded content path (Whole text over) =
    (held : Holds content path text) × (length held.whole ≡ over + length text) × (over ≤ FILE_LIMIT)

-- the counts behind a call: none rose, but where a file was not read
abbrev pub LoadedCounts : SourceCall → Loaded → Type 0
LoadedCounts call (WasNotRead name fault) = IsUnread call name fault
LoadedCounts call (Whole text over) = IsCalm call

-- the same, of the text of an entity
abbrev pub FoundCounts : SourceCall → Found → Type 0
FoundCounts call Nowhere = IsCalm call
FoundCounts call (NotRead path fault) = IsUnread call path fault
FoundCounts call (Outside path) = IsCalm call
FoundCounts call (Text inner) = IsCalm call

-- the counts behind one step: none rose, but where a file was not read
abbrev pub OutcomeCounts : SourceCall → Outcome → Type 0
OutcomeCounts call Goes = IsCalm call
OutcomeCounts call Ends = IsCalm call
OutcomeCounts call DoesBreak = IsCalm call
OutcomeCounts call DoesOmit = IsCalm call
OutcomeCounts call (DoesMiss name) = IsCalm call
OutcomeCounts call (Unread path fault) = IsUnread call path fault
OutcomeCounts call (LeadsOut path) = IsCalm call
