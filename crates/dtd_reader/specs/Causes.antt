-- What the reading of a definition text comes to, and why it is refused.
use Rattle.std.specs.Prelude.{◌≡◌, ◌<◌, ◌≤◌, ◌+◌, ◌⊎◌, ℕ, List, true, false}
use Rattle.io_edge.specs.declared.files.FileFault.TheVariants as fault
use Rattle.io_edge.specs.Names.{beside, is_outside}
use Rattle.io_edge.specs.Told.{Content}
use Rattle.dtd_texts.specs.Reading.{State, Holds}
use Rattle.dtd_texts.specs.Causes.{Breaks, Omits, Misses, Asks, Comes}
use Rattle.dtd_texts.specs.Spells.{ReadsAll, seen_from}
use Rattle.dtd_tables.specs.Causes.{IsFirstFault}
use Rattle.dtd_reader.specs.Source.{SourceCall, IsCalm, IsUnread}
use Rattle.dtd_reader.specs.declared.limits.TheConstants.{REPLACED_LIMIT}
use Rattle.dtd_reader.specs.declared.refusal.DtdRefusal.{DtdRefusal}
use Rattle.dtd_reader.specs.declared.refusal.DtdRefusal.TheVariants.{Missing, ReadFault, TooLong, Outside, NotDtd, Entity, Twice, Undeclared, LeftOut, Limit, Memory}

-- of the text of this file
pub record InFile (content : Content) (name : List ℕ) (Holding : List ℕ → Type 0) : Type 0 where
  pub file : List ℕ
  pub held : Holds content name file
  pub so : Holding file

-- within the limits: the bytes of the replaced text, with those of text declarations, and the references
pub record IsWithinLimits (s : State) : Type 0 where
  pub short : s.length + s.passed ≤ REPLACED_LIMIT
  pub few : s.references ≤ REPLACED_LIMIT

-- the whole text of the file is read, within the limits, and without a file from outside of this root
pub record IsRead (content : Content) (root name : List ℕ) (last : State) : Type 0 where
  pub file : List ℕ
  pub held : Holds content name file
  pub all : ReadsAll (seen_from root name content) file last
  pub limits : IsWithinLimits last

-- the reading comes to so many bytes or references, which are over the limit
pub record IsOver (content : Content) (file : List ℕ) (count : ℕ) : Type 0 where
  pub state : State
  pub comes : Comes content file state
  pub over : REPLACED_LIMIT < count
  pub many : (count ≤ state.length + state.passed) ⊎ (count ≤ state.references)

-- the text breaks, and this is the first place of a fault: that of a declaration before, or that where it breaks
pub record BreaksFirst (content : Content) (file : List ℕ) (at : ℕ) : Type 0 where
  pub state : State
  pub comes : Comes content file state
  pub breaks : Breaks content file state.begun
  pub first : IsFirstFault state.written state.begun at

-- the text of the file of this name asks for the file that is found here: beside that file, inside of the root
pub record AsksFor (content : Content) (root name file path : List ℕ) : Type 0 where
  pub meant : List ℕ
  pub asks : Asks (seen_from root name content) file meant
  pub found : path ≡ beside name meant
  pub inside : is_outside root name meant ≡ false

-- the same, where it is found outside of the root
pub record AsksOutside (content : Content) (root name file path : List ℕ) : Type 0 where
  pub meant : List ℕ
  pub asks : Asks (seen_from root name content) file meant
  pub found : path ≡ beside name meant
  pub outside : is_outside root name meant ≡ true

-- the file itself, or one inside of this root that it asks for
abbrev pub IsAskedFor : Content → List ℕ → List ℕ → List ℕ → Type 0
IsAskedFor content root name path = (path ≡ name) ⊎ InFile content name (λ file. AsksFor content root name file path)

-- the cause of a refusal while the text is read, where names outside of this root are refused
abbrev pub IsReadCause : SourceCall → List ℕ → List ℕ → DtdRefusal → Type 0
IsReadCause call root name (Missing path) = IsAskedFor call.content root name path × IsUnread call path fault.Missing
IsReadCause call root name (ReadFault path) = IsAskedFor call.content root name path × IsUnread call path fault.Failed
IsReadCause call root name (TooLong path len) = IsAskedFor call.content root name path × IsUnread call path (fault.TooLong len)
IsReadCause call root name (Outside path) = InFile call.content name (λ file. AsksOutside call.content root name file path) × IsCalm call
IsReadCause call root name (NotDtd at) = InFile call.content name (λ file. BreaksFirst (seen_from root name call.content) file at) × IsCalm call
IsReadCause call root name (Entity entity) = InFile call.content name (λ file. Misses (seen_from root name call.content) file entity) × IsCalm call
IsReadCause call root name (Twice element) = ⊥
IsReadCause call root name (Undeclared element) = ⊥
IsReadCause call root name (LeftOut at) = InFile call.content name (λ file. Omits (seen_from root name call.content) file at) × IsCalm call
IsReadCause call root name (Limit count) = InFile call.content name (λ file. IsOver (seen_from root name call.content) file count) × IsCalm call
IsReadCause call root name Memory = IsCalm call

-- the same, of the text of the file of this name
abbrev pub IsTextCause : SourceCall → List ℕ → List ℕ → List ℕ → DtdRefusal → Type 0
IsTextCause call root name file (Missing path) = AsksFor call.content root name file path × IsUnread call path fault.Missing
IsTextCause call root name file (ReadFault path) = AsksFor call.content root name file path × IsUnread call path fault.Failed
IsTextCause call root name file (TooLong path len) = AsksFor call.content root name file path × IsUnread call path (fault.TooLong len)
IsTextCause call root name file (Outside path) = AsksOutside call.content root name file path × IsCalm call
IsTextCause call root name file (NotDtd at) = BreaksFirst (seen_from root name call.content) file at × IsCalm call
IsTextCause call root name file (Entity entity) = Misses (seen_from root name call.content) file entity × IsCalm call
IsTextCause call root name file (Twice element) = ⊥
IsTextCause call root name file (Undeclared element) = ⊥
IsTextCause call root name file (LeftOut at) = Omits (seen_from root name call.content) file at × IsCalm call
IsTextCause call root name file (Limit count) = IsOver (seen_from root name call.content) file count × IsCalm call
IsTextCause call root name file Memory = IsCalm call
