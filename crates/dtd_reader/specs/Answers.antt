-- What the answer of a reading says: all is read within the limits, and no count rose; or a refusal with its cause.
use Rattle.std.specs.Prelude.{ℕ, List, Result, Ok, Err}
use Rattle.dtd_texts.specs.Spells.{ReadsAll, seen_from}
use Rattle.dtd_entities.specs.Positions.{state_of}
use Rattle.dtd_entities.specs.declared.state.Reading.{Reading}
use Rattle.dtd_reader.specs.Source.{SourceCall, IsCalm}
use Rattle.dtd_reader.specs.Causes.{IsWithinLimits, IsRead, IsReadCause, IsTextCause}
use Rattle.dtd_reader.specs.declared.refusal.DtdRefusal.{DtdRefusal}

-- of the file of a name, where names outside of this root are refused
abbrev pub IsAnswer : SourceCall → List ℕ → List ℕ → Result Reading DtdRefusal → Type 0
IsAnswer call root name (Ok reading) = IsRead call.content root name (state_of reading) × IsCalm call
IsAnswer call root name (Err refusal) = IsReadCause call root name refusal

-- of the text of the file of a name
abbrev pub IsTextAnswer : SourceCall → List ℕ → List ℕ → List ℕ → Result Reading DtdRefusal → Type 0
IsTextAnswer call root name file (Ok reading) =
    ReadsAll (seen_from root name call.content) file (state_of reading) × IsWithinLimits (state_of reading) × IsCalm call
IsTextAnswer call root name file (Err refusal) = IsTextCause call root name file refusal
