-- Why a document type definition is refused.
use Rattle.std.specs.Prelude.{◌≡◌, ◌⊎◌, ℕ, List}
use Rattle.io_edge.specs.declared.files.FileFault.TheVariants as fault
use Rattle.io_edge.specs.Told.{Content}
use Rattle.dtd_texts.specs.Reading.{State, Written}
use Rattle.dtd_texts.specs.Causes.{Omits, Misses}
use Rattle.dtd_texts.specs.Spells.{seen_from}
use Rattle.dtd_texts.specs.Tables.{element_names}
use Rattle.dtd_texts.specs.Went.{refused, left_out, undeclared}
use Rattle.dtd_tables.specs.Causes.{StandsTwice, GoesWrong}
use Rattle.dtd_tables.specs.declared.refusal.TableRefusal.{TableRefusal}
use Rattle.dtd_tables.specs.declared.refusal.TableRefusal.TheVariants as table
use Rattle.dtd_reader.specs.Source.{SourceCall, IsCalm, IsUnread}
use Rattle.dtd_reader.specs.Causes.{InFile, IsRead, IsOver, IsAskedFor, AsksOutside, BreaksFirst}
use Rattle.dtd_reader.specs.Choices.{IsOverTable}
use Rattle.dtd_reader.specs.declared.refusal.DtdRefusal.{DtdRefusal}
use Rattle.dtd_reader.specs.declared.refusal.DtdRefusal.TheVariants.{Missing, ReadFault, TooLong, Outside, NotDtd, Entity, Twice, Undeclared, LeftOut, Limit, Memory}

-- of the declarations of this file, which is read to its end
pub record InDeclarations (content : Content) (root name : List ℕ) (Holding : List Written → Type 0) : Type 0 where
  pub last : State
  pub read : IsRead content root name last
  pub so : Holding last.written

-- the cause of each refusal, with the counts of faults and misses, where names outside of this root are refused
abbrev pub IsCause : SourceCall → List ℕ → List ℕ → DtdRefusal → Type 0
IsCause call root name (Missing path) = IsAskedFor call.content root name path × IsUnread call path fault.Missing
IsCause call root name (ReadFault path) = IsAskedFor call.content root name path × IsUnread call path fault.Failed
IsCause call root name (TooLong path len) = IsAskedFor call.content root name path × IsUnread call path (fault.TooLong len)
IsCause call root name (Outside path) = InFile call.content name (λ file. AsksOutside call.content root name file path) × IsCalm call
IsCause call root name (NotDtd at) =
    (InFile call.content name (λ file. BreaksFirst (seen_from root name call.content) file at)
    ⊎ InDeclarations call.content root name (λ written. GoesWrong written at refused)) × IsCalm call
IsCause call root name (Entity entity) = InFile call.content name (λ file. Misses (seen_from root name call.content) file entity) × IsCalm call
IsCause call root name (Twice element) = InDeclarations call.content root name (λ written. StandsTwice (element_names written) element) × IsCalm call
IsCause call root name (Undeclared element) =
    InDeclarations call.content root name (λ written. (at : ℕ) × GoesWrong written at (undeclared element)) × IsCalm call
IsCause call root name (LeftOut at) =
    (InFile call.content name (λ file. Omits (seen_from root name call.content) file at)
    ⊎ InDeclarations call.content root name (λ written. GoesWrong written at left_out)) × IsCalm call
IsCause call root name (Limit count) =
    (InFile call.content name (λ file. IsOver (seen_from root name call.content) file count)
    ⊎ InDeclarations call.content root name (λ written. IsOverTable written count)) × IsCalm call
IsCause call root name Memory = IsCalm call

-- the refusal of declarations, as that of their definition
abbrev pub IsSameRefusal : TableRefusal → DtdRefusal → Type 0
IsSameRefusal (table.Twice name) r = r ≡ Twice name
IsSameRefusal (table.Undeclared name) r = r ≡ Undeclared name
IsSameRefusal (table.Refused at) r = r ≡ NotDtd at
IsSameRefusal (table.LeftOut at) r = r ≡ LeftOut at
IsSameRefusal (table.Limit count) r = r ≡ Limit count
IsSameRefusal table.Memory r = r ≡ Memory
