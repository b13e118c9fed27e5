-- From a step of the reading to the answer of the whole.
use Rattle.std.proofs.Common.{◌≡◌, ◌<◌, ◌≤◌, ◌⊎◌, ℕ, ◌+◌, List, [], refl, sym, ap, subst, inl, inr}
use Rattle.io_edge.specs.Told.{Content}
use Rattle.dtd_texts.specs.Reading.{State, Holds, start, Reads, at_end, takes, replaces}
use Rattle.dtd_texts.specs.Causes.{Meets, here, later, behind, Breaks, Comes}
use Rattle.dtd_texts.specs.Spells.{seen_from}
use Rattle.dtd_tables.specs.Causes.{FirstRefused, NoneRefused}
use Rattle.std.specs.Prelude.{Result, Ok, Err, Option, Some, None, MatchOption}
use Rattle.std.specs.Option.{unwrap_or}
use Rattle.dtd_entities.specs.declared.state.Reading.{Reading}
use Rattle.dtd_reader.specs.SoFar.{Position, SoFar}
use Rattle.dtd_reader.specs.Source.{SourceCall, source_call, IsCalm}
use Rattle.dtd_reader.specs.Causes.{IsOver, BreaksFirst, IsReadCause, IsTextCause}
use Rattle.dtd_reader.specs.Answers.{IsAnswer, IsTextAnswer}
use Rattle.dtd_reader.specs.Views.{Told}
use Rattle.dtd_reader.specs.declared.limits.TheConstants.{REPLACED_LIMIT}
use Rattle.dtd_reader.specs.declared.outcome.Outcome.TheVariants.{Breaks as DoesBreak, Omits as DoesOmit}
use Rattle.dtd_reader.specs.declared.refusal.DtdRefusal.{DtdRefusal}
use Rattle.dtd_reader.specs.declared.refusal.DtdRefusal.TheVariants.{Missing, ReadFault, TooLong, Outside, NotDtd, Entity, Twice, Undeclared, LeftOut, Limit, Memory}
use Rattle.dtd_reader.proofs.SoFar.{here_met}

-- what holds of a later part of a call, before which no count rose, holds of the whole
pub same_call : (P : SourceCall → Type 0) (k : Content) (f f' f'' m m' m'' : ℕ) → f' ≡ f → m' ≡ m → P (source_call k f' f'' m' m'') → P (source_call k f f'' m m'')
same_call P k f f' f'' m m' m'' b e p =
    subst (λ x. P (source_call k x f'' m m'')) b (subst (λ x. P (source_call k f' f'' x m'')) e p)

-- what is read is come to
reads_meets : (content : Content) (outer : List (List ℕ)) (s last : State) (text : List ℕ) → Reads content outer s text last → Meets content outer s text outer last []
reads_meets content outer s _ _ at_end = here
reads_meets content outer s last _ (takes is rest) = later is (reads_meets content outer _ last _ rest)
reads_meets content outer s last _ (replaces by is shut stands inner rest) = behind by is shut stands inner (reads_meets content outer _ last _ rest)

pub read_comes : (content : Content) (file : List ℕ) (last : State) → Reads content [] start file last → Comes content file last
read_comes content file last reads = record { outer = []; rest = []; meets = reads_meets content [] start last file reads }

comes_to : (content : Content) (file : List ℕ) (p : Position) → SoFar content file p → Comes content file p.state
comes_to content file p so_far = record { outer = _; rest = p.text; meets = here_met content file p.state p.text p.frames so_far }

-- where the text of the file of a name breaks
pub broke : (call : SourceCall) (root name file : List ℕ) (old now : Position) → SoFar (seen_from root name call.content) file old → Told root name call.content file DoesBreak old now →
    Comes (seen_from root name call.content) file now.state × Breaks (seen_from root name call.content) file now.state.begun
broke call root name file old now so_far told =
    (subst (λ (s : State). Comes (seen_from root name call.content) file s) (sym told.1) (comes_to (seen_from root name call.content) file old so_far), told.0 now.state.begun (ap (λ (s : State). s.begun) (sym told.1)))

-- the first fault
pub first_is : (content : Content) (file : List ℕ) (s : State) (first : Option ℕ) → Comes content file s → Breaks content file s.begun → MatchOption first (NoneRefused s.written) (FirstRefused s.written) → BreaksFirst content file (unwrap_or first s.begun)
first_is content file s None comes breaks none = record { state = s; comes = comes; breaks = breaks; first = inr (none, refl) }
first_is content file s (Some at) comes breaks found = record { state = s; comes = comes; breaks = breaks; first = inl found }

pub omitted : (call : SourceCall) (root name file : List ℕ) (old now : Position) → Told root name call.content file DoesOmit old now → IsCalm call → IsTextCause call root name file (LeftOut now.state.begun)
omitted call root name file old now told calm = (told.0 now.state.begun (ap (λ (s : State). s.begun) (sym told.1)), calm)

pub over : (content : Content) (file : List ℕ) (p : Position) (count : ℕ) → SoFar content file p → REPLACED_LIMIT < count → (count ≤ p.state.length + p.state.passed) ⊎ (count ≤ p.state.references) → IsOver content file count
over content file p count so_far h many = record {
  state = p.state;
  comes = comes_to content file p so_far;
  over = h;
  many = many;
}

-- the cause in a text is the cause in its file
pub in_file : (call : SourceCall) (root name file : List ℕ) → Holds call.content name file → (refusal : DtdRefusal) → IsTextCause call root name file refusal → IsReadCause call root name refusal
in_file call root name file held (Missing path) why = (inr (record { file = file; held = held; so = why.0 }), why.1)
in_file call root name file held (ReadFault path) why = (inr (record { file = file; held = held; so = why.0 }), why.1)
in_file call root name file held (TooLong path len) why = (inr (record { file = file; held = held; so = why.0 }), why.1)
in_file call root name file held (Outside path) why = (record { file = file; held = held; so = why.0 }, why.1)
in_file call root name file held (NotDtd at) why = (record { file = file; held = held; so = why.0 }, why.1)
in_file call root name file held (Entity entity) why = (record { file = file; held = held; so = why.0 }, why.1)
in_file call root name file held (Twice element) why = why
in_file call root name file held (Undeclared element) why = why
in_file call root name file held (LeftOut at) why = (record { file = file; held = held; so = why.0 }, why.1)
in_file call root name file held (Limit count) why = (record { file = file; held = held; so = why.0 }, why.1)
in_file call root name file held Memory why = why

pub in_file_answer : (call : SourceCall) (root name file : List ℕ) → Holds call.content name file → (r : Result Reading DtdRefusal) → IsTextAnswer call root name file r → IsAnswer call root name r
in_file_answer call root name file held (Ok reading) h = (record { file = file; held = held; all = h.0; limits = h.1 }, h.2)
in_file_answer call root name file held (Err refusal) h = in_file call root name file held refusal h
