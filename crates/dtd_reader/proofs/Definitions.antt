-- From the reading of a text and the table of its declarations to the definition of a file.
use Rattle.std.proofs.Common.{◌≡◌, ◌∙◌, ◌+◌, ℕ, Bool, true, List, refl, sym, ap, subst, inl, inr}
use Rattle.dtd_model.specs.Table.{Table}
use Rattle.dtd_model.specs.Lawful.{are_names}
use Rattle.io_edge.specs.Told.{Content}
use Rattle.dtd_texts.specs.Reading.{State}
use Rattle.dtd_texts.specs.Spells.{DtdSpells, seen_from}
use Rattle.dtd_texts.proofs.Entities.{entities_named}
use Rattle.dtd_tables.specs.Spelled.{IsTable}
use Rattle.dtd_tables.specs.Causes.{IsTableCause}
use Rattle.dtd_tables.specs.declared.refusal.TableRefusal.{TableRefusal}
use Rattle.dtd_tables.specs.declared.refusal.TableRefusal.TheVariants as table
use Rattle.dtd_reader.specs.Source.{SourceCall, IsCalm}
use Rattle.dtd_reader.specs.Causes.{IsRead, IsReadCause}
use Rattle.dtd_reader.specs.Refusals.{IsCause, IsSameRefusal}
use Rattle.dtd_reader.specs.Choices.{have_large}
use Rattle.dtd_reader.specs.declared.limits.TheConstants.{VALUE_LIMIT}
use Rattle.dtd_reader.specs.declared.refusal.DtdRefusal.{DtdRefusal}
use Rattle.dtd_reader.specs.declared.refusal.DtdRefusal.TheVariants.{Missing, ReadFault, TooLong, Outside, NotDtd, Entity, Twice, Undeclared, LeftOut, Limit, Memory}

pub general_names : (content : Content) (root name : List ℕ) (last : State) → IsRead content root name last → are_names last.generals ≡ true
general_names content root name last read = entities_named (seen_from root name content) read.file last read.all.reads

pub spells : (content : Content) (root name : List ℕ) (last : State) (t : Table) → IsRead content root name last → IsTable last.written last.generals t → DtdSpells content root name t
spells content root name last t read is = record {
  file = read.file;
  held = read.held;
  last = last;
  read = read.all;
  says = is.says;
  said = is.said;
  elements = is.elements;
  entities = is.entities;
  doctype = is.doctype;
}

pub read_cause : (call : SourceCall) (root name : List ℕ) (r : DtdRefusal) → IsReadCause call root name r → IsCause call root name r
read_cause call root name (Missing path) why = why
read_cause call root name (ReadFault path) why = why
read_cause call root name (TooLong path len) why = why
read_cause call root name (Outside path) why = why
read_cause call root name (NotDtd at) why = (inl why.0, why.1)
read_cause call root name (Entity entity) why = why
read_cause call root name (Twice element) why = absurd why
read_cause call root name (Undeclared element) why = absurd why
read_cause call root name (LeftOut at) why = (inl why.0, why.1)
read_cause call root name (Limit count) why = (inl why.0, why.1)
read_cause call root name Memory why = why

pub table_cause : (call : SourceCall) (root name : List ℕ) (last : State) (t : TableRefusal) (r : DtdRefusal) → IsSameRefusal t r → IsRead call.content root name last → IsCalm call → IsTableCause last.written t → IsCause call root name r
table_cause call root name last (table.Twice element) r same read calm why = subst (IsCause call root name) (sym same) (record { last = last; read = read; so = why }, calm)
table_cause call root name last (table.Undeclared element) r same read calm why = subst (IsCause call root name) (sym same) (record { last = last; read = read; so = why }, calm)
table_cause call root name last (table.Refused at) r same read calm why = subst (IsCause call root name) (sym same) (inr (record { last = last; read = read; so = why }), calm)
table_cause call root name last (table.LeftOut at) r same read calm why = subst (IsCause call root name) (sym same) (inr (record { last = last; read = read; so = why }), calm)
table_cause call root name last (table.Limit count) r same read calm why = subst (IsCause call root name) (sym same) (inr (record { last = last; read = read; so = inl why }), calm)
table_cause call root name last table.Memory r same read calm why = subst (IsCause call root name) (sym same) calm

-- a table that has an attribute of too many values
pub large_cause : (call : SourceCall) (root name : List ℕ) (last : State) (t : Table) (large : Bool) → IsRead call.content root name last → IsCalm call → IsTable last.written last.generals t
    → large ≡ have_large t.elements → large ≡ true → IsCause call root name (Limit (VALUE_LIMIT + 1))
large_cause call root name last t large read calm is found so = (
  inr (record { last = last; read = read; so = inr (refl, record { says = is.says; said = is.said; large = ap have_large (sym is.elements) ∙ sym found ∙ so }) }),
  calm,
)
