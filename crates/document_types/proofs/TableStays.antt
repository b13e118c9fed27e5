-- A document type goes on to have its table where more becomes told later.
use Rattle.std.proofs.Common.{◌≡◌, ◌⊎◌, ℕ, Bool, true, false, List, Option, Some, None, refl, inr}
use Rattle.std.specs.Prelude.{if◌then◌else◌}
use Rattle.io_edge.specs.Names.{beside, is_outside}
use Rattle.io_edge.specs.Told.{Told, unasked, known, Content, Stays}
use Rattle.dtd_model.specs.Table.{Table}
use Rattle.dtd_texts.specs.Places.{Source, internal, external}
use Rattle.dtd_texts.specs.Reading.{State, Replacement, Stands, Reads, at_end, takes, replaces}
use Rattle.dtd_texts.specs.Spells.{DtdSpells, seen_from}
use Rattle.dtd_reader.proofs.Later.{holds_later}
use Rattle.document_types.specs.DocumentTypes.{NamedType, strict_type, mini_type, file_type, HasTable}

module _ (before now : Content) (stays : Stays before now) where
  stands_later : (here : List ℕ) (source : Option Source) (r : Replacement) → Stands before here source r → Stands now here source r
  stands_later here None r none = absurd none
  stands_later here (Some (internal value)) r same = same
  stands_later here (Some (external name)) r held = (holds_later before now name r.text stays held.0, held.1, held.2)

  reads_later : (outer : List (List ℕ)) (s : State) (text : List ℕ) (last : State) → Reads before outer s text last → Reads now outer s text last
  reads_later outer s _ _ at_end = at_end
  reads_later outer s _ last (takes goes rest) = takes goes (reads_later outer _ _ last rest)
  reads_later outer s _ last (replaces r goes shut stands inner rest) =
      replaces r goes shut (stands_later _ _ r stands) (reads_later _ _ _ _ inner) (reads_later outer _ _ last rest)

seen_stays : (b : Bool) (t u : Told) → (t ≡ unasked) ⊎ (u ≡ t)
    → ((if b then known None else t) ≡ unasked) ⊎ ((if b then known None else u) ≡ (if b then known None else t))
seen_stays true t u stays = inr refl
seen_stays false t u stays = stays

spells_later : (before now : Content) → Stays before now → (root name : List ℕ) (table : Table) → DtdSpells before root name table → DtdSpells now root name table
spells_later before now stays root name table spells = record {
  file = spells.file;
  held = holds_later before now name spells.file stays spells.held;
  last = spells.last;
  read = record {
    reads = reads_later (seen_from root name before) (seen_from root name now) (λ meant. seen_stays (is_outside root name meant) (before (beside name meant)) (now (beside name meant)) (stays (beside name meant))) _ _ _ _ spells.read.reads;
    whole = spells.read.whole;
  };
  says = spells.says;
  said = spells.said;
  elements = spells.elements;
  entities = spells.entities;
  doctype = spells.doctype;
}

pub table_stays : (before now : Content) (stays : Stays before now) (d : NamedType) (table : Table) → HasTable before d table → HasTable now d table
table_stays before now stays strict_type table has = has
table_stays before now stays mini_type table has = has
table_stays before now stays (file_type name root) table has = spells_later before now stays root name table has
