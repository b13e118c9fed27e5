-- What a reference at the head of the text comes to, by what is found for its entity.
use Rattle.std.proofs.Common.{◌≡◌, ℕ, ◌<◌, List, length}
use Rattle.io_edge.specs.Told.{Content}
use Rattle.io_edge.specs.declared.files.FileFault.{FileFault}
use Rattle.dtd_texts.specs.Reading.{State, move, opens}
use Rattle.dtd_texts.specs.Causes.{Misses}
use Rattle.dtd_texts.specs.Spells.{seen_from}
use Rattle.dtd_reader.specs.Causes.{AsksFor, AsksOutside}
use Rattle.dtd_reader.specs.SoFar.{Frame, Position, SoFar}
use Rattle.dtd_reader.specs.Views.{IsFound, inner_of}
use Rattle.dtd_reader.specs.declared.outcome.Found.TheVariants.{Nowhere, NotRead, Outside, Text}
use Rattle.dtd_reader.specs.declared.outcome.Inner.{Inner}
use Rattle.dtd_reader.proofs.SoFar.{at, inside, missed_to, asked_to, opened_to}

-- a reference to this entity stands at the head, of so many bytes; the code has its name
pub record IsHead (s : State) (n : ℕ) (text entity : List ℕ) : Type 0 where
  pub name : List ℕ
  pub some : 0 < length text
  pub there : move s text ≡ opens name n
  pub same : entity ≡ name

pub missed_there : (root name : List ℕ) (content : Content) (file : List ℕ) (s : State) (n : ℕ) (text entity : List ℕ) (frames : List Frame) → IsHead s n text entity
    → IsFound root name content s frames entity Nowhere → SoFar (seen_from root name content) file (at s text frames) → Misses (seen_from root name content) file entity
missed_there root name content file s n text entity frames h found so_far =
    missed_to (seen_from root name content) file s n text entity h.name frames h.some h.there h.same found so_far

pub asks_there : (root name : List ℕ) (content : Content) (file : List ℕ) (s : State) (n : ℕ) (text entity path : List ℕ) (fault : FileFault) (frames : List Frame) → IsHead s n text entity
    → IsFound root name content s frames entity (NotRead path fault) → SoFar (seen_from root name content) file (at s text frames) → AsksFor content root name file path
asks_there root name content file s n text entity path fault frames h found so_far = record {
  meant = found.1.0;
  asks = asked_to (seen_from root name content) file s n text entity h.name found.1.0 frames h.some h.there h.same found.0 found.1.1 so_far;
  found = found.1.2;
  inside = found.1.3;
}

pub leads_out : (root name : List ℕ) (content : Content) (file : List ℕ) (s : State) (n : ℕ) (text entity path : List ℕ) (frames : List Frame) → IsHead s n text entity
    → IsFound root name content s frames entity (Outside path) → SoFar (seen_from root name content) file (at s text frames) → AsksOutside content root name file path
leads_out root name content file s n text entity path frames h found so_far = record {
  meant = found.1.0;
  asks = asked_to (seen_from root name content) file s n text entity h.name found.1.0 frames h.some h.there h.same found.0 found.1.1 so_far;
  found = found.1.2;
  outside = found.1.3;
}

pub goes_in : (root name : List ℕ) (content : Content) (file : List ℕ) (s : State) (n : ℕ) (text entity : List ℕ) (inner : Inner) (frames : List Frame) (now : Position) → IsHead s n text entity
    → IsFound root name content s frames entity (Text inner) → now ≡ inside s n text entity frames (inner_of inner) → SoFar (seen_from root name content) file (at s text frames)
    → SoFar (seen_from root name content) file now
goes_in root name content file s n text entity inner frames now h found is so_far =
    opened_to (seen_from root name content) file s n text entity h.name (inner_of inner) frames now h.some h.there h.same found.0 found.1 is so_far
