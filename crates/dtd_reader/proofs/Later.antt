-- What a name holds it goes on to hold.
use Rattle.std.proofs.Common.{◌≡◌, ◌≤◌, ℕ, Bool, true, false, cond, List, [], ◌∷◌, drop, length, sym, subst, arith, Some}
use Rattle.std.specs.Prelude.{Result, Ok, Err, IfOk, Option, None, if◌then◌else◌}
use Rattle.std.proofs.lemmas.List.{length-drop}
use Rattle.text_base.specs.declared.memory.NoMemory.{NoMemory}
use Rattle.io_edge.specs.Names.{beside, is_outside}
use Rattle.io_edge.specs.Told.{Told, known, Content, Stays, Tells}
use Rattle.io_edge.proofs.Staying.{tells_stay}
use Rattle.dtd_texts.specs.Heads.{begins}
use Rattle.dtd_texts.specs.Tokens.{declaration_length, behind_declaration}
use Rattle.dtd_texts.specs.Places.{external}
use Rattle.dtd_texts.specs.Reading.{State, Holds, Stands, is_among, source_of}
use Rattle.dtd_texts.specs.Spells.{seen_from}
use Rattle.dtd_reader.specs.SoFar.{Frame, names}
use Rattle.dtd_reader.specs.Views.{IsBehind, IsLoaded, IsOutside, IsFound, inner_of}
use Rattle.dtd_reader.specs.declared.outcome.Found.{Found}
use Rattle.dtd_reader.specs.declared.outcome.Found.TheVariants.{Nowhere, NotRead, Outside, Text}
use Rattle.dtd_reader.specs.declared.outcome.Inner.{Inner}
use Rattle.dtd_reader.specs.declared.outcome.Loaded.{Loaded}
use Rattle.dtd_reader.specs.declared.outcome.Loaded.TheVariants.{NotRead as WasNotRead, Text as Whole}

abbrev pub holds_later : (before now : Content) (name text : List ℕ) → Stays before now → Holds before name text → Holds now name text
holds_later before now name text stays held = record { whole = held.whole; told = tells_stay before now name (Some held.whole) stays held.told; is = held.is }

pub seen_told : (b : Bool) (t : Told) (file : Option (List ℕ)) → b ≡ false → Tells t file → Tells (if b then known None else t) file
seen_told true t file e told = absurd (grind (arith, e))
seen_told false t file e told = told

-- what a file that is found beside another, inside of the root, holds, it holds under the name that is meant there
abbrev pub holds_beside : (content : Content) (root name meant text : List ℕ) → is_outside root name meant ≡ false → Holds content (beside name meant) text
    → Holds (seen_from root name content) meant text
holds_beside content root name meant text inside held = record {
  whole = held.whole;
  told = seen_told (is_outside root name meant) (content (beside name meant)) (Some held.whole) inside held.told;
  is = held.is;
}

-- the text of a file that was read for an entity
pub outside_later : (root name : List ℕ) (before now : Content) (meant path : List ℕ) (inner : Inner) → Stays before now → path ≡ beside name meant → is_outside root name meant ≡ false → inner.file ≡ meant
    → IsLoaded before path (Whole inner.text inner.over) → IsOutside root name now meant (Text inner)
outside_later root name before now meant path inner stays is inside stood loaded =
    let there : IsLoaded before (beside name meant) (Whole inner.text inner.over) = subst (λ p. IsLoaded before p (Whole inner.text inner.over)) is loaded in
    (holds_beside now root name meant inner.text inside (holds_later before now (beside name meant) inner.text stays there.0), there.1, stood, there.2)

-- what was read for an entity is what it stands for
pub found_outside : (root name : List ℕ) (now : Content) (s : State) (frames : List Frame) (entity meant : List ℕ) (r : Found) → is_among (names frames) entity ≡ false
    → source_of s.parameters entity ≡ Some (external meant) → IsOutside root name now meant r → IsFound root name now s frames entity r
found_outside root name now s frames entity meant Nowhere shut is found = absurd found
found_outside root name now s frames entity meant (NotRead path fault) shut is found = (shut, (meant, is, found.0, found.1))
found_outside root name now s frames entity meant (Outside path) shut is found = (shut, (meant, is, found.0, found.1))
found_outside root name now s frames entity meant (Text inner) shut is found =
    (shut, subst (λ o. Stands (seen_from root name now) s.file o (inner_of inner)) (sym is) (found.0, found.1, found.2), found.3)

pub found_by : (root name : List ℕ) (now : Content) (s : State) (frames : List Frame) (entity meant : List ℕ) (r : Result Found NoMemory) → is_among (names frames) entity ≡ false
    → source_of s.parameters entity ≡ Some (external meant) → IfOk r (IsOutside root name now meant) → IfOk r (IsFound root name now s frames entity)
found_by root name now s frames entity meant (Ok found) shut is there = found_outside root name now s frames entity meant found shut is there
found_by root name now s frames entity meant (Err want) shut is there = tt

-- the text of a file that holds these bytes
pub loaded_from : (content : Content) (path whole : List ℕ) (l : Loaded) → Tells (content path) (Some whole) → IsBehind whole l → IsLoaded content path l
loaded_from content path whole (WasNotRead name fault) told behind = absurd behind
loaded_from content path whole (Whole text over) told behind = (record { whole = whole; told = told; is = behind.0 }, behind.1, behind.2)

-- what stands behind a byte order mark and a text declaration is no longer than the whole
pub no_longer : (whole : List ℕ) → length (behind_declaration whole) ≤ length whole
no_longer whole = behind (begins (0xEF ∷ 0xBB ∷ 0xBF ∷ []) whole) where
  cut : (n : ℕ) (bytes : List ℕ) → length bytes ≤ length whole → length (drop n bytes) ≤ length whole
  cut n bytes e = let l = length-drop n bytes in omega (arith, e, l)

  behind : (b : Bool) → length (drop (declaration_length (cond b (drop 3 whole) whole)) (cond b (drop 3 whole) whole)) ≤ length whole
  behind true = cut _ (drop 3 whole) (cut 3 whole (omega arith))
  behind false = cut _ whole (omega arith)
