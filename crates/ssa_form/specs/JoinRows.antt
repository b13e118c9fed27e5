-- Rows of versions in one list, each by where it ends.
use Rattle.std.specs.Prelude.{◌≡◌, ◌≤◌, ◌↔◌, ◌⊎◌, ℕ, zero, suc, List, [], ◌∷◌, ◌++◌, Option, None, Some, length, take, drop, slice_get, Contains}
use Rattle.loose_sets.specs.Versions.{PlainVersion}
use Rattle.ssa_form.specs.declared.join_rows.JoinRows.{JoinRows}
use Rattle.ssa_form.specs.declared.version.Version.{Version}
use Rattle.ssa_form.specs.Views.{versions_seen}

-- the rows of a list, the first from a place on, each up to where it ends
abbrev pub rows_cut : List Version → ℕ → List ℕ → List (List Version)
rows_cut vs from [] = []
rows_cut vs from (end ∷ ends) = drop from (take end vs) ∷ rows_cut vs end ends

-- the rows
abbrev pub rows_in : JoinRows → List (List Version)
rows_in rows = rows_cut rows.versions.items 0 rows.ends.items

-- a number, or nought
abbrev pub or_nought : Option ℕ → ℕ
or_nought None = 0
or_nought (Some n) = n

-- where the row before this one ends, where the first begins at a place
abbrev pub ends_before : ℕ → List ℕ → ℕ → ℕ
ends_before from ends zero = from
ends_before from ends (suc n) = or_nought (slice_get ends n)

-- a row, if there is one
abbrev pub row_in : Option (List Version) → List Version
row_in None = []
row_in (Some row) = row

-- no row ends behind the list, and the last one ends with it
abbrev pub AreEnds : ℕ → ℕ → List ℕ → Type 0
AreEnds all from [] = from ≡ all
AreEnds all from (end ∷ ends) = (end ≤ all) × AreEnds all end ends

-- the versions of a row are these ones, and no more of them
pub record IsRowOf (row : List Version) (vs : List PlainVersion) : Type 0 where
  pub same : (v : PlainVersion) → Contains (versions_seen row) v ↔ Contains vs v
  pub few : length row ≤ length vs

-- a version is put behind others, or it is the one before it
abbrev pub PutsOne : List Version → List Version → Option Version → Version → Type 0
PutsOne old new before v = (new ≡ old ++ v ∷ []) ⊎ ((new ≡ old) × (before ≡ Some v))

-- versions are put behind others, as one row
abbrev pub PutsAll : List Version → List Version → List PlainVersion → Type 0
PutsAll old new vs = (row : List Version) × (new ≡ old ++ row) × IsRowOf row vs

-- one row more, of these versions
pub record PutsRow (old new : JoinRows) (vs : List PlainVersion) : Type 0 where
  pub row : List Version
  pub is : IsRowOf row vs
  pub rows : rows_in new ≡ rows_in old ++ row ∷ []
  pub ends : AreEnds (length new.versions.items) 0 new.ends.items
  pub count : length new.ends.items ≡ suc (length old.ends.items)
