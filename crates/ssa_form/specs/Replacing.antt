-- A version in the place of each join that is no more than that version. No public clause cites it.
use Rattle.std.specs.Prelude.{◌≡◌, ◌≢◌, ◌≤◌, ◌<◌, ◌⊎◌, ⊤, ℕ, List, Some, None, length, Contains, slice_get}
use Rattle.indexmap.specs.IndexMap.{IndexMap}
use Rattle.flow_code.specs.Points.{PlainFlow}
use Rattle.loose_sets.specs.Reaching.{Definition}
use Rattle.loose_sets.specs.Versions.{PlainVersion, of_definition, join_at, Stands, IsKept, asked_in, linked_in, AreLinks}
use Rattle.flow_graph.specs.Found.{number_in}
use Rattle.ssa_form.specs.declared.version.Version.{Version}
use Rattle.ssa_form.specs.declared.places.Seen.{Seen}
use Rattle.ssa_form.specs.declared.places.Seen.TheVariants.{Nothing, One, Several}
use Rattle.ssa_form.specs.Views.{version_seen, versions_seen, held}
use Rattle.ssa_form.specs.Marks.{asked_by}
use Rattle.ssa_form.specs.Versions.{joins_in, row_of}

-- a version in the place of another: it stands wherever that one does, is asked for where that one is, and a definition stays as it is
pub record Replaces (flow : PlainFlow) (asks : List (ℕ × ℕ)) (v w : PlainVersion) : Type 0 where
  pub stands : (p x : ℕ) → Stands flow p x v → Stands flow p x w
  pub kept : IsKept (asked_by asks) v → IsKept (asked_by asks) w
  pub same : (d : Definition) → v ≡ of_definition d → w ≡ of_definition d

-- by the number of each join, a version in its place
abbrev pub ArePut : PlainFlow → List (ℕ × ℕ) → List Version → Type 0
ArePut flow asks places = (i p x : ℕ) (w : Version) → slice_get asks i ≡ Some (p, x) → slice_get places i ≡ Some w
    → Replaces flow asks (join_at p x) (version_seen w)

-- by the number of each join, the join itself
abbrev pub AreThemselves : List (ℕ × ℕ) → List Version → Type 0
AreThemselves asks places = (i p x : ℕ) (w : Version) → slice_get asks i ≡ Some (p, x) → slice_get places i ≡ Some w
    → version_seen w ≡ join_at p x

-- the joins of these rows have their links
abbrev pub AreLinked : PlainFlow → List (ℕ × ℕ) → List (List Version) → Type 0
AreLinked flow asks rows = AreLinks flow (asked_in (joins_in asks rows)) (linked_in (joins_in asks rows))

-- in the place of each version of a row is this one, or the row's own join; and in that of one is this one
pub record IsAll (flow : PlainFlow) (asks : List (ℕ × ℕ)) (row : List PlainVersion) (own v : PlainVersion) : Type 0 where
  pub each : (u : PlainVersion) → Contains row u → Replaces flow asks u v ⊎ Replaces flow asks u own
  pub some : (u : PlainVersion) × Contains row u × Replaces flow asks u v

-- what is seen so far of a row
abbrev pub IsSeen : PlainFlow → List (ℕ × ℕ) → List PlainVersion → PlainVersion → Seen → Type 0
IsSeen flow asks row own Nothing = (u : PlainVersion) → Contains row u → Replaces flow asks u own
IsSeen flow asks row own (One v) = IsAll flow asks row own (version_seen v)
IsSeen flow asks row own Several = ⊤

-- versions in the place of others, no more of them
pub record ReplacesAll (flow : PlainFlow) (asks : List (ℕ × ℕ)) (us ws : List PlainVersion) : Type 0 where
  pub each : (w : PlainVersion) → Contains ws w → (u : PlainVersion) × Contains us u × Replaces flow asks u w
  pub all : (u : PlainVersion) → Contains us u → (w : PlainVersion) × Contains ws w × Replaces flow asks u w
  pub few : length ws ≤ length us

-- versions that are asked for are held in the place of those of a map: all that are held, and for so many entries of it at least
pub record AreHeld {S T : Type 0} (flow : PlainFlow) (asks : List (ℕ × ℕ)) (old : IndexMap (ℕ × ℕ) Version S)
    (new : IndexMap (ℕ × ℕ) Version T) (keys : List (ℕ × ℕ)) (n : ℕ) : Type 0 where
  pub each : (p x : ℕ) (w : Version) → held new p x ≡ Some w
      → (v : Version) × (held old p x ≡ Some v) × Replaces flow asks (version_seen v) (version_seen w)
      × IsKept (asked_by keys) (version_seen w)
  pub all : (i : ℕ) (e : (ℕ × ℕ) × Version) → i < n → slice_get old.entries i ≡ Some e → held new e.0.0 e.0.1 ≢ None
  pub known : (p x : ℕ) → Contains keys (p, x) → Contains asks (p, x)

-- each version that a map holds is asked for
abbrev pub AreAsked : {S : Type 0} → List (ℕ × ℕ) → IndexMap (ℕ × ℕ) Version S → Type 0
AreAsked asks old = (p x : ℕ) (v : Version) → held old p x ≡ Some v → IsKept (asked_by asks) (version_seen v)

-- so far each join that is asked for anew has what it joined, with versions in their places, which are asked for anew
pub record AreMadeAnew (flow : PlainFlow) (asks : List (ℕ × ℕ)) (old : List (List Version)) (keys : List (ℕ × ℕ))
    (rows : List (List Version)) : Type 0 where
  pub within : length rows ≤ length keys
  pub each : (i p x : ℕ) (r : List Version) → slice_get keys i ≡ Some (p, x) → slice_get rows i ≡ Some r
      → ReplacesAll flow asks (row_of old (number_in asks p x)) (versions_seen r)
  pub kept : (i : ℕ) (r : List Version) (v : PlainVersion) → slice_get rows i ≡ Some r → Contains (versions_seen r) v
      → IsKept (asked_by keys) v
  pub known : (p x : ℕ) → Contains keys (p, x) → Contains asks (p, x)
