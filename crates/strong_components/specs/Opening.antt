-- How a search goes on. No public clause cites this.
use Rattle.std.specs.Prelude.{◌≡◌, ◌≤◌, ◌<◌, ℕ, List, [], ◌∷◌, ◌++◌, length, Some, slice_get, slice_set, take, ◌+◌}
use Rattle.std.specs.List.{Contains}
use Rattle.smallvec.specs.SmallVec.{SmallVec}
use Rattle.strong_components.specs.declared.marks.Mark.{Mark}
use Rattle.strong_components.specs.declared.marks.Mark.TheVariants.{New, Open}
use Rattle.strong_components.specs.declared.marks.Waiting.{Waiting}
use Rattle.strong_components.specs.declared.search.Search.{Search}
use Rattle.strong_components.specs.Search.{waits, Closes, IsSearch, FewerNew, work_left}

-- a node is put at the end of the path, as a group of its own, and its edges are to be followed
pub record Opens (edges : List (SmallVec ℕ)) (node : ℕ) (old new : Search) : Type 0 where
  pub targets : SmallVec ℕ
  pub are : slice_get edges node ≡ Some targets
  pub marks : new.marks.items ≡ slice_set old.marks.items node (Open (length old.path.items))
  pub path : new.path.items ≡ old.path.items ++ node ∷ []
  pub starts : new.starts ≡ length old.path.items ∷ old.starts
  pub waiting : new.waiting ≡ waits (length old.path.items) targets.items old.waiting
  pub roots : new.roots.items ≡ old.roots.items

-- the last group of the path, which begins at the place, is a component
pub record Shuts (start : ℕ) (old new : Search) : Type 0 where
  pub marks : Closes old.marks.items old.path.items start (length old.roots.items) new.marks.items
  pub path : new.path.items ≡ take start old.path.items
  pub starts : old.starts ≡ start ∷ new.starts
  pub waiting : new.waiting ≡ old.waiting
  pub roots : length new.roots.items ≡ length old.roots.items + 1

-- the search keeps what it keeps
abbrev pub Keeps : List (SmallVec ℕ) → Search → Type 0
Keeps edges s = IsSearch edges s.marks.items s.path.items s.starts s.waiting (length s.roots.items)

-- the same where one edge has been taken off the stack and is still to be followed
abbrev pub KeepsBut : List (SmallVec ℕ) → Search → Waiting → Type 0
KeepsBut edges s edge = IsSearch edges s.marks.items s.path.items s.starts (edge ∷ s.waiting) (length s.roots.items)

-- no group of the path begins behind the place
abbrev pub IsLast : List ℕ → ℕ → Type 0
IsLast starts p = (s : ℕ) → Contains starts s → s ≤ p

-- each edge that is still to be followed leads from before the place
abbrev pub AreBefore : List Waiting → ℕ → Type 0
AreBefore waiting place = (w : Waiting) → Contains waiting w → w.from < place

-- the work that is left to a search
abbrev pub work_of : Search → ℕ
work_of s = work_left s.marks.items s.starts s.waiting

-- what a step comes to
pub record GoesOn (edges : List (SmallVec ℕ)) (old new : Search) : Type 0 where
  pub keeps : Keeps edges new
  pub fewer : FewerNew old.marks.items new.marks.items
  pub work : work_of new ≤ work_of old

-- the node is not new
abbrev pub IsMet : List Mark → ℕ → Type 0
IsMet marks node = (degree : ℕ) → slice_get marks node ≡ Some (New degree) → ⊥
