-- Tables of numbered states.
use Rattle.std.specs.Prelude.{◌≡◌, ℕ, ◌<◌, ◌⊎◌, Bool, false, ◌&&◌, List, [], ◌∷◌, map, length, Contains, Option, Some, None, nat_eq, slice_get, slice_index_or}
use Rattle.std.specs.Bool.{beq}
use Rattle.std.specs.Cmp.Lexicographic.{pointwise}
use Rattle.std.specs.List.{IsDistinct}
use Rattle.content_automata.specs.Sets.{has_end}
use Rattle.content_automata.specs.Shapes.{Shape, first_state, state_behind, states_walk, then_some, IsSized}

-- whether a match may end in the state, and the state behind each element
abbrev pub Row : Type 0
Row = Bool × List (Option ℕ)

-- the numbers of the states that elements begin in, the rows of all states, and the element of each
abbrev pub Table : Type 0
Table = List ℕ × List Row × List ℕ

-- the row of a state; where there is no such state, one of no end and no element
abbrev pub row_at : Table → ℕ → Row
row_at t s = slice_index_or t.1 s (false, [])

-- the number of the state that an element begins in; 0 for one that is not declared
abbrev pub first_at : Table → ℕ → ℕ
first_at t e = slice_index_or t.0 e 0

-- the number of the state behind an element, if a match goes on so
abbrev pub next_at : Table → ℕ → ℕ → Option ℕ
next_at t s e = slice_index_or (row_at t s).1 e None

-- whether a match may end in the state
abbrev pub ends_at : Table → ℕ → Bool
ends_at t s = (row_at t s).0

-- the element of a state; 0 where there is no such state
abbrev pub owner_at : Table → ℕ → ℕ
owner_at t s = slice_index_or t.2 s 0

-- the state behind children in turn
abbrev pub run : Table → ℕ → List ℕ → Option ℕ
run t s [] = Some s
run t s (e ∷ es) = then_some (next_at t s e) (λ (next : ℕ). run t next es)

-- there is a state, and a match may end in it
abbrev pub ends : Table → Option ℕ → Bool
ends t None = false
ends t (Some s) = ends_at t s

-- these are elements of so many that are declared
abbrev pub AreElements : ℕ → List ℕ → Type 0
AreElements count es = (e : ℕ) → Contains es e → e < count

-- a state of an element: its number, and the set of positions
abbrev pub Key : Type 0
Key = ℕ × List Bool

-- the same element and the same set of positions
abbrev pub key_eq : Key → Key → Bool
key_eq a b = nat_eq a.0 b.0 && pointwise beq a.1 b.1

-- some children lead to the state
abbrev pub IsReached : List Shape → Key → Type 0
IsReached shapes k = (s : Shape) × (slice_get shapes k.0 ≡ Some s) × (es : List ℕ)
    × (states_walk (length shapes) s (first_state s) es ≡ Some k.1)

-- there are at least so many states
abbrev pub HasStates : List Shape → ℕ → Type 0
HasStates shapes n = (keys : List Key) × (length keys ≡ n) × IsDistinct key_eq keys × ((k : Key) → Contains keys k → IsReached shapes k)

-- each number stays that of its state
abbrev pub Keeps : List Key → List Key → Type 0
Keeps old new = (n : ℕ) (k : Key) → slice_get old n ≡ Some k → slice_get new n ≡ Some k

-- the number is that of the state, where there is one
abbrev pub CellFits : List Key → ℕ → Option ℕ → Option (List Bool) → Type 0
CellFits keys element None found = found ≡ None
CellFits keys element (Some n) found = (flags : List Bool) × (found ≡ Some flags) × (slice_get keys n ≡ Some (element, flags))

-- the cells are those of so many children
pub record CellsFit (keys : List Key) (element : ℕ) (behind : ℕ → Option (List Bool)) (cells : List (Option ℕ)) (count : ℕ) : Type 0 where
  pub long : length cells ≡ count
  pub fit : (e : ℕ) → e < count → CellFits keys element (slice_index_or cells e None) (behind e)

-- each state is one of the old ones, or the one that was found
abbrev pub AddsFound : List Key → List Key → ℕ → Option (List Bool) → Type 0
AddsFound old new element found = (k : Key) → Contains new k → Contains old k ⊎ ((k.0 ≡ element) × (found ≡ Some k.1))

-- each state is one of the old ones, or one behind one of so many children
abbrev pub Adds : List Key → List Key → ℕ → ℕ → (ℕ → Option (List Bool)) → Type 0
Adds old new element count behind = (k : Key) → Contains new k
    → Contains old k ⊎ ((e : ℕ) × (e < count) × (k.0 ≡ element) × (behind e ≡ Some k.1))

-- some children that are declared lead to the state
abbrev pub IsLedTo : List Shape → Key → Type 0
IsLedTo shapes k = (s : Shape) × (slice_get shapes k.0 ≡ Some s) × (es : List ℕ) × AreElements (length shapes) es
    × (states_walk (length shapes) s (first_state s) es ≡ Some k.1)

-- and so to each state
abbrev pub AllReached : List Shape → List Key → Type 0
AllReached shapes keys = (k : Key) → Contains keys k → IsLedTo shapes k

-- the row is that of the state
pub record RowFits (shapes : List Shape) (keys : List Key) (k : Key) (row : Row) : Type 0 where
  pub shape_of_it : Shape
  pub declared : slice_get shapes k.0 ≡ Some shape_of_it
  pub end : row.0 ≡ has_end k.1
  pub cells_fit : CellsFit keys k.0 (state_behind (length shapes) shape_of_it k.1) row.1 (length shapes)

-- so many rows are those of their states
pub record RowsFit (shapes : List Shape) (keys : List Key) (rows : List Row) (count : ℕ) : Type 0 where
  pub long : length rows ≡ count
  pub fit : (n : ℕ) (k : Key) → n < count → slice_get keys n ≡ Some k → RowFits shapes keys k (slice_index_or rows n (false, []))

-- the numbers are those of the states that so many elements begin in
pub record FirstsFit (shapes : List Shape) (keys : List Key) (firsts : List ℕ) (count : ℕ) : Type 0 where
  pub long : length firsts ≡ count
  pub fit : (e : ℕ) (s : Shape) → e < count → slice_get shapes e ≡ Some s
      → slice_get keys (slice_index_or firsts e 0) ≡ Some (e, first_state s)

-- the states that elements begin in have their flags
abbrev pub AreSized : List Shape → Type 0
AreSized shapes = (e : ℕ) (s : Shape) → slice_get shapes e ≡ Some s → IsSized s (first_state s)

-- the table is that of some states by their numbers
pub record IsTable (shapes : List Shape) (t : Table) : Type 0 where
  pub keys : List Key
  pub apart : IsDistinct key_eq keys
  pub firsts : FirstsFit shapes keys t.0 (length shapes)
  pub rows : RowsFit shapes keys t.1 (length keys)
  pub owners : t.2 ≡ map (λ (k : Key). k.0) keys
  pub reached : AllReached shapes keys
