-- What a machine puts out at the ends.
use Rattle.std.specs.Prelude.{◌≡◌, ◌<◌, ◌⊎◌, ℕ, List, map, Some, slice_get, Contains, IsTrue}
use Rattle.std.specs.List.{list_all}
use Rattle.std.specs.declared.vec.Vec.{Vec}
use Rattle.std.specs.declared.alloc.Global.{Global}
use Rattle.text_base.specs.declared.letter.Letter.{Letter}
use Rattle.fst_core.specs.Fits.{is_fixed}
use Rattle.fst_core.specs.Letter.{letter_of}
use Rattle.fst_core.specs.declared.out.Out.{Out}
use Rattle.chart_grammar.specs.declared.lifts.Last.{Last}

-- the outputs at the end in one state are added
pub record AddsLasts (old new : List Last) (state : ℕ) (outs : List (Vec Out Global)) : Type 0 where
  pub keeps : (l : Last) → Contains old l → Contains new l
  pub only : (l : Last) → Contains new l → Contains old l ⊎ ((o : Vec Out Global) × Contains outs o × (l.state ≡ state) × (l.out ≡ o))
  pub has : (o : Vec Out Global) → Contains outs o → (l : Last) × Contains new l × (l.state ≡ state) × (l.out ≡ o)

module _ {S : Type 0} (ends : S → List Letter → Type 0) where
  -- the output is one of the machine's at the end in the state with its number
  pub record IsLast (states : List S) (l : Last) : Type 0 where
    pub source : S
    pub is_source : slice_get states l.state ≡ Some source
    pub fixed : IsTrue (list_all is_fixed l.out.items)
    pub ends_so : ends source (map (letter_of 0) l.out.items)

  -- all outputs at the ends in the first states are listed, and nothing else
  pub record AreLastsBelow (states : List S) (n : ℕ) (ls : List Last) : Type 0 where
    pub only : (l : Last) → Contains ls l → IsLast states l
    pub all : (i : ℕ) (s : S) (letters : List Letter) → i < n → slice_get states i ≡ Some s → ends s letters
        → (l : Last) × Contains ls l × (l.state ≡ i) × (map (letter_of 0) l.out.items ≡ letters)
