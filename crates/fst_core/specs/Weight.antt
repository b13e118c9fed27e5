-- How much an image weighs: its items, and the letters that the machine puts out as it reads them.
use Rattle.std.specs.Prelude.{◌≡◌, ℕ, ◌+◌, ◌*◌, ◌<◌, ◌≤◌, List, ◌∷◌, length, All, Some, slice_get}
use Rattle.text_base.specs.declared.byte_range.ByteRange.{ByteRange}
use Rattle.text_base.specs.declared.numbers.Nt as nt
use Rattle.text_base.specs.ByteRange.{InRange}
use Rattle.text_base.specs.declared.letter.Letter.{Letter}
use Rattle.cfg_grammar.specs.declared.symbol.Symbol.TheVariants.{Range, Nt}
use Rattle.cfg_grammar.specs.declared.production.Production.{Production}
use Rattle.cfg_grammar.specs.Below.{symbols_of}
use Rattle.fst_core.specs.Outputs.{Leads}
use Rattle.numbered_sets.specs.Numbers.{AreDifferent}
use Rattle.fst_core.specs.Items.{Item, IsItem}

-- one unit of weight: an item; a letter, by its place, of what is put out as an item's symbol at a place is read by a
-- byte; a letter of what is put out at the end of a text
pub data Unit_of_weight (S : Type 0) : Type 0 where
  item : Item S → Unit_of_weight S
  read : Item S → ℕ → ℕ → List Letter → ℕ → Unit_of_weight S
  last : S → List Letter → ℕ → Unit_of_weight S

module _ {S : Type 0} (productions : List Production) (steps : S → ℕ → S → List Letter → Type 0) (ends : S → List Letter → Type 0)
    (from : nt.Nt) (first : S) where
  -- the item's symbol at the place is a range that has the byte, and by the byte the machine may go from the state
  -- before that symbol to the state behind it and put out the letters
  pub record ReadsRange (it : Item S) (symbol byte : ℕ) (letters : List Letter) : Type 0 where
    pub is_item : IsItem productions steps from first it
    pub range : ByteRange
    pub is_range : slice_get (symbols_of is_item.production.right) symbol ≡ Some (Range range)
    pub in_range : InRange range byte
    pub before : S
    pub is_before : slice_get (it.entry ∷ it.after) symbol ≡ Some before
    pub behind : S
    pub is_behind : slice_get it.after symbol ≡ Some behind
    pub step : steps before byte behind letters

  -- a unit of the weight of an image: an item, a letter that is put out as an item reads a byte, or a letter that is put out at an end
  abbrev pub IsUnit : Unit_of_weight S → Type 0
  IsUnit (item it) = IsItem productions steps from first it
  IsUnit (read it symbol byte letters place) = ReadsRange it symbol byte letters × (place < length letters)
  IsUnit (last s letters place) = Leads productions steps first (Nt from) s × ends s letters × (place < length letters)

  -- the image weighs at least so much
  abbrev pub Weighs : ℕ → Type 0
  Weighs weight = (units : List (Unit_of_weight S)) × AreDifferent units × All IsUnit units × (weight ≤ length units)

  -- a grammar with so many nonterminals and productions is small for the image
  abbrev pub IsSmall : ℕ → ℕ → Type 0
  IsSmall nonterminals productions_count =
      (weight : ℕ) × Weighs weight × (nonterminals ≤ 4 * (weight + 1)) × (productions_count ≤ 8 * (weight + 1))
