-- The items of an image: productions that a machine has begun to read (the items of Earley, An efficient context-free
-- parsing algorithm, with states of the machine in place of places of a text).
use Rattle.std.specs.Prelude.{◌≡◌, ℕ, ◌≤◌, List, [], ◌∷◌, length, All, Some, slice_get}
use Rattle.text_base.specs.declared.numbers.Nt as nt
use Rattle.text_base.specs.declared.letter.Letter.{Letter}
use Rattle.cfg_grammar.specs.declared.symbol.Symbol.{Symbol}
use Rattle.cfg_grammar.specs.declared.symbol.Symbol.TheVariants.{Nt}
use Rattle.cfg_grammar.specs.declared.production.Production.{Production}
use Rattle.cfg_grammar.specs.Below.{symbols_of}
use Rattle.numbered_sets.specs.Numbers.{AreDifferent}
use Rattle.fst_core.specs.Outputs.{Leads}

-- a production by its place in the grammar, the state in which the machine comes to it, and the state after each of
-- its symbols that are read
pub record Item (S : Type 0) : Type 0 where
  pub place : ℕ
  pub entry : S
  pub after : List S

-- the item has all symbols of the production read; its last state is then the one in which it is left
abbrev pub IsWhole : {S : Type 0} → Production → Item S → Type 0
IsWhole p item = length item.after ≡ length (symbols_of p.right)

module _ {S : Type 0} (productions : List Production) (steps : S → ℕ → S → List Letter → Type 0) where
  -- the first of the symbols are read one after another, with these states behind each of them
  abbrev pub ReadsTo : S → List Symbol → List S → Type 0
  ReadsTo s symbols [] = Unit {0}
  ReadsTo s [] (t ∷ after) = ⊥
  ReadsTo s (symbol ∷ symbols) (t ∷ after) = Leads productions steps s symbol t × ReadsTo t symbols after

-- a leftmost derivation from `from` comes to the symbol at the front of what is left, and the machine that begins in
-- `first` has read the text before it and is in the state
pub data Enters {S : Type 0} (productions : List Production) (steps : S → ℕ → S → List Letter → Type 0) (from : nt.Nt) (first : S) : Symbol
    → S → Type 0 where
  at_start : Enters productions steps from first (Nt from) first
  by_item : (place : ℕ) (p : Production) (s : S) (after : List S) (t : S) (symbol : Symbol)
      → slice_get productions place ≡ Some p
      → Enters productions steps from first (Nt p.left) s
      → ReadsTo productions steps s (symbols_of p.right) after
      → slice_get (s ∷ after) (length after) ≡ Some t
      → slice_get (symbols_of p.right) (length after) ≡ Some symbol
      → Enters productions steps from first symbol t

module _ {S : Type 0} (productions : List Production) (steps : S → ℕ → S → List Letter → Type 0) (from : nt.Nt) (first : S) where
  -- the machine comes to the production in the item's first state, and has read so many of its symbols
  pub record IsItem (item : Item S) : Type 0 where
    pub production : Production
    pub placed : slice_get productions item.place ≡ Some production
    pub entered : Enters productions steps from first (Nt production.left) item.entry
    pub read : ReadsTo productions steps item.entry (symbols_of production.right) item.after

  -- there are at least so many items
  abbrev pub HasItems : ℕ → Type 0
  HasItems count = (items : List (Item S)) × AreDifferent items × All IsItem items × (count ≤ length items)
