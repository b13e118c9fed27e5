-- What is kept of the sets while they are found. No public clause cites this.
use Rattle.std.specs.Prelude.{◌≡◌, ◌≤◌, ◌<◌, ℕ, Bool, true, false, List, length, slice_index_or}
use Rattle.text_base.specs.declared.numbers.Nt as nt
use Rattle.op_system.specs.declared.system.OpSystem.{OpSystem}
use Rattle.equal_sets.specs.Sets.{set_of}
use Rattle.equal_sets.specs.Alike.{number_of, IsEqual, IsAlias}
use Rattle.equal_sets.specs.declared.rows.Rows.{Rows}

-- a nonterminal is itself, or one that has the same rows or takes the other over
pub data Joins (s : OpSystem) (numbers : List ℕ) (sets : List nt.Nt) (a b : nt.Nt) : Type 0 where
  itself : b ≡ a → Joins s numbers sets a b
  equal : IsEqual s sets a b → Joins s numbers sets a b
  alias : IsAlias s numbers sets a b → Joins s numbers sets a b

-- what stands for a nonterminal stands for itself, is one of the system, has no higher number, and is equal or taken over
pub record IsFit (s : OpSystem) (numbers : List ℕ) (sets : List nt.Nt) : Type 0 where
  pub many : length sets ≡ s.grammar.count
  pub still : (a : nt.Nt) → set_of sets (set_of sets a) ≡ set_of sets a
  pub below : (a : nt.Nt) → a.0 < s.grammar.count → (set_of sets a).0 < s.grammar.count
  pub low : (a : nt.Nt) → number_of numbers (set_of sets a) ≤ number_of numbers a
  pub joins : (a : nt.Nt) → Joins s numbers sets a (set_of sets a)

-- whether it is settled what stands for a nonterminal
abbrev pub is_done : List Bool → nt.Nt → Bool
is_done done a = slice_index_or done a.0 false

-- a nonterminal that is not settled stands for itself, and for no other
pub record IsOpen (sets : List nt.Nt) (a : nt.Nt) : Type 0 where
  pub own : set_of sets a ≡ a
  pub alone : (b : nt.Nt) → set_of sets b ≡ a → b ≡ a

-- so far the sets are fit
pub record IsSoFar (rows : Rows) (sets : List nt.Nt) (done : List Bool) : Type 0 where
  pub fit : IsFit rows.system.now rows.numbers.items sets
  pub long : length done ≡ rows.system.now.grammar.count
  pub unsettled : (a : nt.Nt) → is_done done a ≡ false → IsOpen sets a

-- the second is settled, stands for itself, and has no higher number
pub record MayStand (numbers : List ℕ) (sets : List nt.Nt) (done : List Bool) (a b : nt.Nt) : Type 0 where
  pub settled : is_done done b ≡ true
  pub still : set_of sets b ≡ b
  pub low : number_of numbers b ≤ number_of numbers a
