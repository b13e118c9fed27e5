-- How all texts over some bytes are added to a draft. No public clause cites this.
use Rattle.std.specs.Prelude.{◌≡◌, ◌<◌, ◌≤◌, ◌+◌, ◌*◌, ◌⊎◌, ℕ, Bool, List, length, Contains}
use Rattle.text_base.specs.declared.byte_range.ByteRange.{ByteRange}
use Rattle.text_base.specs.declared.numbers.Nt as nt
use Rattle.text_base.specs.ByteRange.{InRange}
use Rattle.text_base.specs.ByteSet.{Has}
use Rattle.cfg_grammar.specs.declared.production.Production.{Production}
use Rattle.op_system.specs.declared.system.OpRule.{OpRule}
use Rattle.op_system.specs.declared.system.OpSystem.{OpSystem}
use Rattle.op_bytes.specs.Cycles.{IsInCycle}
use Rattle.op_bytes.specs.Bytes.{AreByteSets}
use Rattle.resolving.specs.Drafts.{IsRangeOf, HasRange, AddsAny}
use Rattle.resolving.specs.declared.draft.Draft.{Draft}
use Rattle.resolving.specs.Draft.{IsIndexed}

-- these are the byte sets of the system, where some operation of it is in a cycle
abbrev pub AreNeededSets : OpSystem → List (List Bool) → Type 0
AreNeededSets s sets = (rule : OpRule) → Contains s.ops.items rule → IsInCycle s rule → AreByteSets s sets

-- the range begins at the byte, all its bytes are in the set, and the byte behind it is not
pub record IsRunAt (set : List Bool) (first : ℕ) (range : ByteRange) : Type 0 where
  pub begins : range.lo ≡ first
  pub has : (byte : ℕ) → InRange range byte → Has set byte
  pub ends : range.hi < 255 → Has set (range.hi + 1) → ⊥

-- the bytes of the set from the one place up to the other are put by ranges, and no other byte, by at most one production for two places
pub record PutsRuns (t : nt.Nt) (set : List Bool) (from to : ℕ) (old new : Draft) : Type 0 where
  pub indexed : IsIndexed new
  pub count : length new.chains.last.items ≡ length old.chains.last.items
  pub few : 2 * length new.productions.items + from ≤ 2 * length old.productions.items + to
  pub keeps : (p : Production) → Contains old.productions.items p → Contains new.productions.items p
  pub only : (p : Production) → Contains new.productions.items p → Contains old.productions.items p ⊎ IsRangeOf t set p
  pub has : (byte : ℕ) → from ≤ byte → byte < to → byte < 256 → Has set byte → HasRange new.productions.items t byte

-- those from this place up to the next one are put, which is a further place, at most the one behind 256
pub record PutsFrom (t : nt.Nt) (set : List Bool) (first next : ℕ) (old new : Draft) : Type 0 where
  pub further : first < next
  pub within : next ≤ 257
  pub puts : PutsRuns t set first next old new

-- all texts over the bytes of the set are added to those of a nonterminal, by one nonterminal and at most 130 productions more
pub record AddsAnyTexts (left : nt.Nt) (set : List Bool) (old new : Draft) : Type 0 where
  pub indexed : IsIndexed new
  pub count : length new.chains.last.items ≡ length old.chains.last.items + 1
  pub few : length new.productions.items ≤ length old.productions.items + 130
  pub adds : AddsAny old.productions.items left (record { 0 = length old.chains.last.items }) set new.productions.items
