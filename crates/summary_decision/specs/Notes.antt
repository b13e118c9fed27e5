-- What noting a pair comes to.
use Rattle.std.specs.Prelude.{◌≡◌, ℕ, ◌+◌, Bool, true, if◌then◌else◌, [], ◌∷◌, ◌++◌, get_or, set, Contains}
use Rattle.derivations.specs.declared.node.Parts.{Parts}
use Rattle.derivations.specs.Nodes.{parts_length}
use Rattle.numbered_sets.specs.Numbers.{Keeps}
use Rattle.summary_decision.specs.declared.table.Table.{Table}
use Rattle.summary_decision.specs.Tables.{known, AreNumbered}

-- a pair that is new is put behind the others, with its node, and counted; else all stays
pub record Notes {S : Type 0} (old new : Table S) (place : ℕ) (parts : Parts) (left : ℕ) (s : S) (is_new : Bool) : Type 0 where
  pub numbered : AreNumbered new.sums.keys new.entries.keys
  pub sums : Keeps old.sums.keys new.sums.keys
  pub joins : new.joins.keys ≡ old.joins.keys
  pub joined : new.joined.items ≡ old.joined.items
  pub pairs : known new ≡ (if is_new then known old ++ (left, s) ∷ [] else known old)
  pub has : Contains (known new) (left, s)
  pub fresh : is_new ≡ true → Contains (known old) (left, s) → ⊥
  pub nodes : new.nodes.nodes.items
      ≡ (if is_new then old.nodes.nodes.items
      ++ (record { production = place; parts = parts; length = parts_length old.nodes.nodes.items parts }) ∷ [] else old.nodes.nodes.items)
  pub counts : new.counts.items ≡ (if is_new then set old.counts.items left (get_or old.counts.items left 0 + 1) else old.counts.items)
  pub height : new.height ≡ old.height
  pub bound : new.bound ≡ old.bound
