-- A system in memory with its numbers, and the places of the rows of each nonterminal. No public clause cites this.
use Rattle.std.specs.Prelude.{◌≡◌, map, length}
use Rattle.numbered_sets.specs.Places.{ArePlaces}
use Rattle.op_bytes.specs.Cycles.{AreNumbers}
use Rattle.equal_sets.specs.declared.rows.Rows.{Rows}

-- the numbers are those of the system, and each list has the places of its nonterminal
pub record AreRows (rows : Rows) : Type 0 where
  pub numbers : AreNumbers rows.system.now rows.numbers.items
  pub rights_count : length rows.rights.items ≡ rows.system.now.grammar.count
  pub rights : ArePlaces (map (λ p. p.left.0) rows.system.now.grammar.productions.items) rows.rights.items
  pub rules_count : length rows.rules.items ≡ rows.system.now.grammar.count
  pub rules : ArePlaces (map (λ r. r.left.0) rows.system.now.ops.items) rows.rules.items
