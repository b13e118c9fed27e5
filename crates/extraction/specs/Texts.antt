-- The sets of a system by a reading of operations and of operations in cycles.
use Rattle.std.specs.Prelude.{ℕ, List}
use Rattle.cfg_grammar.specs.declared.symbol.Symbol.{Symbol}
use Rattle.cfg_grammar.specs.declared.production.Production.{Production}
use Rattle.op_system.specs.declared.op.Op.{Op}
use Rattle.op_system.specs.declared.system.OpRule.{OpRule}
use Rattle.least_sets.specs.Sets.{In}
use Rattle.least_sets.specs.Systems.{SystemRow}

-- a set of the system has the text, by this reading of operations and of operations in a cycle; a system asks nothing of a request
abbrev pub SystemText : (Op → List ℕ → List ℕ → Type 0) → ((ℕ → Type 0) → List ℕ → Type 0) → List Production → List OpRule → Symbol
    → List ℕ → Type 0
SystemText outputs circular productions rules symbol text = In (SystemRow productions rules) outputs (λ w. ⊥) circular symbol text
