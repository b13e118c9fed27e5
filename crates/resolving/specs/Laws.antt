-- The laws of drafts.
use Rattle.std.specs.Prelude.{◌≡◌, ◌<◌, ◌+◌, ◌↔◌, ℕ, Bool, List, Some, slice_get, Contains}
use Rattle.text_base.specs.declared.numbers.Nt as nt
use Rattle.text_base.specs.ByteSet.{Has}
use Rattle.cfg_grammar.specs.declared.symbol.Symbol.TheVariants.{Nt}
use Rattle.cfg_grammar.specs.declared.production.Production.{Production}
use Rattle.cfg_grammar.specs.declared.grammar.Grammar.{Grammar}
use Rattle.op_system.specs.Rel.{Rel}
use Rattle.op_system.specs.Size.{size_of}
use Rattle.op_system.specs.declared.system.OpRule.{OpRule}
use Rattle.op_system.specs.declared.system.OpSystem.{OpSystem}
use Rattle.fst_core.specs.declared.table.Table.{Table}
use Rattle.string_ops.specs.Listed.{IsMachine}
use Rattle.op_bytes.specs.Texts.{ByteOf}
use Rattle.op_bytes.specs.Cycles.{AreNumbers, IsInCycle}
use Rattle.op_bytes.specs.SystemBytes.{HasBytes}
use Rattle.resolving.specs.Resolved.{AreExact}
use Rattle.resolving.specs.Drafts.{IsDraft, IsDone, IsReady, AddsAny, AddsImage, IsImage}

-- the productions of the system alone are a draft
abbrev pub SystemIsDraft : OpSystem → Type 0
SystemIsDraft s = IsDraft s s.grammar.productions.items s.grammar.count

-- a rule that is in a cycle is done by all texts over the bytes that it may give, and the productions stay a draft
abbrev pub AnyIsDone : OpSystem → Type 0
AnyIsDone s = (ps after : List Production) (count : ℕ) (rule : OpRule) (set : List Bool) → HasBytes s → IsDraft s ps count
    → Contains s.ops.items rule → IsInCycle s rule
    → ((b : ℕ) → b < 256 → Has set b ↔ ByteOf s (Nt rule.left) b) → AddsAny ps rule.left (record { 0 = count }) set after
    → IsDraft s after (count + 1) × IsDone s after rule

-- a rule in no cycle is done by the image of its operand under its machine, where all rules with lower numbers are done
abbrev pub ImageIsDone : OpSystem → Type 0
ImageIsDone s = (ps after : List Production) (count : ℕ) (rule : OpRule) (numbers : List ℕ) (k : ℕ) (table : Table) (image : Grammar)
    → HasBytes s → IsDraft s ps count → Contains s.ops.items rule → (IsInCycle s rule → ⊥)
    → AreNumbers s numbers → slice_get numbers rule.left.0 ≡ Some k → IsReady s numbers ps k
    → IsMachine table (size_of rule.op) (Rel rule.op) → IsImage ps rule.operand table image → AddsImage ps rule.left count image after
    → IsDraft s after (count + image.count) × IsDone s after rule

-- from the operand of a rule in no cycle a draft derives its texts and no other, where all rules with lower numbers are done
abbrev pub OperandIsExact : OpSystem → Type 0
OperandIsExact s = (ps : List Production) (count : ℕ) (rule : OpRule) (numbers : List ℕ) (k : ℕ) → IsDraft s ps count
    → Contains s.ops.items rule → (IsInCycle s rule → ⊥)
    → AreNumbers s numbers → slice_get numbers rule.left.0 ≡ Some k → IsReady s numbers ps k → AreExact s ps (Nt rule.operand)

-- a draft in which all rules are done derives from each nonterminal of the system its texts and no other
abbrev pub StartIsExact : OpSystem → Type 0
StartIsExact s = (ps : List Production) (count : ℕ) → IsDraft s ps count → ((rule : OpRule) → Contains s.ops.items rule → IsDone s ps rule)
    → (a : nt.Nt) → a.0 < s.grammar.count → AreExact s ps (Nt a)
