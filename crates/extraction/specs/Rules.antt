-- The rules of an extracted system stand for the operations at points.
use Rattle.std.specs.Prelude.{◌↔◌, ℕ, List, All, Contains}
use Rattle.text_base.specs.declared.numbers.Nt as nt
use Rattle.xml_text.specs.Texts.{IsText}
use Rattle.cfg_grammar.specs.declared.symbol.Symbol.TheVariants.{Nt}
use Rattle.op_system.specs.Rel.{Rel}
use Rattle.op_system.specs.declared.op.Op.{Op}
use Rattle.op_system.specs.declared.system.OpRule.{OpRule}
use Rattle.op_system.specs.declared.system.OpSystem.{OpSystem}
use Rattle.flow_code.specs.Points.{PlainFlow}
use Rattle.least_sets.specs.Forms.{apply_form}
use Rattle.least_sets.specs.Sets.{IsCircular}
use Rattle.loose_sets.specs.declared.name.SetName.{SetName}
use Rattle.loose_sets.specs.Table.{Row}
use Rattle.loose_sets.specs.Loose.{IsIn}
use Rattle.op_bytes.specs.Cycles.{IsInCycle}
use Rattle.extraction.specs.Texts.{SystemText}

-- a nonterminal of the system has exactly the texts of a loose set, by this reading
abbrev pub HasTexts : (Op → List ℕ → List ℕ → Type 0) → (List ℕ → Type 0) → ((ℕ → Type 0) → List ℕ → Type 0) → PlainFlow → OpSystem
    → SetName → nt.Nt → Type 0
HasTexts outputs request circular flow s name a = (w : List ℕ)
    → SystemText outputs circular s.grammar.productions.items s.ops.items (Nt a) w ↔ IsIn outputs request circular flow name w

-- the rule is an operation of the loose sets: its sets are those of its outputs and its inputs, and it is in a cycle exactly where the
-- operation depends on itself
pub record IsLooseRule (relates : Op → List ℕ → List ℕ → Type 0) (request : List ℕ → Type 0)
    (circular : (ℕ → Type 0) → List ℕ → Type 0) (flow : PlainFlow) (s : OpSystem) (rule : OpRule) : Type 0 where
  pub output : SetName
  pub input : SetName
  pub row : Row flow output (apply_form rule.op input)
  pub outputs : HasTexts relates request circular flow s output rule.left
  pub inputs : HasTexts relates request circular flow s input rule.operand
  pub cycle : IsInCycle s rule ↔ IsCircular (Row flow) output rule.op input

-- each rule of the system, by this reading
abbrev pub AreLooseRulesBy : (Op → List ℕ → List ℕ → Type 0) → (List ℕ → Type 0) → ((ℕ → Type 0) → List ℕ → Type 0) → PlainFlow
    → OpSystem → Type 0
AreLooseRulesBy outputs request circular flow s = (rule : OpRule) → Contains s.ops.items rule
    → IsLooseRule outputs request circular flow s rule

-- operations as PHP has them, any text of XML's characters from the request, and any text over its bytes for an operation in a cycle
abbrev pub AreLooseRules : PlainFlow → OpSystem → Type 0
AreLooseRules flow s = AreLooseRulesBy Rel IsText (λ bytes text. All bytes text) flow s
