-- A system that is written for a table has its sets, and its operations in cycles.
use Rattle.std.proofs.Common.{◌≡◌, ◌↔◌, ℕ, List, Some}
use Rattle.std.specs.Prelude.{slice_get, Contains}
use Rattle.text_base.specs.declared.numbers.Nt as nt
use Rattle.cfg_grammar.specs.declared.symbol.Symbol.{Symbol}
use Rattle.cfg_grammar.specs.declared.symbol.Symbol.TheVariants.{Nt}
use Rattle.cfg_grammar.specs.declared.production.Production.{Production}
use Rattle.op_system.specs.declared.op.Op.{Op}
use Rattle.op_system.specs.declared.system.OpRule.{OpRule}
use Rattle.least_sets.specs.Forms.{Form, apply_form}
use Rattle.least_sets.specs.Sets.{Says, In, IsCircular}
use Rattle.least_sets.specs.Simulations.{TakesOver, Holds, IsMonotone}
use Rattle.least_sets.proofs.Simulated as simulated
use Rattle.least_sets.specs.Systems.{SystemRow}
use Rattle.given_texts.specs.Closed.{Closed, IsClosed}
use Rattle.system_writing.specs.Parts.{Part, start_part, set_part, PartRow}
use Rattle.system_writing.specs.Written.{Denotes, IsWritten}
use Rattle.system_writing.proofs.Parts as parts_laws
use Rattle.system_writing.proofs.Texts as texts
use Rattle.system_writing.proofs.Simulating as simulating

module _ (N : Type 0) (table : N → Form N → Type 0) (starts says : N → Type 0) (closed : Closed) (parts : List (Part N)) (productions : List Production) (rules : List OpRule) (written : IsWritten (PartRow table starts says closed) parts productions rules)
    (says_is : (j : N) → says j ↔ Says table j) (request : List ℕ → Type 0) (is : IsClosed closed request) where
  abbrev P : Part N → Form (Part N) → Type 0
  P = PartRow table starts says closed

  abbrev S : Symbol → Form Symbol → Type 0
  S = SystemRow productions rules

  abbrev B : Symbol → Part N → Type 0
  B s p = Denotes parts p s

  held : (p : Part N) (n : nt.Nt) → slice_get parts n.0 ≡ Some p → Holds S (Denotes parts) p (Nt n)
  held p n at = record { within = Nt n; takes = TakesOver.itself (Nt n); stands = Denotes.listed p n at }

  held_back : (p : Part N) (n : nt.Nt) → slice_get parts n.0 ≡ Some p → Holds P B (Nt n) p
  held_back p n at = record { within = p; takes = TakesOver.itself p; stands = Denotes.listed p n at }

  module _ (outputs : Op → List ℕ → List ℕ → Type 0) (others : List ℕ → Type 0) (circle : (ℕ → Type 0) → List ℕ → Type 0) (more : IsMonotone circle) where
    forward : (p : Part N) (n : nt.Nt) → slice_get parts n.0 ≡ Some p → (w : List ℕ) → In P outputs others circle p w → In S outputs others circle (Nt n) w
    forward p n at w h =
        simulated.texts (Part N) Symbol P S (Denotes parts) (simulating.system_does N table starts says closed parts productions rules written) outputs others circle more p (Nt n) (held p n at) w h

    back : (p : Part N) (n : nt.Nt) → slice_get parts n.0 ≡ Some p → (w : List ℕ) → In S outputs others circle (Nt n) w → In P outputs others circle p w
    back p n at w h =
        simulated.texts Symbol (Part N) S P B (simulating.parts_do N table starts says closed parts productions rules written) outputs others circle more (Nt n) p (held_back p n at) w h

    -- a set at its number
    pub same_texts : (k : N) (n : nt.Nt) → slice_get parts n.0 ≡ Some (set_part k) → (w : List ℕ) → In table outputs request circle k w ↔ In S outputs others circle (Nt n) w
    same_texts k n at w = (
      λ h. forward (set_part k) n at w (texts.texts_forward N table starts says says_is closed request is outputs others circle more k w h),
      λ h. texts.texts_mean N table starts says says_is closed request is outputs others circle more (set_part k) w (back (set_part k) n at w h),
    )

    -- the sets to begin with, at the number of the start
    pub start_texts : (n : nt.Nt) → slice_get parts n.0 ≡ Some start_part → (w : List ℕ) → ((k : N) × starts k × In table outputs request circle k w) ↔ In S outputs others circle (Nt n) w
    start_texts n at w = (
      λ h. forward start_part n at w (texts.starts_forward N table starts says says_is closed request is outputs others circle more h.0 w h.1 h.2),
      λ h. texts.texts_mean N table starts says says_is closed request is outputs others circle more start_part w (back start_part n at w h),
    )

  forward_part : (k j : N) (op : Op) → IsCircular table k op j → IsCircular P (set_part k) op (set_part j)
  forward_part k j op (IsCircular.cycle _ _ _ d) = IsCircular.cycle (set_part k) (set_part j) op (parts_laws.depends_forward N table starts says says_is closed request is j k d)
  forward_part k j _ (IsCircular.any _ _) = IsCircular.any (set_part k) (set_part j)

  back_part : (k j : N) (op : Op) → IsCircular P (set_part k) op (set_part j) → IsCircular table k op j
  back_part k j op (IsCircular.cycle _ _ _ d) = IsCircular.cycle k j op (parts_laws.depends_back N table starts says says_is closed request is j k d)
  back_part k j _ (IsCircular.any _ _) = IsCircular.any k j

  -- an operation of the table is in a cycle there exactly where its rule is in one of the system
  pub same_cycles : (k j : N) (op : Op) (n m : nt.Nt) → slice_get parts n.0 ≡ Some (set_part k) → slice_get parts m.0 ≡ Some (set_part j) → table k (apply_form op j) → Contains rules (record { left = n; op = op; operand = m })
      → IsCircular table k op j ↔ IsCircular S (Nt n) op (Nt m)
  same_cycles k j op n m at there row has = (
    λ h. simulated.circular (Part N) Symbol P S (Denotes parts) (simulating.system_does N table starts says closed parts productions rules written) (set_part k) (set_part j) op (Nt n) (Nt m)
        (PartRow.apply k j op row) (Denotes.listed (set_part k) n at) (held (set_part j) m there) (forward_part k j op h),
    λ h. back_part k j op (simulated.circular Symbol (Part N) S P B (simulating.parts_do N table starts says closed parts productions rules written) (Nt n) (Nt m) op (set_part k) (set_part j)
        (SystemRow.of_rule n m op has) (Denotes.listed (set_part k) n at) (held_back (set_part j) m there) h),
  )

  -- what a rule stands for
  pub record IsOperation (n m : nt.Nt) (op : Op) : Type 0 where
    pub output : N
    pub input : N
    pub row : table output (apply_form op input)
    pub left : slice_get parts n.0 ≡ Some (set_part output)
    pub operand : slice_get parts m.0 ≡ Some (set_part input)

  of_row : (n m : nt.Nt) (op : Op) (p q : Part N) → slice_get parts n.0 ≡ Some p → slice_get parts m.0 ≡ Some q → P p (apply_form op q) → IsOperation n m op
  of_row n m op _ _ at there (PartRow.apply k j _ row) = record { output = k; input = j; row = row; left = at; operand = there }

  -- each rule is an operation of the table, by the numbers of its sets
  pub operation : (n m : nt.Nt) (op : Op) → Contains rules (record { left = n; op = op; operand = m }) → IsOperation n m op
  operation n m op has = let h = written.each_rule n m op has in of_row n m op h.0 h.1 h.2 h.3 h.4
