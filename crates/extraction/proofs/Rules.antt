-- Each rule of the system is an operation of the loose sets.
use Rattle.std.proofs.Common.{◌≡◌, ℕ, List, Some, subst, slice_get, Contains}
use Rattle.text_base.specs.declared.numbers.Nt as nt
use Rattle.op_system.specs.declared.op.Op.{Op}
use Rattle.op_system.specs.declared.system.OpRule.{OpRule}
use Rattle.op_system.specs.declared.system.OpSystem.{OpSystem}
use Rattle.flow_code.specs.Points.{PlainFlow}
use Rattle.least_sets.specs.Forms.{Form, apply_form}
use Rattle.least_sets.specs.Sets.{Says}
use Rattle.least_sets.specs.Simulations.{IsMonotone}
use Rattle.loose_sets.specs.Versions.{Linked, linked_in}
use Rattle.ssa_form.specs.Versions.{joins_of}
use Rattle.loose_sets.specs.Exact.{AreExact, by_version, IsRead}
use Rattle.loose_sets.specs.declared.name.SetName.{SetName}
use Rattle.loose_sets.specs.declared.name.SetName.TheVariants.{Input, Output}
use Rattle.loose_sets.specs.Uses.{At}
use Rattle.point_listing.specs.Reading.{read_at}
use Rattle.point_listing.proofs.Exact.{are_exact}
use Rattle.given_texts.specs.Closed.{Closed, IsClosed}
use Rattle.system_writing.specs.Parts.{set_part}
use Rattle.system_writing.specs.Systems.{IsSystem}
use Rattle.system_writing.proofs.Same as same
use Rattle.extraction.specs.Listers.{IsFlowLister}
use Rattle.extraction.specs.Numbered.{Lists, table_of, AreWhole}
use Rattle.extraction.specs.Ends.{IsExactLister}
use Rattle.extraction.specs.Rules.{HasTexts, IsLooseRule, AreLooseRulesBy}
use Rattle.extraction.proofs.TableLaws as listed
use Rattle.extraction.proofs.Operations as operations

module _ (outputs : Op → List ℕ → List ℕ → Type 0) (request : List ℕ → Type 0) (circular : (ℕ → Type 0) → List ℕ → Type 0) (more : IsMonotone circular)
    (flow : PlainFlow) (asks : SetName → Type 0) (lists : Lists) (starts names : List SetName) (asked : (n : SetName) → Contains names n → asks n) (whole : AreWhole lists names)
    (closed : Closed) (is_closed : IsClosed closed request) (s : OpSystem) (system : IsSystem (table_of lists names) starts names closed s) where
  abbrev T : SetName → Form SetName → Type 0
  T = table_of lists names

  module _ (linked : Linked) (at : At) (exact : AreExact flow linked at) (is : IsFlowLister flow linked at asks lists) where
    -- a nonterminal of a name has the texts of its set
    has_texts : (n : SetName) → IsRead flow n → (a : nt.Nt) → slice_get system.parts a.0 ≡ Some (set_part (by_version at n)) → HasTexts outputs request circular flow s n a
    has_texts n read a there w =
        let loose = listed.loose_texts flow linked at asks lists is names asked whole outputs request circular more exact n read (system.sets (by_version at n) a.0 there) w in
        let texts =
        same.same_texts SetName T (Contains starts) (Says T) closed system.parts s.grammar.productions.items s.ops.items system.written (λ j. (λ h. h, λ h. h)) request is_closed outputs (λ v. ⊥) circular more (by_version at n) a there w in
        (λ i. loose.1 (texts.1 i), λ i. texts.0 (loose.0 i))

    -- the outputs and inputs at a point are the same by versions
    fixed_texts : (p : ℕ) (left operand : nt.Nt) → slice_get system.parts left.0 ≡ Some (set_part (Output p)) → slice_get system.parts operand.0 ≡ Some (set_part (Input p))
        → HasTexts outputs request circular flow s (Output p) left × HasTexts outputs request circular flow s (Input p) operand
    unfolding by_version
    fixed_texts p left operand l o = (has_texts (Output p) (operations.output_read flow linked at p) left l, has_texts (Input p) (operations.input_read flow linked at p) operand o)

    loose_rule : (rule : OpRule) → Contains s.ops.items rule → IsLooseRule outputs request circular flow s rule
    loose_rule rule has =
        let st = same.operation SetName T (Contains starts) (Says T) closed system.parts s.grammar.productions.items s.ops.items system.written (λ j. (λ h. h, λ h. h)) request is_closed rule.left rule.operand rule.op has in
        let version_row = (is.exact st.output (asked st.output st.row.0) (apply_form rule.op st.input)).0 st.row.1 in
        let o = operations.operation flow linked at st.output rule.op st.input version_row in
        let left : slice_get system.parts rule.left.0 ≡ Some (set_part (Output o.point)) = subst (λ (m : SetName). slice_get system.parts rule.left.0 ≡ Some (set_part m)) o.output st.left in
        let operand : slice_get system.parts rule.operand.0 ≡ Some (set_part (Input o.point)) = subst (λ (m : SetName). slice_get system.parts rule.operand.0 ≡ Some (set_part m)) o.input st.operand in
        let row : T (Output o.point) (apply_form rule.op (Input o.point)) =
        subst (λ (m : SetName). T m (apply_form rule.op (Input o.point))) o.output (subst (λ (m : SetName). T st.output (apply_form rule.op m)) o.input st.row) in
        let by_system =
        same.same_cycles SetName T (Contains starts) (Says T) closed system.parts s.grammar.productions.items s.ops.items system.written (λ j. (λ h. h, λ h. h)) request is_closed (Output o.point) (Input o.point) rule.op rule.left rule.operand left operand row has in
        let by_table = listed.same_cycles flow linked at asks lists is names asked whole (Output o.point) (Input o.point) rule.op row in
        let by_versions = operations.same_cycles flow linked at exact o.point rule.op o.row ((is.exact (Output o.point) (asked (Output o.point) row.0) (apply_form rule.op (Input o.point))).0 row.1) in
        let texts = fixed_texts o.point rule.left rule.operand left operand in
        record {
          output = Output o.point;
          input = Input o.point;
          row = o.row;
          outputs = texts.0;
          inputs = texts.1;
          cycle = (λ i. by_versions.0 (by_table.0 (by_system.1 i)), λ i. by_system.0 (by_table.1 (by_versions.1 i)));
        }

  pub loose_rules : IsExactLister flow asks lists → AreLooseRulesBy outputs request circular flow s
  loose_rules is rule has = loose_rule (linked_in (joins_of is.versions)) (read_at is.versions) (are_exact flow is.versions is.exact) is.lister rule has
