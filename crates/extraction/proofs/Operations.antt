-- An operation of the loose sets is in a cycle exactly where it is in one by versions.
use Rattle.std.proofs.Common.{◌≡◌, ◌↔◌, ℕ, refl, subst, Contains}
use Rattle.op_system.specs.declared.op.Op.{Op}
use Rattle.flow_code.specs.Points.{PlainFlow}
use Rattle.least_sets.specs.Forms.{Form, apply_form}
use Rattle.least_sets.specs.Sets.{IsCircular}
use Rattle.least_sets.specs.Simulations.{TakesOver}
use Rattle.least_sets.proofs.Simulated as simulated
use Rattle.loose_sets.specs.Versions.{Linked}
use Rattle.loose_sets.specs.Uses.{At}
use Rattle.loose_sets.specs.Exact.{AreExact, by_version, IsRead}
use Rattle.loose_sets.specs.Table.{forms, RowBy, each_use, Row}
use Rattle.loose_sets.specs.declared.name.SetName.{SetName}
use Rattle.loose_sets.specs.declared.name.SetName.TheVariants.{Input, Output}
use Rattle.loose_sets.proofs.OfVersions as versions

module _ (flow : PlainFlow) (linked : Linked) (at : At) where
  abbrev V : SetName → Form SetName → Type 0
  V = RowBy at linked flow

  -- the operation at a point, as it is in the loose table
  pub record IsOperation (n : SetName) (op : Op) (a : SetName) : Type 0 where
    pub point : ℕ
    pub row : Row flow (Output point) (apply_form op (Input point))
    pub output : n ≡ Output point
    pub input : a ≡ Input point

  output_listed : (p : ℕ) (n : SetName) (f : Form SetName) (op : Op) → V n f → n ≡ Output p → f ≡ apply_form op (Input p) → Contains (forms at flow (Output p)) (apply_form op (Input p))
  output_listed p n f op (RowBy.listed _ _ has) name form = subst (λ (m : SetName). Contains (forms at flow m) (apply_form op (Input p))) name (subst (λ (g : Form SetName). Contains (forms at flow n) g) form has)
  output_listed p _ _ op (RowBy.joined b q x v k) name form = absurd (cc)

  pub operation : (n : SetName) (op : Op) (a : SetName) → V n (apply_form op a) → IsOperation n op a
  operation n op a row =
      let o = versions.applies flow at linked n op a row in
      let here : V n (apply_form op (Input o.0)) = subst (λ (z : SetName). V n (apply_form op z)) o.2 row in
      let listed = output_listed o.0 n (apply_form op (Input o.0)) op here o.1 refl in
      let r = versions.outputs flow at each_use o.0 (apply_form op (Input o.0)) listed in
      record { point = o.0; row = RowBy.listed (Output o.0) (apply_form op (Input o.0)) r.2; output = o.1; input = o.2 }

  pub output_read : (p : ℕ) → IsRead flow (Output p)
  unfolding IsRead
  output_read p = tt

  pub input_read : (p : ℕ) → IsRead flow (Input p)
  unfolding IsRead
  input_read p = tt

  module _ (exact : AreExact flow linked at) where
    output_stands : (p : ℕ) → versions.Stands flow linked at exact (Output p) (Output p)
    unfolding by_version
    output_stands p = record { is = refl; read = output_read p }

    input_held : (p : ℕ) → versions.Stands flow linked at exact (Input p) (Input p)
    unfolding by_version
    input_held p = record { is = refl; read = input_read p }

    pub same_cycles : (p : ℕ) (op : Op) → Row flow (Output p) (apply_form op (Input p)) → V (Output p) (apply_form op (Input p)) → IsCircular V (Output p) op (Input p) ↔ IsCircular (Row flow) (Output p) op (Input p)
    same_cycles p op row version_row = (
      λ i. simulated.circular SetName SetName V (Row flow) (versions.Meant flow linked at exact) (versions.table_does flow linked at exact) (Output p) (Input p) op (Output p) (Input p)
          version_row (versions.Meant.of_output p) (record { within = Input p; takes = TakesOver.itself (Input p); stands = versions.Meant.of_input p }) i,
      λ i. simulated.circular SetName SetName (Row flow) V (versions.Stands flow linked at exact) (versions.versions_do flow linked at exact) (Output p) (Input p) op (Output p) (Input p)
          row (output_stands p) (record { within = Input p; takes = TakesOver.itself (Input p); stands = input_held p }) i,
    )
