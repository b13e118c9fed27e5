-- The values of slots lie in the sets of the definitions that reach a point.
use Rattle.std.proofs.Common.{◌≡◌, ℕ, false, List, Option, Some, sym, subst, arith, slice_get}
use Rattle.std.specs.Prelude.{All}
use Rattle.xml_text.specs.Texts.{IsText}
use Rattle.plain_values.specs.Plain.{Plain, PlainKey, Pairs, null, flag, int, text, array}
use Rattle.plain_values.specs.Lawful.{IsValue}
use Rattle.op_system.specs.Rel.{Rel}
use Rattle.flow_code.specs.Points.{PlainFlow, PlainSource}
use Rattle.least_sets.specs.Forms.{Form, same_form}
use Rattle.least_sets.specs.Sets.{In, Says}
use Rattle.loose_sets.specs.Reaching.{Definition, at_point, Reaches}
use Rattle.loose_sets.specs.Keys.{told_keys, is_among}
use Rattle.loose_sets.specs.declared.name.Aspect.{Aspect}
use Rattle.loose_sets.specs.declared.name.Aspect.TheVariants.{Member, Others}
use Rattle.loose_sets.specs.declared.name.Half.{Half}
use Rattle.loose_sets.specs.declared.name.Half.TheVariants as half
use Rattle.loose_sets.specs.declared.name.SetName.{SetName}
use Rattle.loose_soundness.proofs.Names.{set_of, use_of, all_of}
use Rattle.loose_sets.specs.Table.{SetsTo, Row}
use Rattle.loose_soundness.proofs.SourceRows.{IsSourceRow}
use Rattle.loose_soundness.proofs.Rows as rows
use Rattle.loose_soundness.proofs.Covers.{Has, Yes, InsideIn, AllIn, MembersIn, Covers, place, covers_wider, members_all}
use Rattle.loose_sets.specs.Uses.{in_member}
use Rattle.loose_sets.proofs.Placed.{Placed, placed}

abbrev pub HasIn : PlainFlow → SetName → List ℕ → Type 0
HasIn flow name w = In (Row flow) Rel IsText (λ bytes text. All bytes text) name w

abbrev pub SaysIn : PlainFlow → SetName → Type 0
SaysIn flow name = Says (Row flow) name

-- the sets of a definition, and those of a use
abbrev pub Def : PlainFlow → Definition → Has
Def flow d a w = HasIn flow (set_of a d) w

abbrev pub DefYes : PlainFlow → Definition → Yes
DefYes flow d a = SaysIn flow (set_of a d)

abbrev pub Use : PlainFlow → ℕ → ℕ → Has
Use flow x p a w = HasIn flow (use_of a x p) w

abbrev pub UseYes : PlainFlow → ℕ → ℕ → Yes
UseYes flow x p a = SaysIn flow (use_of a x p)

pub record Lies (flow : PlainFlow) (d : Definition) (v : Plain) : Type 0 where
  pub covers : Covers (told_keys flow) (Def flow d) (DefYes flow d) v
  pub value : IsValue v

pub record UseLies (flow : PlainFlow) (x p : ℕ) (v : Plain) : Type 0 where
  pub covers : Covers (told_keys flow) (Use flow x p) (UseYes flow x p) v
  pub value : IsValue v

pub record Holds (flow : PlainFlow) (x p : ℕ) (v : Plain) : Type 0 where
  pub definition : Definition
  pub reaches : Reaches flow definition x p
  pub lies : Lies flow definition v

-- a text of a form of a set
pub same_in : (flow : PlainFlow) (a b : SetName) (w : List ℕ) → Row flow a (same_form b) → HasIn flow b w → HasIn flow a w
same_in flow a b w row h = In.same a b w row h

pub same_yes : (flow : PlainFlow) (a b : SetName) → Row flow a (same_form b) → SaysIn flow b → SaysIn flow a
same_yes flow a b row h = Says.same a b row h

pub use_lies : (flow : PlainFlow) (x p : ℕ) (v : Plain) → Holds flow x p v → UseLies flow x p v
use_lies flow x p v h = record {
  covers = covers_wider (told_keys flow) _ _ _ _
      (λ a w i. same_in flow (use_of a x p) (set_of a h.definition) w (rows.reaching a h.definition x p h.reaches) i)
      (λ a i. same_yes flow (use_of a x p) (set_of a h.definition) (rows.reaching a h.definition x p h.reaches) i) v h.lies.covers;
  value = h.lies.value;
}

pub by_place : (flow : PlainFlow) (k : PlainKey) (h : Half) (P : Aspect → Type 0) → ((i : ℕ) → slice_get (told_keys flow) i ≡ Some k → P (Member i h)) → P (Others h) → P (place (told_keys flow) k h)
by_place flow k h P t o = by (placed 0 k (told_keys flow))
  where
    by : Placed 0 k (told_keys flow) → P (place (told_keys flow) k h)
    by (Placed.nowhere isnt none) = subst (λ (z : Option ℕ). P (in_member h z)) (sym isnt) o
    by (Placed.there i j number among is sum) = subst (λ (z : Option ℕ). P (in_member h z)) (sym number) (t j (subst (λ (z : ℕ). slice_get (told_keys flow) z ≡ Some k) (omega (arith, sum)) is))

-- the same, where more is known in the second case
pub by_place_told : (flow : PlainFlow) (k : PlainKey) (h : Half) (P : Aspect → Type 0) → ((i : ℕ) → slice_get (told_keys flow) i ≡ Some k → P (Member i h)) → (is_among k (told_keys flow) ≡ false → P (Others h)) → P (place (told_keys flow) k h)
by_place_told flow k h P t o = by (placed 0 k (told_keys flow))
  where
    by : Placed 0 k (told_keys flow) → P (place (told_keys flow) k h)
    by (Placed.nowhere isnt none) = subst (λ (z : Option ℕ). P (in_member h z)) (sym isnt) (o none)
    by (Placed.there i j number among is sum) = subst (λ (z : Option ℕ). P (in_member h z)) (sym number) (t j (subst (λ (z : ℕ). slice_get (told_keys flow) z ≡ Some k) (omega (arith, sum)) is))

-- all members of a value
pub all_lies : (flow : PlainFlow) (x p : ℕ) (ps : Pairs) → MembersIn (told_keys flow) (Use flow x p) (UseYes flow x p) ps → AllIn (HasIn flow (all_of half.Text x p)) (SaysIn flow (all_of half.Array x p)) ps
all_lies flow x p ps h =
    members_all (told_keys flow) (Use flow x p) (UseYes flow x p) _ _
    (λ k. by_place flow k half.Text (λ a. (w : List ℕ) → HasIn flow (use_of a x p) w → HasIn flow (all_of half.Text x p) w)
    (λ n t w i. same_in flow _ _ w (rows.all_told half.Text x p n t) i) (λ w i. same_in flow _ _ w (rows.all_others half.Text x p) i))
    (λ k. by_place flow k half.Array (λ a. SaysIn flow (use_of a x p) → SaysIn flow (all_of half.Array x p))
    (λ n t i. same_yes flow _ _ (rows.all_told half.Array x p n t) i) (λ i. same_yes flow _ _ (rows.all_others half.Array x p) i))
    (λ w i. same_in flow _ _ w (rows.all_others half.Text x p) i)
    (λ i. same_yes flow _ _ (rows.all_others half.Array x p) i) ps h

pub all_inside : (flow : PlainFlow) (x p : ℕ) (v : Plain) → Covers (told_keys flow) (Use flow x p) (UseYes flow x p) v → InsideIn (HasIn flow (all_of half.Text x p)) (SaysIn flow (all_of half.Array x p)) v
all_inside flow x p null h = tt
all_inside flow x p (flag b) h = tt
all_inside flow x p (int z) h = tt
all_inside flow x p (text t) h = tt
all_inside flow x p (array ps) h = all_lies flow x p ps h.1

-- a row of a source
pub of_source : (flow : PlainFlow) (p : ℕ) (s : PlainSource) (a : Aspect) (f : Form SetName) → SetsTo flow p s → IsSourceRow flow p s a f → Row flow (set_of a (at_point p)) f
of_source flow p s a f st row = rows.source p s a f st row
