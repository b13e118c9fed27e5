-- An operation in a cycle, one in none, and `Any`, which is always taken to be in one.
use Rattle.std.proofs.Common.{◌≡◌, ℕ, zero, suc, List, [], ◌∷◌, Some, refl, sym, ap, ◌∙◌, subst, arith}
use Rattle.std.specs.Prelude.{codes, Contains}
use Rattle.plain_values.specs.Plain.{text}
use Rattle.builtin_meaning.specs.declared.builtin.Builtin.TheVariants as builtin
use Rattle.op_system.specs.declared.op.Op.{Op}
use Rattle.op_system.specs.declared.op.Op.TheVariants as op
use Rattle.flow_code.specs.Points.{PlainPoint, set_point, branch_point, return_point, literal_source, apply_source, PlainFlowFunction, PlainFlow, points_in, point_at, function_at}
use Rattle.flow_code.specs.Lawful.{sets, nexts}
use Rattle.least_sets.specs.Forms.{Form, text_form, same_form, names}
use Rattle.least_sets.specs.Sets.{DependsOn, IsCircular}
use Rattle.loose_sets.specs.Reaching.{Definition, at_point, Reaches}
use Rattle.loose_sets.specs.Versions.{PlainVersion, of_definition}
use Rattle.loose_sets.specs.Uses.{version_back}
use Rattle.loose_sets.specs.Points.{value_forms, operation_of, input_forms}
use Rattle.loose_sets.specs.Table.{point_of, forms_from, forms_beside, forms, each_use, RowBy, Row}
use Rattle.loose_sets.proofs.Returned.{none_in, only_one, it_alone}
use Rattle.loose_sets.specs.declared.name.Half.TheVariants.{Text}
use Rattle.loose_sets.specs.declared.name.Aspect.{Aspect}
use Rattle.loose_sets.specs.declared.name.Aspect.TheVariants.{Own}
use Rattle.loose_sets.specs.declared.name.SetVersion.TheVariants.{Point, Join}
use Rattle.loose_sets.specs.declared.name.SetName.{SetName}
use Rattle.loose_sets.specs.declared.name.SetName.TheVariants.{Value, Input, Output}

-- a program without functions, of these points and two slots
abbrev script : List PlainPoint → PlainFlow
script points = record {
  functions_of = record { entry_of = 0; params_of = []; first_slot_of = 0; slots_of = 2; first_point_of = 0; points_of = points } ∷ [];
}

-- `$x = 'a'; while ($x) $x = htmlspecialchars($x);`
abbrev fed : PlainFlow
fed = script
    (set_point 0 (literal_source (text (codes "a"))) 1 ∷ branch_point 0 2 3 ∷ set_point 0 (apply_source op.Html 0 builtin.Htmlspecialchars []) 1
    ∷ return_point 0 ∷ [])

-- the output comes round to the input
comes_round : Reaches fed (at_point 2) 0 2
unfolding points_in point_at sets nexts
comes_round = Reaches.onward (at_point 2) 0 1 2 (branch_point 0 2 3) (Reaches.behind 2 0 1 _ refl refl (it_alone 1)) refl (λ e. cc) (0, omega arith, refl)

in_cycle : IsCircular (Row fed) (Output 2) op.Html (Input 2)
unfolding point_of forms_from value_forms operation_of input_forms points_in point_at names
in_cycle = IsCircular.cycle (Output 2) (Input 2) op.Html
    (DependsOn.over (Input 2) (Value (Own Text) (Join 2 0)) (Output 2) (same_form (Value (Own Text) (Join 2 0)))
    (RowBy.listed (Input 2) _ (it_alone _)) (it_alone _)
    (DependsOn.over (Value (Own Text) (Join 2 0)) (Value (Own Text) (Point 2)) (Output 2) (same_form (Value (Own Text) (Point 2)))
    (RowBy.joined (Own Text) 2 0 (of_definition (at_point 2)) (at_point 2, refl, comes_round)) (it_alone _)
    (DependsOn.over (Value (Own Text) (Point 2)) (Output 2) (Output 2) (same_form (Output 2))
    (RowBy.listed (Value (Own Text) (Point 2)) _ (it_alone _)) (it_alone _) (DependsOn.itself (Output 2)))))

-- `$x = 'a'; $y = htmlspecialchars($x);`
abbrev straight : PlainFlow
straight = script
    (set_point 0 (literal_source (text (codes "a"))) 1 ∷ set_point 1 (apply_source op.Html 0 builtin.Htmlspecialchars []) 2 ∷ return_point 1 ∷ [])

-- what the input depends on: itself, the value that is read, and the literal
data Below : SetName → Type 0 where
  input : Below (Input 1)
  read_there : Below (Value (Own Text) (Join 1 0))
  literal : Below (Value (Own Text) (Point 0))

-- one point alone leads to the point 1
leads : (p : ℕ) (i : PlainPoint) → point_at straight p ≡ Some i → Contains (nexts i) 1 → p ≡ 0
unfolding points_in point_at nexts
leads zero i e c = refl
leads (suc zero) i e c =
    let is : set_point 1 (apply_source op.Html 0 builtin.Htmlspecialchars []) 2 ≡ i = cc in
    let two : ◌≡◌ {A = ℕ} 2 1 = only_one 2 1 (subst (λ (k : PlainPoint). Contains (nexts k) 1) (sym is) c) in
    absurd cc
leads (suc (suc zero)) i e c = let is : return_point 1 ≡ i = cc in absurd (none_in 1 (subst (λ (k : PlainPoint). Contains (nexts k) 1) (sym is) c))
leads (suc (suc (suc p))) i e c = absurd cc

-- it sets the slot 0, and no function is entered there
sets_it : (i : PlainPoint) → point_at straight 0 ≡ Some i → sets i ≡ Some 0
unfolding points_in point_at sets
sets_it i e = let is : set_point 0 (literal_source (text (codes "a"))) 1 ≡ i = cc in ap sets (sym is)

entry : (f : ℕ) (g : PlainFlowFunction) → function_at straight f ≡ Some g → g.entry_of ≡ 0
entry zero g e = cc
entry (suc f) g e = absurd cc

the_literal : (d : Definition) (x p : ℕ) → Reaches straight d x p → x ≡ 0 → p ≡ 1 → d ≡ at_point 0
the_literal _ _ _ (Reaches.behind d x p i e s c) is at = ap at_point (leads d i e (subst (Contains (nexts i)) at c))
the_literal _ _ _ (Reaches.entered f x g e o) is at = let zero_is : g.entry_of ≡ 0 = entry f g e in absurd cc
the_literal _ _ _ (Reaches.onward d x p q i r e n c) is at =
    let first : p ≡ 0 = leads p i e (subst (Contains (nexts i)) at c) in
    absurd (n (sets_it i (subst (λ (p : ℕ). point_at straight p ≡ Some i) first e) ∙ ap Some (sym is)))

named : (m : SetName) (f : Form SetName) (n : SetName) → f ≡ same_form n → Contains (names f) m → n ≡ m
unfolding names
named m f n is has = only_one n m (subst (λ (g : Form SetName). Contains (names g) m) is has)

listed_below : (n m : SetName) (f : Form SetName) → Contains (forms each_use straight n) f → Contains (names f) m → Below n → Below m
unfolding point_of forms_from forms_beside value_forms operation_of input_forms points_in point_at names
listed_below _ m f c has input =
    let is : same_form (Value (Own Text) (Join 1 0)) ≡ f = only_one (same_form (Value (Own Text) (Join 1 0))) f c in
    subst Below (named m f (Value (Own Text) (Join 1 0)) (sym is) has) read_there
listed_below _ m f c has read_there = absurd (none_in f c)
listed_below _ m f c has literal =
    let is : text_form (codes "a") ≡ f = only_one (text_form (codes "a")) f c in
    absurd (none_in m (subst (λ (g : Form SetName). Contains (names g) m) (sym is) has))

joined_below : (b : Aspect) (p x : ℕ) (d : Definition) (m : SetName) → Reaches straight d x p
    → Contains (names (same_form (Value b (version_back (of_definition d))))) m → Below (Value b (Join p x)) → Below m
joined_below _ _ _ d m reaches has read_there =
    let is : d ≡ at_point 0 = the_literal d 0 1 reaches refl refl in
    let there : Below (Value (Own Text) (version_back (of_definition d))) =
    subst (λ (e : Definition). Below (Value (Own Text) (version_back (of_definition e)))) (sym is) literal in
    subst Below (named m (same_form (Value (Own Text) (version_back (of_definition d)))) (Value (Own Text) (version_back (of_definition d))) refl has) there

row_below : (n m : SetName) (f : Form SetName) → Row straight n f → Contains (names f) m → Below n → Below m
row_below _ m _ (RowBy.listed n f c) has below = listed_below n m f c has below
row_below _ m _ (RowBy.joined b p x v linked) has below =
    joined_below b p x linked.0 m linked.2 (subst (λ (w : PlainVersion). Contains (names (same_form (Value b (version_back w)))) m) linked.1 has) below

all_below : (n m : SetName) → DependsOn (Row straight) n m → Below n → Below m
all_below _ _ (DependsOn.itself a) below = below
all_below _ _ (DependsOn.over a m c f row has rest) below = all_below m c rest (row_below a m f row has below)

is_no_output : (n : SetName) → Below n → n ≡ Output 1 → ⊥
is_no_output _ input e = cc
is_no_output _ read_there e = cc
is_no_output _ literal e = cc

in_none : (a c : SetName) (work : Op) → IsCircular (Row straight) a work c → a ≡ Output 1 → work ≡ op.Html → c ≡ Input 1 → ⊥
in_none _ _ _ (IsCircular.cycle a c work depends) made by on = is_no_output a (all_below c a depends (subst Below (sym on) input)) made
in_none _ _ _ (IsCircular.any a c) made by on = cc

-- `Any`, on whatever operand
any_in_cycle : IsCircular (Row straight) (Output 1) op.Any (Input 1)
any_in_cycle = IsCircular.any (Output 1) (Input 1)
