-- What a frame holds while a piece of code is followed.
use Rattle.std.proofs.Common.{◌≡◌, ◌≢◌, ℕ, ◌+◌, ◌<◌, ◌≤◌, length, refl, sym, ap, ◌∙◌, subst, arith, Bool, true, false, bytes_eq}
use Rattle.std.specs.Prelude.{if◌then◌else◌}
use Rattle.std.proofs.lemmas.Bool.{eq-eqb, ne_eqb}
use Rattle.plain_values.specs.Plain.{Plain}
use Rattle.script_meaning.specs.Runs.{State, value_in, with_variable}
use Rattle.flow_code.specs.Variables.{Name}
use Rattle.flow_code.specs.Expressions.{Scope, variable}
use Rattle.flow_code.specs.Runs.{Frame, Walk, no_walk, set_slot, set_walk}
use Rattle.flow_runs.proofs.Names.{Has, place_is, name_is, other_name, value_set, value_other}

pub slot_same : (f : Frame) (x : ℕ) (v : Plain) → (set_slot f x v).slots x ≡ v
unfolding set_slot
slot_same f x v = ap (λ b. if b then v else f.slots x) (eq-eqb x x refl)

pub slot_other : (f : Frame) (x : ℕ) (v : Plain) (y : ℕ) → y ≢ x → (set_slot f x v).slots y ≡ f.slots y
unfolding set_slot
slot_other f x v y h = ap (λ b. if b then v else f.slots y) (ne_eqb y x h)

pub slot_walks : (f : Frame) (x : ℕ) (v : Plain) (y : ℕ) → y ≢ x → (set_slot f x v).walks y ≡ f.walks y
unfolding set_slot
slot_walks f x v y h = ap (λ b. if b then no_walk else f.walks y) (ne_eqb y x h)

pub walk_same : (f : Frame) (x : ℕ) (v : Walk) → (set_walk f x v).walks x ≡ v
unfolding set_walk
walk_same f x v = ap (λ b. if b then v else f.walks x) (eq-eqb x x refl)

pub walk_other : (f : Frame) (x : ℕ) (v : Walk) (y : ℕ) → y ≢ x → (set_walk f x v).walks y ≡ f.walks y
unfolding set_walk
walk_other f x v y h = ap (λ b. if b then v else f.walks y) (ne_eqb y x h)

pub walk_slots : (f : Frame) (x : ℕ) (v : Walk) (y : ℕ) → (set_walk f x v).slots y ≡ f.slots y
unfolding set_walk
walk_slots f x v y = refl

-- the first slot behind the variables
abbrev pub free : Scope → ℕ
free w = w.base + length w.names

-- the slots of the variables hold their values
abbrev pub Shows : Scope → State → Frame → Type 0
Shows w s f = (x : Name) → Has w.names x → f.slots (variable w x) ≡ value_in s.variables x

pub is_variable : (w : Scope) (x : Name) → Has w.names x → variable w x < free w
unfolding variable
is_variable w x h = omega (arith, h)

-- the slots between the variables and t are as before, and their walks
pub record Kept (w : Scope) (t : ℕ) (f g : Frame) : Type 0 where
  pub slots' : (y : ℕ) → free w ≤ y → y < t → g.slots y ≡ f.slots y
  pub walks' : (y : ℕ) → free w ≤ y → y < t → g.walks y ≡ f.walks y

pub kept_same : {w : Scope} {t : ℕ} (f : Frame) → Kept w t f f
kept_same f = record { slots' = λ y ge lt. refl; walks' = λ y ge lt. refl }

pub kept_join : {w : Scope} {t1 t2 t : ℕ} {f g h : Frame} → Kept w t1 f g → Kept w t2 g h → t ≤ t1 → t ≤ t2 → Kept w t f h
kept_join a b l1 l2 = record {
  slots' = λ y ge lt. b.slots' y ge (omega (arith, lt, l2)) ∙ a.slots' y ge (omega (arith, lt, l1));
  walks' = λ y ge lt. b.walks' y ge (omega (arith, lt, l2)) ∙ a.walks' y ge (omega (arith, lt, l1));
}

pub kept_less : {w : Scope} {t1 t : ℕ} {f g : Frame} → Kept w t1 f g → t ≤ t1 → Kept w t f g
kept_less a l = record { slots' = λ y ge lt. a.slots' y ge (omega (arith, lt, l)); walks' = λ y ge lt. a.walks' y ge (omega (arith, lt, l)) }

-- a slot from t on is set
pub kept_temporary : (w : Scope) (t x : ℕ) (v : Plain) (f : Frame) → t ≤ x → Kept w t f (set_slot f x v)
kept_temporary w t x v f le = record { slots' = λ y ge lt. slot_other f x v y (λ e. omega (arith, e, lt, le)); walks' = λ y ge lt. slot_walks f x v y (λ e. omega (arith, e, lt, le)) }

-- a slot of a variable is set
pub kept_variable : (w : Scope) (t : ℕ) (x : Name) (v : Plain) (f : Frame) → Has w.names x → Kept w t f (set_slot f (variable w x) v)
kept_variable w t x v f h = let lt' = is_variable w x h in record { slots' = λ y ge lt. slot_other f (variable w x) v y (λ e. omega (arith, e, ge, lt')); walks' = λ y ge lt. slot_walks f (variable w x) v y (λ e. omega (arith, e, ge, lt')) }

pub shows_temporary : (w : Scope) (s : State) (x : ℕ) (v : Plain) (f : Frame) → free w ≤ x → Shows w s f → Shows w s (set_slot f x v)
shows_temporary w s x v f le h y has = let lt = is_variable w y has in slot_other f x v (variable w y) (λ e. omega (arith, e, lt, le)) ∙ h y has

pub shows_variable : (w : Scope) (s : State) (x : Name) (v : Plain) (f : Frame) → Has w.names x → Shows w s f → Shows w (with_variable s x v) (set_slot f (variable w x) v)
unfolding variable
shows_variable w s x v f hx h y hy = by_test (bytes_eq x y) refl
  where
    by_test : (b : Bool) → bytes_eq x y ≡ b → (set_slot f (variable w x) v).slots (variable w y) ≡ value_in (with_variable s x v).variables y
    by_test true e =
        subst (λ z. (set_slot f (variable w x) v).slots (variable w z) ≡ value_in (with_variable s x v).variables z) (name_is x y e)
        (slot_same f (variable w x) v ∙ sym (value_set s.variables x v))
    by_test false e =
        slot_other f (variable w x) v (variable w y) (λ same. other_name x y e (sym (place_is y x w.names hy hx (omega (arith, same)))))
        ∙ h y hy ∙ sym (value_other s.variables x y v e)
