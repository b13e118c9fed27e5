-- Code that is emitted piece by piece is the code put together.
use Rattle.std.proofs.Common.{◌≡◌, ◌∙◌, ℕ, ◌+◌, List, [], ◌∷◌, ◌++◌, length, refl, sym, ap, arith, append_assoc, length-append}
use Rattle.flow_code.specs.Points.{PlainPoint, PlainSource, set_point}
use Rattle.flow_code.specs.Code.{Code, known, left, both, computed, computed_with, from_source}
use Rattle.flow_lowering.specs.Emits.{Progress, place, Puts, Sets, Emits}

append_none : {X : Type 0} (xs : List X) → xs ++ [] ≡ xs
append_none [] = refl
append_none {X} (x ∷ xs) = ap (λ (l : List X). x ∷ l) (append_none xs)

pub puts_none : (s : Progress) → Puts s s [] 0
puts_none s = record { first = refl; points_are = sym (append_none s.points); slot = omega arith }

pub puts_then : {s0 s1 s2 : Progress} {xs ys : List PlainPoint} {m n : ℕ} → Puts s0 s1 xs m → Puts s1 s2 ys n → Puts s0 s2 (xs ++ ys) (m + n)
puts_then {s0} {s1} {s2} {xs} {ys} {m} {n} p q = record {
  first = q.first ∙ p.first;
  points_are = q.points_are ∙ ap (λ (l : List PlainPoint). l ++ ys) p.points_are ∙ append_assoc s0.points xs ys;
  slot = omega (arith, p.slot, q.slot);
}

pub puts_same : {s0 s1 : Progress} {xs ys : List PlainPoint} {m n : ℕ} → xs ≡ ys → m ≡ n → Puts s0 s1 xs m → Puts s0 s1 ys n
puts_same {s0} e d p = record {
  first = p.first;
  points_are = p.points_are ∙ ap (λ (l : List PlainPoint). s0.points ++ l) e;
  slot = omega (arith, p.slot, d);
}

-- how many points there are then
pub puts_length : {s0 s1 : Progress} {xs : List PlainPoint} {m : ℕ} → Puts s0 s1 xs m → length s1.points ≡ length s0.points + length xs
puts_length {s0} {s1} {xs} p = ap length p.points_are ∙ length-append s0.points xs

pub puts_place : {s0 s1 : Progress} {xs : List PlainPoint} {m : ℕ} → Puts s0 s1 xs m → place s1 ≡ place s0 + length xs
puts_place p = omega (arith, puts_length p, p.first)

pub emits_place : {A : Type 0} {s0 s1 : Progress} {a : Code A} {x : A} → Emits s0 s1 a x → place s1 ≡ place s0 + a.size
emits_place e = omega (arith, e.size, e.puts.first)

-- nothing to do
pub emits_known : {A : Type 0} (s : Progress) (x : A) → Emits s s (known x) x
emits_known s x = record { puts = puts_none s; size = omega arith; gives = refl }

-- what is left is made into something else
pub emits_left : {A B : Type 0} {s0 s1 : Progress} {a : Code A} {x : A} → (f : A → B) → Emits s0 s1 a x → Emits s0 s1 (left a f) (f x)
emits_left f e = record { puts = e.puts; size = e.size; gives = ap f e.gives }

-- one behind the other
pub emits_both : {A B C : Type 0} {s0 s1 s2 : Progress} {a : Code A} {b : Code B} {x : A} {y : B} → (f : A → B → C) → Emits s0 s1 a x → Emits s1 s2 b y → Emits s0 s2 (both a b f) (f x y)
emits_both {A} {B} {C} {s0} {s1} {s2} {a} {b} {x} {y} f d e =
    let at : place s1 ≡ place s0 + a.size = emits_place d in
    let slot : s1.slot ≡ s0.slot + a.slots = d.puts.slot in
    let points : b.points (place s1) s1.slot ≡ b.points (place s0 + a.size) (s0.slot + a.slots) = λ i. b.points (at i) (slot i) in
    let given : y ≡ b.gives (s0.slot + a.slots) = e.gives ∙ ap b.gives slot in
    record {
      puts = puts_same (ap (λ (l : List PlainPoint). a.points (place s0) s0.slot ++ l) points) refl (puts_then d.puts e.puts);
      size = omega (arith, d.size, e.size);
      gives = λ i. f (d.gives i) (given i);
    }

-- one more point, behind code
pub emits_end : {A : Type 0} {s0 s1 s2 : Progress} {a : Code A} {x : A} {n : ℕ} → (point : PlainPoint) → Emits s0 s1 a x → Puts s1 s2 (point ∷ []) n → length s2.points ≡ length s0.points + (a.size + 1)
emits_end point d p = omega (arith, d.size, puts_length p)

-- a fresh slot is set to what is computed
pub emits_computed : {A : Type 0} {s0 s1 s2 : Progress} {a : Code A} {x : A} {y : ℕ} → (source : A → PlainSource) → Emits s0 s1 a x → Sets s1 s2 (source x) (place s1 + 1) y
    → Emits s0 s2 (computed a source) y
emits_computed {A} {s0} {s1} {s2} {a} {x} {y} source d p =
    let at : place s1 + 1 ≡ place s0 + a.size + 1 = ap (λ (n : ℕ). n + 1) (emits_place d) in
    let slot : s1.slot ≡ s0.slot + a.slots = d.puts.slot in
    let last : List PlainPoint = set_point (s0.slot + a.slots) (source (a.gives s0.slot)) (place s0 + a.size + 1) ∷ [] in
    let same : set_point s1.slot (source x) (place s1 + 1) ∷ [] ≡ last = λ i. set_point (slot i) (source (d.gives i)) (at i) ∷ [] in
    record {
      puts = puts_same (ap (λ (l : List PlainPoint). a.points (place s0) s0.slot ++ l) same) refl (puts_then d.puts p.puts);
      size = omega (arith, d.size, puts_length p.puts);
      gives = p.slot ∙ slot;
    }

-- the same, where something is made of what was left before and of the fresh slot
pub emits_with : {A B : Type 0} {s0 s1 s2 : Progress} {a : Code A} {x : A} {y : ℕ} → (source : A → PlainSource) → (join : A → ℕ → B) → Emits s0 s1 a x → Sets s1 s2 (source x) (place s1 + 1) y
    → Emits s0 s2 (computed_with a source join) (join x y)
emits_with {A} {B} {s0} {s1} {s2} {a} {x} {y} source join d p =
    let e = emits_computed source d p in
    record { puts = e.puts; size = e.size; gives = λ i. join (d.gives i) (e.gives i) }

-- a fresh slot is set to a source that needs nothing before it
pub emits_source : {s0 s1 : Progress} {y : ℕ} → (source : PlainSource) → Sets s0 s1 source (place s0 + 1) y → Emits s0 s1 (from_source source) y
emits_source {s0} source p = emits_computed (λ (s : PlainSource). s) (emits_known s0 source) p
