-- Sizes put together.
use Rattle.std.proofs.Common.{◌≡◌, ◌∙◌, ◌≤◌, ◌<◌, ℕ, ◌+◌, ◌-◌, ◌^◌, max, min, refl, ap, arith}
use Rattle.program_sizes.specs.declared.size.Size.{Size}
use Rattle.program_sizes.specs.Sizes as sizes

pub same_size : (a b : Size) → a.places ≡ b.places → a.nodes ≡ b.nodes → a.height ≡ b.height → a ≡ b
same_size a b e f g = λ i. record { places = e i; nodes = f i; height = g i }

pub beside_assoc : (a b c : Size) → sizes.beside (sizes.beside a b) c ≡ sizes.beside a (sizes.beside b c)
beside_assoc a b c = same_size (sizes.beside (sizes.beside a b) c) (sizes.beside a (sizes.beside b c)) (omega arith) (omega arith) (omega arith)

pub beside_none : (a : Size) → sizes.beside a sizes.none ≡ a
beside_none a = same_size (sizes.beside a sizes.none) a (omega arith) (omega arith) (omega arith)

pub none_beside : (a : Size) → sizes.beside sizes.none a ≡ a
none_beside a = same_size (sizes.beside sizes.none a) a (omega arith) (omega arith) (omega arith)

capped_fields : (x a : Size) → x ≡ sizes.capped a → (x.places ≡ min a.places (2 ^ 64 - 1)) × (x.nodes ≡ min a.nodes (2 ^ 64 - 1)) × (x.height ≡ min a.height (2 ^ 64 - 1))
unfolding sizes.capped
capped_fields x a e = (ap (λ (s : Size). s.places) e, ap (λ (s : Size). s.nodes) e, ap (λ (s : Size). s.height) e)

from_fields : (x a : Size) → x.places ≡ min a.places (2 ^ 64 - 1) → x.nodes ≡ min a.nodes (2 ^ 64 - 1) → x.height ≡ min a.height (2 ^ 64 - 1) → x ≡ sizes.capped a
unfolding sizes.capped
from_fields x a e f g = same_size x (sizes.capped a) e f g

pub none_capped : (x : Size) → x ≡ sizes.none → x ≡ sizes.capped sizes.none
none_capped x e = from_fields x sizes.none (let p = ap (λ (s : Size). s.places) e in omega arith) (let p = ap (λ (s : Size). s.nodes) e in omega arith) (let p = ap (λ (s : Size). s.height) e in omega arith)

pub beside_capped : (x y z a b : Size) → x ≡ sizes.capped a → y ≡ sizes.capped b → z.places ≡ min (x.places + y.places) (2 ^ 64 - 1) → z.nodes ≡ min (x.nodes + y.nodes) (2 ^ 64 - 1) → z.height ≡ max x.height y.height → z ≡ sizes.capped (sizes.beside a b)
beside_capped x y z a b e f p n h =
    let u = capped_fields x a e in
    let v = capped_fields y b f in
    from_fields z (sizes.beside a b)
    (plus z.places x.places y.places a.places b.places p u.0 v.0)
    (plus z.nodes x.nodes y.nodes a.nodes b.nodes n u.1 v.1)
    (most z.height x.height y.height a.height b.height h u.2 v.2)
  where
    plus : (z x y a b : ℕ) → z ≡ min (x + y) (2 ^ 64 - 1) → x ≡ min a (2 ^ 64 - 1) → y ≡ min b (2 ^ 64 - 1) → z ≡ min (a + b) (2 ^ 64 - 1)
    plus z x y a b p u v = omega arith

    most : (z x y a b : ℕ) → z ≡ max x y → x ≡ min a (2 ^ 64 - 1) → y ≡ min b (2 ^ 64 - 1) → z ≡ min (max a b) (2 ^ 64 - 1)
    most z x y a b p u v = omega arith

pub above_capped : (x z a : Size) → x ≡ sizes.capped a → z.places ≡ x.places → z.nodes ≡ min (x.nodes + 1) (2 ^ 64 - 1) → z.height ≡ min (x.height + 1) (2 ^ 64 - 1) → z ≡ sizes.capped (sizes.above a)
above_capped x z a e p n h =
    let u = capped_fields x a e in
    from_fields z (sizes.above a) (p ∙ u.0) (one z.nodes x.nodes a.nodes n u.1) (one z.height x.height a.height h u.2)
  where
    one : (z x a : ℕ) → z ≡ min (x + 1) (2 ^ 64 - 1) → x ≡ min a (2 ^ 64 - 1) → z ≡ min (1 + a) (2 ^ 64 - 1)
    one z x a p u = omega arith

pub included_capped : (x z : Size) → x.nodes < 2 ^ 64 → x.height < 2 ^ 64 → z.places ≡ min (x.places + 1) (2 ^ 64 - 1) → z.nodes ≡ x.nodes → z.height ≡ x.height → z ≡ sizes.capped (sizes.included x)
included_capped x z ln lh p n h = from_fields z (sizes.included x) (one z.places x.places p) (same z.nodes x.nodes ln n) (same z.height x.height lh h)
  where
    one : (z x : ℕ) → z ≡ min (x + 1) (2 ^ 64 - 1) → z ≡ min (1 + x) (2 ^ 64 - 1)
    one z x p = omega arith

    same : (z x : ℕ) → x < 2 ^ 64 → z ≡ x → z ≡ min x (2 ^ 64 - 1)
    same z x l e = omega arith

-- within a limit as it is where it is so capped
pub within_capped : (x a : Size) (limit : ℕ) → x ≡ sizes.capped a → limit < 2 ^ 64 - 1 → ((x.places ≤ limit → a.places ≤ limit) × (limit < x.places → limit < a.places)) × ((x.nodes ≤ limit → a.nodes ≤ limit) × (limit < x.nodes → limit < a.nodes))
    × ((x.height ≤ limit → a.height ≤ limit) × (limit < x.height → limit < a.height))
within_capped x a limit e less = let u = capped_fields x a e in (by x.places a.places u.0, by x.nodes a.nodes u.1, by x.height a.height u.2)
  where
    by : (x a : ℕ) → x ≡ min a (2 ^ 64 - 1) → (x ≤ limit → a ≤ limit) × (limit < x → limit < a)
    by x a e = (λ h. omega arith, λ h. omega arith)

-- nodes over their parts
pub over_two_is : (a b c d : ℕ) → sizes.above (sizes.beside (sizes.of a c) (sizes.of b d)) ≡ sizes.of (1 + a + b) (1 + max c d)
over_two_is a b c d = same_size (sizes.above (sizes.beside (sizes.of a c) (sizes.of b d))) (sizes.of (1 + a + b) (1 + max c d)) refl (omega arith) refl

pub over_three_is : (a b c d e f : ℕ) → sizes.above (sizes.beside (sizes.beside (sizes.of a d) (sizes.of b e)) (sizes.of c f)) ≡ sizes.of (1 + a + b + c) (1 + max d (max e f))
over_three_is a b c d e f = same_size (sizes.above (sizes.beside (sizes.beside (sizes.of a d) (sizes.of b e)) (sizes.of c f))) (sizes.of (1 + a + b + c) (1 + max d (max e f))) refl (omega arith) (omega arith)

pub over_assignment_is : (p v h k : ℕ) → sizes.above (sizes.beside (sizes.above (sizes.of p h)) (sizes.of v k)) ≡ sizes.of (2 + p + v) (1 + max (1 + h) k)
over_assignment_is p v h k = same_size (sizes.above (sizes.beside (sizes.above (sizes.of p h)) (sizes.of v k))) (sizes.of (2 + p + v) (1 + max (1 + h) k)) refl (omega arith) refl
