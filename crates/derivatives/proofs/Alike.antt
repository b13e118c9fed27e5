-- Bytes of a class have one derivative.
use Rattle.std.proofs.Common.{◌≡◌, ◌≤◌, ℕ, Bool, true, false, refl, ap, arith}
use Rattle.std.specs.Prelude.{min, if◌then◌else◌}
use Rattle.std.proofs.lemmas.Bool.Decides.{nat_tests}
use Rattle.derivatives.specs.Expressions.{Expr, nothing, empty, range, chain, either, star, among, Members, none, member, lies}
use Rattle.derivatives.specs.Derivatives.{may_end, chain_of, either_of, among_of, when, onto, after, after_members}
use Rattle.derivatives.specs.Classes.{last_byte, last_beside, last_alike, last_of_all}
use Rattle.derivatives.specs.Laws.{AreClasses}
use Rattle.derivatives.proofs.NormalForms.{ap2}

-- ranges
lies_alike : (low high b c : ℕ) → b ≤ c → c ≤ last_beside low high b → lies low high c ≡ lies low high b
lies_alike low high b c h g = grind (arith, nat_tests)

beside_own : (low high b : ℕ) → b ≤ 255 → b ≤ last_beside low high b
beside_own low high b h = grind (arith, nat_tests)

least_left : (c m n : ℕ) → c ≤ min m n → c ≤ m
least_left c m n h = omega arith

least_right : (c m n : ℕ) → c ≤ min m n → c ≤ n
least_right c m n h = omega arith

least_of : (c m n : ℕ) → c ≤ m → c ≤ n → c ≤ min m n
least_of c m n h g = omega arith

-- chains
first_of : (t : Bool) (c m n : ℕ) → c ≤ (if t then min m n else m) → c ≤ m
first_of true c m n h = least_left c m n h
first_of false c m n h = h

second_alike : (t : Bool) (c m n : ℕ) (e f : Expr) → c ≤ (if t then min m n else m) → (c ≤ n → e ≡ f) → when t e ≡ when t f
second_alike true c m n e f h s = s (least_right c m n h)
second_alike false c m n e f h s = refl

chain_own : (t : Bool) (c m n : ℕ) → c ≤ m → c ≤ n → c ≤ (if t then min m n else m)
chain_own true c m n h g = least_of c m n h g
chain_own false c m n h g = h

mutual
  alike : (b c : ℕ) (e : Expr) → b ≤ c → c ≤ last_alike b e → after c e ≡ after b e
  alike b c nothing h g = refl
  alike b c empty h g = refl
  alike b c (range low high) h g = ap (λ t. when t empty) (lies_alike low high b c h g)
  alike b c (chain x y) h g =
      ap2 either_of (ap (λ e. chain_of e y) (alike b c x h (first_of (may_end x) c (last_alike b x) (last_alike b y) g)))
      (second_alike (may_end x) c (last_alike b x) (last_alike b y) (after c y) (after b y) g (alike b c y h))
  alike b c (either x y) h g =
      ap2 either_of (alike b c x h (least_left c (last_alike b x) (last_alike b y) g)) (alike b c y h (least_right c (last_alike b x) (last_alike b y) g))
  alike b c (star x) h g = ap (λ e. chain_of e (star x)) (alike b c x h g)
  alike b c (among ms) h g = members_alike b c none ms h g

  members_alike : (b c : ℕ) (front ms : Members) → b ≤ c → c ≤ last_of_all b ms → after_members c front ms ≡ after_members b front ms
  members_alike b c front none h g = refl
  members_alike b c front (member e q ms) h g =
      ap2 either_of (ap (λ x. chain_of x (among_of (onto front ms))) (alike b c e h (least_left c (last_alike b e) (last_of_all b ms) g)))
      (members_alike b c (member e q front) ms h (least_right c (last_alike b e) (last_of_all b ms) g))

mutual
  own : (b : ℕ) (e : Expr) → b ≤ last_byte → b ≤ last_alike b e
  own b nothing h = h
  own b empty h = h
  own b (range low high) h = beside_own low high b h
  own b (chain x y) h = chain_own (may_end x) b (last_alike b x) (last_alike b y) (own b x h) (own b y h)
  own b (either x y) h = least_of b (last_alike b x) (last_alike b y) (own b x h) (own b y h)
  own b (star x) h = own b x h
  own b (among ms) h = own_of_all b ms h

  own_of_all : (b : ℕ) (ms : Members) → b ≤ last_byte → b ≤ last_of_all b ms
  own_of_all b none h = h
  own_of_all b (member e q ms) h = least_of b (last_alike b e) (last_of_all b ms) (own b e h) (own_of_all b ms h)

pub are_classes : AreClasses
are_classes = record { own = own; alike = alike }
