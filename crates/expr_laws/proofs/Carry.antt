-- Steps of a run, of which each goes on only where a test holds.
use Rattle.std.proofs.Common.{◌≡◌, ◌∙◌, Bool, true, false, List, ap, None}
use Rattle.std.specs.Prelude.{Option, ◌&&◌, if◌then◌else◌}
use Rattle.expr_machine.specs.Values.{PlainValue}

-- the values that a run leaves, if it breaks no rule
abbrev pub Left : Type 0
Left = Option (List PlainValue)

-- one run is another where a test holds, and breaks a rule where not
pub record Goes {A : Type 0} (x : Option A) (b : Bool) (y : Option A) : Type 0 where
  pub is : x ≡ (if b then y else None)

two_tests : {A : Type 0} (b c : Bool) (x y z : Option A) → x ≡ (if b then y else None) → y ≡ (if c then z else None) → x ≡ (if b && c then z else None)
two_tests true c x y z p q = p ∙ q
two_tests false c x y z p q = p

pub both : {A : Type 0} {x y z : Option A} {b c : Bool} → Goes x b y → Goes y c z → Goes x (b && c) z
both {x = x} {y = y} {z = z} {b = b} {c = c} p q = record { is = two_tests b c x y z p.is q.is }

-- a run that goes on in any case
pub always : {A : Type 0} {x y : Option A} → x ≡ y → Goes x true y
always p = record { is = p }

pub ends : {A : Type 0} {x y z : Option A} {b : Bool} → Goes x b y → y ≡ z → Goes x b z
ends {x = x} {b = b} p e = record { is = p.is ∙ ap (λ y. if b then y else None) e }

pub begins : {A : Type 0} {x y z : Option A} {b : Bool} → x ≡ y → Goes y b z → Goes x b z
begins e p = record { is = e ∙ p.is }

-- the same test in other words
pub tested : {A : Type 0} {x y : Option A} {b c : Bool} → b ≡ c → Goes x b y → Goes x c y
tested {x = x} {y = y} e p = record { is = p.is ∙ ap (λ b. if b then y else None) e }
