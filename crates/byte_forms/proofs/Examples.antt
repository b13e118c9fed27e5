-- Worked classes, and near misses.
use Rattle.std.proofs.Common.{◌≡◌, false, not, refl}
use Rattle.std.specs.Prelude.{◌==◌, ◌||◌, None}
use Rattle.derivatives.specs.Expressions.{nothing, range, either}
use Rattle.byte_forms.specs.Ranges.{ranges_below}

-- neighbours are one range
three : ranges_below (λ b. b == 1 || b == 2 || b == 4) 6 None nothing ≡ either (range 1 2) (range 4 4)
three = refl

-- a range ends at the bound
all_but_one : ranges_below (λ b. not (b == 3)) 8 None nothing ≡ either (range 0 2) (range 4 7)
all_but_one = refl

-- and where no byte passes, nothing is matched
none : ranges_below (λ b. false) 8 None nothing ≡ nothing
none = refl
