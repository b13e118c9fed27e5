-- Members of lists by their places.
use Rattle.std.proofs.Common.{◌≡◌, ℕ, List, Some, subst, slice_get, Contains}
use Rattle.std.proofs.lemmas.Option.{slice_get_within, get_or_from_slice_get, slice_get-get_or}

pub contains_at : {X : Type 0} (xs : List X) (n : ℕ) (x : X) → slice_get xs n ≡ Some x → Contains xs x
contains_at xs n x h = (n, slice_get_within xs n x h, get_or_from_slice_get xs n x x h)

pub at_contains : {X : Type 0} (xs : List X) (x : X) → Contains xs x → (n : ℕ) × (slice_get xs n ≡ Some x)
at_contains {X} xs x c = (c.0, subst (λ (y : X). slice_get xs c.0 ≡ Some y) c.2 (slice_get-get_or xs c.0 x c.1))
