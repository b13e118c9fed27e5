-- One byte more of a page.
use Rattle.std.proofs.Common.{◌≡◌, ◌++◌, ◌∷◌, ℕ, List, [], refl}
use Rattle.reader_fronts.specs.Laws.{state_over}

-- the state behind one byte more
pub one_more : {S : Type 0} (next : S → ℕ → S) (s : S) (bytes : List ℕ) (b : ℕ) → state_over next s (bytes ++ b ∷ []) ≡ next (state_over next s bytes) b
one_more next s [] b = refl
one_more next s (x ∷ xs) b = one_more next (next s x) xs b
