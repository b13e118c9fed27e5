-- The number of bytes before a place, in a loop over the places.
use Rattle.std.proofs.Common.{◌≡◌, ℕ, zero, suc, ◌+◌, ◌<◌, ◌≤◌, Bool, true, false, cond, List, [], ◌∷◌, length, drop, refl, arith, add-one}
use Rattle.lexical_grammar.specs.Characters.{before}

before_at : (test : List ℕ → Bool) (bytes : List ℕ) (i : ℕ) → i < length bytes → before test (drop i bytes) ≡ cond (test (drop i bytes)) 0 (suc (before test (drop (suc i) bytes)))
before_at test [] i h = absurd (omega arith)
before_at test (b ∷ bytes) zero h = refl
before_at test (b ∷ bytes) (suc i) h = before_at test bytes i (omega arith)

-- what a place decides
pub before_drop : (test : List ℕ → Bool) (bytes : List ℕ) (i : ℕ) → i < length bytes → before test (drop i bytes) ≡ cond (test (drop i bytes)) 0 (suc (before test (drop (i + 1) bytes)))
before_drop test bytes i h = rw add-one (before_at test bytes i h)

-- the loop goes on, or has found its place, or is at the end
pub before_more : (test : List ℕ → Bool) (bytes : List ℕ) (i : ℕ) → i < length bytes → test (drop i bytes) ≡ false → before test bytes ≡ i + before test (drop i bytes) → before test bytes ≡ (i + 1) + before test (drop (i + 1) bytes)
before_more test bytes i h e so_far = omega (arith, so_far, rw e at (before_drop test bytes i h))

pub before_found : (test : List ℕ → Bool) (bytes : List ℕ) (i : ℕ) → i < length bytes → test (drop i bytes) ≡ true → before test bytes ≡ i + before test (drop i bytes) → i ≡ before test bytes
before_found test bytes i h e so_far = omega (arith, so_far, rw e at (before_drop test bytes i h))

before_past : (test : List ℕ → Bool) (bytes : List ℕ) (i : ℕ) → length bytes ≤ i → before test (drop i bytes) ≡ 0
before_past test [] zero h = refl
before_past test [] (suc i) h = refl
before_past test (b ∷ bytes) zero h = absurd (omega arith)
before_past test (b ∷ bytes) (suc i) h = before_past test bytes i (omega arith)

pub before_end : (test : List ℕ → Bool) (bytes : List ℕ) (i : ℕ) → length bytes ≤ i → before test bytes ≡ i + before test (drop i bytes) → before test bytes ≡ i
before_end test bytes i h so_far = omega (arith, so_far, before_past test bytes i h)
