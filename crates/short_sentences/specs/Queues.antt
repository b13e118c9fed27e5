-- A queue of places with lengths, from which a least length is drawn first.
use Rattle.std.specs.Prelude.{◌≡◌, ◌⊎◌, ℕ, ◌≤◌, List, map, Contains}
use Rattle.std.specs.BinaryHeap.{heap_items, heap_len}
use Rattle.short_sentences.specs.declared.queue.Queue.{Queue}

-- what waits: a length and a place each
abbrev pub waiting : Queue → List (ℕ × ℕ)
waiting queue = map (λ r. r.0) (heap_items queue.heap)

-- one more waits
pub record Puts (old new : Queue) (l place : ℕ) : Type 0 where
  pub has : Contains (waiting new) (l, place)
  pub keeps : (x : ℕ × ℕ) → Contains (waiting old) x → Contains (waiting new) x

-- what is drawn has a least length, and the others still wait
pub record Draws (old new : Queue) (x : ℕ × ℕ) : Type 0 where
  pub least : (y : ℕ × ℕ) → Contains (waiting old) y → x.0 ≤ y.0
  pub rest : (y : ℕ × ℕ) → Contains (waiting old) y → (y ≡ x) ⊎ Contains (waiting new) y

-- how many wait
abbrev pub waiting_count : Queue → ℕ
waiting_count queue = heap_len queue.heap
