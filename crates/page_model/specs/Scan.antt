-- Scanning characters from the left.
use Rattle.std.specs.Prelude.{◌≡◌, ℕ, Bool, false, not, ◌==◌, if◌then◌else◌, List, [], ◌∷◌, Option, Some, None}

-- the characters that pass, up to the first that does not
abbrev pub front : (ℕ → Bool) → List ℕ → List ℕ
front test [] = []
front test (c ∷ cs) = if test c then c ∷ front test cs else []

-- what stands behind them
abbrev pub beyond : (ℕ → Bool) → List ℕ → List ℕ
beyond test [] = []
beyond test (c ∷ cs) = if test c then beyond test cs else c ∷ cs

-- what stands behind a word, where the characters begin with it
abbrev pub strip : List ℕ → List ℕ → Option (List ℕ)
strip [] cs = Some cs
strip (w ∷ word) [] = None
strip (w ∷ word) (c ∷ cs) = if w == c then strip word cs else None

-- the character put before what stands before the occurrence, where there is one
abbrev pub put_first : ℕ → Option (List ℕ × List ℕ) → Option (List ℕ × List ℕ)
put_first c None = None
put_first c (Some s) = Some (c ∷ s.0, s.1)

-- the word stands at the head, with this behind it; else what was found later
abbrev pub found_or : Option (List ℕ) → Option (List ℕ × List ℕ) → Option (List ℕ × List ℕ)
found_or None later = later
found_or (Some rest) later = Some ([], rest)

-- what stands before the first occurrence of a word, and what stands behind that
abbrev pub until : List ℕ → List ℕ → Option (List ℕ × List ℕ)
until word [] = None
until word (c ∷ cs) = found_or (strip word (c ∷ cs)) (put_first c (until word cs))

-- and then what the second gives for it
abbrev pub then_some : {X Y : Type 0} → Option X → (X → Option Y) → Option Y
then_some None next = None
then_some (Some x) next = next x

-- the characters do not begin with one that passes
abbrev pub Stops : (ℕ → Bool) → List ℕ → Type 0
Stops test [] = Unit {0}
Stops test (c ∷ cs) = test c ≡ false

-- the character is not this one
abbrev pub is_other : ℕ → ℕ → Bool
is_other end c = not (c == end)
