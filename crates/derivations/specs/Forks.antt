-- What is kept of a derivation for writing: forks, each of two pieces that are a byte or a fork before it.
use Rattle.std.specs.Prelude.{◌≡◌, ◌≤◌, ℕ, ◌+◌, List, [], ◌∷◌, ◌++◌, Option, Some, None, slice_get, slice_index_or}
use Rattle.derivations.specs.declared.fork.Piece.{Piece}
use Rattle.derivations.specs.declared.fork.Piece.TheVariants as piece
use Rattle.derivations.specs.declared.fork.Fork.{Fork}

-- the bytes of a piece, where those of forks are known
abbrev pub piece_bytes : List (List ℕ) → Piece → List ℕ
piece_bytes known (piece.Byte b) = b ∷ []
piece_bytes known (piece.Fork n) = slice_index_or known n []

-- the bytes of a fork, those of its first piece before those of its second, where those of forks before it are known
abbrev pub fork_bytes : List (List ℕ) → Fork → List ℕ
fork_bytes known f = piece_bytes known f.first ++ piece_bytes known f.second

-- the bytes of forks in turn, behind those that are known
abbrev pub forks_bytes : List (List ℕ) → List Fork → List (List ℕ)
forks_bytes known [] = known
forks_bytes known (f ∷ forks) = forks_bytes (known ++ fork_bytes known f ∷ []) forks

-- the bytes of a piece
abbrev pub bytes_at : List Fork → Piece → List ℕ
bytes_at forks p = piece_bytes (forks_bytes [] forks) p

-- nothing has no bytes
abbrev pub maybe_bytes : List Fork → Option Piece → List ℕ
maybe_bytes forks None = []
maybe_bytes forks (Some p) = bytes_at forks p

-- how many forks there must be for a piece
abbrev pub rank : Piece → ℕ
rank (piece.Byte b) = 0
rank (piece.Fork n) = n + 1

-- how many forks there must be for a piece, and none for nothing
abbrev pub maybe_rank : Option Piece → ℕ
maybe_rank None = 0
maybe_rank (Some p) = rank p

-- each fork names forks before it
pub record AreForks (forks : List Fork) : Type 0 where
  pub first : (n : ℕ) (f : Fork) → slice_get forks n ≡ Some f → rank f.first ≤ n
  pub second : (n : ℕ) (f : Fork) → slice_get forks n ≡ Some f → rank f.second ≤ n
