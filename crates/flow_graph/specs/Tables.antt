-- Tables of pairs, seen as lists.
use Rattle.std.specs.Prelude.{ℕ, List, map}
use Rattle.std.specs.declared.vec.Vec.{Vec}
use Rattle.std.specs.declared.alloc.Global.{Global}

-- the lists of pairs, as vectors hold them
abbrev pub pairs_seen : List (Vec (ℕ × ℕ) Global) → List (List (ℕ × ℕ))
pairs_seen lists = map (λ (v : Vec (ℕ × ℕ) Global). v.items) lists
