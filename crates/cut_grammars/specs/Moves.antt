-- What the machine that counts hands out. No public clause cites these.
use Rattle.std.specs.Prelude.{◌≡◌, ◌<◌, ◌≤◌, ◌+◌, ◌⊎◌, ℕ, List, [], ◌∷◌}
use Rattle.std.specs.declared.vec.Vec.{Vec}
use Rattle.std.specs.declared.alloc.Global.{Global}
use Rattle.text_base.specs.declared.byte_range.ByteRange.{ByteRange}
use Rattle.fst_core.specs.declared.machine.Move.{Move}
use Rattle.fst_core.specs.declared.out.Out.{Out}
use Rattle.fst_core.specs.declared.out.Out.TheVariants.{Same}

-- one move by all bytes of the range to the state, which copies them
abbrev pub IsOneMove : ByteRange → ℕ → List (Move ℕ) → Type 0
IsOneMove range to moves = (m : Move ℕ) × (moves ≡ m ∷ []) × (m.range ≡ range) × (m.out.items ≡ Same ∷ []) × (m.to ≡ to)

-- such a move where a further byte may be read, and else none
abbrev pub AreMoves : ℕ → ℕ → ByteRange → List (Move ℕ) → Type 0
AreMoves most s range moves = ((s < most) × IsOneMove range (s + 1) moves) ⊎ ((most ≤ s) × (moves ≡ []))

-- one output, which is empty
abbrev pub IsNothing : List (Vec Out Global) → Type 0
IsNothing lasts = (out : Vec Out Global) × (lasts ≡ out ∷ []) × (out.items ≡ [])
