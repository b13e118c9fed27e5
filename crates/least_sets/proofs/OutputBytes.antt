-- A byte of an output is one that the operation adds, or comes of a byte of the input.
use Rattle.std.proofs.Common.{◌⊎◌, inl, inr, ℕ, List, refl}
use Rattle.std.specs.Prelude.{Contains}
use Rattle.op_system.specs.declared.op.Op.{Op}
use Rattle.op_system.specs.declared.op.Op.TheVariants as op
use Rattle.op_system.specs.Rel.{Rel}
use Rattle.op_system.specs.OpBytes.{OutputByte}
use Rattle.op_system.proofs.OutputBytes.{OutputByte-Rel}
use Rattle.least_sets.specs.Bytes.{Adds, Turns}

turned : (o : Op) (input : List ℕ) (c : ℕ) → OutputByte o (Contains input) c → Adds o c ⊎ ((b : ℕ) × Contains input b × Turns o b c)
unfolding Adds Turns
turned op.Same input c h = inr (c, h, refl)
turned op.Any input c h = inr (c, h, refl)
turned op.Html input c h = inr h
turned (op.Replace search with) input c (inl h) = inr (c, h, refl)
turned (op.Replace search with) input c (inr h) = inl h
turned (op.Cut start len) input c h = inr (c, h, refl)
turned op.Factor input c h = inr (c, h, refl)
turned op.Lower input c h = inr h
turned op.Upper input c h = inr h
turned op.First input c (inl h) = inr (c, h, inl refl)
turned op.First input c (inr h) = inr (h.0, h.1, inr h.2)
turned (op.Trim left right) input c h = inr (c, h, refl)
turned op.Breaks input c (inl h) = inr (c, h, inl refl)
turned op.Breaks input c (inr h) = inr (h.1.0, h.1.1, inr (h.0, h.1.2))
turned op.Url input c h = inr h
turned op.RawUrl input c h = inr h
turned op.Slashes input c h = inr h
turned (op.Piece sep) input c h = inr (c, h, refl)

pub output_byte : (o : Op) (input output : List ℕ) → Rel o input output → (c : ℕ) → Contains output c → Adds o c ⊎ ((b : ℕ) × Contains input b × Turns o b c)
output_byte o input output r c h = turned o input c (OutputByte-Rel o input output r c h)
