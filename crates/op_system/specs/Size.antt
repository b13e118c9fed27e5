-- How large an operation is: its literal bytes, and the absolute values of its numbers.
use Rattle.std.specs.Prelude.{ℕ, ◌+◌, ℤ, nat_abs, Option, None, Some, length}
use Rattle.op_system.specs.declared.op.Op.{Op}
use Rattle.op_system.specs.declared.op.Op.TheVariants.{Replace, Cut, Piece}

-- the absolute value of a length, 0 where there is none
abbrev pub size_of_length : Option ℤ → ℕ
size_of_length None = 0
size_of_length (Some len) = nat_abs len

-- the size of an operation; 0 where it has neither literal bytes nor numbers
abbrev pub size_of : Op → ℕ
size_of (Replace search with) = length search + length with
size_of (Cut start len) = nat_abs start + size_of_length len
size_of (Piece sep) = length sep
size_of _ = 0
