use Rattle.std.proofs.Common.{◌<◌, ℕ}
use Rattle.text_base.specs.ByteSet.{Has}
use Rattle.op_bytes.proofs.passing.has_more.Given as goal

abbrev pub invariant-loop-byte : goal.invariant-loop-byte
invariant-loop-byte l = (b : ℕ) → b < l.byte → Has l.extra b → Has l.set b
