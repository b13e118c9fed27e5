use Rattle.std.proofs.Common.{◌<◌, ℕ}
use Rattle.std.specs.Prelude.{◌↔◌}
use Rattle.text_base.specs.ByteSet.{Has}
use Rattle.least_sets.specs.Bytes.{Turns}
use Rattle.op_bytes.proofs.turning.turned.Given as goal

abbrev pub invariant-loop-byte : goal.invariant-loop-byte
invariant-loop-byte l = (c : ℕ) → c < 256 → Has l.set c ↔ ((b : ℕ) × (b < l.byte) × (b < 256) × Has l.own b × Turns l.op b c)
