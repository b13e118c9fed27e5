use Rattle.std.proofs.Common.{◌<◌, ℕ, take, Contains}
use Rattle.std.specs.Prelude.{◌↔◌, ◌⊎◌}
use Rattle.text_base.specs.ByteSet.{Has}
use Rattle.op_bytes.proofs.turning.add_text.Given as goal

abbrev pub invariant-loop-byte : goal.invariant-loop-byte
invariant-loop-byte l = (c : ℕ) → c < 256 → Has l.set c ↔ (Has l.initial.set c ⊎ Contains (take l.byte-index l.text) c)
