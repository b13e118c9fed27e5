use Rattle.std.proofs.Common.{◌≤◌, ℕ}
use Rattle.text_base.specs.ByteSet.{Has}
use Rattle.resolving.proofs.any_texts.run_at.Given as goal

abbrev pub invariant-loop-last : goal.invariant-loop-last
invariant-loop-last l = (l.first ≤ l.last) × ((byte : ℕ) → l.first ≤ byte → byte ≤ l.last → Has l.set byte)
