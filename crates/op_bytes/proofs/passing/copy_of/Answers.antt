use Rattle.std.proofs.Common.{◌<◌, ℕ, Bool, List, subst}
use Rattle.std.specs.Prelude.{◌⊎◌, ◌↔◌}
use Rattle.text_base.specs.ByteSet.{Has}
use Rattle.op_bytes.proofs.OpLemmas.{copied}
use Rattle.op_bytes.proofs.passing.copy_of.Goals as goal

pub returns : goal.returns
returns c = copied c.args.set.now c.join.new.self (subst (λ (e : List Bool). (b : ℕ) → b < 256 → Has c.join.new.self b ↔ (Has e b ⊎ Has c.args.set.now b)) c.empty-copy.ensures c.join.ensures)
