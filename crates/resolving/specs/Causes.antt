-- Why no grammar is made of a system.
use Rattle.std.specs.Prelude.{◌<◌, ℕ}
use Rattle.op_system.specs.declared.system.OpSystem.{OpSystem}
use Rattle.grammar_image.specs.declared.refusal.ImageRefusal.{ImageRefusal}
use Rattle.grammar_image.specs.declared.refusal.ImageRefusal.TheVariants.{Large, Memory}
use Rattle.resolving.specs.Drafted.{IsTooLarge}

-- so many items are over the limit, and the image of some operation has at least so many; want of memory has no cause
abbrev pub IsCause : OpSystem → ℕ → ImageRefusal → Type 0
IsCause s limit (Large items) = (limit < items) × IsTooLarge s items
IsCause s limit Memory = Unit {0}
