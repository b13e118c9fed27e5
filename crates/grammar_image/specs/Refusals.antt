-- Why no image is made.
use Rattle.std.specs.Prelude.{◌<◌, ℕ, List}
use Rattle.text_base.specs.declared.numbers.Nt as nt
use Rattle.text_base.specs.declared.letter.Letter.{Letter}
use Rattle.cfg_grammar.specs.declared.production.Production.{Production}
use Rattle.fst_core.specs.Items.{HasItems}
use Rattle.grammar_image.specs.declared.refusal.ImageRefusal.{ImageRefusal}
use Rattle.grammar_image.specs.declared.refusal.ImageRefusal.TheVariants.{Large, Memory}

-- so many items are over the limit, and the image has at least so many; want of memory has no cause
abbrev pub IsCause : {S : Type 0} → List Production → (S → ℕ → S → List Letter → Type 0) → nt.Nt → S → ℕ → ImageRefusal → Type 0
IsCause ps steps from first limit (Large items) = (limit < items) × HasItems ps steps from first items
IsCause ps steps from first limit Memory = Unit {0}
