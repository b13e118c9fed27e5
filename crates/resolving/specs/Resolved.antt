-- What a grammar is that stands for a system.
use Rattle.std.specs.Prelude.{◌≡◌, ◌↔◌, ℕ, List, map}
use Rattle.text_base.specs.declared.letter.Letter.{Letter}
use Rattle.text_base.specs.declared.letter.Letter.TheVariants.{OfByte}
use Rattle.cfg_grammar.specs.declared.symbol.Symbol.{Symbol}
use Rattle.cfg_grammar.specs.declared.production.Production.{Production}
use Rattle.cfg_grammar.specs.Derives.{Derives}
use Rattle.op_system.specs.declared.system.OpSystem.{OpSystem}
use Rattle.op_bytes.specs.Texts.{TextOf}

-- the letters are the bytes of a text of the set
abbrev pub HasLetters : OpSystem → Symbol → List Letter → Type 0
HasLetters s symbol w = (text : List ℕ) × (w ≡ map OfByte text) × TextOf s symbol text

-- the productions derive exactly the texts of the set
abbrev pub AreExact : OpSystem → List Production → Symbol → Type 0
AreExact s productions symbol = (w : List Letter) → Derives productions symbol w ↔ HasLetters s symbol w
