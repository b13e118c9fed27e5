-- What it means that nodes of a derivation of an image lead back to the grammar.
use Rattle.std.specs.Prelude.{◌≡◌, ◌<◌, ℕ, suc, Bool, true, List, Option, Some, slice_get, length}
use Rattle.text_base.specs.declared.letter.Letter.{Letter}
use Rattle.cfg_grammar.specs.declared.symbol.Symbol.{Symbol}
use Rattle.cfg_grammar.specs.declared.production.Production.{Production}
use Rattle.derivations.specs.declared.node.Part.{Part}
use Rattle.derivations.specs.declared.node.Part.TheVariants.{Inner}
use Rattle.derivations.specs.declared.node.Node.{Node}
use Rattle.derivations.specs.Stands.{Stands}
use Rattle.grammar_chart.specs.declared.keys.Passage.{Passage}
use Rattle.chart_grammar.specs.Lifts.{nt_of}
use Rattle.grammar_image.specs.Echoes.{text_of}
use Rattle.grammar_image.specs.Marks.{marked_at}

-- the part is one that stands for the symbol, with the bytes of the sentence
abbrev pub LeadsTo : List Production → List Node → Option Part → Symbol → List Letter → Type 0
LeadsTo ps made lead a w = (p : Part) × (lead ≡ Some p) × Stands ps made p a (text_of w)

-- each marked node that stands for a passage leads back to what stands for the passage's symbol
abbrev pub AreTraces : List Production → List Passage → List Production → List Node → List Bool → List Node → List (Option Part) → Type 0
AreTraces ps fs qs nodes marks made leads =
    (n k : ℕ) (lead : Option Part) (f : Passage) (w : List Letter) → slice_get leads n ≡ Some lead → marked_at marks n ≡ true
    → slice_get fs k ≡ Some f → Stands qs nodes (Inner n) (nt_of (suc k)) w → LeadsTo ps made lead f.symbol w

-- each node that is led back to is there
abbrev pub AreMade : List Node → List (Option Part) → Type 0
AreMade made leads = (n m : ℕ) → slice_get leads n ≡ Some (Some (Inner m)) → m < length made
