-- Images whose sentences are the texts of a grammar with page tokens between their bytes.
use Rattle.std.specs.Prelude.{ℕ, ◌≡◌, List, [], ◌∷◌, map}
use Rattle.text_base.specs.declared.letter.Letter.{Letter}
use Rattle.text_base.specs.declared.letter.Letter.TheVariants.{OfByte}
use Rattle.text_base.specs.declared.numbers.Nt as nt
use Rattle.cfg_grammar.specs.declared.production.Production.{Production}
use Rattle.derivations.specs.Bytes.{bytes_in}
use Rattle.grammar_chart.specs.declared.keys.Passage.{Passage}
use Rattle.chart_grammar.specs.Sources.{AreSources, ArePutOut}

-- what is put out as a byte is read has that byte and no other, and what is put out at the end has none
abbrev pub CopiesBytes : nt.Nt → List Passage → List Production → Type 0
CopiesBytes start fs qs = ArePutOut start fs qs (λ s byte t w. bytes_in w ≡ byte ∷ []) (λ t w. bytes_in w ≡ [])

-- the bytes among letters, as letters
abbrev pub text_of : List Letter → List Letter
text_of w = map OfByte (bytes_in w)

-- the productions are those of an image that copies texts: with some passages they come of the grammar's productions at these places
pub record IsSourcedImage (ps : List Production) (start : nt.Nt) (sources : List ℕ) (qs : List Production) : Type 0 where
  pub passages : List Passage
  pub come : AreSources ps start passages sources qs
  pub copy : CopiesBytes start passages qs
