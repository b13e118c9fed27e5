-- Answers on an image whose derivation is led back to the grammar.
use Rattle.std.specs.Prelude.{◌≡◌, List, ⊤}
use Rattle.text_base.specs.declared.letter.Letter.{Letter}
use Rattle.cfg_grammar.specs.declared.grammar.Grammar.{Grammar}
use Rattle.derivations.specs.declared.derivation.Derivation.{Derivation}
use Rattle.derivations.specs.Stands.{IsDerivation}
use Rattle.grammar_image.specs.Echoes.{text_of}
use Rattle.short_sentences.specs.declared.answer.ShortAnswer.{ShortAnswer}
use Rattle.short_sentences.specs.declared.answer.ShortAnswer.TheVariants.{Whole, Shortest, Pairs, Tags}

-- a derivation that is found is one by the image
abbrev pub HasDerived : Grammar → ShortAnswer → Type 0
HasDerived image (Shortest derivation) =
    (w : List Letter) × IsDerivation image.productions.items derivation.nodes.nodes.items image.start w
HasDerived image answer = ⊤

-- the same answer, but that a derivation of a sentence of the image is one of the bytes of that sentence by the grammar
abbrev pub IsLedBack : Grammar → Grammar → ShortAnswer → ShortAnswer → Type 0
IsLedBack grammar image Whole led = led ≡ Whole
IsLedBack grammar image (Shortest derivation) led = (source : Derivation) × (led ≡ Shortest source)
    × ((w : List Letter) → IsDerivation image.productions.items derivation.nodes.nodes.items image.start w
    → IsDerivation grammar.productions.items source.nodes.nodes.items grammar.start (text_of w))
IsLedBack grammar image (Pairs count l) led = led ≡ Pairs count l
IsLedBack grammar image (Tags count l) led = led ≡ Tags count l
