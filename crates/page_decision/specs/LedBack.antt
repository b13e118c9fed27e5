-- Verdicts on an image whose derivation is led back to the grammar.
use Rattle.std.specs.Prelude.{◌≡◌, List, ⊤}
use Rattle.text_base.specs.declared.letter.Letter.{Letter}
use Rattle.cfg_grammar.specs.declared.grammar.Grammar.{Grammar}
use Rattle.derivations.specs.declared.derivation.Derivation.{Derivation}
use Rattle.derivations.specs.Stands.{IsDerivation}
use Rattle.grammar_image.specs.Echoes.{text_of}
use Rattle.summary_decision.specs.declared.verdict.Verdict.{Verdict}
use Rattle.summary_decision.specs.declared.verdict.Verdict.TheVariants.{Yes, No, Pairs, Tags}

-- a no has a derivation by the image
abbrev pub HasDerived : Grammar → Verdict → Type 0
HasDerived image (No derivation) =
    (w : List Letter) × IsDerivation image.productions.items derivation.nodes.nodes.items image.start w
HasDerived image verdict = ⊤

-- the same verdict, but that a derivation of a sentence of the image is one of the bytes of that sentence by the grammar
abbrev pub IsLedBack : Grammar → Grammar → Verdict → Verdict → Type 0
IsLedBack grammar image Yes led = led ≡ Yes
IsLedBack grammar image (No derivation) led = (source : Derivation) × (led ≡ No source)
    × ((w : List Letter) → IsDerivation image.productions.items derivation.nodes.nodes.items image.start w
    → IsDerivation grammar.productions.items source.nodes.nodes.items grammar.start (text_of w))
IsLedBack grammar image (Pairs count height) led = led ≡ Pairs count height
IsLedBack grammar image (Tags count height) led = led ≡ Tags count height
