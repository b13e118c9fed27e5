-- From what a machine puts out to the bytes that it copies.
use Rattle.std.proofs.Common.{◌≡◌, ℕ, List, [], ◌∷◌}
use Rattle.text_base.specs.declared.letter.Letter.{Letter}
use Rattle.text_base.specs.declared.numbers.Nt as nt
use Rattle.cfg_grammar.specs.declared.production.Production.{Production}
use Rattle.derivations.specs.Bytes.{bytes_in}
use Rattle.grammar_chart.specs.declared.keys.Passage.{Passage}
use Rattle.chart_grammar.specs.Sources.{ArePutOut}
use Rattle.grammar_image.specs.Echoes.{CopiesBytes}

-- an image under a machine of which each step puts out its byte and no other, and each end none
pub copies_from : (start : nt.Nt) (fs : List Passage) (qs : List Production) (Puts : ℕ → ℕ → ℕ → List Letter → Type 0) (Closes : ℕ → List Letter → Type 0)
    → ((s byte t : ℕ) (w : List Letter) → Puts s byte t w → bytes_in w ≡ byte ∷ []) → ((t : ℕ) (w : List Letter) → Closes t w → bytes_in w ≡ [])
    → ArePutOut start fs qs Puts Closes → CopiesBytes start fs qs
copies_from start fs qs Puts Closes steps ends are = record {
  reads = λ n s t range w at d. (let r = are.reads n s t range w at d in (r.0, r.1, steps s r.0 t w r.2));
  closes = λ q n t front w among left at right d. ends t w (are.closes q n t front w among left at right d);
}
