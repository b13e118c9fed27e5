-- An image of a chart of which only what it is made of is left.
use Rattle.std.proofs.Common.{◌≡◌, ◌+◌, ◌≤◌, suc, List, length, subst}
use Rattle.text_base.specs.declared.numbers.Nt as nt
use Rattle.cfg_grammar.specs.declared.grammar.Grammar.{Grammar}
use Rattle.cfg_grammar.specs.declared.production.Production.{Production}
use Rattle.grammar_chart.specs.declared.keys.Begun.{Begun}
use Rattle.grammar_chart.specs.declared.keys.Passage.{Passage}
use Rattle.grammar_chart.specs.declared.keys.Reading.{Reading}
use Rattle.grammar_chart.specs.declared.chart.Chart.{Chart}
use Rattle.chart_grammar.specs.declared.lifts.Last.{Last}
use Rattle.chart_grammar.specs.Lifts.{AreLifts}
use Rattle.chart_grammar.specs.Paid.{IsPaid}
use Rattle.chart_grammar.specs.Images.{IsImageOf}

-- the image of what is left is the image of the whole
pub image_of_whole : (ps : List Production) (whole rest : Chart) (ls : List Last) (g : Grammar) → rest.from ≡ whole.from → rest.begun.items ≡ whole.begun.items → rest.passages.keys ≡ whole.passages.keys → rest.readings.items ≡ whole.readings.items → IsImageOf ps rest ls g → IsImageOf ps whole ls g
image_of_whole ps whole rest ls g from begun passages readings h =
    let fr = (h.outputs).fronts.keys in
    let L : nt.Nt → List Begun → List Passage → List Reading → Type 0 = λ a bs fs rs. AreLifts ps a bs fs rs fr (suc (length fs)) ls g.productions.items in
    let P : nt.Nt → List Passage → List Reading → Type 0 = λ a fs rs. IsPaid a fs rs ls (suc (length fs)) h.wholes h.outputs in
    record {
      starts = h.starts;
      outputs = h.outputs;
      lifts = subst (λ (a : nt.Nt). L a whole.begun.items whole.passages.keys whole.readings.items) from
          (subst (λ (bs : List Begun). L rest.from bs whole.passages.keys whole.readings.items) begun
          (subst (λ (fs : List Passage). L rest.from rest.begun.items fs whole.readings.items) passages
          (subst (λ (rs : List Reading). L rest.from rest.begun.items rest.passages.keys rs) readings h.lifts)));
      wholes = h.wholes;
      few_wholes = subst (λ (bs : List Begun). h.wholes ≤ length bs) begun h.few_wholes;
      paid = subst (λ (a : nt.Nt). P a whole.passages.keys whole.readings.items) from
          (subst (λ (fs : List Passage). P rest.from fs whole.readings.items) passages
          (subst (λ (rs : List Reading). P rest.from rest.passages.keys rs) readings h.paid));
      different_fronts = h.different_fronts;
      different_said = h.different_said;
      different_heads = h.different_heads;
      count = subst (λ (fs : List Passage). g.count ≡ suc (length fs) + length fr) passages h.count;
      few = h.few;
    }
