-- What holds of productions stays as more are written and more fronts are numbered.
use Rattle.std.proofs.Common.{ℕ, List, Contains}
use Rattle.text_base.specs.declared.byte_range.ByteRange.{ByteRange}
use Rattle.text_base.specs.declared.numbers.Nt as nt
use Rattle.cfg_grammar.specs.declared.production.Production.{Production}
use Rattle.numbered_sets.specs.Numbers.{Keeps}
use Rattle.grammar_chart.specs.declared.keys.Begun.{Begun}
use Rattle.grammar_chart.specs.declared.keys.Passage.{Passage}
use Rattle.grammar_chart.specs.declared.keys.Reading.{Reading}
use Rattle.chart_grammar.specs.declared.fronts.Front.{Front}
use Rattle.chart_grammar.specs.declared.lifts.Last.{Last}
use Rattle.chart_grammar.specs.Lifts.{ReadLift, EndLift}
use Rattle.chart_grammar.specs.Writing.{WholeMade, WholeHas, ReadMade, ReadHas, EndMade, EndHas}
use Rattle.chart_grammar.proofs.FrontLemmas.{stands_kept}

pub read_lift_kept : (fs : List Passage) (base : ℕ) (w v : List Front) (r : Reading) (part : ByteRange) (p : Production) → Keeps w v → ReadLift fs w base r part p → ReadLift fs v base r part p
read_lift_kept fs base w v r part p k l =
    record {
      number = l.number;
      passed = l.passed;
      low = l.low;
      high = l.high;
      symbols = l.symbols;
      outs = l.outs;
      front = l.front;
      stands = stands_kept base w v l.front l.symbols k l.stands;
      left = l.left;
      right = l.right;
    }

pub end_lift_kept : (from : nt.Nt) (fs : List Passage) (base : ℕ) (w v : List Front) (l : Last) (p : Production) → Keeps w v → EndLift from fs w base l p → EndLift from fs v base l p
end_lift_kept from fs base w v last p k l =
    record {
      number = l.number;
      passed = l.passed;
      range = l.range;
      symbols = l.symbols;
      outs = l.outs;
      front = l.front;
      stands = stands_kept base w v l.front l.symbols k l.stands;
      left = l.left;
      right = l.right;
    }

pub whole_made : (ps : List Production) (fs : List Passage) (w v : List Front) (b : Begun) (p : Production) → Keeps w v → WholeMade ps fs w b p → WholeMade ps fs v b p
whole_made ps fs w v b p k h = h

pub whole_has : (ps : List Production) (fs : List Passage) (w v : List Front) (b : Begun) (qs rs : List Production) → Keeps w v → ((p : Production) → Contains qs p → Contains rs p) → WholeHas ps fs w b qs → WholeHas ps fs v b rs
whole_has ps fs w v b qs rs k more h = λ q none placed passed read.
    let x = h q none placed passed read in
    (x.0, more x.0 x.1, x.2)

pub read_made : (fs : List Passage) (base : ℕ) (w v : List Front) (r : Reading) (p : Production) → Keeps w v → ReadMade fs base w r p → ReadMade fs base v r p
read_made fs base w v r p k h = (h.0, read_lift_kept fs base w v r h.0 p k h.1)

pub read_has : (fs : List Passage) (base : ℕ) (w v : List Front) (r : Reading) (qs rs : List Production) → Keeps w v → ((p : Production) → Contains qs p → Contains rs p) → ReadHas fs base w r qs → ReadHas fs base v r rs
read_has fs base w v r qs rs k more h = λ byte within passed.
    let x = h byte within passed in
    (x.0, x.1, x.2, more x.1 x.3, read_lift_kept fs base w v r x.0 x.1 k x.4)

pub end_made : (from : nt.Nt) (fs : List Passage) (base : ℕ) (w v : List Front) (l : Last) (p : Production) → Keeps w v → EndMade from fs base w l p → EndMade from fs base v l p
end_made from fs base w v l p k h = end_lift_kept from fs base w v l p k h

pub end_has : (from : nt.Nt) (fs : List Passage) (base : ℕ) (w v : List Front) (l : Last) (qs rs : List Production) → Keeps w v → ((p : Production) → Contains qs p → Contains rs p) → EndHas from fs base w l qs → EndHas from fs base v l rs
end_has from fs base w v l qs rs k more h = λ passed. let x = h passed in (x.0, more x.0 x.1, end_lift_kept from fs base w v l x.0 k x.2)
