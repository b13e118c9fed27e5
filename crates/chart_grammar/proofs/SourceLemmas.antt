-- Where the productions of an image come from.
use Rattle.std.proofs.Common.{◌≡◌, ℕ, ◌+◌, inl, inr, suc, List, [], ◌∷◌, ◌++◌, length, length-append, Contains, refl, sym, ◌∙◌, ap, subst, arith, Some, slice_get}
use Rattle.std.proofs.lemmas.Option.{slice_get_within}
use Rattle.text_base.specs.declared.byte_range.ByteRange.{ByteRange}
use Rattle.text_base.specs.declared.numbers.Nt as nt
use Rattle.cfg_grammar.specs.declared.symbol.Symbol.{Symbol}
use Rattle.cfg_grammar.specs.declared.symbol.Symbol.TheVariants.{Range, Nt}
use Rattle.cfg_grammar.specs.declared.production.Right.{Right}
use Rattle.cfg_grammar.specs.declared.production.Right.TheVariants.{Empty, One, Two}
use Rattle.cfg_grammar.specs.declared.production.Production.{Production}
use Rattle.grammar_chart.specs.declared.keys.Read.{Read}
use Rattle.grammar_chart.specs.declared.keys.Read.TheVariants.{Nothing, First, Both}
use Rattle.grammar_chart.specs.declared.keys.Begun.{Begun}
use Rattle.grammar_chart.specs.declared.keys.Passage.{Passage}
use Rattle.grammar_chart.specs.declared.keys.Reading.{Reading}
use Rattle.grammar_chart.specs.Rules.{last_by, last_of}
use Rattle.grammar_chart.proofs.ChartLemmas.{some_same}
use Rattle.grammar_chart.proofs.MemberLemmas.{at_old, longer}
use Rattle.chart_grammar.specs.declared.fronts.Front.{Front}
use Rattle.chart_grammar.specs.declared.lifts.Last.{Last}
use Rattle.chart_grammar.specs.declared.saying.Outputs.{Outputs}
use Rattle.chart_grammar.specs.Lifts.{RightLift, WholeLift, FrontLift, EndLift, IsLift, whole, of_reading, of_front, of_end, AreLifts}
use Rattle.chart_grammar.specs.Written.{WritesBehind, WritesAll}
use Rattle.chart_grammar.specs.Writing.{ReadMade, ReadHas, EndMade, EndHas}
use Rattle.chart_grammar.specs.Sources.{Passes, ComesOf, IsOfOutput, AllComeOf, NoneIsOfToken, AreSources}
use Rattle.chart_grammar.proofs.BehindLemmas.{at_behind, behind_both, behind_weaker}

-- what is read of a right side leads from the one state to the other
lift_passes : (fs : List Passage) (right : Right) (s : ℕ) (read : Read) (lifted : Right) → RightLift fs right s read lifted → Passes fs right s (last_by read s) lifted
lift_passes fs Empty s Nothing lifted l = (refl, l)
lift_passes fs Empty s (First t) lifted l = absurd l
lift_passes fs Empty s (Both t u) lifted l = absurd l
lift_passes fs (One x) s Nothing lifted l = absurd l
lift_passes fs (One x) s (First t) lifted l = l
lift_passes fs (One x) s (Both t u) lifted l = absurd l
lift_passes fs (Two x y) s Nothing lifted l = absurd l
lift_passes fs (Two x y) s (First t) lifted l = absurd l
lift_passes fs (Two x y) s (Both t u) lifted l = (t, l.0, l.1, l.2, l.3, l.4)

pub whole_comes : (ps : List Production) (fs : List Passage) (b : Begun) (q : Production) → WholeLift ps fs b q → ComesOf ps fs b.place q
whole_comes ps fs b q l =
    record {
      production = l.production;
      placed = l.placed;
      from = b.from;
      to = last_of b;
      number = l.number;
      passed = l.passed;
      left = l.left;
      right = lift_passes fs (l.production).right b.from b.read q.right l.right;
    }

-- nothing comes of anything yet
pub come_none : (ps : List Production) (fs : List Passage) (sources : List ℕ) (qs : List Production) → sources ≡ [] → qs ≡ [] → AllComeOf ps fs sources qs
come_none ps fs sources qs e f =
    record {
      long = ap length e ∙ sym (ap length f);
      comes = λ k place q at. let w = slice_get_within sources k place at in absurd (omega (arith, w, ap length e));
    }

-- one more is pushed, with its place
pub come_pushed : (ps : List Production) (fs : List Passage) (sources more : List ℕ) (qs new : List Production) (place : ℕ) (q : Production) → more ≡ sources ++ place ∷ [] → new ≡ qs ++ q ∷ [] → ComesOf ps fs place q → AllComeOf ps fs sources qs → AllComeOf ps fs more new
come_pushed ps fs sources more qs new place q e f one before =
    record {
      long = (let a = ap length e ∙ length-append sources (place ∷ []) in let b = ap length f ∙ length-append qs (q ∷ []) in let l = before.long in omega (arith, a, b, l));
      comes = λ k there p at found. elim (at_behind sources place k there (subst (λ (xs : List ℕ). slice_get xs k ≡ Some there) e at)) [
        | inl was ↦ elim (at_behind qs q k p (subst (λ (xs : List Production). slice_get xs k ≡ Some p) f found)) [
          | inl is ↦ before.comes k there p was is
          | inr last ↦ let w = slice_get_within sources k there was in let l = before.long in let n = last.0 in absurd (omega (arith, w, l, n))
        ]
        | inr here ↦ elim (at_behind qs q k p (subst (λ (xs : List Production). slice_get xs k ≡ Some p) f found)) [
          | inl is ↦ let w = slice_get_within qs k p is in let l = before.long in let n = here.0 in absurd (omega (arith, w, l, n))
          | inr last ↦ subst (λ (y : ℕ). ComesOf ps fs y p) here.1 (subst (λ (x : Production). ComesOf ps fs place x) last.1 one)
        ]
      ];
    }

same_left : (a b : ℕ) → ◌≡◌ {A = nt.Nt} (record { 0 = a }) (record { 0 = b }) → a ≡ b
same_left a b e = ap (λ (n : nt.Nt). n.0) e

no_range : (f g : Passage) (r : ByteRange) (a : nt.Nt) → Some f ≡ Some g → f.symbol ≡ Range r → g.symbol ≡ Nt a → ⊥
no_range f g r a e is other =
    let one : ◌≡◌ {A = Symbol} (Range r) (Nt a) = sym is ∙ (ap (λ (h : Passage). h.symbol) (some_same f g e) ∙ other) in
    apart r a one
  where
    apart : (r : ByteRange) (a : nt.Nt) → ◌≡◌ {A = Symbol} (Range r) (Nt a) → ⊥
    apart r a e = cc

module _ (fs : List Passage) (fr : List Front) (base : ℕ) (based : base ≡ suc (length fs)) where
  -- what is written for a reading, an end or a front comes of no production of the grammar
  reading_output : (r : Reading) (p : Production) → ReadMade fs base fr r p → IsOfOutput fs p
  reading_output r p h n a s t left at =
      let l = h.1 in
      let e = same_left (suc l.number) (suc n) (sym l.left ∙ left) in
      let same : l.number ≡ n = omega (arith, e) in
      no_range (record { symbol = Range r.asked; from = r.from; to = r.to }) (record { symbol = Nt a; from = s; to = t }) r.asked a (sym l.passed ∙ (ap (slice_get fs) same ∙ at)) refl refl

  end_output : (from : nt.Nt) (last : Last) (p : Production) → EndLift from fs fr base last p → IsOfOutput fs p
  end_output from last p l n a s t left at = let e = same_left 0 (suc n) (sym l.left ∙ left) in absurd (omega (arith, e))

  front_output : (p : Production) → FrontLift fr base p → IsOfOutput fs p
  front_output p l n a s t left at =
      let e = same_left (base + l.number) (suc n) (sym l.left ∙ left) in
      let w = slice_get_within fs n _ at in
      absurd (omega (arith, e, w, based))

-- all that stands behind the productions that come of those of the grammar is of outputs
pub outputs_behind : (from : nt.Nt) (fs : List Passage) (rs : List Reading) (base : ℕ) (ls : List Last) (o1 o2 o3 : Outputs) (fr : List Front) (wholes out four : List Production) → base ≡ suc (length fs) → o1.out.items ≡ wholes → out ≡ o3.out.items
    → WritesAll (ReadMade fs base) (ReadHas fs base) rs o1.fronts.keys o2.fronts.keys o1.out.items o2.out.items → WritesAll (EndMade from fs base) (EndHas from fs base) ls o2.fronts.keys o3.fronts.keys o2.out.items o3.out.items
    → WritesBehind (λ (p : Production). FrontLift fr base p) out four → WritesBehind (λ (p : Production). IsOfOutput fs p) wholes four
outputs_behind from fs rs base ls o1 o2 o3 fr wholes out four based e1 e3 a b c =
    let P : Production → Type 0 = λ p. IsOfOutput fs p in
    let one : WritesBehind P o1.out.items o2.out.items =
    behind_weaker (λ (p : Production). (x : Reading) × Contains rs x × ReadMade fs base o2.fronts.keys x p) P o1.out.items o2.out.items (λ p h. reading_output fs o2.fronts.keys base based h.0 p h.2) a.puts in
    let two : WritesBehind P o2.out.items o3.out.items =
    behind_weaker (λ (p : Production). (x : Last) × Contains ls x × EndMade from fs base o3.fronts.keys x p) P o2.out.items o3.out.items (λ p h. end_output fs o3.fronts.keys base based from h.0 p h.2) b.puts in
    let three : WritesBehind P o3.out.items four =
    behind_weaker (λ (p : Production). FrontLift fr base p) P o3.out.items four (λ p h. front_output fs fr base based p h) (subst (λ (qs : List Production). WritesBehind (λ (p : Production). FrontLift fr base p) qs four) e3 c) in
    subst (λ (qs : List Production). WritesBehind P qs four) e1
    (behind_both P P o1.out.items o3.out.items four (behind_both P P o1.out.items o2.out.items o3.out.items one (λ p h. h) two) (λ p h. h) three)

module _ (ps : List Production) (from : nt.Nt) (bs : List Begun) (fs : List Passage) (rs : List Reading) (fr : List Front) (base : ℕ) (ls : List Last) (qs : List Production)
    (lifts : AreLifts ps from bs fs rs fr base ls qs) (based : base ≡ suc (length fs)) where
  -- a production of the start is one of an output at the end
  pub end_only : (q : Production) → Contains qs q → q.left ≡ record { 0 = 0 } → (l : Last) × Contains ls l × EndLift from fs fr base l q
  end_only q has left = by (lifts.only q has)
    where
      by : IsLift ps from bs fs rs fr base ls q → (l : Last) × Contains ls l × EndLift from fs fr base l q
      by (whole b h none l) = let e = same_left (suc l.number) 0 (sym l.left ∙ left) in absurd (omega (arith, e))
      by (of_reading r part h l) = let e = same_left (suc l.number) 0 (sym l.left ∙ left) in absurd (omega (arith, e))
      by (of_front l) = let e = same_left (base + l.number) 0 (sym l.left ∙ left) in absurd (omega (arith, e, based))
      by (of_end l h e) = (l, h, e)

  pub are_sources : (sources : List ℕ) (wholes : List Production) → AllComeOf ps fs sources wholes → WritesBehind (λ (p : Production). IsOfOutput fs p) wholes qs → NoneIsOfToken fs → AreSources ps from fs sources qs
  are_sources sources wholes come behind none =
      record {
        few = (let l = longer wholes qs behind.keeps in let m = come.long in omega (arith, l, m));
        comes = λ k place q at found.
            let w = slice_get_within sources k place at in
            let m = come.long in
            come.comes k place q at (at_old wholes qs k q behind.keeps (omega (arith, w, m)) found);
        others = λ k q past found. elim (behind.only k q found) [ inl below ↦ let m = come.long in absurd (omega (arith, below, past, m)) | inr h ↦ h ];
        ends = λ q has left.
            let e = end_only q has left in
            record { to = (e.0).state; number = (e.2).number; passed = (e.2).passed; front = (e.2).front; right = (e.2).right };
        no_tokens = none;
      }
