-- With what the work on an image begins.
use Rattle.std.proofs.Common.{◌≡◌, ℕ, ◌<◌, inl, inr, ltb, List, [], ◌∷◌, map, Contains, sym, ◌∙◌, ap, subst, arith, Some, slice_get}
use Rattle.std.specs.List.{All, list_all}
use Rattle.std.specs.Cmp.{first_so, second_so}
use Rattle.std.proofs.lemmas.List.Elements.{All-nil, All-cons}
use Rattle.std.proofs.lemmas.Option.{slice_get_within}
use Rattle.std.proofs.lemmas.Bool.{ltb-true}
use Rattle.text_base.specs.declared.numbers.Nt as nt
use Rattle.text_base.specs.declared.letter.Letter.{Letter}
use Rattle.cfg_grammar.specs.declared.production.Production.{Production}
use Rattle.cfg_grammar.specs.Below.{production_below, symbol_below, symbols_of, AreBelow}
use Rattle.numbered_sets.specs.Numbers.{AddsOnly}
use Rattle.grammar_chart.specs.declared.keys.Reading.{Reading}
use Rattle.grammar_chart.specs.declared.chart.Chart.{Chart}
use Rattle.grammar_chart.specs.Kept.{IsChartOf}
use Rattle.grammar_chart.proofs.AddingLemmas.{contains_at}
use Rattle.grammar_chart.proofs.ChartLemmas.{all_by}
use Rattle.grammar_chart.proofs.StepLemmas.{at_below}
use Rattle.grammar_image.specs.Answers.{IsReading}
use Rattle.grammar_image.specs.Work.{IsWorked}

some_same : (x y : Production) → Some x ≡ Some y → x ≡ y
some_same x y h = cc

pub lefts_below : (count : ℕ) (ps : List Production) → AreBelow count ps → All (λ (k : ℕ). k < count) (map (λ (p : Production). p.left.0) ps)
lefts_below count [] h = All-nil (λ (k : ℕ). k < count)
lefts_below count (p ∷ ps) h =
    let one = first_so (production_below count p) (list_all (production_below count) ps) h in
    let below = ltb-true p.left.0 count (first_so (ltb p.left.0 count) (list_all (symbol_below count) (symbols_of p.right)) one) in
    All-cons (λ (k : ℕ). k < count) p.left.0 (map (λ (q : Production). q.left.0) ps) below (lefts_below count ps (second_so (production_below count p) (list_all (production_below count) ps) h))

none_in : {X : Type 0} (xs : List X) (x : X) → xs ≡ [] → Contains xs x → ⊥
none_in {X} xs x e c = let d : Contains [] x = subst (λ (ys : List X). Contains ys x) e c in absurd (omega (arith, d.1))

-- a set with one member has it at 0
pub only_first : {X : Type 0} (old new : List X) (n : ℕ) (x : X) → old ≡ [] → slice_get new n ≡ Some x → AddsOnly old new x → slice_get new 0 ≡ Some x
only_first {X} old new n x empty at adds =
    let o = at_below new 0 (let w = slice_get_within new n x at in omega (arith, w)) in
    elim (adds o.0 (contains_at new 0 o.0 o.1)) [
      | inl h ↦ absurd (none_in old o.0 empty h)
      | inr e ↦ o.1 ∙ ap (λ (y : X). Some y) e
    ]

pub only_given : {X : Type 0} (P : X → Type 0) (old new : List X) (x : X) → old ≡ [] → AddsOnly old new x → P x → All P new
only_given {X} P old new x empty adds h =
    all_by P new (λ y c. elim (adds y c) [ inl o ↦ absurd (none_in old y empty o) | inr e ↦ subst P (sym e) h ])

pub worked_begins : {S : Type 0} (steps : S → ℕ → S → List Letter → Type 0) (gives : S → Type 0) (first : S) (ps : List Production) (states : List S) (c : Chart) → slice_get states 0 ≡ Some first → All gives states → IsChartOf ps c → c.readings.items ≡ [] → c.opened ≡ 0 → IsWorked steps gives first ps states c
worked_begins {S} steps gives first ps states c begins given chart none opened =
    record {
      chart = chart;
      begins = begins;
      given = given;
      readings = subst (λ (rs : List Reading). All (IsReading steps states) rs) (sym none) (All-nil (IsReading steps states));
      answered = λ k range i below at. absurd (omega (arith, below, opened));
    }
