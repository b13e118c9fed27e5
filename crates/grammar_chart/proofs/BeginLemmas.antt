-- The chart with which all begins.
use Rattle.std.proofs.Common.{◌≡◌, ℕ, inl, inr, List, [], length, Contains, refl, sym, ◌∙◌, ap, subst, arith, Some, slice_get}
use Rattle.std.proofs.lemmas.List.Elements.{All-nil}
use Rattle.std.proofs.lemmas.Option.{slice_get_within}
use Rattle.text_base.specs.declared.numbers.Nt as nt
use Rattle.cfg_grammar.specs.declared.symbol.Symbol.TheVariants.{Nt}
use Rattle.cfg_grammar.specs.declared.production.Production.{Production}
use Rattle.fst_core.specs.Items.{at_start}
use Rattle.numbered_sets.specs.Numbers.{AddsOnly, AreDifferent}
use Rattle.grammar_chart.specs.declared.keys.Entry.{Entry}
use Rattle.grammar_chart.specs.declared.steps.Visit.{Visit}
use Rattle.grammar_chart.specs.Visits.{VisitsGrow}
use Rattle.grammar_chart.specs.Charts.{IsBegun, IsEntered, IsPassage, IsChart}
use Rattle.grammar_chart.proofs.MemberLemmas.{contains_at, all_by, at_below, none_in, different_none}

nothing_at : {X : Type 0} (n : ℕ) (x : X) → slice_get [] n ≡ Some x → ⊥
nothing_at n x h = cc

pub chart_begins : (ps : List Production) (from : nt.Nt) (old es : List Entry) (before vs : List Visit) (n : ℕ) → old ≡ [] → before ≡ [] → length vs ≡ length es → slice_get es n ≡ Some (record { symbol = Nt from; state = 0 }) → AddsOnly old es (record { symbol = Nt from; state = 0 }) → VisitsGrow before vs → IsChart ps from es vs [] [] [] 0 0 0
chart_begins ps from old es before vs n none empty long at adds grows =
    let e : Entry = record { symbol = Nt from; state = 0 } in
    let only : (x : Entry) → Contains es x → x ≡ e = λ x h. elim (adds x h) [ inl o ↦ absurd (none_in old x none o) | inr same ↦ same ] in
    let o = at_below es 0 (let w = slice_get_within es n e at in omega (arith, w)) in
    let fresh : (q : ℕ) (v : Visit) → slice_get vs q ≡ Some v → (v.waiting.items ≡ []) × (v.exits.items ≡ []) = λ q v h. elim (grows.empty q v h) [
      | inl was ↦ absurd (nothing_at q v (subst (λ (xs : List Visit). slice_get xs q ≡ Some v) empty was))
      | inr is ↦ is
    ] in
    record {
      long = long;
      opened_within = omega arith;
      taken_within = omega arith;
      left_within = omega arith;
      first = o.1 ∙ ap (λ (x : Entry). Some x) (only o.0 (contains_at es 0 o.0 o.1));
      sound = record {
        entered = all_by (IsEntered ps from []) es (λ x h. subst (λ (y : Entry). IsEntered ps from [] y) (sym (only x h)) at_start);
        begun = All-nil (IsBegun ps from [] []);
        passed = All-nil (IsPassage ps from []);
      };
      visited = record {
        waiting = λ q v x b is at2 h. absurd (none_in v.waiting.items b (fresh q v is).0 h);
        exits = λ q v x t is at2 h. absurd (none_in v.exits.items t (fresh q v is).1 h);
        combined = λ q v b t is h k. absurd (none_in v.waiting.items b (fresh q v is).0 h);
      };
      opens = λ k x below. absurd (omega (arith, below));
      takes = λ k x below. absurd (omega (arith, below));
      lets = λ k x below. absurd (omega (arith, below));
      once = record {
        different = different_none;
        arises = λ b h. absurd (none_in [] b refl h);
        waiting = λ q v is. subst (λ (xs : List ℕ). AreDifferent xs) (sym (fresh q v is).0) different_none;
        taken_up = λ q v n is h. absurd (none_in v.waiting.items n (fresh q v is).0 h);
        exits = λ q v is. subst (λ (xs : List ℕ). AreDifferent xs) (sym (fresh q v is).1) different_none;
        let_through = λ q v x t is at2 h. absurd (none_in v.exits.items t (fresh q v is).1 h);
      };
    }
