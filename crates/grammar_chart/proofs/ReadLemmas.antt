-- A reading more.
use Rattle.std.proofs.Common.{◌≡◌, ℕ, ◌≤◌, inl, inr, List, [], ◌∷◌, ◌++◌, map, Contains, refl, sym, subst, arith}
use Rattle.std.proofs.lemmas.List.Elements.{All-contains, Contains-append_left, Contains-push}
use Rattle.text_base.specs.declared.numbers.Nt as nt
use Rattle.text_base.specs.declared.letter.Letter.{Letter}
use Rattle.cfg_grammar.specs.declared.symbol.Symbol.{Symbol}
use Rattle.cfg_grammar.specs.declared.symbol.Symbol.TheVariants.{Range, Nt}
use Rattle.cfg_grammar.specs.declared.production.Production.{Production}
use Rattle.cfg_grammar.specs.Derives.{by_range}
use Rattle.fst_core.specs.Letter.{letter_of}
use Rattle.fst_core.specs.Outputs.{Leads}
use Rattle.fst_core.specs.Items.{Enters}
use Rattle.fst_core.proofs.Over.{enters_over, leads_over}
use Rattle.numbered_sets.specs.Numbers.{Keeps, AddsOnly}
use Rattle.grammar_chart.specs.declared.keys.Entry.{Entry}
use Rattle.grammar_chart.specs.declared.keys.Begun.{Begun}
use Rattle.grammar_chart.specs.declared.keys.Passage.{Passage}
use Rattle.grammar_chart.specs.declared.keys.Reading.{Reading}
use Rattle.grammar_chart.specs.declared.steps.Visit.{Visit}
use Rattle.grammar_chart.specs.Rules.{ReadingStep}
use Rattle.grammar_chart.specs.Charts.{IsBegun, IsEntered, IsPassage, IsExit, IsTakenUp, IsChart}
use Rattle.grammar_chart.proofs.MemberLemmas.{contains_kept, all_by, longer}
use Rattle.grammar_chart.proofs.ChartLemmas.{begun_kept}
use Rattle.grammar_chart.proofs.VisitLemmas.{visits_same}
use Rattle.grammar_chart.proofs.OnceLemmas.{once_more}
use Rattle.grammar_chart.proofs.StepLemmas.{first_kept, taken_kept}

module _ (ps : List Production) (rs ss : List Reading) (more : (r : Reading) → Contains rs r → Contains ss r) where
  step_over : (s byte u : ℕ) (letters : List Letter) (t : ℕ) → ReadingStep rs s byte u letters → s ≡ t → (v : ℕ) × (u ≡ v) × ReadingStep ss t byte v letters
  step_over s byte u letters t h e =
      (u, refl, subst (λ (z : ℕ). ReadingStep ss z byte u letters) e (h.0, more h.0 h.1, h.2, h.3, h.4, h.5))

  pub enters_more : (from : nt.Nt) (x : Symbol) (s : ℕ) → Enters ps (ReadingStep rs) from 0 x s → Enters ps (ReadingStep ss) from 0 x s
  enters_more from x s h =
      let e = enters_over ps (ReadingStep rs) (ReadingStep ss) (λ (a b : ℕ). a ≡ b) step_over from 0 0 refl x s h in
      subst (λ (z : ℕ). Enters ps (ReadingStep ss) from 0 x z) (sym e.1) e.2

  pub leads_more : (s : ℕ) (x : Symbol) (u : ℕ) → Leads ps (ReadingStep rs) s x u → Leads ps (ReadingStep ss) s x u
  leads_more s x u h =
      let e = leads_over ps (ReadingStep rs) (ReadingStep ss) (λ (a b : ℕ). a ≡ b) step_over s x u s h refl in
      subst (λ (z : ℕ). Leads ps (ReadingStep ss) s x z) (sym e.1) e.2

-- a range is read by the reading
pub leads_read : (ps : List Production) (rs : List Reading) (r : Reading) → Contains rs r → r.asked.lo ≤ r.range.lo → r.range.hi ≤ r.asked.hi → Leads ps (ReadingStep rs) r.from (Range r.asked) r.to
leads_read ps rs r has low high =
    let byte = r.range.lo in
    let letters : List Letter = map (letter_of byte) r.out.items in
    let o = r.range.ordered in (
      byte ∷ [],
      letters ++ [],
      by_range r.asked byte (low, omega (arith, o, high)),
      (r.to, letters, [], (r, has, refl, (omega arith, o), refl, refl), (refl, refl), refl),
    )

-- the passage of a new reading is added
pub chart_reads : (ps : List Production) (from : nt.Nt) (es : List Entry) (vs : List Visit) (bs : List Begun) (fs gs : List Passage) (rs ss : List Reading) (opened taken left : ℕ) (r : Reading) → IsChart ps from es vs bs fs rs opened taken left → Contains es (record { symbol = Range r.asked; state = r.from }) → ss ≡ rs ++ r ∷ [] → r.asked.lo ≤ r.range.lo → r.range.hi ≤ r.asked.hi → Keeps fs gs → AddsOnly fs gs (record { symbol = Range r.asked; from = r.from; to = r.to }) → IsChart ps from es vs bs gs ss opened taken left
chart_reads ps from es vs bs fs gs rs ss opened taken left r c entry is low high keeps adds =
    let more : (x : Reading) → Contains rs x → Contains ss x = λ x h. subst (λ (xs : List Reading). Contains xs x) (sym is) (Contains-append_left rs (r ∷ []) x h) in
    let has : Contains ss r = subst (λ (xs : List Reading). Contains xs r) (sym is) (Contains-push rs r) in
    let passed = longer fs gs keeps in
    let begun_more : (x : Begun) → IsBegun ps from fs rs x → IsBegun ps from gs ss x = λ x h.
    let k = begun_kept ps from fs gs rs x keeps h in
    record { production = k.production; placed = k.placed; entered = enters_more ps rs ss more from (Nt k.production.left) x.from k.entered; read = k.read } in
    record {
      long = c.long;
      opened_within = c.opened_within;
      taken_within = c.taken_within;
      left_within = let l = c.left_within in omega (arith, l, passed);
      first = c.first;
      sound = record {
        entered = all_by (IsEntered ps from ss) es (λ x h. enters_more ps rs ss more from x.symbol x.state (All-contains (IsEntered ps from rs) es x c.sound.entered h));
        begun = all_by (IsBegun ps from gs ss) bs (λ x h. begun_more x (All-contains (IsBegun ps from fs rs) bs x c.sound.begun h));
        passed = all_by (IsPassage ps from ss) gs (λ x h. elim (adds x h) [
          | inl old ↦
              let p = All-contains (IsPassage ps from rs) fs x c.sound.passed old in
              (enters_more ps rs ss more from x.symbol x.from p.0, leads_more ps rs ss more x.from x.symbol x.to p.1)
          | inr same ↦
              let e : IsEntered ps from rs (record { symbol = Range r.asked; state = r.from }) = All-contains (IsEntered ps from rs) es _ c.sound.entered entry in
              subst (λ (g : Passage). IsPassage ps from ss g) (sym same) (enters_more ps rs ss more from (Range r.asked) r.from e, leads_read ps ss r has low high)
        ]);
      };
      visited = record {
        waiting = c.visited.waiting;
        exits = λ q v e t at ise h. contains_kept fs gs _ keeps (c.visited.exits q v e t at ise h);
        combined = c.visited.combined;
      };
      opens = c.opens;
      takes = first_kept (IsTakenUp ps es vs bs fs) (IsTakenUp ps es vs bs gs) bs bs taken (λ n y i. i) c.taken_within
          (λ x h. taken_kept ps es es vs vs bs bs fs gs x (λ n y i. i) (visits_same vs) (λ n y i. i) keeps h) c.takes;
      lets = first_kept (IsExit es vs) (IsExit es vs) fs gs left keeps c.left_within (λ x h. h) c.lets;
      once = once_more ps es vs bs fs gs opened taken left c.once keeps opened taken (omega arith) (omega arith);
    }
