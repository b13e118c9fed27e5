-- Each turn keeps what the work on an image keeps.
use Rattle.std.proofs.Common.{◌≡◌, ℕ, ◌+◌, ◌<◌, ◌≤◌, inl, inr, List, length, map, Contains, refl, sym, ◌∙◌, ap, subst, arith, Some, slice_get}
use Rattle.std.specs.List.{All}
use Rattle.std.proofs.lemmas.List.Elements.{All-contains}
use Rattle.std.proofs.lemmas.Option.{slice_get_within}
use Rattle.std.proofs.lemmas.Bool.{cases_eq}
use Rattle.text_base.specs.declared.byte_range.ByteRange.{ByteRange}
use Rattle.text_base.specs.declared.letter.Letter.{Letter}
use Rattle.text_base.specs.ByteRange.{InRange}
use Rattle.cfg_grammar.specs.declared.symbol.Symbol.{Symbol}
use Rattle.cfg_grammar.specs.declared.symbol.Symbol.TheVariants.{Range}
use Rattle.cfg_grammar.specs.declared.production.Production.{Production}
use Rattle.fst_core.specs.Letter.{letter_of}
use Rattle.fst_core.specs.Offers.{IsWithin}
use Rattle.fst_core.specs.declared.machine.Move.{Move}
use Rattle.fst_core.specs.declared.out.Out.{Out}
use Rattle.fst_core.proofs.Over.{enters_over}
use Rattle.numbered_sets.specs.Numbers.{Keeps}
use Rattle.grammar_chart.specs.declared.keys.Entry.{Entry}
use Rattle.grammar_chart.specs.declared.keys.Passage.{Passage}
use Rattle.grammar_chart.specs.declared.keys.Reading.{Reading}
use Rattle.grammar_chart.specs.declared.chart.Chart.{Chart}
use Rattle.grammar_chart.specs.Rules.{ReadingStep}
use Rattle.grammar_chart.specs.Charts.{IsEntered}
use Rattle.grammar_chart.specs.Kept.{IsChartOf, GoesOn, Goes, IsCounted}
use Rattle.grammar_chart.proofs.AddingLemmas.{contains_at, contains_kept}
use Rattle.grammar_chart.proofs.ChartLemmas.{all_by}
use Rattle.grammar_chart.proofs.StepLemmas.{at_old}
use Rattle.grammar_image.specs.Answers.{IsReading, IsAnsweredAt, Asks}
use Rattle.grammar_image.specs.Work.{IsWorked}

same_range : (x y : ByteRange) → ◌≡◌ {A = Symbol} (Range x) (Range y) → x ≡ y
same_range x y h = cc

some_same : {X : Type 0} (x y : X) → Some x ≡ Some y → x ≡ y
some_same x y h = cc

module _ {S : Type 0} (steps : S → ℕ → S → List Letter → Type 0) where
  pub reading_kept : (states after : List S) (r : Reading) → Keeps states after → IsReading steps states r → IsReading steps after r
  reading_kept states after r k h =
      record { low = h.low; high = h.high; source = h.source; is_source = k _ _ h.is_source; target = h.target; is_target = k _ _ h.is_target; step = h.step }

  pub answered_kept : (states after : List S) (fs gs : List Passage) (rs ss : List Reading) (range : ByteRange) (i : ℕ) → Keeps states after → Keeps fs gs → ((r : Reading) → Contains rs r → Contains ss r) → IsAnsweredAt steps states fs rs range i → IsAnsweredAt steps after gs ss range i
  answered_kept states after fs gs rs ss range i k l more h = (
    h.0,
    k _ _ h.1,
    λ byte within t letters st.
        let a = h.2 byte within t letters st in
        (a.0, more a.0 a.1, a.2, a.3, k _ _ a.4, contains_kept fs gs _ l a.5, a.6, a.7, a.8),
  )

  -- a step of the readings is one of the machine
  pub step_over : (states : List S) (rs : List Reading) → All (IsReading steps states) rs → (i byte j : ℕ) (letters : List Letter) (s : S) → ReadingStep rs i byte j letters → slice_get states i ≡ Some s → (t : S) × (slice_get states j ≡ Some t) × steps s byte t letters
  step_over states rs all i byte j letters s h at =
      let r = h.0 in
      let k = All-contains (IsReading steps states) rs r all h.1 in
      let same : k.source ≡ s = some_same k.source s (sym k.is_source ∙ (ap (slice_get states) h.2 ∙ at)) in
      (k.target, ap (slice_get states) (sym h.4) ∙ k.is_target, subst (λ (x : S). steps x byte k.target letters) same (subst (λ (w : List Letter). steps k.source byte k.target w) h.5 (k.step byte h.3)))

  module _ (gives : S → Type 0) (first : S) (ps : List Production) where
    -- the state of an entry is one of the machine's
    pub known_state : (states : List S) (c : Chart) (e : Entry) (n : ℕ) → IsWorked steps gives first ps states c → slice_get c.entries.keys n ≡ Some e → (s : S) × (slice_get states e.state ≡ Some s)
    known_state states c e n w at =
        let entered = All-contains (IsEntered ps c.from c.readings.items) c.entries.keys e w.chart.sound.entered (contains_at c.entries.keys n e at) in
        let o = enters_over ps (ReadingStep c.readings.items) steps (λ (i : ℕ) (s : S). slice_get states i ≡ Some s) (step_over states c.readings.items w.readings) c.from 0 first w.begins e.symbol e.state entered in
        (o.0, o.1)

    pub worked_goes : (states : List S) (old new : Chart) → IsWorked steps gives first ps states old → Goes ps old new → IsWorked steps gives first ps states new
    worked_goes states old new w goes =
        let same = goes.goes_on.readings in
        record {
          chart = goes.chart;
          begins = w.begins;
          given = w.given;
          readings = subst (λ (rs : List Reading). All (IsReading steps states) rs) (sym same) w.readings;
          answered = λ k range i below at.
              let before = goes.ranges k range i below at in
              let was = at_old old.entries.keys new.entries.keys k _ goes.goes_on.entries (let l = w.chart.opened_within in omega (arith, before, l)) at in
              answered_kept states states old.passages.keys new.passages.keys old.readings.items new.readings.items range i (λ n x h. h) goes.goes_on.passages
              (λ r h. subst (λ (rs : List Reading). Contains rs r) (sym same) h) (w.answered k range i before was);
        }

    note_reading : (states after : List S) (old new : Chart) (range : ByteRange) (from : ℕ) (a : Asks steps gives states after old new range from) (r : Reading) (m : Move S) → Contains a.moves m → r.asked ≡ range → r.from ≡ from → r.range ≡ m.range → r.out.items ≡ m.out.items → slice_get after r.to ≡ Some m.to → IsReading steps after r
    note_reading states after old new range from a r m has asked from_is part out to =
        let within = All-contains (IsWithin range) a.moves m a.within has in
        let lo : r.asked.lo ≤ r.range.lo = subst (λ (x : ByteRange). x.lo ≤ r.range.lo) (sym asked) (subst (λ (x : ByteRange). range.lo ≤ x.lo) (sym part) within.0) in
        let hi : r.range.hi ≤ r.asked.hi = subst (λ (x : ByteRange). r.range.hi ≤ x.hi) (sym asked) (subst (λ (x : ByteRange). x.hi ≤ range.hi) (sym part) within.1) in
        record {
          low = lo;
          high = hi;
          source = a.source;
          is_source = ap (slice_get after) from_is ∙ a.notes.states_kept from a.source a.is_source;
          target = m.to;
          is_target = to;
          step = λ byte h.
              let own : InRange m.range byte = subst (λ (x : ByteRange). InRange x byte) part h in
              let whole : InRange range byte = (omega (arith, own.0, within.0), omega (arith, own.1, within.1)) in
              subst (λ (os : List Out). steps a.source byte m.to (map (letter_of byte) os)) (sym out)
              ((a.exact byte whole m.to (map (letter_of byte) m.out.items)).0 (m, has, own, refl, refl));
        }

    answer_of : (states after : List S) (old new : Chart) (range : ByteRange) (from : ℕ) (a : Asks steps gives states after old new range from) → IsAnsweredAt steps after new.passages.keys new.readings.items range from
    answer_of states after old new range from a = (
      a.source,
      a.notes.states_kept from a.source a.is_source,
      λ byte within t letters st.
          let o = (a.exact byte within t letters).1 st in
          let n = a.notes.noted o.0 o.1 in (
            n.reading,
            n.has,
            n.asked,
            n.from_it,
            n.target ∙ ap (λ (x : S). Some x) o.3,
            n.passed,
            byte,
            subst (λ (x : ByteRange). InRange x byte) (sym n.part) o.2,
            ap (λ (os : List Out). map (letter_of byte) os) n.out ∙ o.4,
          ),
    )

    -- the machine is asked by the range of the next entry, which is opened then
    pub worked_asks : (states after : List S) (old mid new : Chart) (range : ByteRange) (from : ℕ) → IsWorked steps gives first ps states old → slice_get old.entries.keys old.opened ≡ Some (record { symbol = Range range; state = from }) → Asks steps gives states after old mid range from → ((qs : List Production) → IsChartOf qs mid → IsChartOf qs new) → GoesOn mid new → IsCounted mid new 1 0 0 → IsWorked steps gives first ps after new
    worked_asks states after old mid new range from w here a chart goes counted =
        let notes = a.notes in
        let readings_same = goes.readings in
        let all : All (IsReading steps after) mid.readings.items = all_by (IsReading steps after) mid.readings.items (λ r h. elim (notes.only r h) [
          | inl o ↦ reading_kept states after r notes.states_kept (All-contains (IsReading steps states) old.readings.items r w.readings o)
          | inr d ↦ note_reading states after old mid range from a r d.0 d.1 d.2 d.3 d.4 d.5 d.6
        ]) in
        let more : (r : Reading) → Contains mid.readings.items r → Contains new.readings.items r = λ r h. subst (λ (rs : List Reading). Contains rs r) (sym readings_same) h in
        let opened : new.opened ≡ old.opened + 1 = (let x = counted.opened_more in let y = notes.counted.opened_more in omega (arith, x, y)) in
        record {
          chart = chart ps (notes.chart ps w.chart);
          begins = notes.states_kept 0 first w.begins;
          given = all_by gives after (λ s h. elim (notes.states_only s h) [
            | inl o ↦ All-contains gives states s w.given o
            | inr d ↦ subst gives (sym d.2) (All-contains (λ (m : Move S). gives m.to) a.moves d.0 a.given d.1)
          ]);
          readings = subst (λ (rs : List Reading). All (IsReading steps after) rs) (sym readings_same) all;
          answered = λ k r i below at.
              let within = w.chart.opened_within in
              let place = slice_get_within old.entries.keys old.opened _ here in
              let short : k < length old.entries.keys = omega (arith, below, opened, place) in
              let keeps : Keeps old.entries.keys new.entries.keys = λ n x h. goes.entries n x (subst (λ (xs : List Entry). slice_get xs n ≡ Some x) (sym notes.entries) h) in
              let was = at_old old.entries.keys new.entries.keys k _ keeps short at in
              elim (cases_eq k old.opened) [
                | inl e ↦
                    let s : Some (let y : Entry = record { symbol = Range range; state = from } in y) ≡ Some (let y : Entry = record { symbol = Range r; state = i } in y) = sym here ∙ (ap (slice_get old.entries.keys) (sym e) ∙ was) in
                    let same = some_same _ _ s in
                    let one : range ≡ r = same_range range r (ap (λ (y : Entry). y.symbol) same) in
                    let two : from ≡ i = ap (λ (y : Entry). y.state) same in
                    subst (λ (x : ℕ). IsAnsweredAt steps after new.passages.keys new.readings.items r x) two
                    (subst (λ (x : ByteRange). IsAnsweredAt steps after new.passages.keys new.readings.items x from) one
                    (answered_kept after after mid.passages.keys new.passages.keys mid.readings.items new.readings.items range from (λ n x h. h) goes.passages more (answer_of states after old mid range from a)))
                | inr other ↦
                    answered_kept states after old.passages.keys new.passages.keys old.readings.items new.readings.items r i notes.states_kept
                    (λ n x h. goes.passages n x (notes.passages n x h)) (λ x h. more x (notes.readings x h)) (w.answered k r i (omega (arith, below, opened, other)) was)
              ];
        }
