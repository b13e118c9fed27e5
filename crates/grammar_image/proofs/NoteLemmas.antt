-- Noting moves.
use Rattle.std.proofs.Common.{◌≡◌, ℕ, ◌+◌, ◌⊎◌, inl, inr, zero, suc, List, [], ◌∷◌, ◌++◌, Contains, refl, sym, ◌∙◌, ap, subst, arith, Some, slice_get}
use Rattle.std.specs.List.{All}
use Rattle.std.proofs.lemmas.List.Elements.{Contains-push_cases, Contains-append_left, Contains-push, All-contains}
use Rattle.fst_core.specs.Offers.{IsWithin}
use Rattle.grammar_chart.proofs.ChartLemmas.{all_by}
use Rattle.text_base.specs.declared.byte_range.ByteRange.{ByteRange}
use Rattle.fst_core.specs.declared.machine.Move.{Move}
use Rattle.cfg_grammar.specs.declared.production.Production.{Production}
use Rattle.cfg_grammar.specs.declared.symbol.Symbol.TheVariants.{Range}
use Rattle.numbered_sets.specs.Numbers.{Keeps, AddsOnly}
use Rattle.grammar_chart.specs.declared.keys.Passage.{Passage}
use Rattle.grammar_chart.specs.declared.keys.Reading.{Reading}
use Rattle.grammar_chart.specs.declared.chart.Chart.{Chart}
use Rattle.grammar_chart.specs.Kept.{IsChartOf, IsCounted}
use Rattle.grammar_chart.proofs.AddingLemmas.{contains_kept}
use Rattle.grammar_image.specs.Answers.{IsNoted, NotesOne, NotesAll}

pub noted_kept : {S : Type 0} (states after : List S) (fs gs : List Passage) (rs ss : List Reading) (range : ByteRange) (from : ℕ) (m : Move S) → Keeps states after → Keeps fs gs → ((r : Reading) → Contains rs r → Contains ss r) → IsNoted states fs rs range from m → IsNoted after gs ss range from m
noted_kept states after fs gs rs ss range from m keeps passages readings n =
    record {
      reading = n.reading;
      has = readings n.reading n.has;
      asked = n.asked;
      from_it = n.from_it;
      part = n.part;
      out = n.out;
      target = keeps _ _ n.target;
      passed = contains_kept fs gs _ passages n.passed;
    }

counted_both : (a b c : Chart) → IsCounted a b 0 0 0 → IsCounted b c 0 0 0 → IsCounted a c 0 0 0
counted_both a b c x y =
    record {
      opened_more = omega (arith, x.opened_more, y.opened_more);
      taken_more = omega (arith, x.taken_more, y.taken_more);
      left_more = omega (arith, x.left_more, y.left_more);
    }

-- so far all moves but those that are left are noted
pub record NotesRest {S : Type 0} (states after : List S) (old new : Chart) (range : ByteRange) (from : ℕ) (moves rest : List (Move S)) : Type 0 where
  pub noted : List (Move S)
  pub whole : moves ≡ rest ++ noted
  pub notes : NotesAll states after old new range from noted

pub notes_none : {S : Type 0} (states : List S) (chart : Chart) (range : ByteRange) (from : ℕ) (moves : List (Move S)) → NotesRest states states chart chart range from moves moves
notes_none {S} states chart range from moves =
    record {
      noted = [];
      whole = sym (append_nil_of moves);
      notes = record {
        chart = λ ps h. h;
        from_kept = refl;
        entries = refl;
        counted = record { opened_more = omega arith; taken_more = omega arith; left_more = omega arith };
        states_kept = λ n x h. h;
        states_only = λ s h. inl h;
        passages = λ n x h. h;
        readings = λ r h. h;
        only = λ r h. inl h;
        noted = λ m h. absurd (omega (arith, h.1));
      };
    }
  where
    append_nil_of : (v : List (Move S)) → v ++ [] ≡ v
    append_nil_of [] = refl
    append_nil_of (c ∷ v) = ap (λ (u : List (Move S)). c ∷ u) (append_nil_of v)

contains_cons : {X : Type 0} (x y : X) (xs : List X) → Contains (x ∷ xs) y → (y ≡ x) ⊎ Contains xs y
contains_cons x y xs (zero, h, e) = inl (sym e)
contains_cons x y xs (suc n, h, e) = inr (n, (omega (arith, h)), e)

contains_head : {X : Type 0} (x : X) (xs : List X) → Contains (x ∷ xs) x
contains_head x xs = (0, omega arith, refl)

contains_tail : {X : Type 0} (x y : X) (xs : List X) → Contains xs y → Contains (x ∷ xs) y
contains_tail x y xs c = (suc c.0, (let h = c.1 in omega (arith, h)), c.2)

pub notes_more : {S : Type 0} (states mid after : List S) (old now new : Chart) (range : ByteRange) (from : ℕ) (moves rest left : List (Move S)) (m : Move S) → NotesRest states mid old now range from moves rest → rest ≡ left ++ m ∷ [] → NotesOne mid after now new range from m → NotesRest states after old new range from moves left
notes_more {S} states mid after old now new range from moves rest left m so is one =
    let a = so.notes in
    record {
      noted = m ∷ so.noted;
      whole = so.whole ∙ (ap (λ (xs : List (Move S)). xs ++ so.noted) is ∙ middle left m so.noted);
      notes = record {
        chart = λ ps h. one.chart ps (a.chart ps h);
        from_kept = one.from_kept ∙ a.from_kept;
        entries = one.entries ∙ a.entries;
        counted = counted_both old now new a.counted one.counted;
        states_kept = λ n x h. one.states_kept n x (a.states_kept n x h);
        states_only = λ s h. elim (one.states_only s h) [
          | inl b ↦ elim (a.states_only s b) [ inl o ↦ inl o | inr d ↦ inr (d.0, contains_tail m d.0 so.noted d.1, d.2) ]
          | inr e ↦ inr (m, contains_head m so.noted, e)
        ];
        passages = λ n x h. one.passages n x (a.passages n x h);
        readings = λ r h. one.readings r (a.readings r h);
        only = λ r h. elim (one.only r h) [
          | inl b ↦ elim (a.only r b) [
            | inl o ↦ inl o
            | inr d ↦ inr (d.0, contains_tail m d.0 so.noted d.1, d.2, d.3, d.4, d.5, one.states_kept _ _ d.6)
          ]
          | inr e ↦ inr (m, contains_head m so.noted, e.0, e.1, e.2, e.3, e.4)
        ];
        noted = λ x h. elim (contains_cons m x so.noted h) [
          | inl e ↦ subst (λ (y : Move S). IsNoted after new.passages.keys new.readings.items range from y) (sym e) one.noted
          | inr b ↦ noted_kept mid after now.passages.keys new.passages.keys now.readings.items new.readings.items range from x one.states_kept one.passages one.readings (a.noted x b)
        ];
      };
    }
  where
    middle : (xs : List (Move S)) (x : Move S) (ys : List (Move S)) → (xs ++ x ∷ []) ++ ys ≡ xs ++ x ∷ ys
    middle [] x ys = refl
    middle (z ∷ xs) x ys = ap (λ (v : List (Move S)). z ∷ v) (middle xs x ys)

pub notes_done : {S : Type 0} (states after : List S) (old new : Chart) (range : ByteRange) (from : ℕ) (moves rest : List (Move S)) → rest ≡ [] → NotesRest states after old new range from moves rest → NotesAll states after old new range from moves
notes_done {S} states after old new range from moves rest e so =
    subst (λ (xs : List (Move S)). NotesAll states after old new range from xs) (sym (so.whole ∙ ap (λ (xs : List (Move S)). xs ++ so.noted) e)) so.notes

pub note_one : {S : Type 0} (states after : List S) (old new : Chart) (range : ByteRange) (from : ℕ) (m : Move S) (n : ℕ) → slice_get after n ≡ Some m.to → Keeps states after → AddsOnly states after m.to → (r : Reading) → r.asked ≡ range → r.from ≡ from → r.range ≡ m.range → r.out.items ≡ m.out.items → r.to ≡ n
    → ((ps : List Production) → IsChartOf ps old → IsChartOf ps new) → new.from ≡ old.from → new.entries.keys ≡ old.entries.keys → IsCounted old new 0 0 0 → Keeps old.passages.keys new.passages.keys → Contains new.passages.keys (record { symbol = Range r.asked; from = r.from; to = r.to }) → new.readings.items ≡ old.readings.items ++ r ∷ [] → NotesOne states after old new range from m
note_one {S} states after old new range from m n at keeps adds r asked from_is part out to chart from_kept entries counted passages passage is =
    let target : slice_get after r.to ≡ Some m.to = ap (slice_get after) to ∙ at in
    let passed : Contains new.passages.keys (record { symbol = Range range; from = from; to = r.to }) =
    subst (λ (x : ByteRange). Contains new.passages.keys (record { symbol = Range x; from = from; to = r.to })) asked
    (subst (λ (x : ℕ). Contains new.passages.keys (record { symbol = Range r.asked; from = x; to = r.to })) from_is passage) in
    record {
      chart = chart;
      from_kept = from_kept;
      entries = entries;
      counted = counted;
      states_kept = keeps;
      states_only = adds;
      passages = passages;
      readings = λ x h. subst (λ (xs : List Reading). Contains xs x) (sym is) (Contains-append_left old.readings.items (r ∷ []) x h);
      only = λ x h. elim (Contains-push_cases old.readings.items r x (subst (λ (xs : List Reading). Contains xs x) is h)) [
        | inl o ↦ inl o
        | inr e ↦ inr (subst (λ (y : Reading). (y.asked ≡ range) × (y.from ≡ from) × (y.range ≡ m.range) × (y.out.items ≡ m.out.items) × (slice_get after y.to ≡ Some m.to)) e (asked, from_is, part, out, target))
      ];
      noted = record {
        reading = r;
        has = subst (λ (xs : List Reading). Contains xs r) (sym is) (Contains-push old.readings.items r);
        asked = asked;
        from_it = from_is;
        part = part;
        out = out;
        target = target;
        passed = passed;
      };
    }

pub within_last : {S : Type 0} (range : ByteRange) (moves left : List (Move S)) (m : Move S) → moves ≡ left ++ m ∷ [] → All (IsWithin range) moves → IsWithin range m
within_last {S} range moves left m is all =
    All-contains (IsWithin range) moves m all (subst (λ (xs : List (Move S)). Contains xs m) (sym is) (Contains-push left m))

pub within_front : {S : Type 0} (range : ByteRange) (moves left : List (Move S)) (m : Move S) → moves ≡ left ++ m ∷ [] → All (IsWithin range) moves → All (IsWithin range) left
within_front {S} range moves left m is all =
    all_by (IsWithin range) left (λ x h. All-contains (IsWithin range) moves x all (subst (λ (xs : List (Move S)). Contains xs x) (sym is) (Contains-append_left left (m ∷ []) x h)))
