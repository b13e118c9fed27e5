-- The grammar of an image is small: items and letters of the machine pay for it.
use Rattle.std.proofs.Common.{◌≡◌, ℕ, zero, suc, ◌+◌, ◌<◌, ◌≤◌, ◌⊎◌, inl, inr, List, [], ◌∷◌, length, take, map, refl, sym, ◌∙◌, ap, subst, arith, Some, slice_get}
use Rattle.std.specs.List.{AllZip}
use Rattle.std.proofs.lemmas.List.{length-map}
use Rattle.std.proofs.lemmas.List.Elements.{All-map, All-contains}
use Rattle.std.proofs.lemmas.Option.{slice_get_within}
use Rattle.text_base.specs.declared.byte_range.ByteRange.{ByteRange}
use Rattle.text_base.specs.declared.numbers.Nt as nt
use Rattle.text_base.specs.declared.letter.Letter.{Letter}
use Rattle.text_base.specs.ByteRange.{InRange}
use Rattle.cfg_grammar.specs.declared.symbol.Symbol.{Symbol}
use Rattle.cfg_grammar.specs.declared.symbol.Symbol.TheVariants.{Range, Nt}
use Rattle.cfg_grammar.specs.declared.production.Production.{Production}
use Rattle.cfg_grammar.specs.declared.grammar.Grammar.{Grammar}
use Rattle.cfg_grammar.specs.Below.{symbols_of}
use Rattle.fst_core.specs.Items.{Item, IsItem, HasItems, Enters, ReadsTo}
use Rattle.fst_core.specs.Weight.{Unit_of_weight, item, read, last, ReadsRange, IsUnit, IsSmall}
use Rattle.fst_core.proofs.Over.{enters_over, reads_over, leads_over}
use Rattle.numbered_sets.specs.Numbers.{AreDifferent}
use Rattle.grammar_chart.specs.declared.keys.Passage.{Passage}
use Rattle.grammar_chart.specs.declared.chart.Chart.{Chart}
use Rattle.grammar_chart.specs.Rules.{ReadingStep}
use Rattle.grammar_chart.specs.Charts.{IsPassage}
use Rattle.grammar_chart.proofs.AddingLemmas.{contains_at}
use Rattle.chart_grammar.specs.declared.fronts.Front.{Front}
use Rattle.chart_grammar.specs.declared.lifts.Last.{Last}
use Rattle.chart_grammar.specs.declared.saying.Said.{Said}
use Rattle.chart_grammar.specs.declared.saying.Head.{Head}
use Rattle.chart_grammar.specs.Fronts.{StandsFor}
use Rattle.chart_grammar.specs.Images.{IsImageOf}
use Rattle.chart_grammar.specs.Paid.{Charge, reads, ends, letters_of, left_by, behind_by, Spells, IsCharge, IsSaid, IsWide, OfText, OfWide}
use Rattle.grammar_image.specs.Answers.{IsReading}
use Rattle.grammar_image.specs.Lasts.{AreLastsBelow}
use Rattle.grammar_image.specs.Work.{IsWorked}
use Rattle.grammar_image.proofs.WorkLemmas.{step_over}
use Rattle.grammar_image.proofs.CountLemmas.{Has, heavier, counted}
use Rattle.grammar_image.proofs.PassageLemmas.{HasReadLast, IsWholeOf, passage_item, same_last, same_whole}
use Rattle.grammar_image.proofs.SpellLemmas.{spells_same, spells_long, stands_unique, stands_number}

some_same : {X : Type 0} (x y : X) → Some x ≡ Some y → x ≡ y
some_same x y h = cc

at_place : {X : Type 0} (xs : List X) (n : ℕ) → n < length xs → (x : X) × (slice_get xs n ≡ Some x)
at_place [] n h = absurd (omega (arith, h))
at_place (x ∷ xs) zero h = (x, refl)
at_place (x ∷ xs) (suc n) h = at_place xs n (omega (arith, h))

zip_at : {S T : Type 0} (R : S → T → Type 0) (xs : List S) (ys : List T) (n : ℕ) (x : S) → AllZip R xs ys → slice_get xs n ≡ Some x → (y : T) × R x y × (slice_get ys n ≡ Some y)
zip_at R [] [] n x z h = cc
zip_at R [] (y ∷ ys) n x z h = absurd z
zip_at R (w ∷ xs) [] n x z h = absurd z
zip_at {S} {T} R (w ∷ xs) (y ∷ ys) zero x z h = let same : w ≡ x = cc in (y, subst (λ (v : S). R v y) same z.0, refl)
zip_at R (w ∷ xs) (y ∷ ys) (suc n) x z h = zip_at R xs ys n x z.1 h

zip_same : {S T : Type 0} (R : S → T → Type 0) → ((x y : S) (t : T) → R x t → R y t → x ≡ y) → (xs ys : List S) (zs : List T) → AllZip R xs zs → AllZip R ys zs → xs ≡ ys
zip_same R one [] [] zs a b = refl
zip_same R one [] (y ∷ ys) [] a b = absurd b
zip_same R one [] (y ∷ ys) (z ∷ zs) a b = absurd a
zip_same R one (x ∷ xs) ys [] a b = absurd a
zip_same R one (x ∷ xs) [] (z ∷ zs) a b = absurd b
zip_same {S} R one (x ∷ xs) (y ∷ ys) (z ∷ zs) a b =
    ap (λ (v : S). v ∷ xs) (one x y z a.0 b.0) ∙ ap (λ (vs : List S). y ∷ vs) (zip_same R one xs ys zs a.1 b.1)

said_same : (s t : Said) → s.left ≡ t.left → s.behind ≡ t.behind → s.front ≡ t.front → s ≡ t
said_same s t a b c =
    ap (λ (n : ℕ). let x : Said = record { left = n; behind = s.behind; front = s.front } in x) a
    ∙ (ap (λ (n : ℕ). let x : Said = record { left = t.left; behind = n; front = s.front } in x) b
    ∙ ap (λ (n : ℕ). let x : Said = record { left = t.left; behind = t.behind; front = n } in x) c)

head_same : (s t : Head) → s.left ≡ t.left → s.lo ≡ t.lo → s ≡ t
head_same s t a b =
    ap (λ (n : ℕ). let x : Head = record { left = n; lo = s.lo } in x) a ∙ ap (λ (n : ℕ). let x : Head = record { left = t.left; lo = n } in x) b

none_of : (w : List Letter) → (w ≡ []) ⊎ (0 < length w)
none_of [] = inl refl
none_of (l ∷ w) = inr (omega arith)

module _ {S : Type 0} (steps : S → ℕ → S → List Letter → Type 0) (gives : S → Type 0) (ends_of : S → List Letter → Type 0) (first : S) (ps : List Production) (states : List S) (c : Chart) (w : IsWorked steps gives first ps states c)
    (lasts : List Last) (of_lasts : AreLastsBelow ends_of states (length states) lasts) (apart : AreDifferent states) (passages : AreDifferent c.passages.keys) where
  abbrev Stands : ℕ → S → Type 0
  Stands i s = slice_get states i ≡ Some s

  abbrev Steps : ℕ → ℕ → ℕ → List Letter → Type 0
  Steps = ReadingStep c.readings.items

  abbrev Is : Unit_of_weight S → Type 0
  Is u = IsUnit ps steps ends_of c.from first u

  abbrev Charges : Charge → Type 0
  Charges x = IsCharge c.from c.passages.keys c.readings.items lasts x

  abbrev Over : Item ℕ → Item S → Type 0
  Over a b = (a.place ≡ b.place) × Stands a.entry b.entry × AllZip Stands a.after b.after

  over_same : (a b : Item ℕ) (x : Item S) → Over a x → Over b x → a ≡ b
  over_same a b x o p =
      let e : a.entry ≡ b.entry = apart a.entry b.entry x.entry o.1 p.1 in
      let f : a.after ≡ b.after = zip_same Stands (λ i j s h k. apart i j s h k) a.after b.after x.after o.2 p.2 in
      let g : a.place ≡ b.place = o.0 ∙ sym p.0 in
      ap (λ (m : ℕ). let y : Item ℕ = record { place = m; entry = a.entry; after = a.after } in y) g
      ∙ (ap (λ (s : ℕ). let y : Item ℕ = record { place = b.place; entry = s; after = a.after } in y) e
      ∙ ap (λ (ss : List ℕ). let y : Item ℕ = record { place = b.place; entry = b.entry; after = ss } in y) f)

  over_parts : (it : Item ℕ) (is : IsItem ps Steps c.from 0 it) → (other : Item S) × Over it other × Enters ps steps c.from first (Nt is.production.left) other.entry × ReadsTo ps steps other.entry (symbols_of is.production.right) other.after
  over_parts it is =
      let d = enters_over ps Steps steps Stands (step_over steps states c.readings.items w.readings) c.from 0 first w.begins (Nt is.production.left) it.entry is.entered in
      let q = reads_over ps Steps steps Stands (step_over steps states c.readings.items w.readings) (symbols_of is.production.right) it.entry it.after d.0 is.read d.1 in
      (record { place = it.place; entry = d.0; after = q.0 }, (refl, d.1, q.1), d.2, q.2)

  item_of_parts : (it : Item ℕ) (is : IsItem ps Steps c.from 0 it) (other : Item S) → Over it other → Enters ps steps c.from first (Nt is.production.left) other.entry → ReadsTo ps steps other.entry (symbols_of is.production.right) other.after → IsItem ps steps c.from first other
  item_of_parts it is other o e r = record { production = is.production; placed = ap (slice_get ps) (sym o.0) ∙ is.placed; entered = e; read = r }

  -- an item that has read the passage with this number last pays
  record RangeItem (k : ℕ) (u : Unit_of_weight S) : Type 0 where
    passage : Passage
    at : slice_get c.passages.keys k ≡ Some passage
    it : Item ℕ
    has_read : HasReadLast ps Steps c.from it passage
    other : Item S
    over : Over it other
    is : u ≡ item other

  -- an item that is whole, over the passage with this number, pays
  record WholeItem (k : ℕ) (u : Unit_of_weight S) : Type 0 where
    passage : Passage
    at : slice_get c.passages.keys k ≡ Some passage
    it : Item ℕ
    whole : IsWholeOf ps Steps c.from it passage
    other : Item S
    over : Over it other
    is : u ≡ item other

  -- a letter pays that is put out as the passage with this number is read
  record ReadBy (k byte : ℕ) (letters : List Letter) (j : ℕ) (u : Unit_of_weight S) : Type 0 where
    passage : Passage
    at : slice_get c.passages.keys k ≡ Some passage
    it : Item ℕ
    has_read : HasReadLast ps Steps c.from it passage
    other : Item S
    over : Over it other
    is : u ≡ read other has_read.place byte letters j

  -- a letter pays that is put out at an end
  record LastBy (k state : ℕ) (letters : List Letter) (j : ℕ) (u : Unit_of_weight S) : Type 0 where
    at : slice_get c.passages.keys k ≡ Some (record { symbol = Nt c.from; from = 0; to = state })
    target : S
    stands : Stands state target
    is : u ≡ last target letters j

  abbrev Charged : Charge → ℕ → Unit_of_weight S → Type 0
  Charged (reads k byte letters) j u = ReadBy k byte letters j u
  Charged (ends k state letters) j u = LastBy k state letters j u

  same_item : (a b : Item S) → ◌≡◌ {A = Unit_of_weight S} (item a) (item b) → a ≡ b
  same_item a b e = cc

  range_one : (i j : ℕ) (u : Unit_of_weight S) → RangeItem i u → RangeItem j u → i ≡ j
  range_one i j u a b =
      let o : a.other ≡ b.other = same_item a.other b.other (sym a.is ∙ b.is) in
      let it : a.it ≡ b.it = over_same a.it b.it b.other (subst (λ (x : Item S). Over a.it x) o a.over) b.over in
      let f : a.passage ≡ b.passage = same_last ps Steps c.from b.it a.passage b.passage (subst (λ (x : Item ℕ). HasReadLast ps Steps c.from x a.passage) it a.has_read) b.has_read in
      passages i j b.passage (a.at ∙ ap (λ (x : Passage). Some x) f) b.at

  whole_one : (i j : ℕ) (u : Unit_of_weight S) → WholeItem i u → WholeItem j u → i ≡ j
  whole_one i j u a b =
      let o : a.other ≡ b.other = same_item a.other b.other (sym a.is ∙ b.is) in
      let it : a.it ≡ b.it = over_same a.it b.it b.other (subst (λ (x : Item S). Over a.it x) o a.over) b.over in
      let f : a.passage ≡ b.passage = same_whole ps Steps c.from b.it a.passage b.passage (subst (λ (x : Item ℕ). IsWholeOf ps Steps c.from x a.passage) it a.whole) b.whole in
      passages i j b.passage (a.at ∙ ap (λ (x : Passage). Some x) f) b.at

  read_parts : (a b : Item S) (p q x y : ℕ) (v z : List Letter) (i j : ℕ) → ◌≡◌ {A = Unit_of_weight S} (read a p x v i) (read b q y z j) → (a ≡ b) × (x ≡ y) × (v ≡ z) × (i ≡ j)
  read_parts a b p q x y v z i j e =
      let one : a ≡ b = cc in
      let two : x ≡ y = cc in
      let three : v ≡ z = cc in
      let four : i ≡ j = cc in
      (one, two, three, four)

  last_parts : (a b : S) (v z : List Letter) (i j : ℕ) → ◌≡◌ {A = Unit_of_weight S} (last a v i) (last b z j) → (a ≡ b) × (v ≡ z) × (i ≡ j)
  last_parts a b v z i j e =
      let one : a ≡ b = cc in
      let three : v ≡ z = cc in
      let four : i ≡ j = cc in
      (one, three, four)

  read_one : (k l x y : ℕ) (v z : List Letter) (i j : ℕ) (u : Unit_of_weight S) → ReadBy k x v i u → ReadBy l y z j u → (k ≡ l) × (x ≡ y) × (v ≡ z) × (i ≡ j)
  read_one k l x y v z i j u a b =
      let e = read_parts a.other b.other (a.has_read).place (b.has_read).place x y v z i j (sym a.is ∙ b.is) in
      let it : a.it ≡ b.it = over_same a.it b.it b.other (subst (λ (q : Item S). Over a.it q) e.0 a.over) b.over in
      let f : a.passage ≡ b.passage = same_last ps Steps c.from b.it a.passage b.passage (subst (λ (q : Item ℕ). HasReadLast ps Steps c.from q a.passage) it a.has_read) b.has_read in
      (passages k l b.passage (a.at ∙ ap (λ (q : Passage). Some q) f) b.at, e.1, e.2, e.3)

  last_one : (k l x y : ℕ) (v z : List Letter) (i j : ℕ) (u : Unit_of_weight S) → LastBy k x v i u → LastBy l y z j u → (k ≡ l) × (v ≡ z) × (i ≡ j)
  last_one k l x y v z i j u a b =
      let e = last_parts a.target b.target v z i j (sym a.is ∙ b.is) in
      let s : x ≡ y = apart x y b.target (a.stands ∙ ap (λ (q : S). Some q) e.0) b.stands in
      let f : ◌≡◌ {A = Passage} (record { symbol = Nt c.from; from = 0; to = x }) (record { symbol = Nt c.from; from = 0; to = y }) =
      ap (λ (n : ℕ). let q : Passage = record { symbol = Nt c.from; from = 0; to = n } in q) s in
      (passages k l (record { symbol = Nt c.from; from = 0; to = y }) (a.at ∙ ap (λ (q : Passage). Some q) f) b.at, e.1, e.2)

  -- what is charged tells what charges it
  charged_one : (x y : Charge) (i j : ℕ) (u : Unit_of_weight S) → Charged x i u → Charged y j u → (left_by x ≡ left_by y) × (behind_by x ≡ behind_by y) × (letters_of x ≡ letters_of y) × (i ≡ j)
  charged_one (reads k x v) (reads l y z) i j u a b =
      let e = read_one k l x y v z i j u a b in
      (ap (λ (n : ℕ). suc n) e.0, refl, e.2, e.3)
  charged_one (reads k x v) (ends l y z) i j u a b = let e : read a.other (a.has_read).place x v i ≡ last b.target z j = sym a.is ∙ b.is in cc
  charged_one (ends k x v) (reads l y z) i j u a b = let e : last a.target v i ≡ read b.other (b.has_read).place y z j = sym a.is ∙ b.is in cc
  charged_one (ends k x v) (ends l y z) i j u a b =
      let e = last_one k l x y v z i j u a b in
      (refl, ap (λ (n : ℕ). suc n) e.0, e.1, e.2)

  sound : (f : Passage) (k : ℕ) → slice_get c.passages.keys k ≡ Some f → IsPassage ps c.from c.readings.items f
  sound f k at = All-contains (IsPassage ps c.from c.readings.items) c.passages.keys f w.chart.sound.passed (contains_at c.passages.keys k f at)

  range_pays : (k : ℕ) (f : Passage) (it : Item ℕ) → slice_get c.passages.keys k ≡ Some f → HasReadLast ps Steps c.from it f → (u : Unit_of_weight S) × RangeItem k u × Is u
  range_pays k f it at h =
      let o = over_parts it h.is_item in
      (item o.0, record { passage = f; at = at; it = it; has_read = h; other = o.0; over = o.1; is = refl }, item_of_parts it h.is_item o.0 o.1 o.2 o.3)

  whole_pays : (k : ℕ) (f : Passage) (it : Item ℕ) → slice_get c.passages.keys k ≡ Some f → IsWholeOf ps Steps c.from it f → (u : Unit_of_weight S) × WholeItem k u × Is u
  whole_pays k f it at h =
      let o = over_parts it h.is_item in
      (item o.0, record { passage = f; at = at; it = it; whole = h; other = o.0; over = o.1; is = refl }, item_of_parts it h.is_item o.0 o.1 o.2 o.3)

  passage_pays : (k : ℕ) → k < length c.passages.keys → ((u : Unit_of_weight S) × RangeItem k u × Is u) ⊎ ((u : Unit_of_weight S) × WholeItem k u × Is u)
  passage_pays k h =
      let p = at_place c.passages.keys k h in
      let f = p.0 in
      let s = sound f k p.1 in
      elim (passage_item ps Steps c.from f.symbol f.from f.to s.0 s.1) [
        | inl r ↦ inl (range_pays k f r.0 p.1 r.1)
        | inr r ↦ inr (whole_pays k f r.0 p.1 r.1)
      ]

  -- a passage of a range is read last by some item
  ranged : (r : ByteRange) (i j k : ℕ) → slice_get c.passages.keys k ≡ Some (record { symbol = Range r; from = i; to = j }) → (it : Item ℕ) × HasReadLast ps Steps c.from it (record { symbol = Range r; from = i; to = j })
  ranged r i j k at =
      let s = sound (record { symbol = Range r; from = i; to = j }) k at in
      elim (passage_item ps Steps c.from (Range r) i j s.0 s.1) [
        | inl h ↦ h
        | inr h ↦ let e : Range r ≡ Nt (h.1.is_item).production.left = h.1.symbol in cc
      ]

  -- a passage of a nonterminal is one of a whole item, or read last by some item
  reads_pay : (k byte : ℕ) (letters : List Letter) (j : ℕ) → Charges (reads k byte letters) → j < length letters → (u : Unit_of_weight S) × ReadBy k byte letters j u × Is u
  unfolding item_of_parts ranged
  reads_pay k byte letters j h below =
      let r = h.0 in
      let f : Passage = record { symbol = Range r.asked; from = r.from; to = r.to } in
      let g = ranged r.asked r.from r.to k h.2 in
      let last_read = g.1 in
      let o = over_parts g.0 last_read.is_item in
      let is = item_of_parts g.0 last_read.is_item o.0 o.1 o.2 o.3 in
      let b = zip_at Stands ((g.0).entry ∷ (g.0).after) ((o.0).entry ∷ (o.0).after) last_read.place r.from (o.1.1, o.1.2) last_read.before in
      let d = zip_at Stands (g.0).after (o.0).after last_read.place r.to o.1.2 last_read.behind in
      let k_is = All-contains (IsReading steps states) c.readings.items r w.readings h.1 in
      let source : k_is.source ≡ b.0 = some_same k_is.source b.0 (sym k_is.is_source ∙ b.1) in
      let target : k_is.target ≡ d.0 = some_same k_is.target d.0 (sym k_is.is_target ∙ d.1) in
      let within = h.3 in
      let low = k_is.low in
      let high = k_is.high in
      let wide : InRange r.asked byte = (let x = within.0 in let y = within.1 in (omega (arith, x, low), omega (arith, y, high))) in
      let step : steps b.0 byte d.0 letters =
      subst (λ (z : S). steps z byte d.0 letters) source (subst (λ (z : S). steps k_is.source byte z letters) target (subst (λ (z : List Letter). steps k_is.source byte k_is.target z) h.4 (k_is.step byte within))) in
      let unit : ReadsRange ps steps ends_of c.from first o.0 last_read.place byte letters =
      record { is_item = is; range = r.asked; is_range = last_read.symbol; in_range = wide; before = b.0; is_before = b.2; behind = d.0; is_behind = d.2; step = step } in
      (read o.0 last_read.place byte letters j, record { passage = f; at = h.2; it = g.0; has_read = last_read; other = o.0; over = o.1; is = refl }, (unit, below))

  ends_pay : (k state : ℕ) (letters : List Letter) (j : ℕ) → Charges (ends k state letters) → j < length letters → (u : Unit_of_weight S) × LastBy k state letters j u × Is u
  ends_pay k state letters j h below =
      let f : Passage = record { symbol = Nt c.from; from = 0; to = state } in
      let s = sound f k h.3 in
      let l = leads_over ps Steps steps Stands (step_over steps states c.readings.items w.readings) 0 (Nt c.from) state first s.1 w.begins in
      let own = of_lasts.only h.0 h.1 in
      let same : own.source ≡ l.0 = some_same own.source l.0 (sym own.is_source ∙ (ap (slice_get states) h.2 ∙ l.1)) in
      let stop : ends_of l.0 letters = subst (λ (z : S). ends_of z letters) same (subst (λ (z : List Letter). ends_of own.source z) h.4 own.ends_so) in
      (last l.0 letters j, record { at = h.3; target = l.0; stands = l.1; is = refl }, (l.2, stop, below))

  charge_pays : (x : Charge) (j : ℕ) → Charges x → j < length (letters_of x) → (u : Unit_of_weight S) × Charged x j u × Is u
  charge_pays (reads k byte letters) j h below = reads_pay k byte letters j h below
  charge_pays (ends k state letters) j h below = ends_pay k state letters j h below

  begun_weigh : (n : ℕ) → HasItems ps steps c.from first n → Has Is n
  begun_weigh n h = (
    map item h.0,
    λ i j u a b.
        let x = at_map h.0 i u a in
        let y = at_map h.0 j u b in
        let same : x.0 ≡ y.0 = same_item x.0 y.0 (x.2 ∙ sym y.2) in
        h.1 i j x.0 x.1 (y.1 ∙ ap (λ (z : Item S). Some z) (sym same)),
    All-map Is item h.0 h.2,
    (let made : Item S → Unit_of_weight S = item in let l = length-map h.0 made in let m = h.3 in omega (arith, l, m)),
  )
    where
      at_map : (xs : List (Item S)) (n : ℕ) (u : Unit_of_weight S) → slice_get (map item xs) n ≡ Some u → (x : Item S) × (slice_get xs n ≡ Some x) × (item x ≡ u)
      at_map [] n u h = cc
      at_map (x ∷ xs) zero u h = let same : item x ≡ u = cc in (x, refl, same)
      at_map (x ∷ xs) (suc n) u h = at_map xs n u h

  passages_weigh : (n : ℕ) × Has Is n × (length c.passages.keys ≤ n + n)
  passages_weigh = counted Is RangeItem WholeItem range_one whole_one (length c.passages.keys) passage_pays

  -- the passage that letters are put out at
  abbrev number_by : Charge → ℕ
  number_by (reads k byte letters) = k
  number_by (ends k state letters) = k

  number_below : (x : Charge) → Charges x → number_by x < length c.passages.keys
  number_below (reads k byte letters) h = slice_get_within c.passages.keys k _ h.2
  number_below (ends k state letters) h = slice_get_within c.passages.keys k _ h.3

  -- at one passage, letters are put out in one way
  same_kind : (x y : Charge) → Charges x → Charges y → number_by x ≡ number_by y → (left_by x ≡ left_by y) × (behind_by x ≡ behind_by y)
  same_kind (reads k b v) (reads l d z) h i e = (ap (λ (n : ℕ). suc n) e, refl)
  same_kind (reads k b v) (ends l d z) h i e =
      let f : Passage = record { symbol = Range (h.0).asked; from = (h.0).from; to = (h.0).to } in
      let g : Passage = record { symbol = Nt c.from; from = 0; to = d } in
      let q : f ≡ g = some_same f g (sym h.2 ∙ (ap (slice_get c.passages.keys) e ∙ i.3)) in
      let x : Range (h.0).asked ≡ Nt c.from = ap (λ (z : Passage). z.symbol) q in
      cc
  same_kind (ends k b v) (reads l d z) h i e =
      let f : Passage = record { symbol = Nt c.from; from = 0; to = b } in
      let g : Passage = record { symbol = Range (i.0).asked; from = (i.0).from; to = (i.0).to } in
      let q : f ≡ g = some_same f g (sym h.3 ∙ (ap (slice_get c.passages.keys) e ∙ i.2)) in
      let x : Nt c.from ≡ Range (i.0).asked = ap (λ (z : Passage). z.symbol) q in
      cc
  same_kind (ends k b v) (ends l d z) h i e = (refl, ap (λ (n : ℕ). suc n) e)

  -- a letter is no item
  no_item : (x : Charge) (j : ℕ) (u : Unit_of_weight S) (it : Item S) → Charged x j u → u ≡ item it → ⊥
  no_item (reads k b v) j u it h e = let f : read h.other (h.has_read).place b v j ≡ item it = sym h.is ∙ e in cc
  no_item (ends k b v) j u it h e = let f : last h.target v j ≡ item it = sym h.is ∙ e in cc

  module _ (g : Grammar) (image : IsImageOf ps c lasts g) where
    abbrev Base : ℕ
    Base = suc (length c.passages.keys)

    abbrev Fronts : List Front
    Fronts = (image.outputs).fronts.keys

    abbrev Said_so : Said → Type 0
    Said_so s = IsSaid c.from c.passages.keys c.readings.items lasts Base Fronts s

    -- what is said is told by its nonterminals and its letters
    said_one : (n m : ℕ) (s t : Said) → slice_get (image.outputs).said.keys n ≡ Some s → slice_get (image.outputs).said.keys m ≡ Some t → (a : Said_so s) (b : Said_so t) → left_by a.charge ≡ left_by b.charge → behind_by a.charge ≡ behind_by b.charge → letters_of a.charge ≡ letters_of b.charge → n ≡ m
    said_one n m s t at found a b left behind letters =
        let symbols : a.symbols ≡ b.symbols = spells_same a.symbols b.symbols (letters_of b.charge) (subst (λ (v : List Letter). Spells a.symbols v) letters a.spells) b.spells in
        let front : s.front ≡ t.front = stands_number Base Fronts (omega arith) image.different_fronts s.front t.front a.symbols b.symbols a.stands b.stands symbols in
        let same : s ≡ t = said_same s t (a.is_left ∙ (left ∙ sym b.is_left)) (a.is_behind ∙ (behind ∙ sym b.is_behind)) front in
        image.different_said n m t (at ∙ ap (λ (x : Said). Some x) same) found

    -- an item that has read the passage of what is said last pays, where there are no letters
    record NoneBy (n : ℕ) (u : Unit_of_weight S) : Type 0 where
      said : Said
      at : slice_get (image.outputs).said.keys n ≡ Some said
      so : Said_so said
      none : letters_of so.charge ≡ []
      pays : RangeItem (number_by so.charge) u

    -- the first letter pays, or a whole item where there are no letters
    record SomeBy (n : ℕ) (u : Unit_of_weight S) : Type 0 where
      said : Said
      at : slice_get (image.outputs).said.keys n ≡ Some said
      so : Said_so said
      pays : Charged so.charge 0 u ⊎ ((letters_of so.charge ≡ []) × WholeItem (number_by so.charge) u)

    none_one : (n m : ℕ) (u : Unit_of_weight S) → NoneBy n u → NoneBy m u → n ≡ m
    none_one n m u a b =
        let k = same_kind (a.so).charge (b.so).charge (a.so).is_charge (b.so).is_charge (range_one _ _ u a.pays b.pays) in
        said_one n m a.said b.said a.at b.at a.so b.so k.0 k.1 (a.none ∙ sym b.none)

    some_one : (n m : ℕ) (u : Unit_of_weight S) → SomeBy n u → SomeBy m u → n ≡ m
    some_one n m u a b = elim a.pays [
      | inl x ↦ elim b.pays [
        | inl y ↦ let e = charged_one (a.so).charge (b.so).charge 0 0 u x y in said_one n m a.said b.said a.at b.at a.so b.so e.0 e.1 e.2
        | inr y ↦ absurd (no_item (a.so).charge 0 u (y.1).other x y.1.is)
      ]
      | inr x ↦ elim b.pays [
        | inl y ↦ absurd (no_item (b.so).charge 0 u (x.1).other y x.1.is)
        | inr y ↦
            let k = same_kind (a.so).charge (b.so).charge (a.so).is_charge (b.so).is_charge (whole_one _ _ u x.1 y.1) in
            said_one n m a.said b.said a.at b.at a.so b.so k.0 k.1 (x.0 ∙ sym y.0)
      ]
    ]

    said_pays : (n : ℕ) → n < length (image.outputs).said.keys → ((u : Unit_of_weight S) × NoneBy n u × Is u) ⊎ ((u : Unit_of_weight S) × SomeBy n u × Is u)
    said_pays n h =
        let p = at_place (image.outputs).said.keys n h in
        let so : Said_so p.0 = All-contains (IsSaid c.from c.passages.keys c.readings.items lasts Base Fronts) (image.outputs).said.keys p.0 (image.paid).said (contains_at (image.outputs).said.keys n p.0 p.1) in
        elim (none_of (letters_of so.charge)) [
          | inl none ↦ elim (passage_pays (number_by so.charge) (number_below so.charge so.is_charge)) [
            | inl r ↦ inl (r.0, record { said = p.0; at = p.1; so = so; none = none; pays = r.1 }, r.2)
            | inr r ↦ inr (r.0, record { said = p.0; at = p.1; so = so; pays = inr (none, r.1) }, r.2)
          ]
          | inr some ↦ let r = charge_pays so.charge 0 so.is_charge some in inr (r.0, record { said = p.0; at = p.1; so = so; pays = inl r.1 }, r.2)
        ]

    abbrev Wide_so : Head → ℕ → Type 0
    Wide_so h f = IsWide c.from c.passages.keys c.readings.items lasts Base Fronts h f

    -- the first letter of the least byte of a range that stays whole pays
    record HeadBy (n : ℕ) (u : Unit_of_weight S) : Type 0 where
      head : Head
      at : slice_get (image.outputs).heads.keys n ≡ Some head
      front : ℕ
      so : Wide_so head front
      pays : ReadBy so.number head.lo so.letters 0 u

    head_one : (n m : ℕ) (u : Unit_of_weight S) → HeadBy n u → HeadBy m u → n ≡ m
    head_one n m u a b =
        let e = read_one (a.so).number (b.so).number (a.head).lo (b.head).lo (a.so).letters (b.so).letters 0 0 u a.pays b.pays in
        let same : a.head ≡ b.head = head_same a.head b.head ((a.so).is_left ∙ (ap (λ (k : ℕ). suc k) e.0 ∙ sym (b.so).is_left)) e.1 in
        image.different_heads n m b.head (a.at ∙ ap (λ (x : Head). Some x) same) b.at

    head_pays : (n : ℕ) → n < length (image.outputs).heads.keys → ((u : Unit_of_weight S) × HeadBy n u × Is u) ⊎ ((u : Unit_of_weight S) × HeadBy n u × Is u)
    head_pays n h =
        let p = at_place (image.outputs).heads.keys n h in
        let long = (image.paid).long in
        let f = at_place (image.outputs).wide.items n (omega (arith, long, h)) in
        let so : Wide_so p.0 f.0 = (image.paid).wide n p.0 f.0 p.1 f.1 in
        let r = reads_pay so.number (p.0).lo so.letters 0 so.is_charge so.some in
        inl (r.0, record { head = p.0; at = p.1; front = f.0; so = so; pays = r.1 }, r.2)

    -- a letter pays for a front of a text
    record TextBy (n : ℕ) (u : Unit_of_weight S) : Type 0 where
      text : OfText c.from c.passages.keys c.readings.items lasts Base Fronts n
      pays : Charged text.charge (text.front_of).0 u

    -- a letter pays for a front of symbols of which a range stays whole
    record WideBy (n : ℕ) (u : Unit_of_weight S) : Type 0 where
      wide : OfWide c.from c.passages.keys c.readings.items lasts Base Fronts (image.outputs).heads.keys (image.outputs).wide.items n
      pays : ReadBy (wide.paid).number (wide.head).lo (wide.paid).letters (wide.front_of).0 u

    front_one : (n m i j : ℕ) (xs ys : List Symbol) → StandsFor Base Fronts (Base + n) (take (suc i) xs) → StandsFor Base Fronts (Base + m) (take (suc j) ys) → xs ≡ ys → i ≡ j → n ≡ m
    front_one n m i j xs ys a b e f =
        let g : take (suc i) xs ≡ take (suc j) ys = ap (λ (k : ℕ). take (suc k) xs) f ∙ ap (λ (zs : List Symbol). take (suc j) zs) e in
        let h = stands_number Base Fronts (omega arith) image.different_fronts (Base + n) (Base + m) (take (suc i) xs) (take (suc j) ys) a b g in
        omega (arith, h)

    text_one : (n m : ℕ) (u : Unit_of_weight S) → TextBy n u → TextBy m u → n ≡ m
    text_one n m u a b =
        let e = charged_one (a.text).charge (b.text).charge ((a.text).front_of).0 ((b.text).front_of).0 u a.pays b.pays in
        let symbols : (a.text).symbols ≡ (b.text).symbols =
        spells_same (a.text).symbols (b.text).symbols (letters_of (b.text).charge) (subst (λ (v : List Letter). Spells (a.text).symbols v) e.2 (a.text).spells) (b.text).spells in
        front_one n m ((a.text).front_of).0 ((b.text).front_of).0 (a.text).symbols (b.text).symbols ((a.text).front_of).2 ((b.text).front_of).2 symbols e.3

    wide_one : (n m : ℕ) (u : Unit_of_weight S) → WideBy n u → WideBy m u → n ≡ m
    wide_one n m u a b =
        let x = a.wide in
        let y = b.wide in
        let e = read_one (x.paid).number (y.paid).number (x.head).lo (y.head).lo (x.paid).letters (y.paid).letters (x.front_of).0 (y.front_of).0 u a.pays b.pays in
        let same : x.head ≡ y.head = head_same x.head y.head ((x.paid).is_left ∙ (ap (λ (k : ℕ). suc k) e.0 ∙ sym (y.paid).is_left)) e.1 in
        let place : x.place ≡ y.place = image.different_heads x.place y.place y.head (x.is_head ∙ ap (λ (z : Head). Some z) same) y.is_head in
        let front : x.front ≡ y.front = some_same x.front y.front (sym x.is_front ∙ (ap (slice_get (image.outputs).wide.items) place ∙ y.is_front)) in
        let symbols : (x.paid).symbols ≡ (y.paid).symbols = stands_unique Base Fronts (omega arith) x.front y.front (x.paid).symbols (y.paid).symbols (x.paid).stands (y.paid).stands front in
        front_one n m (x.front_of).0 (y.front_of).0 (x.paid).symbols (y.paid).symbols (x.front_of).2 (y.front_of).2 symbols e.3

    front_pays : (n : ℕ) → n < length Fronts → ((u : Unit_of_weight S) × TextBy n u × Is u) ⊎ ((u : Unit_of_weight S) × WideBy n u × Is u)
    front_pays n h = elim ((image.paid).fronts n h) [
      | inl t ↦
          let long = spells_long t.symbols (letters_of t.charge) ((t.spells (letters_of t.charge)).1 refl) in
          let below = (t.front_of).1 in
          let r = charge_pays t.charge (t.front_of).0 t.is_charge (omega (arith, long, below)) in
          inl (r.0, record { text = t; pays = r.1 }, r.2)
      | inr t ↦
          let long = (t.paid).long in
          let below = (t.front_of).1 in
          let r = reads_pay (t.paid).number (t.head).lo (t.paid).letters (t.front_of).0 (t.paid).is_charge (omega (arith, long, below)) in
          inr (r.0, record { wide = t; pays = r.1 }, r.2)
    ]

    pub small : HasItems ps steps c.from first (length c.begun.items) → IsSmall ps steps ends_of c.from first g.count (length g.productions.items)
    small items =
        let begun = begun_weigh (length c.begun.items) items in
        let led = passages_weigh in
        let said = counted Is NoneBy SomeBy none_one some_one (length (image.outputs).said.keys) said_pays in
        let heads = counted Is HeadBy HeadBy head_one head_one (length (image.outputs).heads.keys) head_pays in
        let fronts = counted Is TextBy WideBy text_one wide_one (length Fronts) front_pays in
        let a = heavier Is (length c.begun.items) led.0 begun led.1 in
        let b = heavier Is a.0 said.0 a.1 said.1 in
        let d = heavier Is b.0 heads.0 b.1 heads.1 in
        let e = heavier Is d.0 fronts.0 d.1 fronts.1 in
        sum_up e.0 e.1 led.0 said.0 heads.0 fronts.0
        (let x = a.2 in let y = b.2 in let z = d.2 in let v = e.2 in omega (arith, x, y, z, v))
        (let x = a.3 in let y = b.2 in let z = d.2 in let v = e.2 in omega (arith, x, y, z, v))
        (let y = b.3 in let z = d.2 in let v = e.2 in omega (arith, y, z, v))
        (let z = d.3 in let v = e.2 in omega (arith, z, v))
        e.3 led.2 said.2 heads.2 fronts.2
      where
        sum_up : (w : ℕ) → Has Is w → (p s h f : ℕ) → length c.begun.items ≤ w → p ≤ w → s ≤ w → h ≤ w → f ≤ w → length c.passages.keys ≤ p + p → length (image.outputs).said.keys ≤ s + s → length (image.outputs).heads.keys ≤ h + h → length Fronts ≤ f + f → IsSmall ps steps ends_of c.from first g.count (length g.productions.items)
        sum_up w weighs p s h f bi bp bs bh bf np ns nh nf =
            let count = image.count in
            let few = image.few in
            let written = (image.paid).count in
            let wholes = image.few_wholes in
            (w, weighs, omega (arith, count, bp, bf, np, nf), omega (arith, few, written, wholes, bi, bs, bh, bf, ns, nh, nf))
