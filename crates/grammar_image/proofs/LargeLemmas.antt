-- The begun productions of a chart are as many items of the machine.
use Rattle.std.proofs.Common.{◌≡◌, ℕ, zero, suc, List, [], ◌∷◌, length, map, refl, sym, ◌∙◌, ap, arith, Some, slice_get}
use Rattle.std.proofs.lemmas.List.{length-map}
use Rattle.std.proofs.lemmas.List.Elements.{All-map, All-weaker}
use Rattle.text_base.specs.declared.letter.Letter.{Letter}
use Rattle.cfg_grammar.specs.declared.production.Production.{Production}
use Rattle.fst_core.specs.Items.{Item, IsItem, HasItems}
use Rattle.fst_core.proofs.Over.{has_items_over}
use Rattle.numbered_sets.specs.Numbers.{AreDifferent}
use Rattle.grammar_chart.specs.declared.keys.Read.{Read}
use Rattle.grammar_chart.specs.declared.keys.Read.TheVariants.{Nothing, First, Both}
use Rattle.grammar_chart.specs.declared.keys.Begun.{Begun}
use Rattle.grammar_chart.specs.declared.chart.Chart.{Chart}
use Rattle.grammar_chart.specs.Rules.{ReadingStep, states_of, item_of}
use Rattle.grammar_chart.specs.Charts.{IsBegun}
use Rattle.grammar_chart.proofs.ChartLemmas.{item_begun}
use Rattle.grammar_image.specs.Work.{IsWorked}
use Rattle.grammar_image.proofs.WorkLemmas.{step_over}

same_read : (a b : Read) → states_of a ≡ states_of b → a ≡ b
same_read Nothing Nothing e = refl
same_read Nothing (First t) e = cc
same_read Nothing (Both t u) e = cc
same_read (First t) Nothing e = cc
same_read (First t) (First s) e = let same : t ≡ s = cc in ap (λ (x : ℕ). First x) same
same_read (First t) (Both s u) e = cc
same_read (Both t u) Nothing e = cc
same_read (Both t u) (First s) e = cc
same_read (Both t u) (Both s v) e =
    let one : t ≡ s = cc in
    let two : u ≡ v = cc in
    ap (λ (x : ℕ). Both x u) one ∙ ap (λ (x : ℕ). Both s x) two

same_begun : (a b : Begun) → item_of a ≡ item_of b → a ≡ b
same_begun a b e =
    let p : a.place ≡ b.place = ap (λ (i : Item ℕ). i.place) e in
    let f : a.from ≡ b.from = ap (λ (i : Item ℕ). i.entry) e in
    let r : a.read ≡ b.read = same_read a.read b.read (ap (λ (i : Item ℕ). i.after) e) in
    ap (λ (x : ℕ). let y : Begun = record { place = x; from = a.from; read = a.read } in y) p
    ∙ (ap (λ (x : ℕ). let y : Begun = record { place = b.place; from = x; read = a.read } in y) f
    ∙ ap (λ (x : Read). let y : Begun = record { place = b.place; from = b.from; read = x } in y) r)

at_map : (bs : List Begun) (n : ℕ) (i : Item ℕ) → slice_get (map item_of bs) n ≡ Some i → (b : Begun) × (slice_get bs n ≡ Some b) × (item_of b ≡ i)
at_map [] n i h = cc
at_map (b ∷ bs) zero i h = let same : item_of b ≡ i = cc in (b, refl, same)
at_map (b ∷ bs) (suc n) i h = at_map bs n i h

pub has_items : {S : Type 0} (steps : S → ℕ → S → List Letter → Type 0) (gives : S → Type 0) (first : S) (ps : List Production) (states : List S) (c : Chart) → IsWorked steps gives first ps states c → AreDifferent states → (n : ℕ) → n ≡ length c.begun.items → HasItems ps steps c.from first n
has_items {S} steps gives first ps states c w apart n long =
    let bs = c.begun.items in
    let rs = c.readings.items in
    let stands : ℕ → S → Type 0 = λ i s. slice_get states i ≡ Some s in
    let items = map item_of bs in
    let all = All-map (IsItem ps (ReadingStep rs) c.from 0) item_of bs
    (All-weaker (IsBegun ps c.from c.passages.keys rs) (λ (b : Begun). IsItem ps (ReadingStep rs) c.from 0 (item_of b))
    (λ b h. item_begun ps c.from c.passages.keys rs w.chart.sound.passed b h) bs w.chart.sound.begun) in
    let apart_items : AreDifferent items = λ i j x h k.
    let a = at_map bs i x h in
    let b = at_map bs j x k in
    let same : a.0 ≡ b.0 = same_begun a.0 b.0 (a.2 ∙ sym b.2) in
    w.chart.once.different i j a.0 a.1 (b.1 ∙ ap (λ (y : Begun). Some y) (sym same)) in
    let numbers : HasItems ps (ReadingStep rs) c.from 0 n = (items, apart_items, all, (let l = length-map bs item_of in omega (arith, l, long))) in
    has_items_over ps (ReadingStep rs) steps stands (step_over steps states rs w.readings) c.from 0 first w.begins (λ i j s h k. apart i j s h k) n numbers
