-- Whatever the machine puts out over a text of a symbol, the passage's nonterminal derives.
use Rattle.std.proofs.Common.{◌≡◌, ℕ, ◌+◌, ◌≤◌, suc, List, [], ◌∷◌, ◌++◌, length, map, Contains, refl, sym, ◌∙◌, ap, subst, arith, Option, None, Some, slice_get, append_assoc}
use Rattle.std.specs.Option.{MatchOption}
use Rattle.std.specs.List.{AllZip}
use Rattle.std.proofs.lemmas.List.Elements.{All-contains}
use Rattle.std.proofs.lemmas.Option.{slice_get_within}
use Rattle.text_base.specs.declared.byte_range.ByteRange.{ByteRange}
use Rattle.text_base.specs.declared.numbers.Nt as nt
use Rattle.text_base.specs.declared.letter.Letter.{Letter}
use Rattle.text_base.specs.declared.letter.Letter.TheVariants.{OfByte, OfToken}
use Rattle.text_base.specs.ByteRange.{InRange}
use Rattle.cfg_grammar.specs.declared.symbol.Symbol.{Symbol}
use Rattle.cfg_grammar.specs.declared.symbol.Symbol.TheVariants.{Range, Nt}
use Rattle.cfg_grammar.specs.declared.production.Right.{Right}
use Rattle.cfg_grammar.specs.declared.production.Right.TheVariants.{Empty, One, Two}
use Rattle.cfg_grammar.specs.declared.production.Production.{Production}
use Rattle.cfg_grammar.specs.Derives.{Derives, by_range, by_token, by_empty, by_one, by_two}
use Rattle.fst_core.specs.Runs.{Runs}
use Rattle.numbered_sets.specs.Numbers.{AreDifferent}
use Rattle.grammar_chart.specs.declared.keys.Entry.{Entry}
use Rattle.grammar_chart.specs.declared.keys.Read.TheVariants.{Nothing, First, Both}
use Rattle.grammar_chart.specs.declared.keys.Begun.{Begun}
use Rattle.grammar_chart.specs.declared.keys.Passage.{Passage}
use Rattle.grammar_chart.specs.declared.keys.Reading.{Reading}
use Rattle.grammar_chart.specs.declared.steps.Visit.{Visit}
use Rattle.grammar_chart.specs.Rules.{awaited_by, awaited_in, awaited_of, passage_by, passage_in, passage_of, read_on}
use Rattle.grammar_chart.specs.Charts.{HasRead, WaitsAt, IsTakenUp, IsChart}
use Rattle.grammar_chart.proofs.AddingLemmas.{contains_at, at_contains}
use Rattle.chart_grammar.specs.declared.fronts.Front.{Front}
use Rattle.chart_grammar.specs.declared.lifts.Last.{Last}
use Rattle.chart_grammar.specs.Outs.{Puts}
use Rattle.chart_grammar.specs.Lifts.{nt_of, RightLift, AreLifts, front_right, HasWhole, HasReading}
use Rattle.chart_grammar.specs.Sources.{FromRight}
use Rattle.chart_grammar.proofs.SayLemmas.{derives_front}
use Rattle.grammar_image.specs.Answers.{IsAnswered}

-- a run over two texts is two runs
pub runs_split : {S : Type 0} (steps : S → ℕ → S → List Letter → Type 0) (s : S) (a b : List ℕ) (t : S) (out : List Letter) → Runs steps s (a ++ b) t out → (u : S) × (x : List Letter) × (y : List Letter) × Runs steps s a u x × Runs steps u b t y × (out ≡ x ++ y)
runs_split steps s [] b t out r = (s, [], out, (refl, refl), r, refl)
runs_split steps s (byte ∷ a) b t out r =
    let q = runs_split steps r.0 a b t r.2 r.4 in
    (q.0, r.1 ++ q.1, q.2, (r.0, r.1, q.1, r.3, q.3, refl), q.4, r.5 ∙ (ap (λ (z : List Letter). r.1 ++ z) q.5 ∙ sym (append_assoc r.1 q.1 q.2)))

-- a text whose letters are two parts is two texts
pub text_split : (v w : List Letter) (text : List ℕ) → v ++ w ≡ map OfByte text → (a : List ℕ) × (b : List ℕ) × (text ≡ a ++ b) × (v ≡ map OfByte a) × (w ≡ map OfByte b)
text_split [] w text e = ([], text, refl, refl, e)
text_split (c ∷ v) w [] e = cc
text_split (c ∷ v) w (byte ∷ text) e =
    let first : c ≡ OfByte byte = cc in
    let rest : v ++ w ≡ map OfByte text = cc in
    let s = text_split v w text rest in
    (byte ∷ s.0, s.1, ap (λ (z : List ℕ). byte ∷ z) s.2, ap (λ (x : Letter). x ∷ v) first ∙ ap (λ (z : List Letter). OfByte byte ∷ z) s.3, s.4)

pub from_right : (qs : List Production) (p : Production) (a : nt.Nt) (right : Right) (w : List Letter) → Contains qs p → p.left ≡ a → p.right ≡ right → FromRight qs right w → Derives qs (Nt a) w
from_right qs p a right w has left is d =
    by right (subst (λ (n : nt.Nt). Contains qs (record { left = n; right = right })) left (subst (λ (r : Right). Contains qs (record { left = p.left; right = r })) is has)) d
  where
    by : (r : Right) → Contains qs (record { left = a; right = r }) → FromRight qs r w → Derives qs (Nt a) w
    by Empty h e = subst (λ (u : List Letter). Derives qs (Nt a) u) (sym e) (by_empty a h)
    by (One x) h e = by_one a x w h e
    by (Two x y) h e = subst (λ (u : List Letter). Derives qs (Nt a) u) (sym e.4) (by_two a x y e.0 e.1 h e.2 e.3)

some_same : {X : Type 0} (x y : X) → Some x ≡ Some y → x ≡ y
some_same x y h = cc

module _ {S : Type 0} (K : List S) (steps : S → ℕ → S → List Letter → Type 0) (ps : List Production) (from : nt.Nt) (es : List Entry) (vs : List Visit) (bs : List Begun) (fs : List Passage) (rs : List Reading) (opened taken left : ℕ)
    (chart : IsChart ps from es vs bs fs rs opened taken left) (opens : length es ≤ opened) (takes : length bs ≤ taken) (lets : length fs ≤ left) (entries : AreDifferent es) (passages : AreDifferent fs)
    (fr : List Front) (base : ℕ) (ls : List Last) (qs : List Production) (lifts : AreLifts ps from bs fs rs fr base ls qs) (based : base ≡ suc (length fs))
    (answers : (k : ℕ) (range : ByteRange) (i : ℕ) → slice_get es k ≡ Some (record { symbol = Range range; state = i }) → IsAnswered steps K fs rs range i) where
  taken_up : (b : Begun) → Contains bs b → IsTakenUp ps es vs bs fs b
  taken_up b h = let a = at_contains bs b h in chart.takes a.0 b (let w = slice_get_within bs a.0 b a.1 in omega (arith, w, takes)) a.1

  awaited_at : (b : Begun) (p : Production) → slice_get ps b.place ≡ Some p → awaited_of ps b ≡ awaited_by p.right b.from b.read
  awaited_at b p placed = ap (λ (o : Option Production). awaited_in o b) placed

  waits : (b : Begun) (e : Entry) → Contains bs b → awaited_of ps b ≡ Some e → WaitsAt es vs bs b e
  waits b e h is = subst (λ (o : Option Entry). MatchOption o (MatchOption (passage_of ps b) (Unit {0}) (λ f. Contains fs f)) (λ x. WaitsAt es vs bs b x)) is (taken_up b h)

  -- by a passage of the symbol that it waits for, a begun production goes on
  goes_on : (b : Begun) (e : Entry) (j : ℕ) → Contains bs b → awaited_of ps b ≡ Some e → Contains fs (record { symbol = e.symbol; from = e.state; to = j }) → Contains bs (read_on b j)
  goes_on b e j h is passed =
      let w = waits b e h is in
      let a = at_contains fs _ passed in
      let x = chart.lets a.0 _ (let l = slice_get_within fs a.0 _ a.1 in omega (arith, l, lets)) a.1 in
      let same : w.0 ≡ x.0 = entries w.0 x.0 e w.1 x.1 in
      let v : Some w.2 ≡ Some x.2 = sym w.3 ∙ (ap (slice_get vs) same ∙ x.3) in
      let one : w.2 ≡ x.2 = some_same w.2 x.2 v in
      let gone = chart.visited.combined w.0 w.2 w.4 j w.3 w.5 (subst (λ (z : Visit). Contains z.exits.items j) (sym one) x.4) in
      let here : Some gone.0 ≡ Some b = sym gone.1 ∙ w.6 in
      subst (λ (z : Begun). Contains bs (read_on z j)) (some_same gone.0 b here) gone.2

  -- where all is read, the left side has its passage
  ends : (b : Begun) (p : Production) → Contains bs b → slice_get ps b.place ≡ Some p → awaited_of ps b ≡ None → Contains fs (passage_by p b)
  ends b p h placed none =
      let t = subst (λ (o : Option Entry). MatchOption o (MatchOption (passage_of ps b) (Unit {0}) (λ f. Contains fs f)) (λ x. WaitsAt es vs bs b x)) none (taken_up b h) in
      let is : passage_of ps b ≡ Some (passage_by p b) = ap (λ (o : Option Production). passage_in o b) placed in
      subst (λ (o : Option Passage). MatchOption o (Unit {0}) (λ f. Contains fs f)) is t

  begins : (a : nt.Nt) (p : Production) (n i : ℕ) → slice_get ps n ≡ Some p → p.left ≡ a → Contains es (record { symbol = Nt a; state = i }) → Contains bs (record { place = n; from = i; read = Nothing })
  begins a p n i placed is entered =
      let e = at_contains es _ entered in
      chart.opens e.0 _ (let w = slice_get_within es e.0 _ e.1 in omega (arith, w, opens)) e.1 a refl n p placed is

  -- the passage's nonterminal derives the letters, and leads to the state
  abbrev pub IsReached : Symbol → ℕ → S → List Letter → Type 0
  IsReached x i t w = (j : ℕ) × (slice_get K j ≡ Some t) × (k : ℕ) × (slice_get fs k ≡ Some (record { symbol = x; from = i; to = j })) × Derives qs (nt_of (suc k)) w

  -- the production of what is read whole
  lift_of : (b : Begun) (p : Production) → Contains bs b → slice_get ps b.place ≡ Some p → awaited_of ps b ≡ None → HasRead fs p.right b.from b.read → (q : Production) × Contains qs q × (k : ℕ) × (slice_get fs k ≡ Some (passage_by p b)) × (q.left ≡ record { 0 = suc k }) × RightLift fs p.right b.from b.read q.right
  lift_of b p h placed none read =
      let l = All-contains (λ (z : Begun). HasWhole ps fs z qs) bs b lifts.wholes h p none placed (ends b p h placed none) read in
      let one : Some (l.2).production ≡ Some p = sym (l.2).placed ∙ placed in
      let same : (l.2).production ≡ p = some_same (l.2).production p one in (
        l.0,
        l.1,
        (l.2).number,
        (l.2).passed ∙ ap (λ (z : Production). Some (passage_by z b)) same,
        (l.2).left,
        subst (λ (z : Production). RightLift fs z.right b.from b.read (l.0).right) same (l.2).right,
      )

  reads_range : (range : ByteRange) (byte : ℕ) (text : List ℕ) (i : ℕ) (s t : S) (out : List Letter) → InRange range byte → OfByte byte ∷ [] ≡ map OfByte text → Contains es (record { symbol = Range range; state = i }) → slice_get K i ≡ Some s → Runs steps s text t out → IsReached (Range range) i t out
  reads_range range byte [] i s t out within e entered at run = cc
  reads_range range byte (b ∷ c ∷ text) i s t out within e entered at run = cc
  reads_range range byte (b ∷ []) i s t out within e entered at run =
      let same : byte ≡ b = cc in
      let en = at_contains es _ entered in
      let here : t ≡ run.0 = run.4.0 in
      let whole : out ≡ run.1 = run.5 ∙ (ap (λ (z : List Letter). run.1 ++ z) run.4.1 ∙ append_nil_of run.1) in
      let a = answers en.0 range i en.1 s at b (subst (λ (x : ℕ). InRange range x) same within) run.0 run.1 run.3 in
      let r = a.0 in
      let f : Passage = record { symbol = Range range; from = i; to = r.to } in
      let g : Passage = record { symbol = Range r.asked; from = r.from; to = r.to } in
      let fg : f ≡ g =
      ap (λ (x : ByteRange). let y : Passage = record { symbol = Range x; from = i; to = r.to } in y) (sym a.2)
      ∙ ap (λ (x : ℕ). let y : Passage = record { symbol = Range r.asked; from = x; to = r.to } in y) (sym a.3) in
      let l = All-contains (λ (z : Reading). HasReading fs fr base z qs) rs r lifts.readings a.1 a.6 a.7 (subst (λ (y : Passage). Contains fs y) fg a.5) in
      let lift = l.4 in
      let z : AllZip Puts lift.symbols run.1 = (lift.outs run.1).1 (a.6, l.2, a.8) in
      let d = derives_front ps from bs fs rs fr base ls qs lifts based lift.front lift.symbols run.1 lift.stands z in
      let derived = from_right qs l.1 (record { 0 = suc lift.number }) (front_right lift.front) run.1 l.3 lift.left lift.right d in (
        r.to,
        a.4 ∙ ap (λ (x : S). Some x) (sym here),
        lift.number,
        lift.passed ∙ ap (λ (y : Passage). Some y) (sym fg),
        subst (λ (w : List Letter). Derives qs (nt_of (suc lift.number)) w) (sym whole) derived,
      )
    where
      append_nil_of : (v : List Letter) → v ++ [] ≡ v
      append_nil_of [] = refl
      append_nil_of (c ∷ v) = ap (λ (u : List Letter). c ∷ u) (append_nil_of v)

  -- one of the passages is that of the number
  number_is : (k j : ℕ) (f : Passage) → slice_get fs k ≡ Some f → slice_get fs j ≡ Some f → k ≡ j
  number_is k j f a b = passages k j f a b

  reads_empty : (a : nt.Nt) (n i : ℕ) → slice_get ps n ≡ Some (record { left = a; right = Empty }) → Contains es (record { symbol = Nt a; state = i }) → (t : S) → slice_get K i ≡ Some t → IsReached (Nt a) i t []
  reads_empty a n i placed entered t at =
      let p : Production = record { left = a; right = Empty } in
      let b : Begun = record { place = n; from = i; read = Nothing } in
      let h = begins a p n i placed refl entered in
      let l = lift_of b p h placed (awaited_at b p placed) tt in
      (i, at, l.2, l.3, from_right qs l.0 (record { 0 = suc l.2 }) Empty [] l.1 l.4 l.5 refl)

  reads_one : (a : nt.Nt) (x : Symbol) (n i j k : ℕ) → slice_get ps n ≡ Some (record { left = a; right = One x }) → Contains es (record { symbol = Nt a; state = i }) → slice_get fs k ≡ Some (record { symbol = x; from = i; to = j }) → (t : S) → slice_get K j ≡ Some t → (w : List Letter) → Derives qs (nt_of (suc k)) w → IsReached (Nt a) i t w
  reads_one a x n i j k placed entered passed t at w d =
      let p : Production = record { left = a; right = One x } in
      let b : Begun = record { place = n; from = i; read = Nothing } in
      let h = begins a p n i placed refl entered in
      let has = contains_at fs k _ passed in
      let m = goes_on b (record { symbol = x; state = i }) j h (awaited_at b p placed) has in
      let c : Begun = record { place = n; from = i; read = First j } in
      let l = lift_of c p m placed (awaited_at c p placed) has in
      let lifted = l.5 in
      let same : lifted.0 ≡ k = number_is lifted.0 k _ lifted.1 passed in
      (j, at, l.2, l.3, from_right qs l.0 (record { 0 = suc l.2 }) (One (nt_of (suc lifted.0))) w l.1 l.4 lifted.2 (subst (λ (z : ℕ). Derives qs (nt_of (suc z)) w) (sym same) d))

  -- behind the first of two symbols the second is come to
  second : (a : nt.Nt) (x y : Symbol) (n i j k : ℕ) → slice_get ps n ≡ Some (record { left = a; right = Two x y }) → Contains es (record { symbol = Nt a; state = i }) → slice_get fs k ≡ Some (record { symbol = x; from = i; to = j }) → Contains es (record { symbol = y; state = j })
  second a x y n i j k placed entered passed =
      let p : Production = record { left = a; right = Two x y } in
      let b : Begun = record { place = n; from = i; read = Nothing } in
      let h = begins a p n i placed refl entered in
      let m = goes_on b (record { symbol = x; state = i }) j h (awaited_at b p placed) (contains_at fs k _ passed) in
      let c : Begun = record { place = n; from = i; read = First j } in
      let w = waits c (record { symbol = y; state = j }) m (awaited_at c p placed) in
      contains_at es w.0 _ w.1

  reads_two : (a : nt.Nt) (x y : Symbol) (n i j u k m : ℕ) → slice_get ps n ≡ Some (record { left = a; right = Two x y }) → Contains es (record { symbol = Nt a; state = i }) → slice_get fs k ≡ Some (record { symbol = x; from = i; to = j }) → slice_get fs m ≡ Some (record { symbol = y; from = j; to = u }) → (t : S) → slice_get K u ≡ Some t → (v w : List Letter) → Derives qs (nt_of (suc k)) v → Derives qs (nt_of (suc m)) w → IsReached (Nt a) i t (v ++ w)
  reads_two a x y n i j u k m placed entered first other t at v w d e =
      let p : Production = record { left = a; right = Two x y } in
      let b : Begun = record { place = n; from = i; read = Nothing } in
      let h = begins a p n i placed refl entered in
      let one = contains_at fs k _ first in
      let two = contains_at fs m _ other in
      let c : Begun = record { place = n; from = i; read = First j } in
      let hc = goes_on b (record { symbol = x; state = i }) j h (awaited_at b p placed) one in
      let f : Begun = record { place = n; from = i; read = Both j u } in
      let hf = goes_on c (record { symbol = y; state = j }) u hc (awaited_at c p placed) two in
      let l = lift_of f p hf placed (awaited_at f p placed) (one, two) in
      let lifted = l.5 in
      let same : lifted.0 ≡ k = number_is lifted.0 k _ lifted.2 first in
      let also : lifted.1 ≡ m = number_is lifted.1 m _ lifted.3 other in (
        u,
        at,
        l.2,
        l.3,
        from_right qs l.0 (record { 0 = suc l.2 }) (Two (nt_of (suc lifted.0)) (nt_of (suc lifted.1))) (v ++ w) l.1 l.4 lifted.4
            (v, w, subst (λ (z : ℕ). Derives qs (nt_of (suc z)) v) (sym same) d, subst (λ (z : ℕ). Derives qs (nt_of (suc z)) w) (sym also) e, refl),
      )

  no_token : (token : _) (text : List ℕ) → OfToken token ∷ [] ≡ map OfByte text → ⊥
  no_token token [] e = cc
  no_token token (b ∷ text) e = let h : OfToken token ≡ OfByte b = cc in cc

  no_text : (text : List ℕ) → ◌≡◌ {A = List Letter} [] (map OfByte text) → ◌≡◌ {A = List ℕ} text []
  no_text [] e = refl
  no_text (b ∷ text) e = cc

  pub complete : (x : Symbol) (v : List Letter) → Derives ps x v → (text : List ℕ) → v ≡ map OfByte text → (i : ℕ) (s : S) → Contains es (record { symbol = x; state = i }) → slice_get K i ≡ Some s → (t : S) (out : List Letter) → Runs steps s text t out → IsReached x i t out
  complete x v (by_range range byte within) text e i s entered at t out run = reads_range range byte text i s t out within e entered at run
  complete x v (by_token token) text e i s entered at t out run = absurd (no_token token text e)
  complete x v (by_empty a has) text e i s entered at t out run =
      let none = no_text text e in
      let r : Runs steps s [] t out = subst (λ (z : List ℕ). Runs steps s z t out) none run in
      let p = at_contains ps _ has in
      subst (λ (w : List Letter). IsReached (Nt a) i t w) (sym r.1) (reads_empty a p.0 i p.1 entered t (at ∙ ap (λ (z : S). Some z) (sym r.0)))
  complete x v (by_one a y w has d) text e i s entered at t out run =
      let p = at_contains ps _ has in
      let b : Begun = record { place = p.0; from = i; read = Nothing } in
      let q : Production = record { left = a; right = One y } in
      let h = begins a q p.0 i p.1 refl entered in
      let wt = waits b (record { symbol = y; state = i }) h (awaited_at b q p.1) in
      let r = complete y w d text e i s (contains_at es wt.0 _ wt.1) at t out run in
      reads_one a y p.0 i r.0 r.2 p.1 entered r.3 t r.1 out r.4
  complete x v (by_two a y z f g has d h) text e i s entered at t out run =
      let p = at_contains ps _ has in
      let b : Begun = record { place = p.0; from = i; read = Nothing } in
      let q : Production = record { left = a; right = Two y z } in
      let begun = begins a q p.0 i p.1 refl entered in
      let wt = waits b (record { symbol = y; state = i }) begun (awaited_at b q p.1) in
      let sp = text_split f g text e in
      let rn = runs_split steps s sp.0 sp.1 t out (subst (λ (z : List ℕ). Runs steps s z t out) sp.2 run) in
      let r = complete y f d sp.0 sp.3 i s (contains_at es wt.0 _ wt.1) at rn.0 rn.1 rn.3 in
      let en = second a y z p.0 i r.0 r.2 p.1 entered r.3 in
      let o = complete z g h sp.1 sp.4 r.0 rn.0 en r.1 t rn.2 rn.4 in
      subst (λ (w : List Letter). IsReached (Nt a) i t w) (sym rn.5) (reads_two a y z p.0 i r.0 o.0 r.2 o.2 p.1 entered r.3 o.3 t o.1 rn.1 rn.2 r.4 o.4)
