-- The sentences of an image are exactly what the machine puts out.
use Rattle.std.proofs.Common.{◌≡◌, ℕ, ◌+◌, ◌≤◌, ◌↔◌, zero, suc, IsTrue, List, [], ◌∷◌, ◌++◌, length, map, Contains, refl, sym, ◌∙◌, ap, subst, arith, Some, slice_get}
use Rattle.std.specs.List.{list_all}
use Rattle.std.specs.Cmp.{first_so, second_so}
use Rattle.std.proofs.lemmas.List.Elements.{All-contains}
use Rattle.std.proofs.lemmas.Option.{slice_get_within}
use Rattle.text_base.specs.declared.byte_range.ByteRange.{ByteRange}
use Rattle.text_base.specs.declared.letter.Letter.{Letter}
use Rattle.cfg_grammar.specs.declared.symbol.Symbol.TheVariants.{Range, Nt}
use Rattle.cfg_grammar.specs.declared.production.Production.{Production}
use Rattle.cfg_grammar.specs.declared.grammar.Grammar.{Grammar}
use Rattle.cfg_grammar.specs.Derives.{Derives}
use Rattle.fst_core.specs.Letter.{letter_of}
use Rattle.fst_core.specs.Fits.{is_fixed}
use Rattle.fst_core.specs.declared.out.Out.{Out}
use Rattle.fst_core.specs.declared.out.Out.TheVariants.{Same, Shift, Byte, Token}
use Rattle.fst_core.specs.Outputs.{Outputs}
use Rattle.fst_core.proofs.Over.{runs_over}
use Rattle.numbered_sets.specs.Numbers.{AreDifferent}
use Rattle.grammar_chart.specs.declared.keys.Passage.{Passage}
use Rattle.grammar_chart.specs.declared.keys.Reading.{Reading}
use Rattle.grammar_chart.specs.declared.chart.Chart.{Chart}
use Rattle.grammar_chart.specs.Rules.{ReadingStep}
use Rattle.grammar_chart.specs.Kept.{IsDone}
use Rattle.grammar_chart.proofs.AddingLemmas.{contains_at}
use Rattle.chart_grammar.specs.declared.lifts.Last.{Last}
use Rattle.chart_grammar.specs.Lifts.{nt_of, end_by, front_right, HasEnd}
use Rattle.chart_grammar.specs.Images.{IsImageOf}
use Rattle.chart_grammar.specs.Sources.{FromRight}
use Rattle.chart_grammar.proofs.SayLemmas.{derives_front, start_says}
use Rattle.grammar_image.specs.Answers.{IsReading, IsAnswered}
use Rattle.grammar_image.specs.Work.{IsWorked}
use Rattle.grammar_image.specs.Lasts.{AreLastsBelow}
use Rattle.grammar_image.proofs.WorkLemmas.{step_over}
use Rattle.grammar_image.proofs.Complete.{complete, from_right}

some_same : {X : Type 0} (x y : X) → Some x ≡ Some y → x ≡ y
some_same x y h = cc

fixed_one : (o : Out) (a b : ℕ) → IsTrue (is_fixed o) → letter_of a o ≡ letter_of b o
fixed_one Same a b h = cc
fixed_one (Shift by) a b h = cc
fixed_one (Byte own) a b h = refl
fixed_one (Token token) a b h = refl

-- what depends on no byte is the same by each
pub fixed_all : (out : List Out) (a b : ℕ) → IsTrue (list_all is_fixed out) → map (letter_of a) out ≡ map (letter_of b) out
fixed_all [] a b h = refl
fixed_all (o ∷ out) a b h =
    ap (λ (x : Letter). x ∷ map (letter_of a) out) (fixed_one o a b (first_so (is_fixed o) (list_all is_fixed out) h))
    ∙ ap (λ (xs : List Letter). letter_of b o ∷ xs) (fixed_all out a b (second_so (is_fixed o) (list_all is_fixed out) h))

append_none : (v : List Letter) → v ++ [] ≡ v
append_none [] = refl
append_none (c ∷ v) = ap (λ (u : List Letter). c ∷ u) (append_none v)

module _ {S : Type 0} (steps : S → ℕ → S → List Letter → Type 0) (ends : S → List Letter → Type 0) (gives : S → Type 0) (first : S) (ps : List Production) (states : List S) (c : Chart) (ls : List Last) (g : Grammar)
    (worked : IsWorked steps gives first ps states c) (done : IsDone c) (entries : AreDifferent c.entries.keys) (passages : AreDifferent c.passages.keys) (lasts : AreLastsBelow ends states (length states) ls) (image : IsImageOf ps c ls g) where
  within : (r : Reading) → Contains c.readings.items r → (r.asked.lo ≤ r.range.lo) × (r.range.hi ≤ r.asked.hi)
  within r h = let k = All-contains (IsReading steps states) c.readings.items r worked.readings h in (k.low, k.high)

  sound : (w : List Letter) → Derives g.productions.items (nt_of 0) w → Outputs ps (Nt c.from) first steps ends w
  sound w d =
      let e = start_says ps c.from c.begun.items c.passages.keys c.readings.items (image.outputs).fronts.keys (suc (length c.passages.keys)) ls g.productions.items image.lifts refl within w d in
      let l = e.0 in
      let said = e.4 in
      let run = runs_over ps (ReadingStep c.readings.items) steps (λ (i : ℕ) (s : S). slice_get states i ≡ Some s) (step_over steps states c.readings.items worked.readings) 0 said.0 l.state e.1 first said.2 worked.begins in
      let k = lasts.only l e.3 in
      let same : k.source ≡ run.0 = some_same k.source run.0 (sym k.is_source ∙ run.1) in
      let letters : map (letter_of 0) l.out.items ≡ e.2 = fixed_all l.out.items 0 e.5.0 k.fixed ∙ e.5.1 in
      let end : ends run.0 e.2 = subst (λ (s : S). ends s e.2) same (subst (λ (x : List Letter). ends k.source x) letters k.ends_so) in
      (said.0, said.1, (run.0, e.1, e.2, run.2, end, e.6))

  answers : (k : ℕ) (range : ByteRange) (i : ℕ) → slice_get c.entries.keys k ≡ Some (record { symbol = Range range; state = i }) → IsAnswered steps states c.passages.keys c.readings.items range i
  answers k range i at s here =
      let w = slice_get_within c.entries.keys k _ at in
      let o = done.opened in
      let a = worked.answered k range i (omega (arith, w, o)) at in
      let same : a.0 ≡ s = some_same a.0 s (sym a.1 ∙ here) in
      λ byte inside t letters st. a.2 byte inside t letters (subst (λ (x : S). steps x byte t letters) (sym same) st)

  ended : (k j : ℕ) (l : Last) (out last : List Letter) → slice_get c.passages.keys k ≡ Some (record { symbol = Nt c.from; from = 0; to = j }) → Contains ls l → l.state ≡ j → map (letter_of 0) l.out.items ≡ last → IsTrue (list_all is_fixed l.out.items) → Derives g.productions.items (nt_of (suc k)) out → Derives g.productions.items (nt_of 0) (out ++ last)
  ended k j l out last at has state letters fixed d =
      let fs = c.passages.keys in
      let passed : Contains fs (record { symbol = Nt c.from; from = 0; to = l.state }) = subst (λ (x : ℕ). Contains fs (record { symbol = Nt c.from; from = 0; to = x })) (sym state) (contains_at fs k _ at) in
      let e = All-contains (λ (x : Last). HasEnd c.from fs (image.outputs).fronts.keys (suc (length fs)) x g.productions.items) ls l image.lifts.ends has passed in
      let lift = e.2 in
      let same : lift.number ≡ k = passages lift.number k _ (lift.passed ∙ ap (λ (x : ℕ). Some (let f : Passage = record { symbol = Nt c.from; from = 0; to = x } in f)) state) at in
      let lo = lift.range.lo in
      let z = (lift.outs last).1 (lo, (omega arith, (lift.range).ordered), fixed_all l.out.items lo 0 fixed ∙ letters) in
      let f = derives_front ps c.from c.begun.items fs c.readings.items (image.outputs).fronts.keys (suc (length fs)) ls g.productions.items image.lifts refl lift.front lift.symbols last lift.stands z in
      let first_part = subst (λ (n : ℕ). Derives g.productions.items (nt_of (suc n)) out) (sym same) d in
      from_right g.productions.items e.0 (record { 0 = 0 }) (end_by (suc lift.number) lift.front) (out ++ last) e.1 lift.left lift.right (by lift.front (suc lift.number) f first_part)
    where
      by : (n m : ℕ) → FromRight g.productions.items (front_right n) last → Derives g.productions.items (nt_of m) out → FromRight g.productions.items (end_by m n) (out ++ last)
      by zero m f h = subst (λ (w : List Letter). Derives g.productions.items (nt_of m) w) (sym (append_none out) ∙ ap (λ (x : List Letter). out ++ x) (sym f)) h
      by (suc n) m f h = (out, last, h, f, refl)

  whole : (w : List Letter) → Outputs ps (Nt c.from) first steps ends w → Derives g.productions.items (nt_of 0) w
  whole w o =
      let r = o.2 in
      let m = complete states steps ps c.from c.entries.keys c.visits.items c.begun.items c.passages.keys c.readings.items c.opened c.taken c.left worked.chart done.opened done.taken done.left entries passages (image.outputs).fronts.keys (suc (length c.passages.keys)) ls g.productions.items image.lifts refl answers
      (Nt c.from) _ o.1 o.0 refl 0 first (contains_at c.entries.keys 0 _ worked.chart.first) worked.begins r.0 r.1 r.3 in
      let here = slice_get_within states m.0 r.0 m.1 in
      let l = lasts.all m.0 r.0 r.2 here m.1 r.4 in
      let k = lasts.only l.0 l.1 in
      subst (λ (x : List Letter). Derives g.productions.items (nt_of 0) x) (sym r.5) (ended m.2 m.0 l.0 r.1 r.2 m.3 l.1 l.2 l.3 k.fixed m.4)

  pub sentences : (w : List Letter) → Derives g.productions.items (Nt g.start) w ↔ Outputs ps (Nt c.from) first steps ends w
  sentences w = (
    λ d. sound w (subst (λ a. Derives g.productions.items (Nt a) w) image.starts d),
    λ o. subst (λ a. Derives g.productions.items (Nt a) w) (sym image.starts) (whole w o),
  )
