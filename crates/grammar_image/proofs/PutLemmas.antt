-- What the passages of ranges and what stands for the outputs at the end derive, and that no passage is one of a page token.
use Rattle.std.proofs.Common.{◌≡◌, ℕ, ◌+◌, ◌≤◌, zero, suc, List, [], ◌∷◌, ◌++◌, length, map, Contains, refl, sym, ◌∙◌, ap, subst, arith, Some, slice_get}
use Rattle.std.specs.List.{AllZip}
use Rattle.std.proofs.lemmas.List.Elements.{All-contains}
use Rattle.text_base.specs.declared.byte_range.ByteRange.{ByteRange}
use Rattle.text_base.specs.declared.page_token.PageToken.{PageToken}
use Rattle.text_base.specs.declared.numbers.Nt as nt
use Rattle.text_base.specs.declared.letter.Letter.{Letter}
use Rattle.text_base.specs.declared.letter.Letter.TheVariants.{OfByte, OfToken}
use Rattle.text_base.specs.ByteRange.{InRange}
use Rattle.cfg_grammar.specs.declared.symbol.Symbol.{Symbol}
use Rattle.cfg_grammar.specs.declared.symbol.Symbol.TheVariants.{Range, Token, Nt}
use Rattle.cfg_grammar.specs.declared.production.Production.{Production}
use Rattle.cfg_grammar.specs.declared.grammar.Grammar.{Grammar}
use Rattle.cfg_grammar.specs.Derives.{Derives, by_range, by_token, by_empty, by_one, by_two}
use Rattle.fst_core.specs.Letter.{letter_of}
use Rattle.fst_core.specs.Runs.{Runs}
use Rattle.grammar_chart.specs.declared.keys.Passage.{Passage}
use Rattle.grammar_chart.specs.declared.keys.Reading.{Reading}
use Rattle.grammar_chart.specs.declared.chart.Chart.{Chart}
use Rattle.grammar_chart.specs.Rules.{ReadingStep}
use Rattle.grammar_chart.specs.Charts.{IsPassage}
use Rattle.grammar_chart.specs.Kept.{IsChartOf}
use Rattle.grammar_chart.proofs.AddingLemmas.{contains_at}
use Rattle.chart_grammar.specs.declared.lifts.Last.{Last}
use Rattle.chart_grammar.specs.Outs.{Puts}
use Rattle.chart_grammar.specs.Lifts.{nt_of, end_by, front_right, EndLift}
use Rattle.chart_grammar.specs.Images.{IsImageOf}
use Rattle.chart_grammar.specs.Sources.{FromRight, NoneIsOfToken, ArePutOut}
use Rattle.chart_grammar.proofs.SayLemmas.{says, says_front}
use Rattle.chart_grammar.proofs.SourceLemmas.{end_only}
use Rattle.grammar_image.specs.Answers.{IsReading}
use Rattle.grammar_image.specs.Work.{IsWorked}
use Rattle.grammar_image.specs.Lasts.{AreLastsBelow}
use Rattle.grammar_image.specs.Numbered.{NumberedSteps, NumberedEnds}
use Rattle.grammar_image.proofs.SentenceLemmas.{fixed_all}

-- what a range derives is one byte
one_byte : (byte : ℕ) (text : List ℕ) → OfByte byte ∷ [] ≡ map OfByte text → text ≡ byte ∷ []
one_byte byte [] e = cc
one_byte byte (b ∷ []) e = let same : byte ≡ b = cc in ap (λ (n : ℕ). n ∷ []) (sym same)
one_byte byte (b ∷ d ∷ text) e = cc

range_text : (ps : List Production) (x : Symbol) (v : List Letter) (range : ByteRange) (text : List ℕ) → x ≡ Range range → v ≡ map OfByte text → Derives ps x v → (byte : ℕ) × InRange range byte × (text ≡ byte ∷ [])
range_text ps x v range text e f (by_range r byte within) =
    let same : r ≡ range = cc in
    (byte, subst (λ (q : ByteRange). InRange q byte) same within, one_byte byte text f)
range_text ps x v range text e f (by_token token) = absurd (apart e)
  where
    apart : ◌≡◌ {A = Symbol} (Token token) (Range range) → ⊥
    apart h = cc
range_text ps x v range text e f (by_empty a has) = absurd (apart e)
  where
    apart : ◌≡◌ {A = Symbol} (Nt a) (Range range) → ⊥
    apart h = cc
range_text ps x v range text e f (by_one a y w has d) = absurd (apart e)
  where
    apart : ◌≡◌ {A = Symbol} (Nt a) (Range range) → ⊥
    apart h = cc
range_text ps x v range text e f (by_two a y z u w has d g) = absurd (apart e)
  where
    apart : ◌≡◌ {A = Symbol} (Nt a) (Range range) → ⊥
    apart h = cc

-- a page token derives no text of bytes
no_bytes : (token : PageToken) (text : List ℕ) → OfToken token ∷ [] ≡ map OfByte text → ⊥
no_bytes token [] e = cc
no_bytes token (b ∷ text) e = let h : OfToken token ≡ OfByte b = cc in cc

token_text : (ps : List Production) (x : Symbol) (v : List Letter) (token : PageToken) (text : List ℕ) → x ≡ Token token → v ≡ map OfByte text → Derives ps x v → ⊥
token_text ps x v token text e f (by_range r byte within) = apart e
  where
    apart : ◌≡◌ {A = Symbol} (Range r) (Token token) → ⊥
    apart h = cc
token_text ps x v token text e f (by_token own) = no_bytes own text f
token_text ps x v token text e f (by_empty a has) = apart e
  where
    apart : ◌≡◌ {A = Symbol} (Nt a) (Token token) → ⊥
    apart h = cc
token_text ps x v token text e f (by_one a y w has d) = apart e
  where
    apart : ◌≡◌ {A = Symbol} (Nt a) (Token token) → ⊥
    apart h = cc
token_text ps x v token text e f (by_two a y z u w has d g) = apart e
  where
    apart : ◌≡◌ {A = Symbol} (Nt a) (Token token) → ⊥
    apart h = cc

-- of a chart no passage is one of a page token, since a text of bytes leads along each
pub none_is_of_token : (ps : List Production) (c : Chart) → IsChartOf ps c → NoneIsOfToken c.passages.keys
none_is_of_token ps c chart n s t token at =
    let f : Passage = record { symbol = Token token; from = s; to = t } in
    let passed = All-contains (IsPassage ps c.from c.readings.items) c.passages.keys f chart.sound.passed (contains_at c.passages.keys n f at) in
    let leads = passed.1 in
    token_text ps (Token token) (map OfByte leads.0) token leads.0 refl refl leads.2

append_none : (v : List Letter) → v ++ [] ≡ v
append_none [] = refl
append_none (c ∷ v) = ap (λ (u : List Letter). c ∷ u) (append_none v)

-- a run over one byte is one step
one_step : {S : Type 0} (steps : S → ℕ → S → List Letter → Type 0) (s t : S) (byte : ℕ) (w : List Letter) → Runs steps s (byte ∷ []) t w → steps s byte t w
one_step {S} steps s t byte w run =
    let whole : w ≡ run.1 = run.5 ∙ (ap (λ (z : List Letter). run.1 ++ z) run.4.1 ∙ append_none run.1) in
    subst (λ (x : S). steps s byte x w) (sym run.4.0) (subst (λ (z : List Letter). steps s byte run.0 z) (sym whole) run.3)

-- nonterminals of numbers are one only where the numbers are
same_number : (i j : ℕ) → nt_of i ≡ nt_of j → i ≡ j
same_number i j h = let same : ◌≡◌ {A = nt.Nt} (record { 0 = i }) (record { 0 = j }) = cc in ap (λ (a : nt.Nt). a.0) same

-- so are the numbers before them
number_of : (i j : ℕ) → nt_of i ≡ nt_of j → (k l : ℕ) → i ≡ suc k → j ≡ suc l → k ≡ l
number_of i j h k l e f = let same = same_number i j h in omega (arith, same, e, f)

-- what stands at the end is told by the right side
same_end : (n front m other : ℕ) → end_by (suc n) front ≡ end_by (suc m) other → (n ≡ m) × (other ≡ front)
same_end n zero m zero e =
    let a : nt_of (suc n) ≡ nt_of (suc m) = cc in
    (number_of (suc n) (suc m) a n m refl refl, refl)
same_end n zero m (suc other) e = cc
same_end n (suc front) m zero e = cc
same_end n (suc front) m (suc other) e =
    let a : nt_of (suc n) ≡ nt_of (suc m) = cc in
    let b : nt_of (suc front) ≡ nt_of (suc other) = cc in
    (number_of (suc n) (suc m) a n m refl refl, sym (same_number (suc front) (suc other) b))

some_same : {X : Type 0} (x y : X) → Some x ≡ Some y → x ≡ y
some_same x y h = cc

module _ {S : Type 0} (steps : S → ℕ → S → List Letter → Type 0) (ends : S → List Letter → Type 0) (gives : S → Type 0) (first : S) (ps : List Production) (states : List S) (c : Chart) (ls : List Last) (g : Grammar)
    (worked : IsWorked steps gives first ps states c) (lasts : AreLastsBelow ends states (length states) ls) (image : IsImageOf ps c ls g) where
  within : (r : Reading) → Contains c.readings.items r → (r.asked.lo ≤ r.range.lo) × (r.range.hi ≤ r.asked.hi)
  within r h = let k = All-contains (IsReading steps states) c.readings.items r worked.readings h in (k.low, k.high)

  -- a step of the readings is one of the machine
  numbered_step : (i byte j : ℕ) (w : List Letter) → ReadingStep c.readings.items i byte j w → NumberedSteps steps states i byte j w
  numbered_step i byte j w h =
      let r = h.0 in
      let k = All-contains (IsReading steps states) c.readings.items r worked.readings h.1 in (
        k.source,
        k.target,
        ap (slice_get states) (sym h.2) ∙ k.is_source,
        ap (slice_get states) (sym h.4) ∙ k.is_target,
        subst (λ (u : List Letter). steps k.source byte k.target u) h.5 (k.step byte h.3),
      )

  reads : (n s t : ℕ) (range : ByteRange) (w : List Letter) → slice_get c.passages.keys n ≡ Some (record { symbol = Range range; from = s; to = t }) → Derives g.productions.items (nt_of (suc n)) w → (byte : ℕ) × InRange range byte × NumberedSteps steps states s byte t w
  reads n s t range w at d =
      let said = says ps c.from c.begun.items c.passages.keys c.readings.items (image.outputs).fronts.keys (suc (length c.passages.keys)) ls g.productions.items image.lifts refl within (nt_of (suc n)) w d n (record { symbol = Range range; from = s; to = t }) refl at in
      let b = range_text ps (Range range) (map OfByte said.0) range said.0 refl refl said.1 in
      let run : Runs (ReadingStep c.readings.items) s (b.0 ∷ []) t w = subst (λ (text : List ℕ). Runs (ReadingStep c.readings.items) s text t w) b.2 said.2 in
      (b.0, b.1, numbered_step s b.0 t w (one_step (ReadingStep c.readings.items) s t b.0 w run))

  -- what stands for an output at the end derives only what the machine puts out there
  closes_end : (l : Last) (q : Production) (t front : ℕ) (w : List Letter) → Contains ls l → (e : EndLift c.from c.passages.keys (image.outputs).fronts.keys (suc (length c.passages.keys)) l q) → e.front ≡ front → l.state ≡ t → FromRight g.productions.items (front_right front) w → NumberedEnds ends states t w
  closes_end l q t front w has e is state d =
      let lo = e.range.lo in
      let some : AllZip Puts e.symbols (map (letter_of lo) l.out.items) = (e.outs (map (letter_of lo) l.out.items)).1 (lo, (omega arith, (e.range).ordered), refl) in
      let derived : FromRight g.productions.items (front_right e.front) w = subst (λ (n : ℕ). FromRight g.productions.items (front_right n) w) (sym is) d in
      let z = says_front ps c.from c.begun.items c.passages.keys c.readings.items (image.outputs).fronts.keys (suc (length c.passages.keys)) ls g.productions.items image.lifts refl e.front e.symbols (map (letter_of lo) l.out.items) w e.stands some derived in
      let b = (e.outs w).0 z in
      let k = lasts.only l has in
      let letters : map (letter_of 0) l.out.items ≡ w = fixed_all l.out.items 0 b.0 k.fixed ∙ b.2 in
      (k.source, ap (slice_get states) (sym state) ∙ k.is_source, subst (λ (u : List Letter). ends k.source u) letters k.ends_so)

  closes : (q : Production) (n t front : ℕ) (w : List Letter) → Contains g.productions.items q → q.left ≡ record { 0 = 0 } → slice_get c.passages.keys n ≡ Some (record { symbol = Nt c.from; from = 0; to = t }) → q.right ≡ end_by (suc n) front → FromRight g.productions.items (front_right front) w → NumberedEnds ends states t w
  closes q n t front w has left at right d =
      let e = end_only ps c.from c.begun.items c.passages.keys c.readings.items (image.outputs).fronts.keys (suc (length c.passages.keys)) ls g.productions.items image.lifts refl q has left in
      let l = e.0 in
      let lift = e.2 in
      let same = same_end n front lift.number lift.front (sym right ∙ lift.right) in
      let f : Passage = record { symbol = Nt c.from; from = 0; to = l.state } in
      let h : Passage = record { symbol = Nt c.from; from = 0; to = t } in
      let one : f ≡ h = some_same f h (sym lift.passed ∙ (ap (slice_get c.passages.keys) (sym same.0) ∙ at)) in
      closes_end l q t front w e.1 lift same.1 (ap (λ (p : Passage). p.to) one) d

  pub put_out : ArePutOut c.from c.passages.keys g.productions.items (NumberedSteps steps states) (NumberedEnds ends states)
  put_out = record { reads = reads; closes = closes }
