-- Letters pay for what is written.
use Rattle.std.proofs.Common.{◌≡◌, ℕ, zero, suc, ◌+◌, ◌<◌, ◌≤◌, ◌⊎◌, inl, inr, List, [], ◌∷◌, ◌++◌, length, length-append, map, take, get_or, Contains, refl, sym, ◌∙◌, ap, subst, arith, Some, slice_get, add-one}
use Rattle.std.specs.List.{All, AllZip}
use Rattle.std.proofs.lemmas.List.{length-map}
use Rattle.std.proofs.lemmas.Option.{slice_get_within}
use Rattle.std.proofs.lemmas.List.Elements.{All-weaker, All-append, All-cons, All-nil, Contains-append_left, Contains-push, Contains-push_cases, Contains-get_or}
use Rattle.text_base.specs.declared.byte_range.ByteRange.{ByteRange}
use Rattle.text_base.specs.declared.numbers.Nt as nt
use Rattle.text_base.specs.declared.letter.Letter.{Letter}
use Rattle.text_base.specs.ByteRange.{InRange}
use Rattle.cfg_grammar.specs.declared.symbol.Symbol.{Symbol}
use Rattle.cfg_grammar.specs.declared.symbol.Symbol.TheVariants.{Range, Nt}
use Rattle.cfg_grammar.specs.declared.production.Production.{Production}
use Rattle.fst_core.specs.declared.out.Out.{Out}
use Rattle.fst_core.specs.Letter.{letter_of}
use Rattle.numbered_sets.specs.Numbers.{Keeps}
use Rattle.grammar_chart.specs.declared.keys.Passage.{Passage}
use Rattle.grammar_chart.specs.declared.keys.Reading.{Reading}
use Rattle.chart_grammar.specs.declared.fronts.Front.{Front}
use Rattle.chart_grammar.specs.declared.lifts.Last.{Last}
use Rattle.chart_grammar.specs.declared.saying.Said.{Said}
use Rattle.chart_grammar.specs.declared.saying.Head.{Head}
use Rattle.chart_grammar.specs.declared.saying.Outputs.{Outputs}
use Rattle.chart_grammar.specs.Fronts.{IsFrontOf}
use Rattle.chart_grammar.specs.Outs.{Puts, IsOutput}
use Rattle.chart_grammar.specs.Saying.{Says, SaysWide, Stays, IsFiled, production_of}
use Rattle.chart_grammar.specs.Paid.{Charge, reads, ends, letters_of, left_by, behind_by, Spells, IsCharge, IsSaid, IsWide, OfText, OfWide, IsPaid, ReadingPays, EndPays}
use Rattle.chart_grammar.specs.Lifts.{ReadLift, EndLift, front_right, said_right, end_by}
use Rattle.chart_grammar.specs.Written.{WritesBehind, WritesOne}
use Rattle.chart_grammar.specs.Writing.{ReadMade, EndMade, EndHas, HasPart, WritesSome, GivesOne}
use Rattle.chart_grammar.proofs.BehindLemmas.{at_behind, behind_same, behind_pushed}
use Rattle.chart_grammar.proofs.FrontLemmas.{stands_kept}
use Rattle.chart_grammar.proofs.WriteLemmas.{pushed_in}
use Rattle.chart_grammar.proofs.OutputLemmas.{part_lift, end_lift, some_pushed}

-- letters that are put out one by one are as many as the symbols
pub zip_length : (xs : List Symbol) (w : List Letter) → AllZip Puts xs w → length xs ≡ length w
zip_length [] [] z = refl
zip_length [] (c ∷ w) z = absurd z
zip_length (x ∷ xs) [] z = absurd z
zip_length (x ∷ xs) (c ∷ w) z = ap (λ (n : ℕ). suc n) (zip_length xs w z.1)

-- symbols put out one text where all bytes of the range give one
pub spells_one : (part : ByteRange) (out : List Out) (symbols : List Symbol) (byte : ℕ) → IsOutput part out symbols → InRange part byte → ((b c : ℕ) → InRange part b → InRange part c → map (letter_of b) out ≡ map (letter_of c) out) → Spells symbols (map (letter_of byte) out)
spells_one part out symbols byte puts within one w = (
  λ z. let p = (puts w).0 z in sym p.2 ∙ one p.0 byte p.1 within,
  λ e. (puts w).1 (byte, within, sym e),
)

pub wide_length : (part : ByteRange) (out : List Out) (symbols : List Symbol) (byte : ℕ) → IsOutput part out symbols → InRange part byte → length symbols ≡ length (map (letter_of byte) out)
wide_length part out symbols byte puts within = zip_length symbols (map (letter_of byte) out) ((puts (map (letter_of byte) out)).1 (byte, within, refl))

front_kept : (base : ℕ) (w v : List Front) (n : ℕ) (symbols : List Symbol) → Keeps w v → IsFrontOf base w n symbols → IsFrontOf base v n symbols
front_kept base w v n symbols k f = (f.0, f.1, stands_kept base w v (base + n) (take (suc f.0) symbols) k f.2)

kept_behind : {X : Type 0} (xs : List X) (x y : X) (n : ℕ) → slice_get xs n ≡ Some y → slice_get (xs ++ x ∷ []) n ≡ Some y
kept_behind [] x y n h = cc
kept_behind (z ∷ xs) x y zero h = h
kept_behind (z ∷ xs) x y (suc n) h = kept_behind xs x y n h

put_behind : {X : Type 0} (xs : List X) (x : X) → slice_get (xs ++ x ∷ []) (length xs) ≡ Some x
put_behind [] x = refl
put_behind (y ∷ xs) x = put_behind xs x

module _ (from : nt.Nt) (fs : List Passage) (rs : List Reading) (ls : List Last) (base : ℕ) where
  said_kept : (w v : List Front) (s : Said) → Keeps w v → IsSaid from fs rs ls base w s → IsSaid from fs rs ls base v s
  said_kept w v s k h =
      record {
        charge = h.charge;
        is_charge = h.is_charge;
        symbols = h.symbols;
        spells = h.spells;
        stands = stands_kept base w v s.front h.symbols k h.stands;
        is_left = h.is_left;
        is_behind = h.is_behind;
      }

  wide_kept : (w v : List Front) (h : Head) (f : ℕ) → Keeps w v → IsWide from fs rs ls base w h f → IsWide from fs rs ls base v h f
  wide_kept w v h f k p =
      record {
        number = p.number;
        letters = p.letters;
        is_charge = p.is_charge;
        symbols = p.symbols;
        stands = stands_kept base w v f p.symbols k p.stands;
        long = p.long;
        some = p.some;
        is_left = p.is_left;
      }

  text_kept : (w v : List Front) (n : ℕ) → Keeps w v → OfText from fs rs ls base w n → OfText from fs rs ls base v n
  text_kept w v n k h =
      record { charge = h.charge; is_charge = h.is_charge; symbols = h.symbols; spells = h.spells; front_of = front_kept base w v n h.symbols k h.front_of }

  of_wide_kept : (w v : List Front) (heads more : List Head) (wide wider : List ℕ) (n : ℕ) → Keeps w v → Keeps heads more → Keeps wide wider → OfWide from fs rs ls base w heads wide n → OfWide from fs rs ls base v more wider n
  unfolding wide_kept
  of_wide_kept w v heads more wide wider n k kh kw h =
      record {
        place = h.place;
        head = h.head;
        front = h.front;
        is_head = kh h.place h.head h.is_head;
        is_front = kw h.place h.front h.is_front;
        paid = wide_kept w v h.head h.front k h.paid;
        front_of = front_kept base w v n h.paid.symbols k h.front_of;
      }

  pub none_paid : (before : ℕ) (o : Outputs) → length o.out.items ≡ before → o.fronts.keys ≡ [] → o.said.keys ≡ [] → o.heads.keys ≡ [] → o.wide.items ≡ [] → IsPaid from fs rs ls base before o
  none_paid before o out fronts said heads wide =
      record {
        said = subst (λ (ss : List Said). All (IsSaid from fs rs ls base o.fronts.keys) ss) (sym said) (All-nil (IsSaid from fs rs ls base o.fronts.keys));
        long = ap length wide ∙ sym (ap length heads);
        wide = λ n h f at w. let e : slice_get [] n ≡ Some h = ap (λ (hs : List Head). slice_get hs n) (sym heads) ∙ at in cc;
        fronts = λ n h. let e = ap length fronts in absurd (omega (arith, e, h));
        count = (let a = ap length said in let b = ap length heads in omega (arith, out, a, b));
      }

  pub stays_paid : (before : ℕ) (old new : Outputs) → Stays old new → IsPaid from fs rs ls base before old → IsPaid from fs rs ls base before new
  stays_paid before old new s p =
      let fr = new.fronts.keys in
      let grows : Keeps old.fronts.keys fr = λ n x h. subst (λ (xs : List Front). slice_get xs n ≡ Some x) (sym s.fronts) h in
      let heads : Keeps old.heads.keys new.heads.keys = λ n x h. subst (λ (xs : List Head). slice_get xs n ≡ Some x) (sym s.heads) h in
      let items = ap (λ (v : _). v.items) s.wide in
      let wide : Keeps old.wide.items new.wide.items = λ n x h. subst (λ (xs : List ℕ). slice_get xs n ≡ Some x) (sym items) h in
      record {
        said = All-weaker (IsSaid from fs rs ls base old.fronts.keys) (IsSaid from fs rs ls base fr) (λ x h. said_kept old.fronts.keys fr x grows h) new.said.keys
            (subst (λ (ss : List Said). All (IsSaid from fs rs ls base old.fronts.keys) ss) (sym s.said) p.said);
        long = ap length items ∙ (p.long ∙ sym (ap length s.heads));
        wide = λ n h f at w. wide_kept old.fronts.keys fr h f grows (p.wide n h f (ap (λ (hs : List Head). slice_get hs n) (sym s.heads) ∙ at) (ap (λ (hs : List ℕ). slice_get hs n) (sym items) ∙ w));
        fronts = λ n h. elim (p.fronts n (subst (λ (xs : List Front). n < length xs) s.fronts h)) [
          | inl t ↦ inl (text_kept old.fronts.keys fr n grows t)
          | inr t ↦ inr (of_wide_kept old.fronts.keys fr old.heads.keys new.heads.keys old.wide.items new.wide.items n grows heads wide t)
        ];
        count = ap (λ (v : _). length v.items) s.out ∙ (p.count ∙ (ap (λ (ss : List Said). before + (length ss + length old.heads.keys)) (sym s.said) ∙ ap (λ (hs : List Head). before + (length new.said.keys + length hs)) (sym s.heads)));
      }

  said_new : (w : List Front) (old new : List Said) (s : Said) → IsSaid from fs rs ls base w s → All (IsSaid from fs rs ls base w) old → (new ≡ old) ⊎ (new ≡ old ++ s ∷ []) → All (IsSaid from fs rs ls base w) new
  said_new w old new s h all (inl e) = subst (λ (ss : List Said). All (IsSaid from fs rs ls base w) ss) (sym e) all
  said_new w old new s h all (inr e) =
      subst (λ (ss : List Said). All (IsSaid from fs rs ls base w) ss) (sym e) (All-append (IsSaid from fs rs ls base w) old (s ∷ []) all (All-cons (IsSaid from fs rs ls base w) s [] h (All-nil (IsSaid from fs rs ls base w))))

  pub says_paid : (before : ℕ) (old new : Outputs) (left behind : ℕ) (symbols : List Symbol) (c : Charge) → Says base old new left behind symbols → IsCharge from fs rs ls c → Spells symbols (letters_of c) → left ≡ left_by c → behind ≡ behind_by c
      → IsPaid from fs rs ls base before old → IsPaid from fs rs ls base before new
  says_paid before old new left behind symbols c s charge spells is_left is_behind p =
      let w = old.fronts.keys in
      let fr = new.fronts.keys in
      let heads : Keeps old.heads.keys new.heads.keys = λ n x h. subst (λ (xs : List Head). slice_get xs n ≡ Some x) (sym s.heads) h in
      let items = ap (λ (v : _). v.items) s.wide in
      let wide : Keeps old.wide.items new.wide.items = λ n x h. subst (λ (xs : List ℕ). slice_get xs n ≡ Some x) (sym items) h in
      let one : IsSaid from fs rs ls base fr s.said =
      record { charge = c; is_charge = charge; symbols = symbols; spells = spells; stands = s.stands; is_left = s.is_left ∙ is_left; is_behind = s.is_behind ∙ is_behind } in
      let kept = All-weaker (IsSaid from fs rs ls base w) (IsSaid from fs rs ls base fr) (λ x h. said_kept w fr x s.fronts h) old.said.keys p.said in
      let keys : (new.said.keys ≡ old.said.keys) ⊎ (new.said.keys ≡ old.said.keys ++ s.said ∷ []) = elim s.written [ inl e ↦ inl e.0 | inr e ↦ inr e.0 ] in
      let hs = ap length s.heads in
      let before_it = p.count in
      record {
        said = said_new fr old.said.keys new.said.keys s.said one kept keys;
        long = ap length items ∙ (p.long ∙ sym (ap length s.heads));
        wide = λ n h f at v. wide_kept w fr h f s.fronts (p.wide n h f (ap (λ (hs : List Head). slice_get hs n) (sym s.heads) ∙ at) (ap (λ (hs : List ℕ). slice_get hs n) (sym items) ∙ v));
        fronts = λ n h. elim (s.adds_fronts n h) [
          | inl o ↦ elim (p.fronts n o) [
            | inl t ↦ inl (text_kept w fr n s.fronts t)
            | inr t ↦ inr (of_wide_kept w fr old.heads.keys new.heads.keys old.wide.items new.wide.items n s.fronts heads wide t)
          ]
          | inr f ↦ inl (record { charge = c; is_charge = charge; symbols = symbols; spells = spells; front_of = f })
        ];
        count = elim s.written [
          | inl e ↦ let a = ap length e.0 in let b = ap (λ (v : _). length v.items) e.1 in omega (arith, a, b, hs, before_it)
          | inr e ↦
              let a = ap length e.0 ∙ length-append old.said.keys (s.said ∷ []) in
              let b = ap length e.1 ∙ length-append old.out.items (production_of s.said ∷ []) in
              omega (arith, a, b, hs, before_it)
        ];
      }

  pub wide_paid : (before : ℕ) (old new : Outputs) (left lo : ℕ) (symbols : List Symbol) (k : ℕ) (letters : List Letter) → SaysWide base old new left lo symbols → IsCharge from fs rs ls (reads k lo letters) → length symbols ≡ length letters → 0 < length letters → left ≡ suc k
      → IsPaid from fs rs ls base before old → IsPaid from fs rs ls base before new
  wide_paid before old new left lo symbols k letters s charge long some is_left p =
      let w = old.fronts.keys in
      let fr = new.fronts.keys in
      let head : Head = record { left = left; lo = lo } in
      let heads : Keeps old.heads.keys new.heads.keys = λ n x h. subst (λ (xs : List Head). slice_get xs n ≡ Some x) (sym s.heads) (kept_behind old.heads.keys head x n h) in
      let wide : Keeps old.wide.items new.wide.items = λ n x h. subst (λ (xs : List ℕ). slice_get xs n ≡ Some x) (sym s.wide) (kept_behind old.wide.items s.front x n h) in
      let one : IsWide from fs rs ls base fr head s.front =
      record { number = k; letters = letters; is_charge = charge; symbols = symbols; stands = s.stands; long = long; some = some; is_left = is_left } in
      let a = ap length s.heads ∙ length-append old.heads.keys (head ∷ []) in
      let b = ap length s.wide ∙ length-append old.wide.items (s.front ∷ []) in
      let c = ap length s.out ∙ length-append old.out.items _ in
      let d = ap length s.said in
      let e = p.long in
      let f = p.count in
      record {
        said = subst (λ (ss : List Said). All (IsSaid from fs rs ls base fr) ss) (sym s.said)
            (All-weaker (IsSaid from fs rs ls base w) (IsSaid from fs rs ls base fr) (λ x h. said_kept w fr x s.fronts h) old.said.keys p.said);
        long = omega (arith, a, b, e);
        wide = λ n h g at v. elim (at_behind old.heads.keys head n h (ap (λ (hs : List Head). slice_get hs n) (sym s.heads) ∙ at)) [
          | inl was ↦ elim (at_behind old.wide.items s.front n g (ap (λ (hs : List ℕ). slice_get hs n) (sym s.wide) ∙ v)) [
            | inl found ↦ wide_kept w fr h g s.fronts (p.wide n h g was found)
            | inr last ↦ let l = slice_get_within old.heads.keys n h was in let at_last = last.0 in absurd (omega (arith, l, at_last, e))
          ]
          | inr last ↦ elim (at_behind old.wide.items s.front n g (ap (λ (hs : List ℕ). slice_get hs n) (sym s.wide) ∙ v)) [
            | inl found ↦ let l = slice_get_within old.wide.items n g found in let at_last = last.0 in absurd (omega (arith, l, at_last, e))
            | inr found ↦ subst (λ (x : Head). IsWide from fs rs ls base fr x g) last.1 (subst (λ (x : ℕ). IsWide from fs rs ls base fr head x) found.1 one)
          ]
        ];
        fronts = λ n h. elim (s.adds_fronts n h) [
          | inl o ↦ elim (p.fronts n o) [
            | inl t ↦ inl (text_kept w fr n s.fronts t)
            | inr t ↦ inr (of_wide_kept w fr old.heads.keys new.heads.keys old.wide.items new.wide.items n s.fronts heads wide t)
          ]
          | inr g ↦ inr (record {
            place = length old.heads.keys;
            head = head;
            front = s.front;
            is_head = ap (λ (hs : List Head). slice_get hs (length old.heads.keys)) s.heads ∙ put_behind old.heads.keys head;
            is_front = ap (λ (m : ℕ). slice_get new.wide.items m) (sym e) ∙ (ap (λ (hs : List ℕ). slice_get hs (length old.wide.items)) s.wide ∙ put_behind old.wide.items s.front);
            paid = one;
            front_of = g;
          })
        ];
        count = omega (arith, a, c, d, f);
      }

-- what is said is written, and stays written
pub says_filed : (base : ℕ) (old new : Outputs) (left behind : ℕ) (symbols : List Symbol) → Says base old new left behind symbols → IsFiled old → IsFiled new
says_filed base old new left behind symbols s filed x has = elim s.written [
  | inl e ↦ subst (λ (v : _). Contains v.items (production_of x)) (sym e.1) (filed x (subst (λ (ss : List Said). Contains ss x) e.0 has))
  | inr e ↦ subst (λ (qs : List Production). Contains qs (production_of x)) (sym e.1) (elim (Contains-push_cases old.said.keys s.said x (subst (λ (ss : List Said). Contains ss x) e.0 has)) [
    | inl o ↦ Contains-append_left old.out.items (production_of s.said ∷ []) (production_of x) (filed x o)
    | inr same ↦ subst (λ (y : Said). Contains (old.out.items ++ production_of s.said ∷ []) (production_of y)) same (Contains-push old.out.items (production_of s.said))
  ])
]

pub says_behind : (P : Production → Type 0) (base : ℕ) (old new : Outputs) (left behind : ℕ) (symbols : List Symbol) (s : Says base old new left behind symbols) → P (production_of s.said) → WritesBehind P old.out.items new.out.items
says_behind P base old new left behind symbols s h = elim s.written [
  | inl e ↦ behind_same P old.out.items new.out.items (ap (λ (v : _). v.items) e.1)
  | inr e ↦ behind_pushed P old.out.items new.out.items (production_of s.said) e.1 h
]

-- the same of a range that stays whole
pub wide_filed : (base : ℕ) (old new : Outputs) (left lo : ℕ) (symbols : List Symbol) → SaysWide base old new left lo symbols → IsFiled old → IsFiled new
wide_filed base old new left lo symbols s filed x has =
    subst (λ (qs : List Production). Contains qs (production_of x)) (sym s.out) (Contains-append_left old.out.items _ (production_of x) (filed x (subst (λ (ss : List Said). Contains ss x) s.said has)))

pub stays_filed : (old new : Outputs) → Stays old new → IsFiled old → IsFiled new
stays_filed old new s filed x has = subst (λ (v : _). Contains v.items (production_of x)) (sym s.out) (filed x (subst (λ (ss : List Said). Contains ss x) s.said has))

-- the thing of a loop is one of its things
pub item_in : {X : Type 0} (xs : List X) (n : ℕ) (x : X) → n < length xs → x ≡ get_or xs n x → Contains xs x
item_in {X} xs n x h is = subst (λ (y : X). Contains xs y) (sym is) (Contains-get_or xs n x h)

-- what is said of a part of a reading
module _ (fs : List Passage) (base : ℕ) (r : Reading) (part : ByteRange) (left : nt.Nt) (outs : List Out) (symbols stood : List Symbol) (old new : Outputs)
    (at : (k : ℕ) × (slice_get fs k ≡ Some (record { symbol = Range r.asked; from = r.from; to = r.to })) × (left.0 ≡ k + 1)) (low : r.range.lo ≤ part.lo) (high : part.hi ≤ r.range.hi)
    (is : outs ≡ r.out.items) (puts : IsOutput part outs symbols) (same : stood ≡ symbols) where
  module _ (s : Says base old new left.0 0 stood) where
    pub said_lift : ReadLift fs new.fronts.keys base r part (production_of s.said)
    said_lift =
        let e : ◌≡◌ {A = Production} (record { left = left; right = front_right (s.said).front }) (production_of s.said) =
        ap (λ (n : ℕ). let q : Production = record { left = record { 0 = n }; right = front_right (s.said).front } in q) (sym s.is_left)
        ∙ ap (λ (n : ℕ). let q : Production = record { left = record { 0 = (s.said).left }; right = said_right n (s.said).front } in q) (sym s.is_behind) in
        subst (λ (p : Production). ReadLift fs new.fronts.keys base r part p) e
        (part_lift fs new.fronts.keys base r part left outs symbols stood (s.said).front (front_right (s.said).front) at low high is puts same s.stands refl)

    pub said_some : WritesSome fs base r old.fronts.keys new.fronts.keys old.out.items new.out.items
    said_some =
        record {
          grows = s.fronts;
          puts = says_behind (λ (q : Production). ReadMade fs base new.fronts.keys r q) base old new left.0 0 stood s (part, said_lift);
        }

    pub said_has : IsFiled new → HasPart fs base r new.fronts.keys part new.out.items
    said_has filed passed = (production_of s.said, filed s.said s.has, said_lift)

    pub said_pays : GivesOne part r.out.items → ReadingPays fs base r old new
    said_pays one from rs ls before has p =
        let within : InRange part part.lo = (omega arith, part.ordered) in
        let inside : InRange r.range part.lo = (let o = part.ordered in (low, omega (arith, o, high))) in
        let letters = map (letter_of part.lo) r.out.items in
        let spells : Spells symbols letters = subst (λ (os : List Out). Spells symbols (map (letter_of part.lo) os)) is
        (spells_one part outs symbols part.lo puts within (subst (λ (os : List Out). GivesOne part os) (sym is) one)) in
        let spelled : Spells stood letters = subst (λ (xs : List Symbol). Spells xs letters) (sym same) spells in
        says_paid from fs rs ls base before old new left.0 0 stood (reads at.0 part.lo letters) s (r, has, at.1, inside, refl) spelled (at.2 ∙ add-one at.0) refl p

  module _ (s : SaysWide base old new left.0 part.lo stood) where
    pub wide_lift : ReadLift fs new.fronts.keys base r part (record { left = record { 0 = left.0 }; right = front_right s.front })
    wide_lift = part_lift fs new.fronts.keys base r part left outs symbols stood s.front (front_right s.front) at low high is puts same s.stands refl

    pub wide_some : WritesSome fs base r old.fronts.keys new.fronts.keys old.out.items new.out.items
    wide_some = some_pushed fs base r old.fronts.keys new.fronts.keys old.out.items new.out.items part _ s.fronts s.out wide_lift

    pub wide_has : HasPart fs base r new.fronts.keys part new.out.items
    wide_has passed = (_, pushed_in old.out.items new.out.items _ s.out, wide_lift)

    pub wide_pays : 0 < length r.out.items → ReadingPays fs base r old new
    wide_pays some from rs ls before has p =
        let within : InRange part part.lo = (omega arith, part.ordered) in
        let inside : InRange r.range part.lo = (let o = part.ordered in (low, omega (arith, o, high))) in
        let long = ap length same ∙ (wide_length part outs symbols part.lo puts within ∙ ap (λ (os : List Out). length (map (letter_of part.lo) os)) is) in
        wide_paid from fs rs ls base before old new left.0 part.lo stood at.0 (map (letter_of part.lo) r.out.items) s (r, has, at.1, inside, refl) long (let l = length-map r.out.items (letter_of part.lo) in omega (arith, l, some)) (at.2 ∙ add-one at.0) p

-- nothing is written
pub stays_some : (fs : List Passage) (base : ℕ) (r : Reading) (old new : Outputs) → Stays old new → WritesSome fs base r old.fronts.keys new.fronts.keys old.out.items new.out.items
stays_some fs base r old new s =
    record {
      grows = λ n x h. subst (λ (xs : List Front). slice_get xs n ≡ Some x) (sym s.fronts) h;
      puts = behind_same (λ (q : Production). ReadMade fs base new.fronts.keys r q) old.out.items new.out.items (ap (λ (v : _). v.items) s.out);
    }

-- what is said of an end
module _ (from : nt.Nt) (fs : List Passage) (base : ℕ) (l : Last) (range : ByteRange) (a : nt.Nt) (outs : List Out) (symbols stood : List Symbol) (old new : Outputs)
    (at : (k : ℕ) × (slice_get fs k ≡ Some (record { symbol = Nt from; from = 0; to = l.state })) × (a.0 ≡ k + 1)) (only_byte : range.lo ≡ range.hi) (is_zero : range.lo ≡ 0)
    (is : outs ≡ l.out.items) (puts : IsOutput range outs symbols) (same : stood ≡ symbols) (s : Says base old new 0 a.0 stood) where
  end_said : EndLift from fs new.fronts.keys base l (production_of s.said)
  end_said =
      let r : said_right (suc at.0) (s.said).front ≡ end_by (suc at.0) (s.said).front = refl in
      let b : (s.said).behind ≡ suc at.0 = s.is_behind ∙ (at.2 ∙ add-one at.0) in
      let e : ◌≡◌ {A = Production} (record { left = record { 0 = 0 }; right = end_by a.0 (s.said).front }) (production_of s.said) =
      ap (λ (n : ℕ). let q : Production = record { left = record { 0 = 0 }; right = end_by n (s.said).front } in q) (at.2 ∙ add-one at.0)
      ∙ (ap (λ (n : ℕ). let q : Production = record { left = record { 0 = 0 }; right = said_right n (s.said).front } in q) (sym b)
      ∙ ap (λ (n : ℕ). let q : Production = record { left = record { 0 = n }; right = said_right (s.said).behind (s.said).front } in q) (sym s.is_left)) in
      subst (λ (p : Production). EndLift from fs new.fronts.keys base l p) e
      (end_lift from fs new.fronts.keys base l range a outs symbols stood (s.said).front (end_by a.0 (s.said).front) at is puts same s.stands refl)

  pub end_writes : IsFiled new → WritesOne (EndMade from fs base) (EndHas from fs base) l old.fronts.keys new.fronts.keys old.out.items new.out.items
  end_writes filed =
      record {
        grows = s.fronts;
        puts = says_behind (λ (q : Production). EndLift from fs new.fronts.keys base l q) base old new 0 a.0 stood s end_said;
        has = λ passed. (production_of s.said, filed s.said s.has, end_said);
      }

  pub end_pays : EndPays from fs base l old new
  end_pays rs ls before has p =
      let within : InRange range range.lo = (omega arith, range.ordered) in
      let one : GivesOne range outs = λ b c hb hc.
      let e : b ≡ c = (let x = hb.0 in let y = hb.1 in let z = hc.0 in let w = hc.1 in omega (arith, x, y, z, w, only_byte)) in
      ap (λ (n : ℕ). map (letter_of n) outs) e in
      let spells = spells_one range outs symbols range.lo puts within one in
      let zeroed : Spells symbols (map (letter_of 0) outs) = subst (λ (n : ℕ). Spells symbols (map (letter_of n) outs)) is_zero spells in
      let own : Spells symbols (map (letter_of 0) l.out.items) = subst (λ (os : List Out). Spells symbols (map (letter_of 0) os)) is zeroed in
      let spelled : Spells stood (map (letter_of 0) l.out.items) = subst (λ (xs : List Symbol). Spells xs (map (letter_of 0) l.out.items)) (sym same) own in
      says_paid from fs rs ls base before old new 0 a.0 stood (ends at.0 l.state (map (letter_of 0) l.out.items)) s (l, has, refl, at.1, refl) spelled refl (at.2 ∙ add-one at.0) p
