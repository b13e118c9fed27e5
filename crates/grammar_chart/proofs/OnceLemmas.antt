-- No begun production arises twice.
use Rattle.std.proofs.Common.{◌≡◌, ℕ, ◌+◌, ◌≤◌, ◌⊎◌, inl, inr, List, ◌++◌, length, map, Contains, refl, sym, ◌∙◌, ap, subst, arith, Option, None, Some, slice_get}
use Rattle.smallvec.specs.SmallVec.{SmallVec}
use Rattle.std.proofs.lemmas.Option.{slice_get_within}
use Rattle.text_base.specs.declared.numbers.Nt as nt
use Rattle.cfg_grammar.specs.declared.symbol.Symbol.{Symbol}
use Rattle.cfg_grammar.specs.declared.symbol.Symbol.TheVariants.{Nt}
use Rattle.cfg_grammar.specs.declared.production.Right.{Right}
use Rattle.cfg_grammar.specs.declared.production.Right.TheVariants.{Empty, One, Two}
use Rattle.cfg_grammar.specs.declared.production.Production.{Production}
use Rattle.numbered_sets.specs.Numbers.{Keeps, AreDifferent}
use Rattle.grammar_chart.specs.declared.keys.Entry.{Entry}
use Rattle.grammar_chart.specs.declared.keys.Read.{Read}
use Rattle.grammar_chart.specs.declared.keys.Read.TheVariants.{Nothing, First, Both}
use Rattle.grammar_chart.specs.declared.keys.Begun.{Begun}
use Rattle.grammar_chart.specs.declared.keys.Passage.{Passage}
use Rattle.grammar_chart.specs.declared.keys.Reading.{Reading}
use Rattle.grammar_chart.specs.declared.steps.Visit.{Visit}
use Rattle.grammar_chart.specs.Rules.{awaited_by, awaited_in, awaited_of, read_by, read_on, begun_at}
use Rattle.grammar_chart.specs.Visits.{VisitsGrow, AddsWaiting, AddsExit}
use Rattle.grammar_chart.specs.Adding.{AddsPlaces}
use Rattle.grammar_chart.specs.Kept.{lefts_of}
use Rattle.grammar_chart.specs.Charts.{IsOfEntry, IsOfExit, AriseOnce, IsChart}
use Rattle.grammar_chart.proofs.MemberLemmas.{none_in, at_below, different_none, different_more}
use Rattle.grammar_chart.proofs.AddingLemmas.{adds_all, at_lefts, begun_is}
use Rattle.grammar_chart.proofs.VisitLemmas.{VisitsKept, visits_waiting, visits_exits, visits_same, visits_grown, grow_none, waiting_members, exit_members, put_different, old_entry}
use Rattle.grammar_chart.proofs.ChartLemmas.{some_same}

-- one symbol more can be read
abbrev pub IsShort : Read → Type 0
IsShort Nothing = Unit {0}
IsShort (First t) = Unit {0}
IsShort (Both t u) = ⊥

short_by : (right : Right) (from : ℕ) (read : Read) (e : Entry) → awaited_by right from read ≡ Some e → IsShort read
short_by Empty from read e h = cc
short_by (One x) from Nothing e h = tt
short_by (One x) from (First t) e h = tt
short_by (One x) from (Both t u) e h = cc
short_by (Two x y) from Nothing e h = tt
short_by (Two x y) from (First t) e h = tt
short_by (Two x y) from (Both t u) e h = cc

short_in : (o : Option Production) (b : Begun) (e : Entry) → awaited_in o b ≡ Some e → IsShort b.read
short_in None b e h = cc
short_in (Some p) b e h = short_by p.right b.from b.read e h

-- what waits for a symbol can read it
is_short : (ps : List Production) (b : Begun) (e : Entry) → awaited_of ps b ≡ Some e → IsShort b.read
is_short ps b e h = short_in (slice_get ps b.place) b e h

same_read : (r s : Read) (t u : ℕ) → IsShort r → IsShort s → read_by r t ≡ read_by s u → (r ≡ s) × (t ≡ u)
same_read Nothing Nothing t u h k e = let same : t ≡ u = cc in (refl, same)
same_read Nothing (First v) t u h k e = cc
same_read Nothing (Both v w) t u h k e = absurd k
same_read (First v) Nothing t u h k e = cc
same_read (First v) (First w) t u h k e =
    let one : v ≡ w = cc in
    let two : t ≡ u = cc in
    (ap (λ (x : ℕ). First x) one, two)
same_read (First v) (Both w x) t u h k e = absurd k
same_read (Both v w) s t u h k e = absurd h

-- by a symbol more the same arises only of the same
same_begun : (b c : Begun) (t u : ℕ) → IsShort b.read → IsShort c.read → read_on b t ≡ read_on c u → (b ≡ c) × (t ≡ u)
same_begun b c t u h k e =
    let p : b.place ≡ c.place = ap (λ (x : Begun). x.place) e in
    let f : b.from ≡ c.from = ap (λ (x : Begun). x.from) e in
    let r = same_read b.read c.read t u h k (ap (λ (x : Begun). x.read) e) in (
      ap (λ (x : ℕ). let y : Begun = record { place = x; from = b.from; read = b.read } in y) p
          ∙ (ap (λ (x : ℕ). let y : Begun = record { place = c.place; from = x; read = b.read } in y) f
          ∙ ap (λ (x : Read). let y : Begun = record { place = c.place; from = c.from; read = x } in y) r.0),
      r.1,
    )

not_nothing : (r : Read) (t : ℕ) → read_by r t ≡ Nothing → ⊥
not_nothing Nothing t e = cc
not_nothing (First u) t e = cc
not_nothing (Both u v) t e = cc

module _ (ps : List Production) where
  -- what waits at an entry waits for its symbol
  abbrev pub WaitsFor : List Entry → List Visit → List Begun → Type 0
  WaitsFor es vs bs = (q : ℕ) (v : Visit) (n : ℕ) → slice_get vs q ≡ Some v → Contains v.waiting.items n
      → (b : Begun) × (e : Entry) × (slice_get es q ≡ Some e) × (slice_get bs n ≡ Some b) × (awaited_of ps b ≡ Some e)

pub chart_waits : (ps : List Production) (from : nt.Nt) (es : List Entry) (vs : List Visit) (bs : List Begun) (fs : List Passage) (rs : List Reading) (opened taken left : ℕ) → IsChart ps from es vs bs fs rs opened taken left → WaitsFor ps es vs bs
chart_waits ps from es vs bs fs rs opened taken left c q v n at h =
    let o = at_below es q (let w = slice_get_within vs q v at in let l = c.long in omega (arith, w, l)) in
    let w = c.visited.waiting q v o.0 n at o.1 h in
    (w.0, o.0, o.1, w.1, w.2)

-- an entry of which nothing is kept yet
pub waits_grown : (ps : List Production) (es new : List Entry) (vs visits : List Visit) (bs : List Begun) → WaitsFor ps es vs bs → Keeps es new → VisitsGrow vs visits → WaitsFor ps new visits bs
waits_grown ps es new vs visits bs waits keeps grows q v n at h =
    elim (grows.empty q v at) [
      | inl before ↦ let w = waits q v n before h in (w.0, w.1, keeps q w.1 w.2, w.3, w.4)
      | inr none ↦ absurd (none_in v.waiting.items n none.0 h)
    ]

entry_kept : (ps : List Production) (es new : List Entry) (opened more : ℕ) (b : Begun) → Keeps es new → opened ≤ more → IsOfEntry ps es opened b → IsOfEntry ps new more b
entry_kept ps es new opened more b keeps h x =
    record {
      number = x.number;
      production = x.production;
      within = let w = x.within in omega (arith, w, h);
      placed = x.placed;
      at = keeps x.number _ x.at;
      nothing = x.nothing;
    }

exit_kept : (vs after : List Visit) (bs more : List Begun) (b : Begun) → VisitsKept vs after → Keeps bs more → IsOfExit vs bs b → IsOfExit after more b
exit_kept vs after bs more b visits begun x =
    let k = visits.waiting x.number x.visit x.is_visit in
    record {
      number = x.number;
      visit = k.0;
      is_visit = k.1;
      waiting = x.waiting;
      waits = k.2 x.waiting x.waits;
      before = x.before;
      is_before = begun x.waiting x.before x.is_before;
      exit = x.exit;
      exits = k.3 x.exit x.exits;
      is = x.is;
    }

arises_kept : (ps : List Production) (es new : List Entry) (vs after : List Visit) (bs more : List Begun) (opened o : ℕ) (b : Begun) → Keeps es new → VisitsKept vs after → Keeps bs more → opened ≤ o → IsOfEntry ps es opened b ⊎ IsOfExit vs bs b → IsOfEntry ps new o b ⊎ IsOfExit after more b
arises_kept ps es new vs after bs more opened o b entries visits begun h arises =
    elim arises [
      | inl x ↦ inl (entry_kept ps es new opened o b entries h x)
      | inr x ↦ inr (exit_kept vs after bs more b visits begun x)
    ]

pub once_grown : (ps : List Production) (es new : List Entry) (vs visits : List Visit) (bs : List Begun) (fs : List Passage) (opened taken left : ℕ) → AriseOnce ps es vs bs fs opened taken left → length vs ≡ length es → Keeps es new → VisitsGrow vs visits → AriseOnce ps new visits bs fs opened taken left
once_grown ps es new vs visits bs fs opened taken left once long keeps grows =
    record {
      different = once.different;
      arises = λ b h. arises_kept ps es new vs visits bs bs opened opened b keeps (visits_grown vs visits grows) (λ n y i. i) (omega arith) (once.arises b h);
      waiting = λ q v at. elim (grows.empty q v at) [
        | inl before ↦ once.waiting q v before
        | inr none ↦ subst (λ (xs : List ℕ). AreDifferent xs) (sym none.0) different_none
      ];
      taken_up = λ q v n at h. elim (grows.empty q v at) [
        | inl before ↦ once.taken_up q v n before h
        | inr none ↦ absurd (none_in v.waiting.items n none.0 h)
      ];
      exits = λ q v at. elim (grows.empty q v at) [
        | inl before ↦ once.exits q v before
        | inr none ↦ subst (λ (xs : List ℕ). AreDifferent xs) (sym none.1) different_none
      ];
      let_through = λ q v e t at is h. elim (grows.empty q v at) [
        | inl before ↦ once.let_through q v e t before (old_entry es new vs q v e long keeps before is) h
        | inr none ↦ absurd (none_in v.exits.items t none.1 h)
      ];
    }

module _ (ps : List Production) (es : List Entry) (vs : List Visit) (bs : List Begun) (fs gs : List Passage) (opened taken left : ℕ) (once : AriseOnce ps es vs bs fs opened taken left) where
  -- more passages are listed, and more entries or begun productions count as done
  pub once_more : Keeps fs gs → (o t : ℕ) → opened ≤ o → taken ≤ t → AriseOnce ps es vs bs gs o t left
  once_more keeps o t h k =
      record {
        different = once.different;
        arises = λ b m. arises_kept ps es es vs vs bs bs opened o b (λ n y i. i) (visits_same vs) (λ n y i. i) h (once.arises b m);
        waiting = once.waiting;
        taken_up = λ q v n at m. let l = once.taken_up q v n at m in omega (arith, l, k);
        exits = once.exits;
        let_through = λ q v e u at is m. let l = once.let_through q v e u at is m in (l.0, l.1, keeps l.0 _ l.2);
      }

module _ (ps : List Production) (es : List Entry) (vs after : List Visit) (bs more : List Begun) (fs : List Passage) (opened taken left : ℕ) (once : AriseOnce ps es vs bs fs opened taken left) (waits : WaitsFor ps es vs bs) where
  -- what waits is what it arises of by an exit
  comes_of : (b : Begun) (e : Entry) (t : ℕ) → awaited_of ps b ≡ Some e → Contains bs (read_on b t) → (x : IsOfExit vs bs (read_on b t)) × (x.before ≡ b) × (x.exit ≡ t)
  comes_of b e t waits_for has =
      elim (once.arises (read_on b t) has) [
        | inl x ↦ absurd (not_nothing b.read t x.nothing)
        | inr x ↦
            let w = waits x.number x.visit x.waiting x.is_visit x.waits in
            let before : w.0 ≡ x.before = some_same w.0 x.before (sym w.3 ∙ x.is_before) in
            let short : IsShort x.before.read = subst (λ (z : Begun). IsShort z.read) before (is_short ps w.0 w.1 w.4) in
            let same = same_begun b x.before t x.exit (is_short ps b e waits_for) short x.is in
            (x, sym same.0, sym same.1)
      ]

  -- a begun production is taken up, and waits
  module _ (b : Begun) (e : Entry) (place : ℕ) (visit : Visit) (here : slice_get bs taken ≡ Some b) (waits_for : awaited_of ps b ≡ Some e) (is_visit : slice_get vs place ≡ Some visit) (advances : more ≡ bs ++ map (λ (t : ℕ). read_on b t) visit.exits.items) (puts : AddsWaiting vs after place taken) (long : length after ≡ length vs) where
    none_awaits : (t : ℕ) → Contains visit.exits.items t → Contains bs (read_on b t) → ⊥
    none_awaits t h has =
        let x = comes_of b e t waits_for has in
        let one : (x.0).waiting ≡ taken = once.different (x.0).waiting taken b ((x.0).is_before ∙ ap (λ (z : Begun). Some z) x.1) here in
        let below = once.taken_up (x.0).number (x.0).visit (x.0).waiting (x.0).is_visit (x.0).waits in
        omega (arith, one, below)

    of_exit_awaits : (t : ℕ) (x : Begun) → Contains visit.exits.items t → x ≡ read_on b t → Keeps bs more → IsOfExit after more x
    of_exit_awaits t x h is keeps =
        let o = at_below after place (let w = slice_get_within vs place visit is_visit in omega (arith, w, long)) in
        let w = waiting_members vs after place taken puts place o.0 o.1 in
        let same : w.0 ≡ visit = some_same w.0 visit (sym w.1 ∙ is_visit) in
        record {
          number = place;
          visit = o.0;
          is_visit = o.1;
          waiting = taken;
          waits = (w.3 taken).1 (inr (refl, refl));
          before = b;
          is_before = keeps taken b here;
          exit = t;
          exits = subst (λ (z : SmallVec ℕ). Contains z.items t) (sym w.2) (subst (λ (z : Visit). Contains z.exits.items t) (sym same) h);
          is = is;
        }

    pub once_awaits : AriseOnce ps es after more fs opened (taken + 1) left
    once_awaits =
        let s = is_short ps b e waits_for in
        let adds = adds_all bs more visit.exits.items (λ (t : ℕ). read_on b t) advances in
        let kept : VisitsKept vs after = visits_waiting vs vs after place taken (grow_none vs vs refl) long puts in
        record {
          different = subst (λ (xs : List Begun). AreDifferent xs) (sym advances)
              (different_more (λ (t : ℕ). read_on b t) bs visit.exits.items once.different (once.exits place visit is_visit) (λ t u h k same. (same_begun b b t u s s same).1) none_awaits);
          arises = λ x h. elim (adds.adds x h) [
            | inl old ↦ arises_kept ps es es vs after bs more opened opened x (λ n y i. i) kept adds.keeps (omega arith) (once.arises x old)
            | inr d ↦ inr (of_exit_awaits d.0 x d.1 d.2 adds.keeps)
          ];
          waiting = λ q v at.
              let w = puts q v at in
              put_different (w.0).waiting.items v.waiting.items taken q place w.3 (once.waiting q w.0 w.1)
              (λ same h. let below = once.taken_up q w.0 taken w.1 h in omega (arith, below));
          taken_up = λ q v n at h.
              let w = waiting_members vs after place taken puts q v at in
              elim ((w.3 n).0 h) [ inl old ↦ let below = once.taken_up q w.0 n w.1 old in omega (arith, below) | inr d ↦ omega (arith, d.1) ];
          exits = λ q v at. let w = puts q v at in subst (λ (z : SmallVec ℕ). AreDifferent z.items) (sym w.2) (once.exits q w.0 w.1);
          let_through = λ q v x t at is h.
              let w = puts q v at in
              once.let_through q w.0 x t w.1 is (subst (λ (z : SmallVec ℕ). Contains z.items t) w.2 h);
        }

  -- a passage is let through, and is an exit
  module _ (entries : AreDifferent es) (passages : AreDifferent fs) (f : Passage) (place : ℕ) (visit : Visit) (here : slice_get fs left ≡ Some f) (at_place : slice_get es place ≡ Some (record { symbol = f.symbol; state = f.from })) (is_visit : slice_get vs place ≡ Some visit) (advances : more ≡ bs ++ map (λ (n : ℕ). read_on (begun_at bs n) f.to) visit.waiting.items) (puts : AddsExit vs after place f.to) (long : length after ≡ length vs) where
    -- it was none yet
    no_exit : (q : ℕ) (v : Visit) → q ≡ place → slice_get vs q ≡ Some v → Contains v.exits.items f.to → ⊥
    no_exit q v same at h =
        let l = once.let_through q v (record { symbol = f.symbol; state = f.from }) f.to at (ap (slice_get es) same ∙ at_place) h in
        let one : l.0 ≡ left = passages l.0 left f l.2 here in
        omega (arith, one, l.1)

    none_leaves : (n : ℕ) → Contains visit.waiting.items n → Contains bs (read_on (begun_at bs n) f.to) → ⊥
    none_leaves n h has =
        let w = waits place visit n is_visit h in
        let b = begun_is bs n w.0 w.3 in
        let x = comes_of w.0 w.1 f.to w.4 (subst (λ (z : Begun). Contains bs (read_on z f.to)) b has) in
        let y = waits (x.0).number (x.0).visit (x.0).waiting (x.0).is_visit (x.0).waits in
        let begun : y.0 ≡ w.0 = some_same y.0 w.0 (sym y.3 ∙ ((x.0).is_before ∙ ap (λ (z : Begun). Some z) x.1)) in
        let entry : y.1 ≡ w.1 = some_same y.1 w.1 (sym y.4 ∙ (ap (λ (z : Begun). awaited_of ps z) begun ∙ w.4)) in
        let one : (x.0).number ≡ place = entries (x.0).number place w.1 (y.2 ∙ ap (λ (z : Entry). Some z) entry) w.2 in
        no_exit (x.0).number (x.0).visit one (x.0).is_visit (subst (λ (t : ℕ). Contains (x.0).visit.exits.items t) x.2 (x.0).exits)

    one_leaves : (n m : ℕ) → Contains visit.waiting.items n → Contains visit.waiting.items m → read_on (begun_at bs n) f.to ≡ read_on (begun_at bs m) f.to → n ≡ m
    one_leaves n m h k e =
        let w = waits place visit n is_visit h in
        let u = waits place visit m is_visit k in
        let b = begun_is bs n w.0 w.3 in
        let c = begun_is bs m u.0 u.3 in
        let is : read_on w.0 f.to ≡ read_on u.0 f.to = ap (λ (z : Begun). read_on z f.to) (sym b) ∙ (e ∙ ap (λ (z : Begun). read_on z f.to) c) in
        let same = same_begun w.0 u.0 f.to f.to (is_short ps w.0 w.1 w.4) (is_short ps u.0 u.1 u.4) is in
        once.different n m u.0 (w.3 ∙ ap (λ (z : Begun). Some z) same.0) u.3

    of_exit_leaves : (n : ℕ) (x : Begun) → Contains visit.waiting.items n → x ≡ read_on (begun_at bs n) f.to → Keeps bs more → IsOfExit after more x
    of_exit_leaves n x h is keeps =
        let b = waits place visit n is_visit h in
        let o = at_below after place (let w = slice_get_within vs place visit is_visit in omega (arith, w, long)) in
        let w = exit_members vs after place f.to puts place o.0 o.1 in
        let same : w.0 ≡ visit = some_same w.0 visit (sym w.1 ∙ is_visit) in
        record {
          number = place;
          visit = o.0;
          is_visit = o.1;
          waiting = n;
          waits = subst (λ (z : SmallVec ℕ). Contains z.items n) (sym w.2) (subst (λ (z : Visit). Contains z.waiting.items n) (sym same) h);
          before = b.0;
          is_before = keeps n b.0 b.3;
          exit = f.to;
          exits = (w.3 f.to).1 (inr (refl, refl));
          is = is ∙ ap (λ (z : Begun). read_on z f.to) (begun_is bs n b.0 b.3);
        }

    pub once_leaves : AriseOnce ps es after more fs opened taken (left + 1)
    once_leaves =
        let adds = adds_all bs more visit.waiting.items (λ (n : ℕ). read_on (begun_at bs n) f.to) advances in
        let kept : VisitsKept vs after = visits_exits vs vs after place f.to (grow_none vs vs refl) long puts in
        record {
          different = subst (λ (xs : List Begun). AreDifferent xs) (sym advances)
              (different_more (λ (n : ℕ). read_on (begun_at bs n) f.to) bs visit.waiting.items once.different (once.waiting place visit is_visit) one_leaves none_leaves);
          arises = λ x h. elim (adds.adds x h) [
            | inl old ↦ arises_kept ps es es vs after bs more opened opened x (λ n y i. i) kept adds.keeps (omega arith) (once.arises x old)
            | inr d ↦ inr (of_exit_leaves d.0 x d.1 d.2 adds.keeps)
          ];
          waiting = λ q v at. let w = puts q v at in subst (λ (z : SmallVec ℕ). AreDifferent z.items) (sym w.2) (once.waiting q w.0 w.1);
          taken_up = λ q v n at h.
              let w = puts q v at in
              once.taken_up q w.0 n w.1 (subst (λ (z : SmallVec ℕ). Contains z.items n) w.2 h);
          exits = λ q v at.
              let w = puts q v at in
              put_different (w.0).exits.items v.exits.items f.to q place w.3 (once.exits q w.0 w.1) (λ same h. no_exit q w.0 same w.1 h);
          let_through = λ q v x t at is h.
              let w = exit_members vs after place f.to puts q v at in
              elim ((w.3 t).0 h) [
                | inl old ↦ let l = once.let_through q w.0 x t w.1 is old in (l.0, omega (arith, l.1), l.2)
                | inr d ↦
                    let e : Entry = record { symbol = f.symbol; state = f.from } in
                    let same : e ≡ x = some_same e x (sym at_place ∙ (ap (slice_get es) (sym d.0) ∙ is)) in (
                      left,
                      omega arith,
                      subst (λ (u : ℕ). slice_get fs left ≡ Some (record { symbol = x.symbol; from = x.state; to = u })) (sym d.1)
                          (subst (λ (z : Entry). slice_get fs left ≡ Some (record { symbol = z.symbol; from = z.state; to = f.to })) same here),
                    )
              ];
        }

module _ (ps : List Production) (es : List Entry) (vs : List Visit) (bs more : List Begun) (fs : List Passage) (opened taken left : ℕ) (once : AriseOnce ps es vs bs fs opened taken left) (entries : AreDifferent es) (e : Entry) (a : nt.Nt) (here : slice_get es opened ≡ Some e) (is_nonterminal : e.symbol ≡ Nt a) (puts : AddsPlaces bs more (lefts_of ps) a.0 (λ (p : ℕ). let b : Begun = record { place = p; from = e.state; read = Nothing } in b)) where
  -- the entry of a production of its nonterminal
  entry_of : (p : Production) → p.left ≡ a → slice_get es opened ≡ Some (record { symbol = Nt p.left; state = e.state })
  entry_of p same =
      let symbol : e.symbol ≡ Nt p.left = is_nonterminal ∙ ap (λ (x : nt.Nt). Nt x) (sym same) in
      here ∙ ap (λ (x : Symbol). let y : Entry = record { symbol = x; state = e.state } in Some y) symbol

  none_opens : (p : ℕ) → Contains puts.places p → Contains bs (record { place = p; from = e.state; read = Nothing }) → ⊥
  none_opens p h has =
      let q = (at_lefts ps p a).0 ((puts.exactly p).0 h) in
      elim (once.arises (record { place = p; from = e.state; read = Nothing }) has) [
        | inl x ↦
            let one : x.production ≡ q.0 = some_same x.production q.0 (sym x.placed ∙ q.1) in
            let number : x.number ≡ opened = entries x.number opened (record { symbol = Nt x.production.left; state = e.state }) x.at
            (entry_of x.production (ap (λ (y : Production). y.left) one ∙ q.2)) in
            let within = x.within in
            omega (arith, number, within)
        | inr x ↦ absurd (not_nothing x.before.read x.exit (sym (ap (λ (y : Begun). y.read) x.is)))
      ]

  -- the productions of an entry's nonterminal are begun
  pub once_opens : AriseOnce ps es vs more fs (opened + 1) taken left
  once_opens =
      let f : ℕ → Begun = λ (p : ℕ). record { place = p; from = e.state; read = Nothing } in
      let adds = adds_all bs more puts.places f puts.added in
      record {
        different = subst (λ (xs : List Begun). AreDifferent xs) (sym puts.added)
            (different_more f bs puts.places once.different puts.different (λ p q h k same. ap (λ (y : Begun). y.place) same) none_opens);
        arises = λ x h. elim (adds.adds x h) [
          | inl old ↦ arises_kept ps es es vs vs bs more opened (opened + 1) x (λ n y i. i) (visits_same vs) adds.keeps (omega arith) (once.arises x old)
          | inr d ↦
              let q = (at_lefts ps d.0 a).0 ((puts.exactly d.0).0 d.1) in
              let first : IsOfEntry ps es (opened + 1) (f d.0) = record { number = opened; production = q.0; within = omega arith; placed = q.1; at = entry_of q.0 q.2; nothing = refl } in
              inl (subst (λ (y : Begun). IsOfEntry ps es (opened + 1) y) (sym d.2) first)
        ];
        waiting = once.waiting;
        taken_up = once.taken_up;
        exits = once.exits;
        let_through = once.let_through;
      }
