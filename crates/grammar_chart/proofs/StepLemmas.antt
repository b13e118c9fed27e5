-- Each step on a chart keeps what a chart keeps.
use Rattle.std.proofs.Common.{◌≡◌, ℕ, ◌+◌, ◌<◌, ◌≤◌, ◌⊎◌, ◌↔◌, inl, inr, List, length, Contains, refl, sym, ◌∙◌, ap, subst, arith, Option, None, Some, slice_get}
use Rattle.std.specs.Option.{MatchOption}
use Rattle.smallvec.specs.SmallVec.{SmallVec}
use Rattle.std.proofs.lemmas.List.Elements.{All-contains}
use Rattle.std.proofs.lemmas.Option.{slice_get_within}
use Rattle.std.proofs.lemmas.Bool.{cases_eq}
use Rattle.text_base.specs.declared.numbers.Nt as nt
use Rattle.cfg_grammar.specs.declared.symbol.Symbol.{Symbol}
use Rattle.cfg_grammar.specs.declared.symbol.Symbol.TheVariants.{Nt}
use Rattle.cfg_grammar.specs.declared.production.Production.{Production}
use Rattle.numbered_sets.specs.Numbers.{Keeps, AddsOnly, AreDifferent}
use Rattle.grammar_chart.specs.declared.keys.Entry.{Entry}
use Rattle.grammar_chart.specs.declared.keys.Read.TheVariants.{Nothing}
use Rattle.grammar_chart.specs.declared.keys.Begun.{Begun}
use Rattle.grammar_chart.specs.declared.keys.Passage.{Passage}
use Rattle.grammar_chart.specs.declared.keys.Reading.{Reading}
use Rattle.grammar_chart.specs.declared.steps.Visit.{Visit}
use Rattle.grammar_chart.specs.Rules.{awaited_of, passage_of, read_on, begun_at, ReadingStep}
use Rattle.grammar_chart.specs.Visits.{AreWithin}
use Rattle.grammar_chart.specs.Adding.{AddsPlaces}
use Rattle.grammar_chart.specs.Kept.{lefts_of}
use Rattle.grammar_chart.specs.Charts.{IsBegun, IsEntered, IsPassage, IsSound, IsVisited, WaitsAt, IsTakenUp, IsExit, IsOpened, OfFirst, Awaits, Leaves, IsChart, Finishes}
use Rattle.grammar_chart.proofs.MemberLemmas.{contains_at, contains_kept, none_in, longer}
use Rattle.grammar_chart.proofs.AddingLemmas.{AddsAll, adds_all, at_lefts, begun_is}
use Rattle.grammar_chart.proofs.VisitLemmas.{VisitsKept, visits_waiting, visits_exits, visits_same, waiting_members, exit_members, old_entry}
use Rattle.grammar_chart.proofs.OnceLemmas.{chart_waits, waits_grown, once_grown, once_more, once_awaits, once_leaves, once_opens}
pub use Rattle.grammar_chart.proofs.MemberLemmas.{at_below, at_old}
use Rattle.fst_core.specs.Items.{Enters}
use Rattle.grammar_chart.proofs.ChartLemmas.{all_by, some_same, begun_kept, begun_more, entered_begun, passage_begun}

pub first_kept : {X : Type 0} (P Q : X → Type 0) (xs ys : List X) (n : ℕ) → Keeps xs ys → n ≤ length xs → ((x : X) → P x → Q x) → OfFirst P xs n → OfFirst Q ys n
first_kept P Q xs ys n keeps h f g k x below at = f x (g k x below (at_old xs ys k x keeps (omega (arith, h, below)) at))

-- and one more
pub first_more : {X : Type 0} (P : X → Type 0) (xs : List X) (n : ℕ) (y : X) → slice_get xs n ≡ Some y → P y → OfFirst P xs n → OfFirst P xs (n + 1)
first_more {X} P xs n y at here g k x below is =
    elim (cases_eq k n) [
      | inl e ↦
          let s : Some y ≡ Some x = sym at ∙ (ap (slice_get xs) (sym e) ∙ is) in
          let same : y ≡ x = cc in
          subst P same here
      | inr other ↦ g k x (omega (arith, below, other)) is
    ]

pub taken_kept : (ps : List Production) (es new : List Entry) (vs after : List Visit) (bs more : List Begun) (fs gs : List Passage) (b : Begun) → Keeps es new → VisitsKept vs after → Keeps bs more → Keeps fs gs → IsTakenUp ps es vs bs fs b → IsTakenUp ps new after more gs b
taken_kept ps es new vs after bs more fs gs b keeps visits begun passages h = by (awaited_of ps b) (passage_of ps b) h
  where
    by_passage : (f : Option Passage) → MatchOption f (Unit {0}) (λ f. Contains fs f) → MatchOption f (Unit {0}) (λ f. Contains gs f)
    by_passage None h = tt
    by_passage (Some f) h = contains_kept fs gs f passages h

    by : (a : Option Entry) (f : Option Passage) → MatchOption a (MatchOption f (Unit {0}) (λ f. Contains fs f)) (λ e. WaitsAt es vs bs b e) → MatchOption a (MatchOption f (Unit {0}) (λ f. Contains gs f)) (λ e. WaitsAt new after more b e)
    by None f h = by_passage f h
    by (Some e) f h = let k = visits.waiting h.0 h.2 h.3 in (h.0, keeps h.0 e h.1, k.0, k.1, h.4, k.2 h.4 h.5, begun h.4 b h.6)

exit_kept : (es new : List Entry) (vs after : List Visit) (f : Passage) → Keeps es new → VisitsKept vs after → IsExit es vs f → IsExit new after f
exit_kept es new vs after f keeps visits h = let k = visits.waiting h.0 h.2 h.3 in (h.0, keeps h.0 _ h.1, k.0, k.1, k.3 f.to h.4)

opened_kept : (ps : List Production) (bs more : List Begun) (e : Entry) → Keeps bs more → IsOpened ps bs e → IsOpened ps more e
opened_kept ps bs more e keeps h = λ a is place p at left. contains_kept bs more _ keeps (h a is place p at left)

module _ (ps : List Production) (from : nt.Nt) (es new : List Entry) (vs after : List Visit) (bs more : List Begun) (fs : List Passage) (rs : List Reading) (opened taken left : ℕ) (c : IsChart ps from es vs bs fs rs opened taken left) where
  -- what waits for a symbol has it awaited
  module _ (b : Begun) (e : Entry) (here : slice_get bs taken ≡ Some b) (waits_for : awaited_of ps b ≡ Some e) (a : Awaits es new vs after bs more b taken e) where
    advances : AddsAll bs more a.visit.exits.items (λ (t : ℕ). read_on b t)
    advances = adds_all bs more a.visit.exits.items (λ (t : ℕ). read_on b t) a.advances

    waits : (q : ℕ) (v : Visit) → slice_get after q ≡ Some v
        → (w : Visit) × (slice_get a.visits q ≡ Some w) × (v.exits ≡ w.exits) × ((n : ℕ) → Contains v.waiting.items n ↔ (Contains w.waiting.items n ⊎ ((q ≡ a.place) × (n ≡ taken))))
    waits = waiting_members a.visits after a.place taken a.waits

    exits_of : (t : ℕ) → Contains a.visit.exits.items t → Contains fs (record { symbol = e.symbol; from = e.state; to = t })
    exits_of t h = elim (a.grows.empty a.place a.visit a.is_visit) [
      | inl old ↦ c.visited.exits a.place a.visit e t old (old_entry es new vs a.place a.visit e c.long a.keeps old a.at) h
      | inr none ↦ absurd (none_in a.visit.exits.items t none.1 h)
    ]

    is_begun : IsBegun ps from fs rs b
    is_begun = All-contains (IsBegun ps from fs rs) bs b c.sound.begun (contains_at bs taken b here)

    awaits_sound : IsSound ps from new more fs rs
    awaits_sound =
        record {
          entered = all_by (IsEntered ps from rs) new (λ x h. elim (a.adds x h) [
            | inl old ↦ All-contains (IsEntered ps from rs) es x c.sound.entered old
            | inr is ↦ subst (λ (y : Entry). IsEntered ps from rs y) (sym is) (entered_begun ps from fs rs c.sound.passed b e is_begun waits_for)
          ]);
          begun = all_by (IsBegun ps from fs rs) more (λ x h. elim (advances.adds x h) [
            | inl old ↦ All-contains (IsBegun ps from fs rs) bs x c.sound.begun old
            | inr d ↦ subst (λ (y : Begun). IsBegun ps from fs rs y) (sym d.2) (begun_more ps from fs rs b e d.0 is_begun waits_for (exits_of d.0 d.1))
          ]);
          passed = c.sound.passed;
        }

    awaits_visited : IsVisited ps new after more fs
    awaits_visited =
        record {
          waiting = λ q v x n at is h.
              let w = waits q v at in
              elim ((w.3 n).0 h) [
                | inl old ↦ elim (a.grows.empty q w.0 w.1) [
                  | inl before ↦
                      let k = c.visited.waiting q w.0 x n before (old_entry es new vs q w.0 x c.long a.keeps before is) old in
                      (k.0, advances.keeps n k.0 k.1, k.2)
                  | inr none ↦ absurd (none_in (w.0).waiting.items n none.0 old)
                ]
                | inr d ↦
                    let s : Some e ≡ Some x = sym a.at ∙ (ap (slice_get new) (sym d.0) ∙ is) in
                    let same : e ≡ x = cc in (
                      b,
                      subst (λ (z : ℕ). slice_get more z ≡ Some b) (sym d.1) (advances.keeps taken b here),
                      waits_for ∙ ap (λ (z : Entry). Some z) same,
                    )
              ];
          exits = λ q v x t at is h.
              let w = waits q v at in
              let k : Contains (w.0).exits.items t = subst (λ (z : SmallVec ℕ). Contains z.items t) w.2 h in
              elim (a.grows.empty q w.0 w.1) [
                | inl before ↦ c.visited.exits q w.0 x t before (old_entry es new vs q w.0 x c.long a.keeps before is) k
                | inr none ↦ absurd (none_in (w.0).exits.items t none.1 k)
              ];
          combined = λ q v n t at h l.
              let w = waits q v at in
              let k : Contains (w.0).exits.items t = subst (λ (z : SmallVec ℕ). Contains z.items t) w.2 l in
              elim ((w.3 n).0 h) [
                | inl old ↦ elim (a.grows.empty q w.0 w.1) [
                  | inl before ↦
                      let p = c.visited.combined q w.0 n t before old k in
                      (p.0, advances.keeps n p.0 p.1, contains_kept bs more (read_on p.0 t) advances.keeps p.2)
                  | inr none ↦ absurd (none_in (w.0).exits.items t none.1 k)
                ]
                | inr d ↦
                    let s : Some w.0 ≡ Some a.visit = sym w.1 ∙ (ap (slice_get a.visits) d.0 ∙ a.is_visit) in
                    let same : w.0 ≡ a.visit = cc in (
                      b,
                      subst (λ (z : ℕ). slice_get more z ≡ Some b) (sym d.1) (advances.keeps taken b here),
                      All-contains (λ (u : ℕ). Contains more (read_on b u)) a.visit.exits.items t advances.all (subst (λ (z : Visit). Contains z.exits.items t) same k),
                    )
              ];
        }

    pub chart_awaits : IsChart ps from new after more fs rs opened (taken + 1) left
    chart_awaits =
        let kept : VisitsKept vs after = visits_waiting vs a.visits after a.place taken a.grows (a.still_long ∙ sym a.long) a.waits in
        let o = at_below after a.place (let w = slice_get_within new a.place e a.at in let l = a.still_long in omega (arith, w, l)) in
        let w = waits a.place o.0 o.1 in
        let is_waiting : WaitsAt new after more b e = (a.place, a.at, o.0, o.1, taken, (w.3 taken).1 (inr (refl, refl)), advances.keeps taken b here) in
        let more_long = longer es new a.keeps in
        let begun_long = longer bs more advances.keeps in
        record {
          long = a.still_long;
          opened_within = let l = c.opened_within in omega (arith, l, more_long);
          taken_within = let l = slice_get_within bs taken b here in omega (arith, l, begun_long);
          left_within = c.left_within;
          first = a.keeps 0 _ c.first;
          sound = awaits_sound;
          visited = awaits_visited;
          opens = first_kept (IsOpened ps bs) (IsOpened ps more) es new opened a.keeps c.opened_within (λ x h. opened_kept ps bs more x advances.keeps h) c.opens;
          takes = first_more (IsTakenUp ps new after more fs) more taken b (advances.keeps taken b here)
              (subst (λ (z : Option Entry). MatchOption z (MatchOption (passage_of ps b) (Unit {0}) (λ f. Contains fs f)) (λ i. WaitsAt new after more b i)) (sym waits_for) is_waiting)
              (first_kept (IsTakenUp ps es vs bs fs) (IsTakenUp ps new after more fs) bs more taken advances.keeps c.taken_within (λ x h. taken_kept ps es new vs after bs more fs fs x a.keeps kept advances.keeps (λ n y i. i) h) c.takes);
          lets = first_kept (IsExit es vs) (IsExit new after) fs fs left (λ n y i. i) c.left_within (λ x h. exit_kept es new vs after x a.keeps kept h) c.lets;
          once = once_awaits ps new a.visits after bs more fs opened taken left
              (once_grown ps es new vs a.visits bs fs opened taken left c.once c.long a.keeps a.grows)
              (waits_grown ps es new vs a.visits bs (chart_waits ps from es vs bs fs rs opened taken left c) a.keeps a.grows)
              b e a.place a.visit here waits_for a.is_visit a.advances a.waits (a.still_long ∙ sym a.long);
        }

  -- an entry is left by a passage
  module _ (f : Passage) (here : slice_get fs left ≡ Some f) (a : Leaves es new vs after bs more f) where
    is_passage : IsPassage ps from rs f
    is_passage = All-contains (IsPassage ps from rs) fs f c.sound.passed (contains_at fs left f here)

    goes_on : AddsAll bs more a.visit.waiting.items (λ (n : ℕ). read_on (begun_at bs n) f.to)
    goes_on = adds_all bs more a.visit.waiting.items (λ (n : ℕ). read_on (begun_at bs n) f.to) a.advances

    leaves : (q : ℕ) (v : Visit) → slice_get after q ≡ Some v
        → (w : Visit) × (slice_get a.visits q ≡ Some w) × (v.waiting ≡ w.waiting) × ((t : ℕ) → Contains v.exits.items t ↔ (Contains w.exits.items t ⊎ ((q ≡ a.place) × (t ≡ f.to))))
    leaves = exit_members a.visits after a.place f.to a.leaves

    waits_of : (n : ℕ) → Contains a.visit.waiting.items n → (b : Begun) × (slice_get bs n ≡ Some b) × (awaited_of ps b ≡ Some (record { symbol = f.symbol; state = f.from }))
    waits_of n h = elim (a.grows.empty a.place a.visit a.is_visit) [
      | inl old ↦ c.visited.waiting a.place a.visit _ n old (old_entry es new vs a.place a.visit _ c.long a.keeps old a.at) h
      | inr none ↦ absurd (none_in a.visit.waiting.items n none.0 h)
    ]

    leaves_sound : IsSound ps from new more fs rs
    leaves_sound =
        record {
          entered = all_by (IsEntered ps from rs) new (λ x h. elim (a.adds x h) [
            | inl old ↦ All-contains (IsEntered ps from rs) es x c.sound.entered old
            | inr is ↦ subst (λ (y : Entry). IsEntered ps from rs y) (sym is) is_passage.0
          ]);
          begun = all_by (IsBegun ps from fs rs) more (λ x h. elim (goes_on.adds x h) [
            | inl old ↦ All-contains (IsBegun ps from fs rs) bs x c.sound.begun old
            | inr d ↦
                let w = waits_of d.0 d.1 in
                let is : x ≡ read_on w.0 f.to = d.2 ∙ ap (λ (y : Begun). read_on y f.to) (begun_is bs d.0 w.0 w.1) in
                subst (λ (y : Begun). IsBegun ps from fs rs y) (sym is)
                (begun_more ps from fs rs w.0 _ f.to (All-contains (IsBegun ps from fs rs) bs w.0 c.sound.begun (contains_at bs d.0 w.0 w.1)) w.2 (contains_at fs left f here))
          ]);
          passed = c.sound.passed;
        }

    leaves_visited : IsVisited ps new after more fs
    leaves_visited =
        record {
          waiting = λ q v x n at is h.
              let w = leaves q v at in
              let k : Contains (w.0).waiting.items n = subst (λ (z : SmallVec ℕ). Contains z.items n) w.2 h in
              elim (a.grows.empty q w.0 w.1) [
                | inl before ↦
                    let l = c.visited.waiting q w.0 x n before (old_entry es new vs q w.0 x c.long a.keeps before is) k in
                    (l.0, goes_on.keeps n l.0 l.1, l.2)
                | inr none ↦ absurd (none_in (w.0).waiting.items n none.0 k)
              ];
          exits = λ q v x t at is h.
              let w = leaves q v at in
              elim ((w.3 t).0 h) [
                | inl old ↦ elim (a.grows.empty q w.0 w.1) [
                  | inl before ↦ c.visited.exits q w.0 x t before (old_entry es new vs q w.0 x c.long a.keeps before is) old
                  | inr none ↦ absurd (none_in (w.0).exits.items t none.1 old)
                ]
                | inr d ↦
                    let e : Entry = record { symbol = f.symbol; state = f.from } in
                    let s : Some e ≡ Some x = sym a.at ∙ (ap (slice_get new) (sym d.0) ∙ is) in
                    let same : e ≡ x = some_same e x s in
                    subst (λ (u : ℕ). Contains fs (record { symbol = x.symbol; from = x.state; to = u })) (sym d.1)
                    (subst (λ (z : Entry). Contains fs (record { symbol = z.symbol; from = z.state; to = f.to })) same (contains_at fs left f here))
              ];
          combined = λ q v n t at h l.
              let w = leaves q v at in
              let k : Contains (w.0).waiting.items n = subst (λ (z : SmallVec ℕ). Contains z.items n) w.2 h in
              elim ((w.3 t).0 l) [
                | inl old ↦ elim (a.grows.empty q w.0 w.1) [
                  | inl before ↦
                      let p = c.visited.combined q w.0 n t before k old in
                      (p.0, goes_on.keeps n p.0 p.1, contains_kept bs more (read_on p.0 t) goes_on.keeps p.2)
                  | inr none ↦ absurd (none_in (w.0).exits.items t none.1 old)
                ]
                | inr d ↦
                    let s : Some w.0 ≡ Some a.visit = sym w.1 ∙ (ap (slice_get a.visits) d.0 ∙ a.is_visit) in
                    let same : w.0 ≡ a.visit = cc in
                    let m : Contains a.visit.waiting.items n = subst (λ (z : Visit). Contains z.waiting.items n) same k in
                    let g = waits_of n m in
                    let more_has : Contains more (read_on (begun_at bs n) f.to) = All-contains (λ (z : ℕ). Contains more (read_on (begun_at bs z) f.to)) a.visit.waiting.items n goes_on.all m in (
                      g.0,
                      goes_on.keeps n g.0 g.1,
                      subst (λ (u : ℕ). Contains more (read_on g.0 u)) (sym d.1) (subst (λ (y : Begun). Contains more (read_on y f.to)) (begun_is bs n g.0 g.1) more_has),
                    )
              ];
        }

    pub chart_leaves : AreDifferent new → AreDifferent fs → IsChart ps from new after more fs rs opened taken (left + 1)
    chart_leaves entries passages =
        let kept : VisitsKept vs after = visits_exits vs a.visits after a.place f.to a.grows (a.still_long ∙ sym a.long) a.leaves in
        let o = at_below after a.place (let w = slice_get_within new a.place _ a.at in let l = a.still_long in omega (arith, w, l)) in
        let w = leaves a.place o.0 o.1 in
        let is_exit : IsExit new after f = (a.place, a.at, o.0, o.1, (w.3 f.to).1 (inr (refl, refl))) in
        let more_long = longer es new a.keeps in
        let begun_long = longer bs more goes_on.keeps in
        record {
          long = a.still_long;
          opened_within = let l = c.opened_within in omega (arith, l, more_long);
          taken_within = let l = c.taken_within in omega (arith, l, begun_long);
          left_within = let l = slice_get_within fs left f here in omega (arith, l);
          first = a.keeps 0 _ c.first;
          sound = leaves_sound;
          visited = leaves_visited;
          opens = first_kept (IsOpened ps bs) (IsOpened ps more) es new opened a.keeps c.opened_within (λ x h. opened_kept ps bs more x goes_on.keeps h) c.opens;
          takes = first_kept (IsTakenUp ps es vs bs fs) (IsTakenUp ps new after more fs) bs more taken goes_on.keeps c.taken_within (λ x h. taken_kept ps es new vs after bs more fs fs x a.keeps kept goes_on.keeps (λ n y i. i) h) c.takes;
          lets = first_more (IsExit new after) fs left f here is_exit
              (first_kept (IsExit es vs) (IsExit new after) fs fs left (λ n y i. i) c.left_within (λ x h. exit_kept es new vs after x a.keeps kept h) c.lets);
          once = once_leaves ps new a.visits after bs more fs opened taken left
              (once_grown ps es new vs a.visits bs fs opened taken left c.once c.long a.keeps a.grows)
              (waits_grown ps es new vs a.visits bs (chart_waits ps from es vs bs fs rs opened taken left c) a.keeps a.grows)
              entries passages f a.place a.visit here a.at a.is_visit a.advances a.leaves (a.still_long ∙ sym a.long);
        }

module _ (ps : List Production) (from : nt.Nt) (es : List Entry) (vs : List Visit) (bs : List Begun) (fs gs : List Passage) (rs : List Reading) (opened taken left : ℕ) (c : IsChart ps from es vs bs fs rs opened taken left) where
  -- a begun production is whole, and its left side leads where it does
  pub chart_finishes : (b : Begun) (f : Passage) → slice_get bs taken ≡ Some b → awaited_of ps b ≡ None → passage_of ps b ≡ Some f → Keeps fs gs → AddsOnly fs gs f → Contains gs f → IsChart ps from es vs bs gs rs opened (taken + 1) left
  chart_finishes b f here none is keeps adds has =
      let begun = All-contains (IsBegun ps from fs rs) bs b c.sound.begun (contains_at bs taken b here) in
      let passed = longer fs gs keeps in
      record {
        long = c.long;
        opened_within = c.opened_within;
        taken_within = let l = slice_get_within bs taken b here in omega (arith, l);
        left_within = let l = c.left_within in omega (arith, l, passed);
        first = c.first;
        sound = record {
          entered = c.sound.entered;
          begun = all_by (IsBegun ps from gs rs) bs (λ x h. begun_kept ps from fs gs rs x keeps (All-contains (IsBegun ps from fs rs) bs x c.sound.begun h));
          passed = all_by (IsPassage ps from rs) gs (λ x h. elim (adds x h) [
            | inl old ↦ All-contains (IsPassage ps from rs) fs x c.sound.passed old
            | inr same ↦ subst (λ (g : Passage). IsPassage ps from rs g) (sym same) (passage_begun ps from fs rs c.sound.passed b f begun none is)
          ]);
        };
        visited = record {
          waiting = c.visited.waiting;
          exits = λ q v e t at is h. contains_kept fs gs _ keeps (c.visited.exits q v e t at is h);
          combined = c.visited.combined;
        };
        opens = c.opens;
        takes = first_more (IsTakenUp ps es vs bs gs) bs taken b here
            (subst (λ (z : Option Entry). MatchOption z (MatchOption (passage_of ps b) (Unit {0}) (λ g. Contains gs g)) (λ i. WaitsAt es vs bs b i)) (sym none)
            (subst (λ (z : Option Passage). MatchOption z (Unit {0}) (λ g. Contains gs g)) (sym is) has))
            (first_kept (IsTakenUp ps es vs bs fs) (IsTakenUp ps es vs bs gs) bs bs taken (λ n y i. i) c.taken_within
            (λ x h. taken_kept ps es es vs vs bs bs fs gs x (λ n y i. i) (visits_same vs) (λ n y i. i) keeps h) c.takes);
        lets = first_kept (IsExit es vs) (IsExit es vs) fs gs left keeps c.left_within (λ x h. h) c.lets;
        once = once_more ps es vs bs fs gs opened taken left c.once keeps opened (taken + 1) (omega arith) (omega arith);
      }

  -- a begun production of no place leads nowhere
  pub chart_skips : (b : Begun) → slice_get bs taken ≡ Some b → awaited_of ps b ≡ None → passage_of ps b ≡ None → IsChart ps from es vs bs fs rs opened (taken + 1) left
  chart_skips b here none is =
      record {
        long = c.long;
        opened_within = c.opened_within;
        taken_within = let l = slice_get_within bs taken b here in omega (arith, l);
        left_within = c.left_within;
        first = c.first;
        sound = c.sound;
        visited = c.visited;
        opens = c.opens;
        takes = first_more (IsTakenUp ps es vs bs fs) bs taken b here
            (subst (λ (z : Option Entry). MatchOption z (MatchOption (passage_of ps b) (Unit {0}) (λ g. Contains fs g)) (λ i. WaitsAt es vs bs b i)) (sym none)
            (subst (λ (z : Option Passage). MatchOption z (Unit {0}) (λ g. Contains fs g)) (sym is) tt)) c.takes;
        lets = c.lets;
        once = once_more ps es vs bs fs fs opened taken left c.once (λ n y i. i) opened (taken + 1) (omega arith) (omega arith);
      }

  -- the productions of an entry's nonterminal are begun
  pub chart_opens : (more : List Begun) (e : Entry) (a : nt.Nt) → AreDifferent es → slice_get es opened ≡ Some e → e.symbol ≡ Nt a → AddsPlaces bs more (lefts_of ps) a.0 (λ (p : ℕ). let b : Begun = record { place = p; from = e.state; read = Nothing } in b) → IsChart ps from es vs more fs rs (opened + 1) taken left
  chart_opens more e a entries here is puts =
      let adds = adds_all bs more puts.places (λ (p : ℕ). let b : Begun = record { place = p; from = e.state; read = Nothing } in b) puts.added in
      let long = longer bs more adds.keeps in
      let entered : IsEntered ps from rs e = All-contains (IsEntered ps from rs) es e c.sound.entered (contains_at es opened e here) in
      record {
        long = c.long;
        opened_within = let l = slice_get_within es opened e here in omega (arith, l);
        taken_within = let l = c.taken_within in omega (arith, l, long);
        left_within = c.left_within;
        first = c.first;
        sound = record {
          entered = c.sound.entered;
          begun = all_by (IsBegun ps from fs rs) more (λ x h. elim (adds.adds x h) [
            | inl old ↦ All-contains (IsBegun ps from fs rs) bs x c.sound.begun old
            | inr d ↦
                let p = (at_lefts ps d.0 a).0 ((puts.exactly d.0).0 d.1) in
                let first : IsBegun ps from fs rs (record { place = d.0; from = e.state; read = Nothing }) =
                record {
                  production = p.0;
                  placed = p.1;
                  entered = subst (λ (x : nt.Nt). Enters ps (ReadingStep rs) from 0 (Nt x) e.state) (sym p.2) (subst (λ (x : Symbol). Enters ps (ReadingStep rs) from 0 x e.state) is entered);
                  read = tt;
                } in
                subst (λ (y : Begun). IsBegun ps from fs rs y) (sym d.2) first
          ]);
          passed = c.sound.passed;
        };
        visited = record {
          waiting = λ q v x n at is h. let w = c.visited.waiting q v x n at is h in (w.0, adds.keeps n w.0 w.1, w.2);
          exits = c.visited.exits;
          combined = λ q v n t at h l. let w = c.visited.combined q v n t at h l in (w.0, adds.keeps n w.0 w.1, contains_kept bs more (read_on w.0 t) adds.keeps w.2);
        };
        opens = first_more (IsOpened ps more) es opened e here
            (λ x isx place p at left.
            let s : Nt x ≡ Nt a = sym isx ∙ is in
            let same : x ≡ a = cc in
            All-contains (λ (n : ℕ). Contains more (record { place = n; from = e.state; read = Nothing })) puts.places place adds.all
            ((puts.exactly place).1 ((at_lefts ps place a).1 (p, at, left ∙ same))))
            (first_kept (IsOpened ps bs) (IsOpened ps more) es es opened (λ n y i. i) c.opened_within (λ x h. opened_kept ps bs more x adds.keeps h) c.opens);
        takes = first_kept (IsTakenUp ps es vs bs fs) (IsTakenUp ps es vs more fs) bs more taken adds.keeps c.taken_within
            (λ x h. taken_kept ps es es vs vs bs more fs fs x (λ n y i. i) (visits_same vs) adds.keeps (λ n y i. i) h) c.takes;
        lets = c.lets;
        once = once_opens ps es vs bs more fs opened taken left c.once entries e a here is puts;
      }

  -- an entry of no nonterminal has no productions
  pub chart_passes : (e : Entry) → slice_get es opened ≡ Some e → ((a : nt.Nt) → e.symbol ≡ Nt a → ⊥) → IsChart ps from es vs bs fs rs (opened + 1) taken left
  chart_passes e here none =
      record {
        long = c.long;
        opened_within = let l = slice_get_within es opened e here in omega (arith, l);
        taken_within = c.taken_within;
        left_within = c.left_within;
        first = c.first;
        sound = c.sound;
        visited = c.visited;
        opens = first_more (IsOpened ps bs) es opened e here (λ a is place p at left. absurd (none a is)) c.opens;
        takes = c.takes;
        lets = c.lets;
        once = once_more ps es vs bs fs fs opened taken left c.once (λ n y i. i) (opened + 1) taken (omega arith) (omega arith);
      }

pub chart_whole : (ps : List Production) (from : nt.Nt) (es : List Entry) (vs : List Visit) (bs : List Begun) (fs gs : List Passage) (rs : List Reading) (opened taken left : ℕ) (b : Begun) → IsChart ps from es vs bs fs rs opened taken left → slice_get bs taken ≡ Some b → awaited_of ps b ≡ None → Finishes fs gs (passage_of ps b) → IsChart ps from es vs bs gs rs opened (taken + 1) left
chart_whole ps from es vs bs fs gs rs opened taken left b c here none finishes = by (passage_of ps b) refl finishes
  where
    by : (o : Option Passage) → passage_of ps b ≡ o → Finishes fs gs o → IsChart ps from es vs bs gs rs opened (taken + 1) left
    by None is same =
        subst (λ (xs : List Passage). IsChart ps from es vs bs xs rs opened (taken + 1) left) (sym same)
        (chart_skips ps from es vs bs fs fs rs opened taken left c b here none is)
    by (Some f) is adds = chart_finishes ps from es vs bs fs gs rs opened taken left c b f here none is adds.0 adds.1 adds.2

-- the numbers of what waits are those of begun productions
pub chart_within : (ps : List Production) (from : nt.Nt) (es : List Entry) (vs : List Visit) (bs : List Begun) (fs : List Passage) (rs : List Reading) (opened taken left : ℕ) → IsChart ps from es vs bs fs rs opened taken left → AreWithin vs (length bs)
chart_within ps from es vs bs fs rs opened taken left c q v at =
    all_by (λ (n : ℕ). n < length bs) v.waiting.items
    (λ n h.
    let o = at_below es q (let w = slice_get_within vs q v at in let l = c.long in omega (arith, w, l)) in
    let w = c.visited.waiting q v o.0 n at o.1 h in
    slice_get_within bs n w.0 w.1)
