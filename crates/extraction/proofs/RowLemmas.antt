-- Rows that are written for names, one name after another.
use Rattle.std.proofs.Common.{◌≡◌, ◌<◌, ◌≤◌, ◌+◌, ◌⊎◌, inl, inr, ℕ, zero, suc, List, [], ◌∷◌, ◌++◌, Some, None, refl, sym, subst, ap, ◌∙◌, arith, slice_get, Contains, length, take, get_or, append_assoc, append-nil}
use Rattle.std.proofs.Math.Seq.{take-suc}
use Rattle.std.proofs.lemmas.Bool.{cases_lt}
use Rattle.std.proofs.lemmas.Option.{same_Some, slice_get_within, get_or_from_slice_get}
use Rattle.std.proofs.lemmas.List.{map-append, length-append, take_all}
use Rattle.std.proofs.lemmas.List.Sums.{sum_by_push}
use Rattle.std.proofs.lemmas.List.Elements.{Contains-append_left, Contains-push}
use Rattle.least_sets.specs.Forms.{Form}
use Rattle.numbered_sets.specs.Numbers.{Keeps}
use Rattle.loose_sets.specs.declared.name.SetName.{SetName}
use Rattle.point_listing.specs.declared.form.NamedForm.{NamedForm}
use Rattle.point_listing.specs.Forms.{form_seen, forms_seen}
use Rattle.system_writing.specs.Forms.{all_names, text_bytes}
use Rattle.system_writing.specs.Drafts.{IsDraft}
use Rattle.system_writing.specs.Steps.{AddsStart}
use Rattle.system_writing.proofs.Names.{start_added}
use Rattle.system_writing.proofs.Sizes.{start_small}
use Rattle.extraction.specs.declared.work.Work.{Work}
use Rattle.extraction.specs.Asked.{AreAsked}
use Rattle.extraction.specs.Numbered.{Lists, rows_of_name, rows_of, bytes_of, forms_in, bytes_in, NamedIn, IsNamedBelow, AreReached}
use Rattle.extraction.specs.Steps.{IsPaired, Stands, IsNameNumbered, IsRowWritten, AddsRows, AskedIn, Begins}
use Rattle.extraction.specs.Listed.{IsListed}
use Rattle.system_writing.proofs.Places.{contains_at, at_contains}
use Rattle.extraction.proofs.PlaceLemmas.{keeps_itself, keeps_both}
use Rattle.extraction.proofs.NumberLemmas.{adds_none, adds_both, number_kept, grows_both}

pub rest_of : {X : Type 0} (all before : List X) (x : X) (rest rest' : List X) → all ≡ before ++ rest → rest ≡ x ∷ rest' → all ≡ (before ++ x ∷ []) ++ rest'
rest_of all before x rest rest' e f = search (e, f, append_three before x rest')
  where
    append_three : {X : Type 0} (before : List X) (x : X) (rest : List X) → before ++ x ∷ rest ≡ (before ++ x ∷ []) ++ rest
    append_three [] x rest = refl
    append_three (b ∷ before) x rest = ap (λ (ys : List _). b ∷ ys) (append_three before x rest)

pub no_items : {X : Type 0} (xs : List X) → length xs ≡ 0 → xs ≡ []
no_items [] e = refl
no_items (x ∷ xs) e = absurd (omega (arith, e))

-- rows of forms
pub rows_none : (work : Work) (P : SetName → Type 0) (set : ℕ) → IsPaired work → AddsRows work work P set []
rows_none work P set paired = record {
  adds = adds_none work P paired;
  stands = λ rows starts closed n at d. subst (λ (rs : List (SetName × Form SetName)). Stands rs starts closed work) (sym (append-nil rows)) d;
  grows = (omega arith, omega arith);
}

-- a form more
pub rows_more : (old mid new : Work) (P : SetName → Type 0) (set : ℕ) (fs : List (Form SetName)) (f : Form SetName) → AddsRows old mid P set fs → IsRowWritten mid new set f → ((n : SetName) → Contains (all_names f) n → P n) → AddsRows old new P set (fs ++ f ∷ [])
rows_more old mid new P set fs f so one may =
    let bytes : bytes_of (fs ++ f ∷ []) ≡ bytes_of fs + text_bytes f = sum_by_push (λ (g : Form SetName). text_bytes g) fs f in
    let long = length-append fs (f ∷ []) in
    let both = grows_both old mid new (bytes_of fs) (length fs + bytes_of fs) (text_bytes f) (text_bytes f + 1) so.grows one.grows in
    record {
      adds = adds_both old mid new P (Contains (all_names f)) P (λ n p. p) may so.adds one.adds;
      stands = λ rows starts closed n at d.
          subst (λ (rs : List (SetName × Form SetName)). Stands rs starts closed new) (joined rows n)
          (one.stands (rows ++ rows_of_name n fs) starts closed n (number_kept old mid P so.adds n set at) (so.stands rows starts closed n at d));
      grows = (let a = both.0 in omega (arith, a, bytes), (let a = both.1 in omega (arith, a, bytes, long)));
    }
  where
    joined : (rows : List (SetName × Form SetName)) (n : SetName) → (rows ++ rows_of_name n fs) ++ (n, f) ∷ [] ≡ rows ++ rows_of_name n (fs ++ f ∷ [])
    joined rows n =
        append_assoc rows (rows_of_name n fs) ((n, f) ∷ []) ∙ ap (λ (rs : List (SetName × Form SetName)). rows ++ rs) (sym (map-append (λ (g : Form SetName). let r : SetName × Form SetName = (n, g) in r) fs (f ∷ [])))

-- the same for what stands in memory
pub forms_more : (old mid new : Work) (set : ℕ) (all done : List NamedForm) (form : NamedForm) (rest : List NamedForm) → all ≡ done ++ form ∷ rest → AddsRows old mid (NamedIn (forms_seen all)) set (forms_seen done) → IsRowWritten mid new set (form_seen form)
    → AddsRows old new (NamedIn (forms_seen all)) set (forms_seen (done ++ form ∷ []))
forms_more old mid new set all done form rest split so one =
    subst (λ (fs : List (Form SetName)). AddsRows old new (NamedIn (forms_seen all)) set fs) (sym (map-append form_seen done (form ∷ [])))
    (rows_more old mid new (NamedIn (forms_seen all)) set (forms_seen done) (form_seen form) so one
    (λ n named. (form_seen form, subst (λ (xs : List NamedForm). Contains (forms_seen xs) (form_seen form)) (sym split) (inside done), named)))
  where
    inside : (xs : List NamedForm) → Contains (forms_seen (xs ++ form ∷ rest)) (form_seen form)
    inside [] = (0, omega arith, refl)
    inside (x ∷ xs) = let c = inside xs in (suc c.0, (let l = c.1 in omega (arith, l)), c.2)

pub rows_done : (old new : Work) (P : SetName → Type 0) (set : ℕ) (all done rest : List NamedForm) → all ≡ done ++ rest → rest ≡ [] → AddsRows old new P set (forms_seen done) → AddsRows old new P set (forms_seen all)
rows_done old new P set all done rest split none so =
    subst (λ (fs : List NamedForm). AddsRows old new P set (forms_seen fs)) (sym (split ∙ ap (λ (ys : List NamedForm). done ++ ys) none ∙ append-nil done)) so

-- all names in forms that may be asked for
pub rows_asked : (asks : SetName → Type 0) (old new : Work) (set : ℕ) (fs all : List (Form SetName)) → AreAsked asks fs → fs ≡ all → AddsRows old new (NamedIn fs) set fs → AddsRows old new (AskedIn asks all) set all
rows_asked asks old new set fs all may is so = subst (λ (gs : List (Form SetName)). AddsRows old new (AskedIn asks gs) set gs) is (record {
  adds = record {
    names = so.adds.names;
    numbers = so.adds.numbers;
    paired = so.adds.paired;
    only = λ n c. elim (so.adds.only n c) [ inl o ↦ inl o | inr r ↦ inr (record { asked = may r.0 n r.1 r.2; named = r }) ];
  };
  stands = so.stands;
  grows = so.grows;
})

-- the names to begin with
pub begins_none : (work : Work) → IsPaired work → Begins work work []
begins_none work paired = record {
  adds = adds_none work (Contains []) paired;
  stands = λ rows starts closed d. subst (λ (ns : List SetName). Stands rows ns closed work) (sym (append-nil starts)) d;
  grows = (omega arith, omega arith);
}

begins_more : (old mid one new : Work) (names : List SetName) (n : SetName) (k : ℕ) → Begins old mid names → IsNameNumbered mid one n k → new.names.keys ≡ one.names.keys → new.numbers.items ≡ one.numbers.items → AddsStart one.draft new.draft k → Begins old new (names ++ n ∷ [])
begins_more old mid one new names n k so numbered same_names same_numbers adds =
    let small = start_small one.draft new.draft k adds in
    let long = length-append names (n ∷ []) in
    let wide = ap (λ (ns : List SetName). length ns) same_names in
    let both = grows_both old mid one 0 (length names) 0 0 so.grows numbered.grows in
    let two = adds_both old mid one (Contains names) (λ m. m ≡ n) (Contains (names ++ n ∷ [])) (λ m c. Contains-append_left names (n ∷ []) m c) (λ m e. subst (λ (z : SetName). Contains (names ++ n ∷ []) z) (sym e) (Contains-push names n)) so.adds numbered.adds in
    record {
      adds = record {
        names = λ i x h. subst (λ (ns : List SetName). slice_get ns i ≡ Some x) (sym same_names) (two.names i x h);
        numbers = λ i x h. subst (λ (ns : List ℕ). slice_get ns i ≡ Some x) (sym same_numbers) (two.numbers i x h);
        paired = ap (λ (ns : List ℕ). length ns) same_numbers ∙ two.paired ∙ ap (λ (ns : List SetName). length ns) (sym same_names);
        only = λ m c. two.only m (subst (λ (ns : List SetName). Contains ns m) same_names c);
      };
      stands = λ rows starts closed d.
          let there = numbered.stands rows (starts ++ names) closed (so.stands rows starts closed d) in
          let started = start_added SetName (starts ++ names) one.names.keys one.numbers.items closed rows one.draft new.draft there n k numbered.at adds in
          subst (λ (ns : List SetName). Stands rows ns closed new) (append_assoc starts names (n ∷ []))
          (subst (λ (ns : List SetName). IsDraft rows ((starts ++ names) ++ n ∷ []) ns new.numbers.items closed new.draft) (sym same_names)
          (subst (λ (ns : List ℕ). IsDraft rows ((starts ++ names) ++ n ∷ []) one.names.keys ns closed new.draft) (sym same_numbers) started));
      grows = (let a = small.0 in let b = both.0 in omega (arith, a, b, wide), (let a = small.1 in let b = both.1 in omega (arith, a, b, long)));
    }

pub begins_taken : (old mid one new : Work) (all : List SetName) (i : ℕ) (d n : SetName) (k : ℕ) → i < length all → Begins old mid (take i all) → get_or all i d ≡ n → IsNameNumbered mid one n k → new.names.keys ≡ one.names.keys → new.numbers.items ≡ one.numbers.items → AddsStart one.draft new.draft k
    → Begins old new (take (i + 1) all)
begins_taken old mid one new all i d n k within so is numbered same_names same_numbers adds =
    let next : i + 1 ≡ suc i = omega arith in
    let longer : take (i + 1) all ≡ take i all ++ n ∷ [] = ap (λ (m : ℕ). take m all) next ∙ take-suc all i d within ∙ ap (λ (m : SetName). take i all ++ m ∷ []) is in
    subst (λ (ns : List SetName). Begins old new ns) (sym longer) (begins_more old mid one new (take i all) n k so numbered same_names same_numbers adds)

-- the first of names that are kept stay the first
first_kept : (old new : List SetName) (t : ℕ) → t ≤ length old → ((k : ℕ) (n : SetName) → slice_get old k ≡ Some n → slice_get new k ≡ Some n) → take t new ≡ take t old
first_kept old new zero less keeps = refl
first_kept [] new (suc t) less keeps = absurd (omega (arith, less))
first_kept (x ∷ old) [] (suc t) less keeps = absurd (let e = keeps 0 x refl in cc)
first_kept (x ∷ old) (y ∷ new) (suc t) less keeps =
    ap (λ (z : SetName). z ∷ take t new) (same_Some y x (keeps 0 x refl)) ∙ ap (λ (zs : List SetName). x ∷ zs) (first_kept old new t (omega (arith, less)) (λ k n at. keeps (suc k) n at))

-- with one name more
pub taken_more : (old new : List SetName) (t : ℕ) (name : SetName) → ((k : ℕ) (n : SetName) → slice_get old k ≡ Some n → slice_get new k ≡ Some n) → slice_get old t ≡ Some name → take (t + 1) new ≡ take t old ++ name ∷ []
taken_more old new t name keeps here =
    let within : t < length old = slice_get_within old t name here in
    let there : slice_get new t ≡ Some name = keeps t name here in
    let next : t + 1 ≡ suc t = omega arith in
    ap (λ (n : ℕ). take n new) next ∙ take-suc new t name (slice_get_within new t name there) ∙ ap (λ (z : SetName). take t new ++ z ∷ []) (get_or_from_slice_get new t name name there)
    ∙ ap (λ (ns : List SetName). ns ++ name ∷ []) (first_kept old new t (omega (arith, within)) keeps)

rows_push : (lists : Lists) (names : List SetName) (name : SetName) → rows_of lists (names ++ name ∷ []) ≡ rows_of lists names ++ rows_of_name name (lists name)
rows_push lists [] name = append-nil (rows_of_name name (lists name))
rows_push lists (n ∷ names) name =
    ap (λ (rs : List (SetName × Form SetName)). rows_of_name n (lists n) ++ rs) (rows_push lists names name) ∙ sym (append_assoc (rows_of_name n (lists n)) (rows_of lists names) (rows_of_name name (lists name)))

there : (xs : List SetName) (n : ℕ) → n < length xs → (x : SetName) × (slice_get xs n ≡ Some x)
there [] n h = absurd (omega (arith, h))
there (x ∷ xs) zero h = (x, refl)
there (x ∷ xs) (suc n) h = there xs n (omega (arith, h))

module _ (asks : SetName → Type 0) (lists : Lists) where
  pub listed_none : (work : Work) → IsPaired work → ((n : SetName) → Contains work.names.keys n → asks n) → IsListed asks lists work work 0
  listed_none work paired may = record {
    paired = paired;
    names = keeps_itself work.names.keys;
    asked = may;
    reached = λ k n at. inl (contains_at work.names.keys k n at);
    stands = λ starts closed d. d;
    numbers = omega arith;
    lines = omega arith;
  }

  -- names that are reached
  reached_more : (firsts old new : List SetName) (taken : ℕ) (name : SetName) → AreReached lists firsts old → slice_get old taken ≡ Some name → Keeps old new → ((n : SetName) → Contains new n → Contains old n ⊎ AskedIn asks (lists name) n) → AreReached lists firsts new
  reached_more firsts old new taken name are here keeps only k n at = by (cases_lt k (length old))
    where
      up : (j i : ℕ) → j ≤ i → Contains firsts n ⊎ IsNamedBelow lists old j n → Contains firsts n ⊎ IsNamedBelow lists new i n
      up j i less (inl first) = inl first
      up j i less (inr b) = inr (record { number = b.number; name = b.name; below = (let l = b.below in omega (arith, less, l)); at = keeps b.number b.name b.at; named = b.named })

      behind : length old ≤ k → Contains old n ⊎ AskedIn asks (lists name) n → Contains firsts n ⊎ IsNamedBelow lists new k n
      behind above (inl o) = let a = at_contains old n o in up a.0 k (let w = slice_get_within old a.0 n a.1 in omega (arith, above, w)) (are a.0 n a.1)
      behind above (inr asked) = inr (record { number = taken; name = name; below = (let w = slice_get_within old taken name here in omega (arith, above, w)); at = keeps taken name here; named = asked.named })

      by : (k < length old) ⊎ (length old ≤ k) → Contains firsts n ⊎ IsNamedBelow lists new k n
      by (inl below) = let o = there old k below in up k k (omega arith) (are k n (o.1 ∙ sym (keeps k o.0 o.1) ∙ at))
      by (inr above) = behind above (only n (contains_at new k n at))

  -- one name more
  pub listed_more : (old mid new : Work) (taken set : ℕ) (name : SetName) → IsListed asks lists old mid taken → slice_get mid.names.keys taken ≡ Some name → slice_get mid.numbers.items taken ≡ Some set → AddsRows mid new (AskedIn asks (lists name)) set (lists name) → IsListed asks lists old new (taken + 1)
  listed_more old mid new taken set name are here number more =
      let firsts : take (taken + 1) new.names.keys ≡ take taken mid.names.keys ++ name ∷ [] = taken_more mid.names.keys new.names.keys taken name more.adds.names here in
      let forms : forms_in lists (take (taken + 1) new.names.keys) ≡ forms_in lists (take taken mid.names.keys) + length (lists name) =
      ap (forms_in lists) firsts ∙ sum_by_push (λ (n : SetName). length (lists n)) (take taken mid.names.keys) name in
      let bytes : bytes_in lists (take (taken + 1) new.names.keys) ≡ bytes_in lists (take taken mid.names.keys) + bytes_of (lists name) =
      ap (bytes_in lists) firsts ∙ sum_by_push (λ (n : SetName). bytes_of (lists n)) (take taken mid.names.keys) name in
      record {
        paired = more.adds.paired;
        names = keeps_both old.names.keys mid.names.keys new.names.keys are.names more.adds.names;
        asked = λ n c. elim (more.adds.only n c) [ inl o ↦ are.asked n o | inr may ↦ may.asked ];
        reached = reached_more old.names.keys mid.names.keys new.names.keys taken name are.reached here more.adds.names more.adds.only;
        stands = λ starts closed d.
            subst (λ (rs : List (SetName × Form SetName)). Stands rs starts closed new) (sym (ap (rows_of lists) firsts ∙ rows_push lists (take taken mid.names.keys) name))
            (more.stands (rows_of lists (take taken mid.names.keys)) starts closed name (record { place = taken; name = here; number = number }) (are.stands starts closed d));
        numbers = (let a = are.numbers in let b = more.grows.0 in omega (arith, a, b, bytes));
        lines = (let a = are.lines in let b = more.grows.1 in omega (arith, a, b, bytes, forms));
      }

  -- all names
  pub listed_all : (old new : Work) (taken : ℕ) → slice_get new.names.keys taken ≡ None → IsListed asks lists old new taken → IsListed asks lists old new (length new.names.keys)
  listed_all old new taken none are =
      let all : take taken new.names.keys ≡ take (length new.names.keys) new.names.keys = whole in
      record {
        paired = are.paired;
        names = are.names;
        asked = are.asked;
        reached = are.reached;
        stands = λ starts closed d. subst (λ (ns : List SetName). Stands (rows_of lists ns) starts closed new) all (are.stands starts closed d);
        numbers = (let a = are.numbers in let b = ap (bytes_in lists) all in omega (arith, a, b));
        lines = (let a = are.lines in let b = ap (bytes_in lists) all in let c = ap (forms_in lists) all in omega (arith, a, b, c));
      }
    where
      beyond : (xs : List SetName) (t : ℕ) → slice_get xs t ≡ None → length xs ≤ t
      beyond [] t none = omega arith
      beyond (x ∷ xs) zero none = absurd cc
      beyond (x ∷ xs) (suc t) none = let l = beyond xs t none in omega (arith, l)

      whole : take taken new.names.keys ≡ take (length new.names.keys) new.names.keys
      whole = take_all taken new.names.keys (beyond new.names.keys taken none) ∙ sym (take_all (length new.names.keys) new.names.keys (omega arith))
