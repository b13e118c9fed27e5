-- The pairs that entries stand for.
use Rattle.std.proofs.Common.{◌≡◌, ℕ, zero, suc, ◌<◌, ◌≤◌, ◌⊎◌, inl, inr, Bool, true, false, if◌then◌else◌, List, [], ◌∷◌, ◌++◌, length, Contains, refl, sym, ◌∙◌, ap, subst, arith, Option, None, Some, slice_get}
use Rattle.std.proofs.lemmas.List.Elements.{All-contains, All-head, All-tail, All-append, All-weaker, All-nil, All-cons}
use Rattle.std.proofs.lemmas.Option.{same_Some, slice_get_within, none-some}
use Rattle.numbered_sets.specs.Numbers.{Keeps, AreDifferent}
use Rattle.numbered_sets.proofs.NumberLemmas.{at_front}
use Rattle.summary_decision.specs.declared.table.Entry.{Entry}
use Rattle.summary_decision.specs.Closed.{Pair}
use Rattle.summary_decision.specs.Tables.{with_sum, known_of, AreNumbered}
use Rattle.summary_decision.proofs.ClosedLemmas.{contained, placed}

-- a list with one member more
pub at_cases : {X : Type 0} (xs : List X) (x : X) (n : ℕ) (y : X) → slice_get (xs ++ x ∷ []) n ≡ Some y → ((n < length xs) × (slice_get xs n ≡ Some y)) ⊎ ((n ≡ length xs) × (x ≡ y))
at_cases [] x zero y e = let same : x ≡ y = cc in inr (refl, same)
at_cases [] x (suc n) y e = cc
at_cases (z ∷ xs) x zero y e = inl (omega arith, e)
at_cases (z ∷ xs) x (suc n) y e = elim (at_cases xs x n y e) [
  | inl k ↦ inl (omega (arith, k.0), k.1)
  | inr k ↦ inr (omega (arith, k.0), k.1)
]

pub at_end : {X : Type 0} (xs : List X) (x : X) → slice_get (xs ++ x ∷ []) (length xs) ≡ Some x
at_end [] x = refl
at_end (y ∷ xs) x = at_end xs x

pub is_there : {X : Type 0} (xs : List X) (k : ℕ) → k < length xs → (x : X) × (slice_get xs k ≡ Some x)
is_there [] k l = absurd (omega (arith, l))
is_there (x ∷ xs) zero l = (x, refl)
is_there (x ∷ xs) (suc k) l = is_there xs k (omega (arith, l))

-- the first places are those of before
pub at_before : {X : Type 0} (xs ys : List X) (n : ℕ) (y : X) → Keeps xs ys → n < length xs → slice_get ys n ≡ Some y → slice_get xs n ≡ Some y
at_before xs ys n y keeps l e =
    let t = is_there xs n l in
    t.1 ∙ ap Some (same_Some t.0 y (sym (keeps n t.0 t.1) ∙ e))

pub keeps_member : {X : Type 0} (xs ys : List X) (x : X) → Keeps xs ys → Contains xs x → Contains ys x
keeps_member xs ys x keeps c = let p = placed xs x c in contained ys p.0 x (keeps p.0 x p.2)

pub keeps_longer : {X : Type 0} (xs ys : List X) → Keeps xs ys → length xs ≤ length ys
keeps_longer [] ys keeps = omega arith
keeps_longer (x ∷ xs) [] keeps = let e = keeps 0 x refl in cc
keeps_longer (x ∷ xs) (y ∷ ys) keeps = let l = keeps_longer xs ys (λ n z e. keeps (suc n) z e) in omega (arith, l)

module _ {S : Type 0} where
  with_some : (a : ℕ) (o : Option S) (s : S) (rest : List (Pair S)) → o ≡ Some s → with_sum a o rest ≡ (a, s) ∷ rest
  with_some a o s rest e = ap (λ (z : Option S). with_sum a z rest) e

  pub known_length : (sums : List S) (entries : List Entry) → AreNumbered sums entries → length (known_of sums entries) ≡ length entries
  known_length sums [] h = refl
  known_length sums (x ∷ xs) h =
      let t = is_there sums x.sum (All-head (λ (entry : Entry). entry.sum < length sums) x xs h) in
      ap length (with_some x.nonterminal (slice_get sums x.sum) t.0 (known_of sums xs) t.1)
      ∙ ap (λ (n : ℕ). suc n) (known_length sums xs (All-tail (λ (entry : Entry). entry.sum < length sums) x xs h))

  pub known_at : (sums : List S) (entries : List Entry) (n : ℕ) (e : Entry) → AreNumbered sums entries → slice_get entries n ≡ Some e → (s : S) × (slice_get sums e.sum ≡ Some s) × (slice_get (known_of sums entries) n ≡ Some (e.nonterminal, s))
  known_at sums [] n e h at = cc
  known_at sums (x ∷ xs) zero e h at =
      let t = is_there sums x.sum (All-head (λ (entry : Entry). entry.sum < length sums) x xs h) in
      let same : x ≡ e = same_Some x e at in (
        t.0,
        ap (λ (z : Entry). slice_get sums z.sum) (sym same) ∙ t.1,
        ap (λ (l : List (Pair S)). slice_get l 0) (with_some x.nonterminal (slice_get sums x.sum) t.0 (known_of sums xs) t.1)
            ∙ ap (λ (z : Entry). let p : Pair S = (z.nonterminal, t.0) in Some p) same,
      )
  known_at sums (x ∷ xs) (suc n) e h at =
      let t = is_there sums x.sum (All-head (λ (entry : Entry). entry.sum < length sums) x xs h) in
      let r = known_at sums xs n e (All-tail (λ (entry : Entry). entry.sum < length sums) x xs h) at in
      (r.0, r.1, ap (λ (l : List (Pair S)). slice_get l (suc n)) (with_some x.nonterminal (slice_get sums x.sum) t.0 (known_of sums xs) t.1) ∙ r.2)

  pub at_known : (sums : List S) (entries : List Entry) (n : ℕ) (x : Pair S) → AreNumbered sums entries → slice_get (known_of sums entries) n ≡ Some x → (e : Entry) × (slice_get entries n ≡ Some e) × (e.nonterminal ≡ x.0) × (slice_get sums e.sum ≡ Some x.1)
  at_known sums entries n x h at =
      let w = slice_get_within (known_of sums entries) n x at in
      let e = is_there entries n (omega (arith, w, known_length sums entries h)) in
      let k = known_at sums entries n e.0 h e.1 in
      let same : ◌≡◌ {A = Pair S} (e.0.nonterminal, k.0) x = same_Some (e.0.nonterminal, k.0) x (sym k.2 ∙ at) in
      (e.0, e.1, ap (λ (p : Pair S). p.0) same, k.1 ∙ ap (λ (p : Pair S). Some p.1) same)

  pub known_same : (sums more : List S) (entries : List Entry) → AreNumbered sums entries → Keeps sums more → known_of more entries ≡ known_of sums entries
  known_same sums more [] h keeps = refl
  known_same sums more (x ∷ xs) h keeps =
      let t = is_there sums x.sum (All-head (λ (entry : Entry). entry.sum < length sums) x xs h) in
      with_some x.nonterminal (slice_get more x.sum) t.0 (known_of more xs) (keeps x.sum t.0 t.1)
      ∙ (ap (λ (l : List (Pair S)). (x.nonterminal, t.0) ∷ l) (known_same sums more xs (All-tail (λ (entry : Entry). entry.sum < length sums) x xs h) keeps)
      ∙ sym (with_some x.nonterminal (slice_get sums x.sum) t.0 (known_of sums xs) t.1))

  pub known_more : (sums : List S) (entries : List Entry) (e : Entry) (s : S) → AreNumbered sums entries → slice_get sums e.sum ≡ Some s → known_of sums (entries ++ e ∷ []) ≡ known_of sums entries ++ (e.nonterminal, s) ∷ []
  known_more sums [] e s h at = with_some e.nonterminal (slice_get sums e.sum) s [] at
  known_more sums (x ∷ xs) e s h at =
      let t = is_there sums x.sum (All-head (λ (entry : Entry). entry.sum < length sums) x xs h) in
      with_some x.nonterminal (slice_get sums x.sum) t.0 (known_of sums (xs ++ e ∷ [])) t.1
      ∙ (ap (λ (l : List (Pair S)). (x.nonterminal, t.0) ∷ l) (known_more sums xs e s (All-tail (λ (entry : Entry). entry.sum < length sums) x xs h) at)
      ∙ sym (ap (λ (l : List (Pair S)). l ++ (e.nonterminal, s) ∷ []) (with_some x.nonterminal (slice_get sums x.sum) t.0 (known_of sums xs) t.1)))

  pub numbered_longer : (sums more : List S) (entries : List Entry) → length sums ≤ length more → AreNumbered sums entries → AreNumbered more entries
  numbered_longer sums more entries l h = All-weaker (λ (entry : Entry). entry.sum < length sums) (λ (entry : Entry). entry.sum < length more) (λ entry k. omega (arith, k, l)) entries h

  -- an entry that is noted
  module _ (sums more : List S) (entries after : List Entry) (e : Entry) (s : S) (numbered : AreNumbered sums entries) (keeps : Keeps sums more) (at : slice_get more e.sum ≡ Some s) where
    old_numbered : AreNumbered more entries
    old_numbered = numbered_longer sums more entries (keeps_longer sums more keeps) numbered

    new_numbered : AreNumbered more (entries ++ e ∷ [])
    new_numbered =
        All-append (λ (entry : Entry). entry.sum < length more) entries (e ∷ []) old_numbered
        (All-cons (λ (entry : Entry). entry.sum < length more) e [] (slice_get_within more e.sum s at) (All-nil (λ (entry : Entry). entry.sum < length more)))

    pub noted_numbered : (is_new : Bool) → after ≡ (if is_new then entries ++ e ∷ [] else entries) → AreNumbered more after
    noted_numbered true same = subst (AreNumbered more) (sym same) new_numbered
    noted_numbered false same = subst (AreNumbered more) (sym same) old_numbered

    pub noted_pairs : (is_new : Bool) → after ≡ (if is_new then entries ++ e ∷ [] else entries) → known_of more after ≡ (if is_new then known_of sums entries ++ (e.nonterminal, s) ∷ [] else known_of sums entries)
    noted_pairs true same =
        ap (known_of more) same
        ∙ (known_more more entries e s old_numbered at ∙ ap (λ (l : List (Pair S)). l ++ (e.nonterminal, s) ∷ []) (known_same sums more entries numbered keeps))
    noted_pairs false same = ap (known_of more) same ∙ known_same sums more entries numbered keeps

    pub noted_has : (is_new : Bool) (n : ℕ) → after ≡ (if is_new then entries ++ e ∷ [] else entries) → slice_get after n ≡ Some e → Contains (known_of more after) (e.nonterminal, s)
    noted_has is_new n same here =
        let k = known_at more after n e (noted_numbered is_new same) here in
        contained (known_of more after) n (e.nonterminal, s) (k.2 ∙ ap (λ (t : S). let p : Pair S = (e.nonterminal, t) in Some p) (same_Some k.0 s (sym k.1 ∙ at)))

    pub noted_fresh : (is_new : Bool) → after ≡ (if is_new then entries ++ e ∷ [] else entries) → AreDifferent more → AreDifferent after → is_new ≡ true → Contains (known_of sums entries) (e.nonterminal, s) → ⊥
    noted_fresh false same sums_differ entries_differ new c = cc
    noted_fresh true same sums_differ entries_differ new c =
        let p = placed (known_of sums entries) (e.nonterminal, s) c in
        let f = at_known sums entries p.0 (e.nonterminal, s) numbered p.2 in
        let number : f.0.sum ≡ e.sum = sums_differ f.0.sum e.sum s (keeps f.0.sum s f.3) at in
        let one : f.0 ≡ e = same_entry f.0 e f.2 number in
        let before : slice_get after p.0 ≡ Some e = subst (λ (l : List Entry). slice_get l p.0 ≡ Some e) (sym same) (at_front entries e p.0 e (f.1 ∙ ap Some one)) in
        let behind : slice_get after (length entries) ≡ Some e = subst (λ (l : List Entry). slice_get l (length entries) ≡ Some e) (sym same) (at_end entries e) in
        let w = slice_get_within entries p.0 f.0 f.1 in
        let place = entries_differ p.0 (length entries) e before behind in
        absurd (omega (arith, w, place))
      where
        same_entry : (a b : Entry) → a.nonterminal ≡ b.nonterminal → a.sum ≡ b.sum → a ≡ b
        same_entry a b i j = ap (λ (n : ℕ). let z : Entry = record { nonterminal = n; sum = a.sum } in z) i ∙ ap (λ (n : ℕ). let z : Entry = record { nonterminal = b.nonterminal; sum = n } in z) j

pub not_absent : {X : Type 0} (xs : List X) (n : ℕ) → n < length xs → None ≡ slice_get xs n → ⊥
not_absent {X} xs n l e = let t = is_there xs n l in let f : None ≡ Some t.0 = e ∙ t.1 in none-some t.0 f

module _ {S : Type 0} (sums : List S) (entries : List Entry) (numbered : AreNumbered sums entries) where
  pub sum_within : (n : ℕ) (e : Entry) → slice_get entries n ≡ Some e → e.sum < length sums
  sum_within n e at = All-contains (λ (entry : Entry). entry.sum < length sums) entries e numbered (contained entries n e at)

  pub pair_sum : (n : ℕ) (e : Entry) (t : S) → slice_get entries n ≡ Some e → slice_get sums e.sum ≡ Some t → (x : Pair S) → slice_get (known_of sums entries) n ≡ Some x → t ≡ x.1
  pair_sum n e t at here x known =
      let k = known_at sums entries n e numbered at in
      let one : t ≡ k.0 = same_Some t k.0 (sym here ∙ k.1) in
      let two : ◌≡◌ {A = Pair S} (e.nonterminal, k.0) x = same_Some (e.nonterminal, k.0) x (sym k.2 ∙ known) in
      one ∙ ap (λ (p : Pair S). p.1) two
