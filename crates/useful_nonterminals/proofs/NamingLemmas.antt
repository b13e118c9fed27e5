-- One number more is named or left out.
use Rattle.std.proofs.Common.{◌≡◌, ℕ, zero, suc, ◌+◌, ◌<◌, ◌≤◌, ◌⊎◌, inl, inr, Bool, true, false, List, [], ◌∷◌, ◌++◌, length, Option, None, Some, refl, sym, ◌∙◌, ap, subst, arith, slice_get, get_or}
use Rattle.std.specs.Prelude.{◌↔◌, IsTrue, if◌then◌else◌, slice_index_or}
use Rattle.std.proofs.lemmas.Bool.{cases_eq}
use Rattle.useful_nonterminals.specs.Naming.{Stays, IsNaming}

pub longer : {X : Type 0} (xs : List X) (x : X) → length (xs ++ x ∷ []) ≡ length xs + 1
longer [] x = refl
longer (y ∷ xs) x = let e = longer xs x in omega (arith, e)

get_front : {X : Type 0} (xs : List X) (x : X) (n : ℕ) (y : X) → slice_get xs n ≡ Some y → slice_get (xs ++ x ∷ []) n ≡ Some y
get_front [] x n y e = cc
get_front (z ∷ xs) x zero y e = e
get_front (z ∷ xs) x (suc n) y e = get_front xs x n y e

get_last : {X : Type 0} (xs : List X) (x : X) (n : ℕ) → n ≡ length xs → slice_get (xs ++ x ∷ []) n ≡ Some x
get_last [] x zero e = refl
get_last [] x (suc n) e = absurd (omega (arith, e))
get_last (y ∷ xs) x zero e = absurd (omega (arith, e))
get_last (y ∷ xs) x (suc n) e = get_last xs x n (omega (arith, e))

get_cases : {X : Type 0} (xs : List X) (x : X) (n : ℕ) (y : X) → slice_get (xs ++ x ∷ []) n ≡ Some y → (slice_get xs n ≡ Some y) ⊎ ((n ≡ length xs) × (x ≡ y))
get_cases [] x zero y e = let same : x ≡ y = cc in inr (refl, same)
get_cases [] x (suc n) y e = cc
get_cases (z ∷ xs) x zero y e = inl e
get_cases (z ∷ xs) x (suc n) y e = elim (get_cases xs x n y e) [ inl k ↦ inl k | inr k ↦ inr (omega (arith, k.0), k.1) ]

pub no_names : (marks : List Bool) (start : ℕ) → IsNaming marks start [] 0
no_names marks start = record {
  kept = [];
  many = refl;
  into = λ n k h. cc;
  back = λ k n h. cc;
  all = λ n h. absurd (omega (arith, h));
  only = λ n k h. cc;
}

none_some : (k : ℕ) → None ≡ Some k → ⊥
none_some k h = cc

some_same : (j k : ℕ) → Some j ≡ Some k → j ≡ k
some_same j k h = cc

module _ (marks : List Bool) (start : ℕ) (names : List (Option ℕ)) (count : ℕ) (was : IsNaming marks start names count) where
  named : Stays marks start (length names) → IsNaming marks start (names ++ Some count ∷ []) (count + 1)
  named here = record {
    kept = was.kept ++ length names ∷ [];
    many = longer was.kept (length names) ∙ ap (λ (n : ℕ). n + 1) was.many;
    into = λ n k h. elim (get_cases names (Some count) n (Some k) h) [
      | inl old ↦ get_front was.kept (length names) k n (was.into n k old)
      | inr new ↦ subst (λ (m : ℕ). slice_get (was.kept ++ length names ∷ []) k ≡ Some m) (sym new.0) (get_last was.kept (length names) k (sym (some_same count k new.1) ∙ sym was.many))
    ];
    back = λ k n h. elim (get_cases was.kept (length names) k n h) [
      | inl old ↦ get_front names (Some count) n (Some k) (was.back k n old)
      | inr new ↦ subst (λ (m : ℕ). slice_get (names ++ Some count ∷ []) n ≡ Some (Some m)) (sym (new.0 ∙ was.many)) (get_last names (Some count) n (sym new.1))
    ];
    all = λ n h s. elim (cases_eq n (length names)) [
      | inl same ↦ (count, get_last names (Some count) n same)
      | inr other ↦
          let l = longer names (Some count) in
          let k = was.all n (omega (arith, h, l, other)) s in
          (k.0, get_front names (Some count) n (Some k.0) k.1)
    ];
    only = λ n k h. elim (get_cases names (Some count) n (Some k) h) [
      | inl old ↦ was.only n k old
      | inr new ↦ subst (Stays marks start) (sym new.0) here
    ];
  }

  left_out : (Stays marks start (length names) → ⊥) → IsNaming marks start (names ++ None ∷ []) count
  left_out gone = record {
    kept = was.kept;
    many = was.many;
    into = λ n k h. elim (get_cases names None n (Some k) h) [
      | inl old ↦ was.into n k old
      | inr new ↦ absurd (none_some k new.1)
    ];
    back = λ k n h. get_front names None n (Some k) (was.back k n h);
    all = λ n h s. elim (cases_eq n (length names)) [
      | inl same ↦ absurd (gone (subst (Stays marks start) same s))
      | inr other ↦
          let l = longer {X = Option ℕ} names None in
          let k = was.all n (omega (arith, h, l, other)) s in
          (k.0, get_front names None n (Some k.0) k.1)
    ];
    only = λ n k h. elim (get_cases names None n (Some k) h) [
      | inl old ↦ was.only n k old
      | inr new ↦ absurd (none_some k new.1)
    ];
  }

  by_test : (stays : Bool) → IsTrue stays ↔ Stays marks start (length names) → IsNaming marks start (names ++ (if stays then Some count else None) ∷ []) (if stays then count + 1 else count)
  by_test true is = named (is.0 refl)
  by_test false is = left_out (λ s. false_true (is.1 s))
    where
      false_true : false ≡ true → ⊥
      false_true h = cc

pub names_more : (marks : List Bool) (start n count count' : ℕ) (names after : List (Option ℕ)) (stays : Bool) (name : Option ℕ) → IsNaming marks start names count → length names ≡ n → IsTrue stays ↔ Stays marks start n → name ≡ (if stays then Some count else None) → count' ≡ (if stays then count + 1 else count) → after ≡ names ++ name ∷ [] → IsNaming marks start after count'
names_more marks start n count count' names after stays name was long is named counted pushed =
    let test = subst (λ (m : ℕ). IsTrue stays ↔ Stays marks start m) (sym long) is in
    let made = by_test marks start names count was stays test in
    let items : after ≡ names ++ (if stays then Some count else None) ∷ [] = pushed ∙ ap (λ (x : Option ℕ). names ++ x ∷ []) named in
    subst (λ (xs : List (Option ℕ)). IsNaming marks start xs count') (sym items) (subst (λ (k : ℕ). IsNaming marks start (names ++ (if stays then Some count else None) ∷ []) k) (sym counted) made)

pub few_more : (stays : Bool) (count count' n : ℕ) → count ≤ n → count' ≡ (if stays then count + 1 else count) → count' ≤ n + 1
few_more true count count' n h e = omega (arith, h, e)
few_more false count count' n h e = omega (arith, h, e)

-- a mark that is read
pub read_marked : (marks : List Bool) (n : ℕ) → get_or marks n false ≡ true → slice_get marks n ≡ Some true
read_marked [] n e = cc
read_marked (b ∷ marks) zero e = ap (λ (x : Bool). Some x) e
read_marked (b ∷ marks) (suc n) e = read_marked marks n e

pub marked_read : (marks : List Bool) (n : ℕ) → slice_get marks n ≡ Some true → get_or marks n false ≡ true
marked_read [] n e = cc
marked_read (b ∷ marks) zero e = let same : b ≡ true = cc in same
marked_read (b ∷ marks) (suc n) e = marked_read marks n e

-- the start has a name
pub start_named : (marks : List Bool) (start : ℕ) (names : List (Option ℕ)) (count : ℕ) → IsNaming marks start names count → start < length names → slice_index_or names start None ≡ None → ⊥
start_named marks start names count naming within none =
    let found = naming.all start within (inr refl) in
    none_some found.0 (sym none ∙ read names start found.0 found.1)
  where
    read : (xs : List (Option ℕ)) (n k : ℕ) → slice_get xs n ≡ Some (Some k) → slice_index_or xs n None ≡ Some k
    read [] n k e = cc
    read (o ∷ xs) zero k e = let same : o ≡ Some k = cc in same
    read (o ∷ xs) (suc n) k e = read xs n k e
