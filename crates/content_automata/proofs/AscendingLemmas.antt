-- Sets by their members, ascending.
use Rattle.std.proofs.Common.{◌≡◌, ℕ, zero, suc, ◌+◌, ◌<◌, ◌≤◌, inl, inr, Bool, true, false, ◌&&◌, ◌||◌, List, [], ◌∷◌, length, map, refl, ap, sym, ◌∙◌, subst, arith}
use Rattle.std.specs.Prelude.{if◌then◌else◌, nat_eq, nat_lt, nat_le, slice_index_or}
use Rattle.std.specs.Bool.{beq}
use Rattle.std.specs.Cmp.{first_so, second_so}
use Rattle.std.specs.Cmp.Lexicographic.{pointwise}
use Rattle.std.specs.List.{range_with_len, list_any}
use Rattle.std.specs.List.Sorted.{IsNonDecreasing, IsPermutation, IsSorted}
use Rattle.std.specs.Ordering.{nat_cmp}
use Rattle.std.proofs.lemmas.Bool.{eq-eqb, eqb-true, ltb-true, ltb-false, leb-true, leb-false, cases_eq, cases_lt}
use Rattle.std.proofs.lemmas.List.Sorted.{list_any-IsPermutation, IsNonDecreasingBy-from_sort}
use Rattle.text_base.specs.Exactness.{exact_bytes}
use Rattle.content_automata.specs.Sets.{raised_from, members, set_of}
use Rattle.content_automata.specs.Ascending.{Ascends, ascending}
use Rattle.content_automata.specs.Flags.{exact_flags}
use Rattle.content_automata.proofs.RangeLemmas.{differ, same_range, set_is_range, set_sized}

none_below : (ps : List ℕ) (l b i : ℕ) → Ascends l b ps → i < l → list_any (nat_eq i) ps ≡ false
none_below [] l b i a h = refl
none_below (p ∷ ps) l b i a h =
    ap (λ (t : Bool). t || list_any (nat_eq i) ps) (differ i p (λ e. let low = a.0 in omega (arith, h, low, e)))
    ∙ none_below ps (p + 1) b i a.2 (let low = a.0 in omega (arith, h, low))

members_from : (n a : ℕ) (ms : List ℕ) → Ascends a (a + n) ms → raised_from a (map (λ i. list_any (nat_eq i) ms) (range_with_len a n)) ≡ ms
members_from zero a [] h = refl
members_from zero a (p ∷ ps) h = let low = h.0 in let high = h.1 in absurd (omega (arith, low, high))
members_from (suc n) a [] h =
    ap (λ (k : ℕ). raised_from k (map (λ i. list_any (nat_eq i) []) (range_with_len (a + 1) n))) (let e : suc a ≡ a + 1 = omega arith in e) ∙ members_from n (a + 1) [] tt
members_from (suc n) a (p ∷ ps) h = elim (cases_eq a p) [
  | inl same ↦ found same (members_from n (a + 1) ps (subst (λ (b : ℕ). Ascends (a + 1) b ps) (omega arith) (subst (λ (k : ℕ). Ascends (k + 1) (a + suc n) ps) (sym same) h.2)))
  | inr other ↦ missing other (members_from n (a + 1) (p ∷ ps) (let low = h.0 in let high = h.1 in (omega (arith, low, other), omega (arith, high), subst (λ (b : ℕ). Ascends (p + 1) b ps) (omega arith) h.2)))
]
  where
    next : suc a ≡ a + 1
    next = omega arith

    found : a ≡ p → raised_from (a + 1) (map (λ i. list_any (nat_eq i) ps) (range_with_len (a + 1) n)) ≡ ps → raised_from a (list_any (nat_eq a) (p ∷ ps) ∷ map (λ i. list_any (nat_eq i) (p ∷ ps)) (range_with_len (a + 1) n)) ≡ p ∷ ps
    found same later =
        ap (λ (b : Bool). raised_from a ((b || list_any (nat_eq a) ps) ∷ map (λ i. list_any (nat_eq i) (p ∷ ps)) (range_with_len (a + 1) n))) (eq-eqb a p same)
        ∙ ap (λ (bs : List Bool). a ∷ raised_from (suc a) bs) (same_range (λ i. list_any (nat_eq i) (p ∷ ps)) (λ i. list_any (nat_eq i) ps) (a + 1) n (λ i l b. ap (λ (t : Bool). t || list_any (nat_eq i) ps) (differ i p (λ e. omega (arith, l, e, same)))))
        ∙ ap (λ (k : ℕ). a ∷ raised_from k (map (λ i. list_any (nat_eq i) ps) (range_with_len (a + 1) n))) next
        ∙ ap (λ (xs : List ℕ). a ∷ xs) later
        ∙ ap (λ (k : ℕ). k ∷ ps) same

    missing : (a ≡ p → ⊥) → raised_from (a + 1) (map (λ i. list_any (nat_eq i) (p ∷ ps)) (range_with_len (a + 1) n)) ≡ p ∷ ps → raised_from a (list_any (nat_eq a) (p ∷ ps) ∷ map (λ i. list_any (nat_eq i) (p ∷ ps)) (range_with_len (a + 1) n)) ≡ p ∷ ps
    missing other later =
        ap (λ (b : Bool). raised_from a (b ∷ map (λ i. list_any (nat_eq i) (p ∷ ps)) (range_with_len (a + 1) n)))
        (ap (λ (t : Bool). t || list_any (nat_eq a) ps) (differ a p other) ∙ none_below ps (p + 1) (a + suc n) a h.2 (let low = h.0 in omega (arith, low)))
        ∙ ap (λ (k : ℕ). raised_from k (map (λ i. list_any (nat_eq i) (p ∷ ps)) (range_with_len (a + 1) n))) next
        ∙ later

-- the members of a set are those that it is made of
pub members_are : (w : Bool) (n : ℕ) (ms : List ℕ) → Ascends 0 n ms → members (set_of n (record { positions = ms; whole = w })) ≡ ms
members_are w n ms h =
    ap members (set_is_range n (record { positions = ms; whole = w }))
    ∙ members_from n 0 ms (subst (λ (b : ℕ). Ascends 0 b ms) (let e : n ≡ 0 + n = omega arith in e) h)

both_ways : (a b : Bool) → (a ≡ true → b ≡ true) → (b ≡ true → a ≡ true) → a ≡ b
both_ways true true f g = refl
both_ways true false f g = sym (f refl)
both_ways false true f g = g refl
both_ways false false f g = refl

flags_same : (xs : List Bool) → pointwise beq xs xs ≡ true
flags_same [] = refl
flags_same (true ∷ xs) = flags_same xs
flags_same (false ∷ xs) = flags_same xs

numbers_same : (xs : List ℕ) → pointwise nat_eq xs xs ≡ true
numbers_same [] = refl
numbers_same (x ∷ xs) = ap (λ (b : Bool). b && pointwise nat_eq xs xs) (eq-eqb x x refl) ∙ numbers_same xs

exact_flag : (x y : Bool) → beq x y ≡ true → x ≡ y
exact_flag true true h = refl
exact_flag true false h = cc
exact_flag false true h = cc
exact_flag false false h = refl

flag_same : (x : Bool) → beq x x ≡ true
flag_same true = refl
flag_same false = refl

pub parts_equal : (w v : Bool) (n m : ℕ) (ms ks : List ℕ) → beq w v ≡ true → nat_eq n m ≡ true → pointwise nat_eq ms ks ≡ true → pointwise beq (set_of n (record { positions = ms; whole = w })) (set_of m (record { positions = ks; whole = v })) ≡ true
parts_equal w v n m ms ks e f g =
    subst (λ (x : Bool). pointwise beq (set_of n (record { positions = ms; whole = w })) (set_of m (record { positions = ks; whole = x })) ≡ true) (exact_flag w v e)
    (subst (λ (k : ℕ). pointwise beq (set_of n (record { positions = ms; whole = w })) (set_of k (record { positions = ks; whole = w })) ≡ true) (eqb-true n m f)
    (subst (λ (xs : List ℕ). pointwise beq (set_of n (record { positions = ms; whole = w })) (set_of n (record { positions = xs; whole = w })) ≡ true) (exact_bytes ms ks g)
    (flags_same (set_of n (record { positions = ms; whole = w })))))

abbrev head_of : List Bool → Bool
head_of [] = false
head_of (b ∷ bs) = b

pub equal_parts : (w v : Bool) (n m : ℕ) (ms ks : List ℕ) → Ascends 0 n ms → Ascends 0 m ks → pointwise beq (set_of n (record { positions = ms; whole = w })) (set_of m (record { positions = ks; whole = v })) ≡ true
    → (beq w v ≡ true) × (nat_eq n m ≡ true) × (pointwise nat_eq ms ks ≡ true)
equal_parts w v n m ms ks a b h =
    let same = exact_flags (set_of n (record { positions = ms; whole = w })) (set_of m (record { positions = ks; whole = v })) h in
    let long = ap (λ (bs : List Bool). length bs) same in
    let one = set_sized n (record { positions = ms; whole = w }) in
    let two = set_sized m (record { positions = ks; whole = v }) in
    let flag : w ≡ v = ap head_of same in
    let listed : ms ≡ ks = sym (members_are w n ms a) ∙ ap members same ∙ members_are v m ks b in (
      subst (λ (x : Bool). beq w x ≡ true) flag (flag_same w),
      eq-eqb n m (omega (arith, long, one, two)),
      subst (λ (xs : List ℕ). pointwise nat_eq ms xs ≡ true) listed (numbers_same ms),
    )

-- sets are equal exactly where all their parts are
pub parts_decide : (w v : Bool) (n m : ℕ) (ms ks : List ℕ) → Ascends 0 n ms → Ascends 0 m ks → ((beq w v && nat_eq n m) && pointwise nat_eq ms ks) ≡ pointwise beq (set_of n (record { positions = ms; whole = w })) (set_of m (record { positions = ks; whole = v }))
parts_decide w v n m ms ks a b =
    both_ways ((beq w v && nat_eq n m) && pointwise nat_eq ms ks) (pointwise beq (set_of n (record { positions = ms; whole = w })) (set_of m (record { positions = ks; whole = v })))
    (λ h. let two = first_so (beq w v && nat_eq n m) (pointwise nat_eq ms ks) h in parts_equal w v n m ms ks (first_so (beq w v) (nat_eq n m) two) (second_so (beq w v) (nat_eq n m) two) (second_so (beq w v && nat_eq n m) (pointwise nat_eq ms ks) h))
    (λ h. let parts = equal_parts w v n m ms ks a b h in all_so (beq w v) (nat_eq n m) (pointwise nat_eq ms ks) parts.0 parts.1 parts.2)
  where
    all_so : (x y z : Bool) → x ≡ true → y ≡ true → z ≡ true → ((x && y) && z) ≡ true
    all_so true true true e f g = refl
    all_so true true false e f g = g
    all_so true false z e f g = f
    all_so false y z e f g = e

pub ascending_ascends : (numbers : List ℕ) (l b : ℕ) → Ascends l b (ascending l b numbers)
ascending_ascends [] l b = tt
ascending_ascends (p ∷ ps) l b = go (nat_lt p l) refl (nat_le b p) refl (ascending_ascends ps l b) (ascending_ascends ps (p + 1) b)
  where
    go : (x : Bool) → nat_lt p l ≡ x → (y : Bool) → nat_le b p ≡ y → Ascends l b (ascending l b ps) → Ascends (p + 1) b (ascending (p + 1) b ps)
        → Ascends l b (if x then ascending l b ps else (if y then ascending l b ps else p ∷ ascending (p + 1) b ps))
    go true e y f same later = same
    go false e true f same later = same
    go false e false f same later = (ltb-false p l e, leb-false b p f, later)

-- the numbers do not fall, from one number on
abbrev NonFalling : ℕ → List ℕ → Type 0
NonFalling l [] = Unit {0}
NonFalling l (p ∷ ps) = (l ≤ p) × NonFalling p ps

from_sorted : (x : ℕ) (xs : List ℕ) → IsNonDecreasing (x ∷ xs) → NonFalling x xs
from_sorted x [] h = tt
from_sorted x (y ∷ ys) h = (h 0 1 0 (omega arith) (omega arith), from_sorted y ys (λ i j d le lt. h (suc i) (suc j) d (omega (arith, le)) (omega (arith, lt))))

all_sorted : (xs : List ℕ) → IsNonDecreasing xs → NonFalling 0 xs
all_sorted [] h = tt
all_sorted (x ∷ xs) h = (omega arith, from_sorted x xs h)

not_in : (xs : List ℕ) (l i : ℕ) → NonFalling l xs → i < l → list_any (nat_eq i) xs ≡ false
not_in [] l i s h = refl
not_in (p ∷ ps) l i s h =
    ap (λ (t : Bool). t || list_any (nat_eq i) ps) (differ i p (λ e. let low = s.0 in omega (arith, h, low, e)))
    ∙ not_in ps p i s.1 (let low = s.0 in omega (arith, h, low))

ascending_any : (numbers : List ℕ) (k l b i : ℕ) → NonFalling k numbers → l ≤ i → i < b → list_any (nat_eq i) (ascending l b numbers) ≡ list_any (nat_eq i) numbers
ascending_any [] k l b i s low high = refl
ascending_any (p ∷ ps) k l b i s low high =
    go (nat_lt p l) refl (nat_le b p) refl (ascending_any ps p l b i s.1 low high) (λ above. ascending_any ps p (p + 1) b i s.1 above high)
  where
    skipped : (i ≡ p → ⊥) → list_any (nat_eq i) (ascending l b ps) ≡ list_any (nat_eq i) ps → list_any (nat_eq i) (ascending l b ps) ≡ (nat_eq i p || list_any (nat_eq i) ps)
    skipped other later = later ∙ sym (ap (λ (t : Bool). t || list_any (nat_eq i) ps) (differ i p other))

    taken : (p + 1 ≤ i → list_any (nat_eq i) (ascending (p + 1) b ps) ≡ list_any (nat_eq i) ps) → (nat_eq i p || list_any (nat_eq i) (ascending (p + 1) b ps)) ≡ (nat_eq i p || list_any (nat_eq i) ps)
    taken later = elim (cases_lt p i) [
      | inl above ↦ ap (λ (t : Bool). nat_eq i p || t) (later (omega (arith, above)))
      | inr under ↦ elim (cases_eq i p) [
        | inl same ↦ ap (λ (t : Bool). t || list_any (nat_eq i) (ascending (p + 1) b ps)) (eq-eqb i p same) ∙ sym (ap (λ (t : Bool). t || list_any (nat_eq i) ps) (eq-eqb i p same))
        | inr other ↦
            ap (λ (t : Bool). nat_eq i p || t)
            (none_below (ascending (p + 1) b ps) (p + 1) b i (ascending_ascends ps (p + 1) b) (omega (arith, under)) ∙ sym (not_in ps p i s.1 (omega (arith, under, other))))
      ]
    ]

    go : (x : Bool) → nat_lt p l ≡ x → (y : Bool) → nat_le b p ≡ y → list_any (nat_eq i) (ascending l b ps) ≡ list_any (nat_eq i) ps → (p + 1 ≤ i → list_any (nat_eq i) (ascending (p + 1) b ps) ≡ list_any (nat_eq i) ps)
        → list_any (nat_eq i) (if x then ascending l b ps else (if y then ascending l b ps else p ∷ ascending (p + 1) b ps)) ≡ (nat_eq i p || list_any (nat_eq i) ps)
    go true e y f same later = skipped (λ is. let under = ltb-true p l e in omega (arith, under, is, low)) same
    go false e true f same later = skipped (λ is. let over = leb-true b p f in omega (arith, over, is, high)) same
    go false e false f same later = taken later

-- the set of some positions is that of the same in ascending order
pub set_sorted : (w : Bool) (n : ℕ) (ps sorted : List ℕ) → IsPermutation ps sorted → IsNonDecreasing sorted → set_of n (record { positions = ascending 0 n sorted; whole = w }) ≡ set_of n (record { positions = ps; whole = w })
set_sorted w n ps sorted perm up =
    set_is_range n (record { positions = ascending 0 n sorted; whole = w })
    ∙ ap (λ (bs : List Bool). w ∷ bs)
    (same_range (λ i. list_any (nat_eq i) (ascending 0 n sorted)) (λ i. list_any (nat_eq i) ps) 0 n
    (λ i low high. ascending_any sorted 0 0 n i (all_sorted sorted up) low (omega (arith, high)) ∙ sym (list_any-IsPermutation (nat_eq i) ps sorted perm)))
    ∙ sym (set_is_range n (record { positions = ps; whole = w }))

-- each member is below the bound
pub member_below : (ms : List ℕ) (l b i d : ℕ) → Ascends l b ms → i < length ms → slice_index_or ms i d < b
member_below [] l b i d a h = absurd (omega (arith, h))
member_below (m ∷ ms) l b zero d a h = a.1
member_below (m ∷ ms) l b (suc i) d a h = member_below ms (m + 1) b i d a.2 (omega (arith, h))

-- the positions of a set are below their number
pub ascends_to : (w : Bool) (count n : ℕ) (ms listed : List ℕ) (flags : List Bool) → Ascends 0 count ms → set_of count (record { positions = ms; whole = w }) ≡ flags → listed ≡ ms → length flags ≡ n + 1 → Ascends 0 n listed
ascends_to w count n ms listed flags a view is long =
    let size = set_sized count (record { positions = ms; whole = w }) in
    let same = ap (λ (bs : List Bool). length bs) view in
    subst (λ (xs : List ℕ). Ascends 0 n xs) (sym is) (subst (λ (k : ℕ). Ascends 0 k ms) (let e : count ≡ n = omega (arith, size, same, long) in e) a)

-- sets are compared by their parts
pub views_decide : (w v : Bool) (n m : ℕ) (ms ks : List ℕ) (r : Bool) (xs ys : List ℕ) (one two : List Bool) → Ascends 0 n ms → Ascends 0 m ks → set_of n (record { positions = ms; whole = w }) ≡ one → set_of m (record { positions = ks; whole = v }) ≡ two → xs ≡ ms → ys ≡ ks
    → r ≡ ((beq w v && nat_eq n m) && pointwise nat_eq xs ys) → r ≡ pointwise beq one two
views_decide w v n m ms ks r xs ys one two a b e f g h is =
    is
    ∙ ap (λ (zs : List ℕ). (beq w v && nat_eq n m) && pointwise nat_eq zs ys) g
    ∙ ap (λ (zs : List ℕ). (beq w v && nat_eq n m) && pointwise nat_eq ms zs) h
    ∙ parts_decide w v n m ms ks a b
    ∙ ap (λ (zs : List Bool). pointwise beq zs (set_of m (record { positions = ks; whole = v }))) e
    ∙ ap (λ (zs : List Bool). pointwise beq one zs) f

-- a set that is made of positions in any order
pub set_made : (w : Bool) (n : ℕ) (ps start sorted ms : List ℕ) (made : List Bool) → start ≡ ps → IsPermutation start sorted → IsSorted nat_cmp sorted → ms ≡ ascending 0 n sorted → made ≡ set_of n (record { positions = ms; whole = w }) → made ≡ set_of n (record { positions = ps; whole = w })
set_made w n ps start sorted ms made same perm up is of =
    of
    ∙ ap (λ (xs : List ℕ). set_of n (record { positions = xs; whole = w })) is
    ∙ set_sorted w n start sorted perm (IsNonDecreasingBy-from_sort (λ x. x) sorted up)
    ∙ ap (λ (xs : List ℕ). set_of n (record { positions = xs; whole = w })) same
