-- What the place of a key tells of the pairs of an array.
use Rattle.std.proofs.Common.{◌≡◌, ℕ, zero, suc, ◌+◌, ◌<◌, ◌≤◌, max, Bool, true, false, if◌then◌else◌, List, [], ◌∷◌, ◌++◌, length, get_or, set, take, Some, None, Ok, Err, nat_lt, refl, sym, ◌∙◌, ap, subst, arith}
use Rattle.std.proofs.lemmas.Bool.Decides.{nat_tests}
use Rattle.std.specs.Cmp.{first_so, second_so}
use Rattle.std.proofs.lemmas.List.{take_more}
use Rattle.plain_values.specs.Plain.{Plain, PlainKey, Pairs, null, array, empty, pair, keys, depth, deepest}
use Rattle.plain_values.specs.Keys.{same_key, is_absent, are_distinct}
use Rattle.plain_values.specs.Members.{member, put_pair, within_depth}
use Rattle.php_values.specs.View.{plain_of, plain_key, pairs_of}
use Rattle.php_values.specs.Index.{place, one_later}
use Rattle.plain_values.proofs.SameKeys.{same_back}
use Rattle.php_values.proofs.KeyLemmas.{later_some, later_none, not_first, no_place}
use Rattle.plain_values.specs.declared.fault.Fault.TheVariants.{Long}
use Rattle.php_values.specs.declared.key.Key.{Key}
use Rattle.php_values.specs.declared.array.Value.{Value}

pub length-keys : (xs : List (Key × Value)) → length (keys (pairs_of xs)) ≡ length xs
length-keys [] = refl
length-keys (x ∷ xs) = ap suc (length-keys xs)

pub keys-push : (xs : List (Key × Value)) (x : Key × Value) → keys (pairs_of (xs ++ x ∷ [])) ≡ keys (pairs_of xs) ++ plain_key x.0 ∷ []
keys-push [] x = refl
keys-push (y ∷ ys) x = ap (λ (ks : List PlainKey). plain_key y.0 ∷ ks) (keys-push ys x)

-- a place is one of the pairs
pub place_lt : (ks : List PlainKey) (k : PlainKey) (i : ℕ) → place ks k ≡ Some i → i < length ks
place_lt [] k i e = cc
place_lt (j ∷ js) k i e = by (λ n h. place_lt js k n h) (same_key j k) e
  where
    by : ((n : ℕ) → place js k ≡ Some n → n < length js) → (b : Bool) → (if b then Some 0 else one_later (place js k)) ≡ Some i → i < length (j ∷ js)
    by rest true h = let z : 0 ≡ i = cc in omega arith
    by rest false h = let n = later_some (place js k) i h in let r : n.0 < length js = rest n.0 n.1 in omega (arith, n.2)

-- the member of a key stands at its place
pub member_at : (ps : List (Key × Value)) (k : PlainKey) (i : ℕ) (d : Key × Value) → place (keys (pairs_of ps)) k ≡ Some i → member (pairs_of ps) k ≡ plain_of (get_or ps i d).1
member_at [] k i d e = cc
member_at (p ∷ ps) k i d e = by (λ j h. member_at ps k j d h) (same_key (plain_key p.0) k) e
  where
    by : ((j : ℕ) → place (keys (pairs_of ps)) k ≡ Some j → member (pairs_of ps) k ≡ plain_of (get_or ps j d).1) → (b : Bool) → (if b then Some 0 else one_later (place (keys (pairs_of ps)) k)) ≡ Some i → (if b then plain_of p.1 else member (pairs_of ps) k) ≡ plain_of (get_or (p ∷ ps) i d).1
    by rest true h = let z : 0 ≡ i = cc in subst (λ (n : ℕ). plain_of p.1 ≡ plain_of (get_or (p ∷ ps) n d).1) z refl
    by rest false h = let j = later_some (place (keys (pairs_of ps)) k) i h in subst (λ (n : ℕ). member (pairs_of ps) k ≡ plain_of (get_or (p ∷ ps) n d).1) (sym j.2) (rest j.0 j.1)

-- a key without a place has no member
pub member_none : (ps : Pairs) (k : PlainKey) → place (keys ps) k ≡ None → member ps k ≡ null
member_none empty k e = refl
member_none (pair j v ps) k e = by (member_none ps k) (same_key j k) e
  where
    by : (place (keys ps) k ≡ None → member ps k ≡ null) → (b : Bool) → (if b then Some 0 else one_later (place (keys ps) k)) ≡ None → (if b then v else member ps k) ≡ null
    by rest true h = cc
    by rest false h = rest (later_none (place (keys ps) k) h)

-- a put on an absent key is a pair at the end
pub put_absent : (xs : List (Key × Value)) (k : Key) (v : Value) → place (keys (pairs_of xs)) (plain_key k) ≡ None → pairs_of (xs ++ (k, v) ∷ []) ≡ put_pair (pairs_of xs) (plain_key k) (plain_of v)
put_absent [] k v e = refl
put_absent (x ∷ xs) k v e = by (put_absent xs k v) (same_key (plain_key x.0) (plain_key k)) e
  where
    by : (place (keys (pairs_of xs)) (plain_key k) ≡ None → pairs_of (xs ++ (k, v) ∷ []) ≡ put_pair (pairs_of xs) (plain_key k) (plain_of v)) → (b : Bool) → (if b then Some 0 else one_later (place (keys (pairs_of xs)) (plain_key k))) ≡ None → pair (plain_key x.0) (plain_of x.1) (pairs_of (xs ++ (k, v) ∷ [])) ≡ (if b then pair (plain_key x.0) (plain_of v) (pairs_of xs) else pair (plain_key x.0) (plain_of x.1) (put_pair (pairs_of xs) (plain_key k) (plain_of v)))
    by rest true h = cc
    by rest false h = ap (λ (ps : Pairs). pair (plain_key x.0) (plain_of x.1) ps) (rest (later_none (place (keys (pairs_of xs)) (plain_key k)) h))

-- a put on a key with a place changes the value there
pub put_present : (xs : List (Key × Value)) (k : PlainKey) (v : Value) (i : ℕ) (d : Key × Value) → place (keys (pairs_of xs)) k ≡ Some i → pairs_of (set xs i ((get_or xs i d).0, v)) ≡ put_pair (pairs_of xs) k (plain_of v)
put_present [] k v i d e = cc
put_present (x ∷ xs) k v i d e = by (λ j h. put_present xs k v j d h) (same_key (plain_key x.0) k) e
  where
    by : ((j : ℕ) → place (keys (pairs_of xs)) k ≡ Some j → pairs_of (set xs j ((get_or xs j d).0, v)) ≡ put_pair (pairs_of xs) k (plain_of v)) → (b : Bool) → (if b then Some 0 else one_later (place (keys (pairs_of xs)) k)) ≡ Some i → pairs_of (set (x ∷ xs) i ((get_or (x ∷ xs) i d).0, v)) ≡ (if b then pair (plain_key x.0) (plain_of v) (pairs_of xs) else pair (plain_key x.0) (plain_of x.1) (put_pair (pairs_of xs) k (plain_of v)))
    by rest true h = let z : 0 ≡ i = cc in subst (λ (n : ℕ). pairs_of (set (x ∷ xs) n ((get_or (x ∷ xs) n d).0, v)) ≡ pair (plain_key x.0) (plain_of v) (pairs_of xs)) z refl
    by rest false h =
        let j = later_some (place (keys (pairs_of xs)) k) i h in
        subst (λ (n : ℕ). pairs_of (set (x ∷ xs) n ((get_or (x ∷ xs) n d).0, v)) ≡ pair (plain_key x.0) (plain_of x.1) (put_pair (pairs_of xs) k (plain_of v))) (sym j.2) (ap (λ (ps : Pairs). pair (plain_key x.0) (plain_of x.1) ps) (rest j.0 j.1))

pub keys-put_present : (ps : Pairs) (k : PlainKey) (v : Plain) (i : ℕ) → place (keys ps) k ≡ Some i → keys (put_pair ps k v) ≡ keys ps
keys-put_present empty k v i e = cc
keys-put_present (pair j u ps) k v i e = by (λ n h. keys-put_present ps k v n h) (same_key j k) e
  where
    by : ((n : ℕ) → place (keys ps) k ≡ Some n → keys (put_pair ps k v) ≡ keys ps) → (b : Bool) → (if b then Some 0 else one_later (place (keys ps) k)) ≡ Some i → keys (if b then pair j v ps else pair j u (put_pair ps k v)) ≡ j ∷ keys ps
    by rest true h = refl
    by rest false h = let n = later_some (place (keys ps) k) i h in ap (λ (ks : List PlainKey). j ∷ ks) (rest n.0 n.1)

-- a key among keys where another is not is not that other
absent_at : (xs : List (Key × Value)) (q : PlainKey) (i : ℕ) (d : Key × Value) → place (keys (pairs_of xs)) q ≡ None → i < length xs → same_key (plain_key (get_or xs i d).0) q ≡ false
absent_at [] q i d e g = absurd (omega arith)
absent_at (x ∷ xs) q zero d e g = (not_first (plain_key x.0) q (keys (pairs_of xs)) e).0
absent_at (x ∷ xs) q (suc i) d e g = absent_at xs q i d (not_first (plain_key x.0) q (keys (pairs_of xs)) e).1 (omega arith)

-- a key is not among those before it
pub absent_before : (xs : List (Key × Value)) (i : ℕ) (d : Key × Value) → are_distinct (keys (pairs_of xs)) ≡ true → i < length xs → place (keys (pairs_of (take i xs))) (plain_key (get_or xs i d).0) ≡ None
absent_before [] i d e g = absurd (omega arith)
absent_before (x ∷ xs) zero d e g = refl
absent_before (x ∷ xs) (suc i) d e g =
    let first : place (keys (pairs_of xs)) (plain_key x.0) ≡ None = no_place (keys (pairs_of xs)) (plain_key x.0) (first_so (is_absent (keys (pairs_of xs)) (plain_key x.0)) (are_distinct (keys (pairs_of xs))) e) in
    let apart : same_key (plain_key x.0) (plain_key (get_or xs i d).0) ≡ false = same_back (plain_key x.0) (plain_key (get_or xs i d).0) ∙ absent_at xs (plain_key x.0) i d first (omega arith) in
    let rest : place (keys (pairs_of (take i xs))) (plain_key (get_or xs i d).0) ≡ None = absent_before xs i d (second_so (is_absent (keys (pairs_of xs)) (plain_key x.0)) (are_distinct (keys (pairs_of xs))) e) (omega arith) in
    ap (λ (b : Bool). if b then Some 0 else one_later (place (keys (pairs_of (take i xs))) (plain_key (get_or xs i d).0))) apart ∙ ap one_later rest

pub put_step : (xs : List (Key × Value)) (i : ℕ) (k : Key) (v : Value) (d : Key × Value) → are_distinct (keys (pairs_of xs)) ≡ true → i < length xs → k ≡ (get_or xs i d).0 → v ≡ (get_or xs i d).1 → put_pair (pairs_of (take i xs)) (plain_key k) (plain_of v) ≡ pairs_of (take (i + 1) xs)
put_step xs i k v d e h kis vis =
    ap (λ (j : Key). put_pair (pairs_of (take i xs)) (plain_key j) (plain_of v)) kis
    ∙ ap (λ (u : Value). put_pair (pairs_of (take i xs)) (plain_key (get_or xs i d).0) (plain_of u)) vis
    ∙ sym (put_absent (take i xs) (get_or xs i d).0 (get_or xs i d).1 (absent_before xs i d e h))
    ∙ ap (λ (ys : List (Key × Value)). pairs_of ys) (sym (take_more xs i d h))

-- a put makes an array no deeper than the value and the array are
pub deepest-put : (ps : Pairs) (k : PlainKey) (v : Plain) (n : ℕ) → deepest ps < n → depth v < n → deepest (put_pair ps k v) < n
deepest-put empty k v n h g = omega arith
deepest-put (pair j u ps) k v n h g = by (deepest-put ps k v n (omega arith) g) (same_key j k)
  where
    by : deepest (put_pair ps k v) < n → (b : Bool) → deepest (if b then pair j v ps else pair j u (put_pair ps k v)) < n
    by rest true = omega arith
    by rest false = omega arith

pub deepest-push : (xs : List (Key × Value)) (x : Key × Value) → deepest (pairs_of (xs ++ x ∷ [])) ≡ max (deepest (pairs_of xs)) (depth (plain_of x.1))
deepest-push [] x = omega arith
deepest-push (y ∷ ys) x = omega (arith, deepest-push ys x)

pub deepest_at : (xs : List (Key × Value)) (i n : ℕ) (d : Key × Value) → deepest (pairs_of xs) < n → i < length xs → depth (plain_of (get_or xs i d).1) < n
deepest_at [] i n d h g = absurd (omega arith)
deepest_at (x ∷ xs) zero n d h g = omega arith
deepest_at (x ∷ xs) (suc i) n d h g = deepest_at xs i n d (omega arith) (omega arith)

-- the step of a loop over the pairs
pub deepest_step : (xs : List (Key × Value)) (i : ℕ) (d : Key × Value) → i < length xs → deepest (pairs_of (take (i + 1) xs)) ≡ max (deepest (pairs_of (take i xs))) (depth (plain_of (get_or xs i d).1))
deepest_step xs i d h = ap (λ (ys : List (Key × Value)). deepest (pairs_of ys)) (take_more xs i d h) ∙ deepest-push (take i xs) (get_or xs i d)

pub depth_le_put : (ps : Pairs) (k : PlainKey) (v : Plain) → depth v ≤ deepest (put_pair ps k v)
depth_le_put empty k v = omega arith
depth_le_put (pair j u ps) k v = by (depth_le_put ps k v) (same_key j k)
  where
    by : depth v ≤ deepest (put_pair ps k v) → (b : Bool) → depth v ≤ deepest (if b then pair j v ps else pair j u (put_pair ps k v))
    by rest true = omega arith
    by rest false = omega arith

pub put_fits : (ps : Pairs) (k : PlainKey) (v : Plain) → deepest ps < 1000 → depth v < 1000 → within_depth (put_pair ps k v) ≡ Ok (array (put_pair ps k v))
put_fits ps k v h g = by (nat_lt (deepest (put_pair ps k v)) 1000) refl
  where
    by : (b : Bool) → nat_lt (deepest (put_pair ps k v)) 1000 ≡ b → (if b then Ok (array (put_pair ps k v)) else Err Long) ≡ Ok (array (put_pair ps k v))
    by true e = refl
    by false e = let l = deepest-put ps k v 1000 h g in absurd (grind (arith, nat_tests, l))

pub put_long : (ps : Pairs) (k : PlainKey) (v : Plain) → 1000 ≤ depth v → within_depth (put_pair ps k v) ≡ Err Long
put_long ps k v h = by (nat_lt (deepest (put_pair ps k v)) 1000) refl
  where
    by : (b : Bool) → nat_lt (deepest (put_pair ps k v)) 1000 ≡ b → (if b then Ok (array (put_pair ps k v)) else Err Long) ≡ Err Long
    by true e = let l = depth_le_put ps k v in absurd (grind (arith, nat_tests, l))
    by false e = refl

-- how deep the values are after one of them changed
pub changed_depth : (xs : List (Key × Value)) (i : ℕ) (d x : Key × Value) → i < length xs
    → (deepest (pairs_of (set xs i x)) ≤ max (deepest (pairs_of xs)) (depth (plain_of x.1))) × (depth (plain_of x.1) ≤ deepest (pairs_of (set xs i x))) × (deepest (pairs_of xs) ≤ max (deepest (pairs_of (set xs i x))) (depth (plain_of (get_or xs i d).1)))
changed_depth [] i d x h = absurd (omega arith)
changed_depth (y ∷ ys) zero d x h = (omega arith, omega arith, omega arith)
changed_depth (y ∷ ys) (suc i) d x h =
    let rest = changed_depth ys i d x (omega arith) in
    (omega (arith, rest.0), omega (arith, rest.1), omega (arith, rest.2))

pub not_deeper : (xs : List (Key × Value)) (i : ℕ) (d x : Key × Value) → i < length xs → depth (plain_of x.1) ≤ depth (plain_of (get_or xs i d).1) → deepest (pairs_of (set xs i x)) ≤ deepest (pairs_of xs)
not_deeper xs i d x h low =
    let known = changed_depth xs i d x h in
    let old = deepest_at xs i (suc (deepest (pairs_of xs))) d (omega arith) h in
    omega (arith, known.0, old, low)
