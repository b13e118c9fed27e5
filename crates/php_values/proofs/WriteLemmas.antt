-- A member of an array written in its place, a member that was not there before, and how deep what is written is.
use Rattle.std.proofs.Common.{◌≡◌, ◌⊎◌, inl, inr, ℕ, suc, ◌+◌, ◌-◌, ◌<◌, ◌≤◌, max, nat_le, Bool, true, false, if◌then◌else◌, List, [], ◌∷◌, length, set, get_or, Option, Some, None, Result, Ok, Err, OnOk, pos, refl, sym, ◌∙◌, ap, subst, arith}
use Rattle.std.proofs.lemmas.Bool.Decides.{nat_tests}
use Rattle.plain_values.specs.Plain.{Plain, PlainKey, Pairs, int_key, null, flag, int, text, array, empty, pair, keys, depth, deepest}
use Rattle.plain_values.specs.Members.{member, put_pair, key_after, largest_key}
use Rattle.plain_values.specs.Paths.{put_back, change_member, named_key}
use Rattle.php_values.specs.Writes.{write_if, KeepsWrites, KeepsMember}
use Rattle.plain_values.specs.Keys.{same_key}
use Rattle.plain_values.proofs.SameKeys.{same_itself}
use Rattle.php_values.specs.View.{plain_of, pairs_of, plain_path}
use Rattle.php_values.specs.Index.{place}
use Rattle.php_values.proofs.Places.{member_at, member_none, put_present}
use Rattle.plain_values.specs.declared.fault.Fault.{Fault}
use Rattle.plain_values.specs.declared.fault.Fault.TheVariants.{Memory, Long}
use Rattle.php_values.specs.declared.key.Key.{Key}
use Rattle.php_values.specs.declared.array.Value.{Value}

-- a change of the value at a place is one of the member at its key
pub changed_at : (xs : List (Key × Value)) (k : PlainKey) (i : ℕ) (x : Key × Value) (v : Value) (change : Plain → Result Plain Fault) → place (keys (pairs_of xs)) k ≡ Some i → x ≡ get_or xs i x → change (plain_of x.1) ≡ Ok (plain_of v)
    → put_back (pairs_of xs) k (change (member (pairs_of xs) k)) ≡ Ok (array (pairs_of (set xs i (x.0, v))))
changed_at xs k i x v change at is done =
    let found : member (pairs_of xs) k ≡ plain_of x.1 = member_at xs k i x at ∙ ap (λ (p : Key × Value). plain_of p.1) (sym is) in
    let made : pairs_of (set xs i (x.0, v)) ≡ put_pair (pairs_of xs) k (plain_of v) = ap (λ (p : Key × Value). pairs_of (set xs i (p.0, v))) is ∙ put_present xs k v i x at in
    ap (λ (u : Plain). put_back (pairs_of xs) k (change u)) found ∙ ap (put_back (pairs_of xs) k) done ∙ ap (λ (ps : Pairs). Ok (array ps)) (sym made)

pub fault_at : (xs : List (Key × Value)) (k : PlainKey) (i : ℕ) (x : Key × Value) (f : Fault) (change : Plain → Result Plain Fault) → place (keys (pairs_of xs)) k ≡ Some i → x ≡ get_or xs i x → (f ≡ Memory) ⊎ (change (plain_of x.1) ≡ Err f)
    → (f ≡ Memory) ⊎ (put_back (pairs_of xs) k (change (member (pairs_of xs) k)) ≡ Err f)
fault_at xs k i x f change at is (inl memory) = inl memory
fault_at xs k i x f change at is (inr failed) =
    let found : member (pairs_of xs) k ≡ plain_of x.1 = member_at xs k i x at ∙ ap (λ (p : Key × Value). plain_of p.1) (sym is) in
    inr (ap (λ (u : Plain). put_back (pairs_of xs) k (change u)) found ∙ ap (put_back (pairs_of xs) k) failed)

-- a member that is not there is written as null is
pub changed_new : (ps : Pairs) (k : PlainKey) (v : Plain) (change : Plain → Result Plain Fault) → place (keys ps) k ≡ None → change null ≡ Ok v → put_back ps k (change (member ps k)) ≡ Ok (array (put_pair ps k v))
changed_new ps k v change none done = ap (λ (u : Plain). put_back ps k (change u)) (member_none ps k none) ∙ ap (put_back ps k) done

pub fault_new : (ps : Pairs) (k : PlainKey) (f : Fault) (change : Plain → Result Plain Fault) → place (keys ps) k ≡ None → (f ≡ Memory) ⊎ (change null ≡ Err f) → (f ≡ Memory) ⊎ (put_back ps k (change (member ps k)) ≡ Err f)
fault_new ps k f change none (inl memory) = inl memory
fault_new ps k f change none (inr failed) = inr (ap (λ (u : Plain). put_back ps k (change u)) (member_none ps k none) ∙ ap (put_back ps k) failed)

-- a write makes nothing deeper than the value was before or the new one is below its path
deepest_put_le : (ps : Pairs) (k : PlainKey) (v : Plain) → deepest (put_pair ps k v) ≤ max (deepest ps) (depth v)
deepest_put_le empty k v = omega arith
deepest_put_le (pair j u ps) k v = by (deepest_put_le ps k v) (same_key j k)
  where
    by : deepest (put_pair ps k v) ≤ max (deepest ps) (depth v) → (b : Bool) → deepest (if b then pair j v ps else pair j u (put_pair ps k v)) ≤ max (max (depth u) (deepest ps)) (depth v)
    by rest true = omega arith
    by rest false = omega arith

depth_member : (ps : Pairs) (k : PlainKey) → depth (member ps k) ≤ deepest ps
depth_member empty k = omega arith
depth_member (pair j u ps) k = by (depth_member ps k) (same_key j k)
  where
    by : depth (member ps k) ≤ deepest ps → (b : Bool) → depth (if b then u else member ps k) ≤ max (depth u) (deepest ps)
    by rest true = omega arith
    by rest false = omega arith

put_back_depth : (ps : Pairs) (k : PlainKey) (r : Result Plain Fault) (v : Plain) (n : ℕ) → put_back ps k r ≡ Ok v → ((u : Plain) → r ≡ Ok u → depth u ≤ n) → depth v ≤ suc (max (deepest ps) n)
put_back_depth ps k (Err f) v n e h = cc
put_back_depth ps k (Ok u) v n e h =
    let same : array (put_pair ps k u) ≡ v = cc in
    let low = deepest_put_le ps k u in
    let inner = h u refl in
    subst (λ (w : Plain). depth w ≤ suc (max (deepest ps) n)) same (omega arith)

member_depth : (change : Plain → Result Plain Fault) (ps : Pairs) (o : Option PlainKey) (v : Plain) (n : ℕ) → change_member change ps o ≡ Ok v → ((k : PlainKey) (u : Plain) → change (member ps k) ≡ Ok u → depth u ≤ n) → depth v ≤ suc (max (deepest ps) n)
member_depth change ps None v n e h = cc
member_depth change ps (Some k) v n e h = put_back_depth ps k (change (member ps k)) v n e (h k)

pub depth_of_write : (fits : Bool) (path : List (Option PlainKey)) (new old v : Plain) → write_if fits path new old ≡ Ok v → depth v ≤ max (depth old) (length path + depth new)
depth_of_write true [] new old v e =
    let same : new ≡ v = cc in
    subst (λ (w : Plain). depth w ≤ max (depth old) (0 + depth new)) same (omega arith)
depth_of_write false [] new old v e = cc
depth_of_write fits (s ∷ ss) new null v e =
    let low = member_depth (write_if fits ss new) empty (named_key s (key_after (largest_key empty))) v (length ss + depth new) e (λ k u g. let rest = depth_of_write fits ss new null u g in omega arith) in
    omega arith
depth_of_write fits (s ∷ ss) new (flag b) v e = cc
depth_of_write fits (s ∷ ss) new (int z) v e = cc
depth_of_write fits (s ∷ ss) new (text t) v e = cc
depth_of_write fits (s ∷ ss) new (array ps) v e =
    let low =
    member_depth (write_if fits ss new) ps (named_key s (key_after (largest_key ps))) v (max (deepest ps) (length ss + depth new)) e
    (λ k u g. let rest = depth_of_write fits ss new (member ps k) u g in let inner = depth_member ps k in omega arith) in
    omega arith

change_fits : (fits : Bool) (change : Plain → Result Plain Fault) (ps : Pairs) (o : Option PlainKey) (v : Plain) → ((k : PlainKey) (u : Plain) → change (member ps k) ≡ Ok u → fits ≡ true) → change_member change ps o ≡ Ok v → fits ≡ true
change_fits fits change ps None v h e = cc
change_fits fits change ps (Some k) v h e = by (change (member ps k)) (h k) e
  where
    by : (r : Result Plain Fault) → ((u : Plain) → r ≡ Ok u → fits ≡ true) → put_back ps k r ≡ Ok v → fits ≡ true
    by (Ok u) g d = g u refl
    by (Err f) g d = cc

-- a write that was made fits
pub fits_if : (fits : Bool) (path : List (Option PlainKey)) (new old v : Plain) → write_if fits path new old ≡ Ok v → fits ≡ true
fits_if true path new old v e = refl
fits_if false [] new old v e = cc
fits_if false (s ∷ ss) new null v e = change_fits false (write_if false ss new) empty (named_key s (key_after (largest_key empty))) v (λ k u g. fits_if false ss new null u g) e
fits_if false (s ∷ ss) new (flag b) v e = cc
fits_if false (s ∷ ss) new (int z) v e = cc
fits_if false (s ∷ ss) new (text t) v e = cc
fits_if false (s ∷ ss) new (array ps) v e = change_fits false (write_if false ss new) ps (named_key s (key_after (largest_key ps))) v (λ k u g. fits_if false ss new (member ps k) u g) e

-- into null a value that does not fit is not written, for no other reason
null_too_long : (path : List (Option PlainKey)) (new : Plain) → write_if false path new null ≡ Err Long
null_too_long [] new = refl
null_too_long (Some k ∷ ss) new = ap (put_back empty k) (null_too_long ss new)
null_too_long (None ∷ ss) new = ap (put_back empty (int_key (pos 0))) (null_too_long ss new)

pub null_shut : (fits : Bool) (path : List (Option PlainKey)) (new old : Plain) → fits ≡ false → old ≡ null → write_if fits path new old ≡ Err Long
null_shut fits path new old shut is = ap (λ (b : Bool). write_if b path new old) shut ∙ ap (write_if false path new) is ∙ null_too_long path new

-- a member that was written can stand in an array
pub written_fits : (fits : Bool) (path : List (Option PlainKey)) (new old v : Plain) → ((fits ≡ true) → length path + depth new < 1000) → depth old < 1000 → write_if fits path new old ≡ Ok v → depth v < 1000
written_fits fits path new old v h low e =
    let room = h (fits_if fits path new old v e) in
    let made = depth_of_write fits path new old v e in
    omega arith

-- a clause of a result follows from another
pub on_ok : {T E : Type 0} (r : Result T E) (P Q : Type 0) → (P → Q) → OnOk r P → OnOk r Q
on_ok (Ok x) P Q f h = f h
on_ok (Err y) P Q f h = h

pub length_path : (path : List (Option Key)) → length (plain_path path) ≡ length path
length_path [] = refl
length_path (s ∷ ss) = ap suc (length_path ss)

-- the two ways to ask whether a value below a path is nested too deep
pub same_fit : (path : List (Option Key)) (v : Plain) (d : ℕ) → d ≡ depth v → d ≤ 1000 → nat_le (length path) (1000 - d) ≡ nat_le (length (plain_path path) + depth v) 1000
same_fit path v d is low = by (length path) (length (plain_path path)) (depth v) (length_path path) (nat_le (length path) (1000 - d)) (nat_le (length (plain_path path) + depth v) 1000) refl refl is
  where
    by : (a b e : ℕ) → b ≡ a → (s t : Bool) → nat_le a (1000 - d) ≡ s → nat_le (b + e) 1000 ≡ t → d ≡ e → s ≡ t
    by a b e ab true true x y de = refl
    by a b e ab false false x y de = refl
    by a b e ab true false x y de = absurd (grind (arith, nat_tests))
    by a b e ab false true x y de = absurd (grind (arith, nat_tests))

-- a put over a put
member_put : (ps : Pairs) (k : PlainKey) (u : Plain) → member (put_pair ps k u) k ≡ u
member_put empty k u = ap (λ (b : Bool). if b then u else null) (same_itself k)
member_put (pair j w ps) k u = by (member_put ps k u) (same_key j k) refl
  where
    by : member (put_pair ps k u) k ≡ u → (b : Bool) → same_key j k ≡ b → member (if b then pair j u ps else pair j w (put_pair ps k u)) k ≡ u
    by rest true e = ap (λ (b : Bool). if b then u else member ps k) e
    by rest false e = ap (λ (b : Bool). if b then w else member (put_pair ps k u) k) e ∙ rest

put_put : (ps : Pairs) (k : PlainKey) (u w : Plain) → put_pair (put_pair ps k u) k w ≡ put_pair ps k w
put_put empty k u w = ap (λ (b : Bool). if b then pair k w empty else pair k u (pair k w empty)) (same_itself k)
put_put (pair j x ps) k u w = by (put_put ps k u w) (same_key j k) refl
  where
    by : put_pair (put_pair ps k u) k w ≡ put_pair ps k w → (b : Bool) → same_key j k ≡ b → put_pair (if b then pair j u ps else pair j x (put_pair ps k u)) k w ≡ (if b then pair j w ps else pair j x (put_pair ps k w))
    by rest true e = ap (λ (b : Bool). if b then pair j w ps else pair j u (put_pair ps k w)) e
    by rest false e = ap (λ (b : Bool). if b then pair j w (put_pair ps k u) else pair j x (put_pair (put_pair ps k u) k w)) e ∙ ap (λ (qs : Pairs). pair j x qs) rest

put_back_put : (ps : Pairs) (k : PlainKey) (u : Plain) (r : Result Plain Fault) → put_back (put_pair ps k u) k r ≡ put_back ps k r
put_back_put ps k u (Ok w) = ap (λ (qs : Pairs). Ok (array qs)) (put_put ps k u w)
put_back_put ps k u (Err f) = refl

released : (ps : Pairs) (k : PlainKey) (u : Plain) (path : List (Option PlainKey)) → KeepsWrites path (member ps k) u → KeepsMember k path ps (put_pair ps k u)
released ps k u path h fits v = put_back_put ps k u (write_if fits path v (member (put_pair ps k u) k)) ∙ ap (λ (w : Plain). put_back ps k (write_if fits path v w)) (member_put ps k u) ∙ ap (put_back ps k) (h fits v)

-- a member let go at its place
pub released_at : (xs : List (Key × Value)) (k : PlainKey) (i : ℕ) (x : Key × Value) (v : Value) (path : List (Option PlainKey)) → place (keys (pairs_of xs)) k ≡ Some i → x ≡ get_or xs i x → KeepsWrites path (plain_of x.1) (plain_of v) → KeepsMember k path (pairs_of xs) (pairs_of (set xs i (x.0, v)))
released_at xs k i x v path at is h =
    let found : member (pairs_of xs) k ≡ plain_of x.1 = member_at xs k i x at ∙ ap (λ (p : Key × Value). plain_of p.1) (sym is) in
    let made : pairs_of (set xs i (x.0, v)) ≡ put_pair (pairs_of xs) k (plain_of v) = ap (λ (p : Key × Value). pairs_of (set xs i (p.0, v))) is ∙ put_present xs k v i x at in
    subst (λ (qs : Pairs). KeepsMember k path (pairs_of xs) qs) (sym made) (released (pairs_of xs) k (plain_of v) path (subst (λ (w : Plain). KeepsWrites path w (plain_of v)) (sym found) h))
