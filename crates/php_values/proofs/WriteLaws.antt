-- A write in the order of the code is the write of the definition.
use Rattle.std.proofs.Common.{◌≡◌, ℕ, suc, ◌+◌, ◌<◌, ◌≤◌, nat_le, Bool, true, false, if◌then◌else◌, List, [], ◌∷◌, length, Option, Some, None, Result, Ok, Err, refl, sym, ◌∙◌, ap, subst, arith}
use Rattle.std.proofs.lemmas.Bool.Decides.{nat_tests}
use Rattle.plain_values.specs.Plain.{Plain, PlainKey, Pairs, null, flag, int, text, array, empty, depth}
use Rattle.plain_values.specs.Members.{member, put_pair, key_after, largest_key}
use Rattle.plain_values.specs.Paths.{put_back, change_member, named_key, put_in, no_deeper, write, Releases, get_step, read}
use Rattle.plain_values.specs.Outcome.{go_on}
use Rattle.plain_values.specs.declared.fault.Fault.{Fault}
use Rattle.plain_values.specs.declared.fault.Fault.TheVariants.{Long}
use Rattle.php_values.specs.Writes.{write_if, KeepsWrites}
use Rattle.php_values.proofs.Places.{depth_le_put}
use Rattle.php_values.proofs.WriteLemmas.{depth_of_write}

-- a value that does not fit is too long
abbrev shut : Result Plain Fault → Result Plain Fault
shut (Ok v) = Err Long
shut (Err fault) = Err fault

alike : (f g : Plain → Result Plain Fault) (ps : Pairs) (o : Option PlainKey) → ((v : Plain) → f v ≡ g v) → change_member f ps o ≡ change_member g ps o
alike f g ps None h = refl
alike f g ps (Some k) h = ap (put_back ps k) (h (member ps k))

put_back_shut : (ps : Pairs) (k : PlainKey) (r : Result Plain Fault) → put_back ps k (shut r) ≡ shut (put_back ps k r)
put_back_shut ps k (Ok v) = refl
put_back_shut ps k (Err fault) = refl

alike_shut : (f g : Plain → Result Plain Fault) (ps : Pairs) (o : Option PlainKey) → ((v : Plain) → f v ≡ shut (g v)) → change_member f ps o ≡ shut (change_member g ps o)
alike_shut f g ps None h = refl
alike_shut f g ps (Some k) h = ap (put_back ps k) (h (member ps k)) ∙ put_back_shut ps k (g (member ps k))

as_put_in : (path : List (Option PlainKey)) (new old : Plain) → write_if true path new old ≡ put_in path new old
as_put_in [] new old = refl
as_put_in (s ∷ ss) new null = alike (write_if true ss new) (put_in ss new) empty (named_key s (key_after (largest_key empty))) (as_put_in ss new)
as_put_in (s ∷ ss) new (flag b) = refl
as_put_in (s ∷ ss) new (int z) = refl
as_put_in (s ∷ ss) new (text t) = refl
as_put_in (s ∷ ss) new (array ps) = alike (write_if true ss new) (put_in ss new) ps (named_key s (key_after (largest_key ps))) (as_put_in ss new)

as_shut : (path : List (Option PlainKey)) (new old : Plain) → write_if false path new old ≡ shut (put_in path new old)
as_shut [] new old = refl
as_shut (s ∷ ss) new null = alike_shut (write_if false ss new) (put_in ss new) empty (named_key s (key_after (largest_key empty))) (as_shut ss new)
as_shut (s ∷ ss) new (flag b) = refl
as_shut (s ∷ ss) new (int z) = refl
as_shut (s ∷ ss) new (text t) = refl
as_shut (s ∷ ss) new (array ps) = alike_shut (write_if false ss new) (put_in ss new) ps (named_key s (key_after (largest_key ps))) (as_shut ss new)

-- what was put in is as deep as its path and itself
back_depth : (ps : Pairs) (k : PlainKey) (r : Result Plain Fault) (v : Plain) (n : ℕ) → put_back ps k r ≡ Ok v → ((u : Plain) → r ≡ Ok u → n ≤ depth u) → suc n ≤ depth v
back_depth ps k (Err f) v n e h = cc
back_depth ps k (Ok u) v n e h =
    let same : array (put_pair ps k u) ≡ v = cc in
    let low = depth_le_put ps k u in
    let inner = h u refl in
    subst (λ (w : Plain). suc n ≤ depth w) same (omega arith)

changed_depth : (change : Plain → Result Plain Fault) (ps : Pairs) (o : Option PlainKey) (v : Plain) (n : ℕ) → change_member change ps o ≡ Ok v → ((k : PlainKey) (u : Plain) → change (member ps k) ≡ Ok u → n ≤ depth u) → suc n ≤ depth v
changed_depth change ps None v n e h = cc
changed_depth change ps (Some k) v n e h = back_depth ps k (change (member ps k)) v n e (h k)

depth_below : (path : List (Option PlainKey)) (new old v : Plain) → put_in path new old ≡ Ok v → length path + depth new ≤ depth v
depth_below [] new old v e =
    let same : new ≡ v = cc in
    subst (λ (w : Plain). 0 + depth new ≤ depth w) same (omega arith)
depth_below (s ∷ ss) new null v e =
    let low = changed_depth (put_in ss new) empty (named_key s (key_after (largest_key empty))) v (length ss + depth new) e (λ k u g. depth_below ss new (member empty k) u g) in
    omega arith
depth_below (s ∷ ss) new (flag b) v e = cc
depth_below (s ∷ ss) new (int z) v e = cc
depth_below (s ∷ ss) new (text t) v e = cc
depth_below (s ∷ ss) new (array ps) v e =
    let low = changed_depth (put_in ss new) ps (named_key s (key_after (largest_key ps))) v (length ss + depth new) e (λ k u g. depth_below ss new (member ps k) u g) in
    omega arith

fits : (r : Result Plain Fault) → ((v : Plain) → r ≡ Ok v → depth v ≤ 1000) → no_deeper r ≡ r
fits (Err fault) h = refl
fits (Ok v) h = by (nat_le (depth v) 1000) refl
  where
    by : (b : Bool) → nat_le (depth v) 1000 ≡ b → (if b then Ok v else Err Long) ≡ Ok v
    by true e = refl
    by false e = let low = h v refl in absurd (grind (arith, nat_tests, low))

too_deep : (r : Result Plain Fault) → ((v : Plain) → r ≡ Ok v → 1000 < depth v) → no_deeper r ≡ shut r
too_deep (Err fault) h = refl
too_deep (Ok v) h = by (nat_le (depth v) 1000) refl
  where
    by : (b : Bool) → nat_le (depth v) 1000 ≡ b → (if b then Ok v else Err Long) ≡ Err Long
    by true e = let low = h v refl in absurd (grind (arith, nat_tests, low))
    by false e = refl

pub write_as : (path : List (Option PlainKey)) (new old : Plain) → depth old ≤ 1000 → write path new old ≡ write_if (nat_le (length path + depth new) 1000) path new old
write_as path new old low = by (nat_le (length path + depth new) 1000) refl
  where
    by : (b : Bool) → nat_le (length path + depth new) 1000 ≡ b → write path new old ≡ write_if b path new old
    by true e =
        let room : length path + depth new ≤ 1000 = grind (arith, nat_tests, e) in
        fits (put_in path new old) (λ v g. let made = depth_of_write true path new old v (as_put_in path new old ∙ g) in omega arith) ∙ sym (as_put_in path new old)
    by false e =
        let over : 1000 < length path + depth new = grind (arith, nat_tests, e) in
        too_deep (put_in path new old) (λ v g. let made = depth_below path new old v g in omega arith) ∙ sym (as_shut path new old)

-- what keeps each write in the order of the code keeps each write
pub releases : (path : List (Option PlainKey)) (old new : Plain) → depth old ≤ 1000 → depth new ≤ depth old → KeepsWrites path old new → Releases path old new
releases path old new low lower keeps v =
    write_as path v new (omega arith) ∙ keeps (nat_le (length path + depth v) 1000) v ∙ sym (write_as path v old low)

-- behind null everything is null
null_step : (s : Option PlainKey) → get_step null s ≡ Ok null
null_step None = refl
null_step (Some k) = refl

pub read_null : (path : List (Option PlainKey)) → read path null ≡ Ok null
read_null [] = refl
read_null (s ∷ ss) = ap (λ (r : Result Plain Fault). go_on r (read ss)) (null_step s) ∙ read_null ss
