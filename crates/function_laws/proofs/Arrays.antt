-- Arrays of values.
use Rattle.std.proofs.Common.{◌≡◌, ◌≢◌, ◌≤◌, ◌<◌, ◌^◌, ℕ, zero, suc, ◌+◌, max, ℤ, pos, negsuc, ◌+ℤ◌, neg_ℤ, Bool, true, false, not, ◌&&◌, ◌||◌, if◌then◌else◌, nat_le, nat_lt, nat_eq, List, [], ◌∷◌, length, Option, Some, None, Result, Ok, Err, refl, sym, ap, subst, arith, ◌∙◌, w64}
use Rattle.std.specs.Prelude.{All, ⊤, int_lt, unsigned_abs, FitsSigned}
use Rattle.std.specs.Fmt.{signed_decimal}
use Rattle.std.specs.Str.Parse.{signed_digits_value}
use Rattle.std.specs.Cmp.Lexicographic.{pointwise}
use Rattle.std.specs.Int.{int_max}
use Rattle.std.specs.List.{list_any}
use Rattle.std.specs.Ordering.{int_eq}
use Rattle.std.proofs.lemmas.Bool.{ltb-true, lt-ltb, leb-true, false≢true}
use Rattle.plain_values.specs.Plain.{Plain, PlainKey, Pairs, int_key, text_key, null, flag, int, text, array, empty, pair, keys, depth, deepest}
use Rattle.plain_values.specs.Outcome.{go_on}
use Rattle.plain_values.specs.Numeric.{is_in_range}
use Rattle.plain_values.specs.Keys.{canonical_integer, canonical_key, key_of, same_key, is_absent, are_distinct}
use Rattle.plain_values.specs.Members.{member, get, put_pair, within_depth, put, largest_from, largest_key, key_after, push_at, push}
use Rattle.plain_values.specs.Paths.{subscript_of, Step, step_of, path_of, container, named_key, put_back, change_member, change_in, put_in, no_deeper, write, add_item, add_items, literal_of}
use Rattle.plain_values.specs.Walks.{value_of_key}
use Rattle.plain_values.specs.Lawful.{IsKey, IsValue, HasValues, PairsHaveValues}
use Rattle.plain_values.specs.declared.fault.Fault.{Fault}
use Rattle.plain_values.specs.declared.fault.Fault.TheVariants.{Long}
use Rattle.std.proofs.lemmas.Cmp.{nat_list_eq_equiv, int_eq_equiv}
use Rattle.std.proofs.lemmas.Int.{fits_signed_from_abs, ints}
use Rattle.plain_values.proofs.NumeralLemmas.{fits_if}
use Rattle.plain_values.proofs.DecimalLemmas.{in_64_some}
use Rattle.function_laws.proofs.Numbers.{range_64}
use Rattle.plain_values.proofs.CanonicalLemmas.{empty_key}
use Rattle.std.proofs.lemmas.List.Elements.{All-nil, All-head, All-tail, All-cons}
use Rattle.function_laws.specs.Parts.{IsMaybeValue, IsItem}
use Rattle.function_laws.proofs.Texts.{text_value, number_value, null_value}

-- keys
same_back : (a b : PlainKey) → same_key a b ≡ same_key b a
same_back (int_key a) (int_key b) = int_eq_equiv.symm a b
same_back (int_key a) (text_key t) = refl
same_back (text_key s) (int_key b) = refl
same_back (text_key s) (text_key t) = nat_list_eq_equiv.symm s t

and_parts : (a b : Bool) → (a && b) ≡ true → (a ≡ true) × (b ≡ true)
and_parts true b e = (refl, e)
and_parts false b e = cc

pub canonical_range : (t : List ℕ) (z : ℤ) → canonical_integer t ≡ Some z → is_in_range z ≡ true
canonical_range t z e = by (is_in_range (signed_digits_value 10 t) && pointwise nat_eq (signed_decimal (signed_digits_value 10 t)) t) refl e
  where
    by : (b : Bool) → (is_in_range (signed_digits_value 10 t) && pointwise nat_eq (signed_decimal (signed_digits_value 10 t)) t) ≡ b → (if b then Some (signed_digits_value 10 t) else None) ≡ Some z → is_in_range z ≡ true
    by true h g = let is : z ≡ signed_digits_value 10 t = cc in subst (λ (z : ℤ). is_in_range z ≡ true) (sym is) (and_parts (is_in_range (signed_digits_value 10 t)) _ h).0
    by false h g = cc

text_is_key : (t : List ℕ) (o : Option ℤ) → length t ≤ 16777216 → canonical_integer t ≡ o → IsKey (canonical_key t o)
text_is_key t None h e = (h, e)
text_is_key t (Some z) h e = canonical_range t z e

same_key_of : (r : Result PlainKey Fault) (k j : PlainKey) → r ≡ Ok k → r ≡ Ok j → k ≡ j
same_key_of r k j g h = cc

pub key_is : (v : Plain) (k : PlainKey) → HasValues v → key_of v ≡ Ok k → IsKey k
key_is null k h e = subst IsKey (same_key_of (key_of null) (text_key []) k refl e) (subst IsKey empty_key (text_is_key [] (canonical_integer []) (omega arith) refl))
key_is (flag false) k h e = subst IsKey (same_key_of (key_of (flag false)) (int_key (pos 0)) k refl e) refl
key_is (flag true) k h e = subst IsKey (same_key_of (key_of (flag true)) (int_key (pos 1)) k refl e) refl
key_is (int z) k h e = subst IsKey (same_key_of (key_of (int z)) (int_key z) k refl e) h
key_is (text t) k h e = subst IsKey (same_key_of (key_of (text t)) (canonical_key t (canonical_integer t)) k refl e) (text_is_key t (canonical_integer t) h refl)
key_is (array ps) k h e = cc

pub key_value : (k : PlainKey) → IsKey k → IsValue (value_of_key k)
key_value (int_key z) h = number_value z h
key_value (text_key t) h = text_value t h.0

-- members
pub member_has : (ps : Pairs) (k : PlainKey) → PairsHaveValues ps → HasValues (member ps k)
member_has empty k h = tt
member_has (pair j v ps) k h = by (same_key j k) (member_has ps k h.2)
  where
    by : (b : Bool) → HasValues (member ps k) → HasValues (if b then v else member ps k)
    by true rest = h.1
    by false rest = rest

member_depth : (ps : Pairs) (k : PlainKey) → depth (member ps k) ≤ deepest ps
member_depth empty k = omega arith
member_depth (pair j v ps) k = by (same_key j k) (member_depth ps k)
  where
    by : (b : Bool) → depth (member ps k) ≤ deepest ps → depth (if b then v else member ps k) ≤ max (depth v) (deepest ps)
    by true l = omega arith
    by false l = omega (arith, l)

pub get_value : (v : Plain) (k : PlainKey) (u : Plain) → IsValue v → get v k ≡ Ok u → IsValue u
get_value null k u h e = let is : u ≡ null = cc in subst IsValue (sym is) null_value
get_value (flag b) k u h e = let is : u ≡ null = cc in subst IsValue (sym is) null_value
get_value (int z) k u h e = let is : u ≡ null = cc in subst IsValue (sym is) null_value
get_value (text t) k u h e = cc
get_value (array ps) k u h e =
    let is : u ≡ member ps k = cc in
    subst IsValue (sym is) (record { parts = member_has ps k (h.parts).1; shallow = omega (arith, member_depth ps k, h.shallow) })

pub subscript_value : (v k u : Plain) → IsValue v → subscript_of v k ≡ Ok u → IsValue u
subscript_value v k u h e = by (key_of k) e
  where
    by : (r : Result PlainKey Fault) → go_on r (get v) ≡ Ok u → IsValue u
    by (Err f) g = cc
    by (Ok j) g = get_value v j u h g

-- a put keeps an array an array of values
pub pairs_put : (ps : Pairs) (k : PlainKey) (v : Plain) → PairsHaveValues ps → IsKey k → HasValues v → PairsHaveValues (put_pair ps k v)
pairs_put empty k v h i g = (i, g, tt)
pairs_put (pair j u ps) k v h i g = by (same_key j k) (pairs_put ps k v h.2 i g)
  where
    by : (b : Bool) → PairsHaveValues (put_pair ps k v) → PairsHaveValues (if b then pair j v ps else pair j u (put_pair ps k v))
    by true rest = (h.0, g, h.2)
    by false rest = (h.0, h.1, rest)

absent_more : (ps : Pairs) (j k : PlainKey) (v : Plain) → is_absent (keys ps) j ≡ true → same_key k j ≡ false → is_absent (keys (put_pair ps k v)) j ≡ true
absent_more empty j k v a n = ap (λ (b : Bool). not (b || false)) n
absent_more (pair i u ps) j k v a n = by (λ there. absent_more ps j k v there n) (same_key i k) (same_key i j) refl
  where
    by : (is_absent (keys ps) j ≡ true → is_absent (keys (put_pair ps k v)) j ≡ true) → (b c : Bool) → same_key i j ≡ c → is_absent (keys (if b then pair i v ps else pair i u (put_pair ps k v))) j ≡ true
    by rest true c f = a
    by rest false true f = let bad : is_absent (keys (pair i u ps)) j ≡ false = ap (λ (b : Bool). not (b || list_any (λ i. same_key i j) (keys ps))) f in cc
    by rest false false f =
        let there : is_absent (keys ps) j ≡ true = sym (ap (λ (b : Bool). not (b || list_any (λ i. same_key i j) (keys ps))) f) ∙ a in
        ap (λ (b : Bool). not (b || list_any (λ i. same_key i j) (keys (put_pair ps k v)))) f ∙ rest there

pub distinct_put : (ps : Pairs) (k : PlainKey) (v : Plain) → are_distinct (keys ps) ≡ true → are_distinct (keys (put_pair ps k v)) ≡ true
distinct_put empty k v d = refl
distinct_put (pair j u ps) k v d = let parts = and_parts (is_absent (keys ps) j) (are_distinct (keys ps)) d in by parts.0 (distinct_put ps k v parts.1) (same_key j k) refl
  where
    by : is_absent (keys ps) j ≡ true → are_distinct (keys (put_pair ps k v)) ≡ true → (b : Bool) → same_key j k ≡ b → are_distinct (keys (if b then pair j v ps else pair j u (put_pair ps k v))) ≡ true
    by a rest true e = d
    by a rest false e = ap (λ (b : Bool). b && are_distinct (keys (put_pair ps k v))) (absent_more ps j k v a (same_back k j ∙ e)) ∙ rest

-- an array whose members are such
pub record HasPairs (ps : Pairs) : Type 0 where
  pub distinct : are_distinct (keys ps) ≡ true
  pub pairs : PairsHaveValues ps

pub no_pairs : HasPairs empty
no_pairs = record { distinct = refl; pairs = tt }

pub put_has : (ps : Pairs) (k : PlainKey) (v : Plain) → HasPairs ps → IsKey k → HasValues v → HasPairs (put_pair ps k v)
put_has ps k v h i g = record { distinct = distinct_put ps k v h.distinct; pairs = pairs_put ps k v h.pairs i g }

pub within_value : (ps : Pairs) (v : Plain) → HasPairs ps → within_depth ps ≡ Ok v → IsValue v
within_value ps v h e = by (nat_lt (deepest ps) 1000) refl e
  where
    by : (b : Bool) → nat_lt (deepest ps) 1000 ≡ b → (if b then Ok (array ps) else Err Long) ≡ Ok v → IsValue v
    by true l g = let is : v ≡ array ps = cc in let low = ltb-true (deepest ps) 1000 l in subst IsValue (sym is) (record { parts = (h.distinct, h.pairs); shallow = omega (arith, low) })
    by false l g = cc

pub put_value : (v : Plain) (k : PlainKey) (new u : Plain) → IsValue v → IsKey k → IsValue new → put v k new ≡ Ok u → IsValue u
put_value null k new u h i g e = within_value (put_pair empty k new) u (put_has empty k new no_pairs i g.parts) e
put_value (flag b) k new u h i g e = cc
put_value (int z) k new u h i g e = cc
put_value (text t) k new u h i g e = cc
put_value (array ps) k new u h i g e = within_value (put_pair ps k new) u (put_has ps k new (record { distinct = (h.parts).0; pairs = (h.parts).1 }) i g.parts) e

-- the key that comes next
abbrev pub InRange : Option ℤ → Type 0
InRange None = ⊤
InRange (Some z) = is_in_range z ≡ true

max_range : (a b : ℤ) → is_in_range a ≡ true → is_in_range b ≡ true → is_in_range (int_max a b) ≡ true
max_range a b h g = by (int_lt b a)
  where
    by : (c : Bool) → is_in_range (if c then a else b) ≡ true
    by true = h
    by false = g

largest_range : (best : Option ℤ) (ps : Pairs) → InRange best → PairsHaveValues ps → InRange (largest_from best (keys ps))
largest_range best empty h g = h
largest_range None (pair (int_key z) v ps) h g = largest_range (Some z) ps g.0 g.2
largest_range (Some y) (pair (int_key z) v ps) h g = largest_range (Some (int_max z y)) ps (max_range z y g.0 h) g.2
largest_range best (pair (text_key t) v ps) h g = largest_range best ps h g.2

not_greatest : (n : ℕ) → int_eq (pos n) (pos 9223372036854775807) ≡ false → n ≢ 9223372036854775807
not_greatest n e h = let same : int_eq (pos n) (pos 9223372036854775807) ≡ true = ap (λ (m : ℕ). int_eq (pos m) (pos 9223372036854775807)) h in false≢true (sym e ∙ same)

one_up : (n : ℕ) → negsuc n +ℤ pos 1 ≡ neg_ℤ (pos n)
one_up zero = refl
one_up (suc n) = omega (arith, ints)

abs_neg : (n : ℕ) → unsigned_abs (neg_ℤ (pos n)) ≡ n
abs_neg zero = refl
abs_neg (suc n) = refl

next_range : (z : ℤ) → is_in_range z ≡ true → int_eq z (pos 9223372036854775807) ≡ false → is_in_range (z +ℤ pos 1) ≡ true
next_range (pos n) h e = let l = ltb-true n (2 ^ 63) h in let other = not_greatest n e in lt-ltb (n + 1) (2 ^ 63) (omega (arith, l, other))
next_range (negsuc n) h e =
    let f = fits_if (negsuc n) h in
    let low = ltb-true n (2 ^ 63) h in
    let up : negsuc n +ℤ pos 1 ≡ neg_ℤ (pos n) = one_up n in
    let next : FitsSigned w64 (negsuc n +ℤ pos 1) = subst (FitsSigned w64) (sym up) (fits_signed_from_abs w64 (neg_ℤ (pos n)) (subst (λ (m : ℕ). m < 2 ^ 63) (sym (abs_neg n)) low)) in
    range_64 (negsuc n +ℤ pos 1) (negsuc n +ℤ pos 1) (in_64_some (negsuc n +ℤ pos 1) next)

after_range : (best : Option ℤ) (z : ℤ) → InRange best → key_after best ≡ Some z → is_in_range z ≡ true
after_range None z h e = let is : z ≡ pos 0 = cc in subst (λ (z : ℤ). is_in_range z ≡ true) (sym is) refl
after_range (Some y) z h e = by (int_eq y (pos 9223372036854775807)) refl e
  where
    by : (b : Bool) → int_eq y (pos 9223372036854775807) ≡ b → (if b then None else Some (y +ℤ pos 1)) ≡ Some z → is_in_range z ≡ true
    by true i g = cc
    by false i g = let is : z ≡ y +ℤ pos 1 = cc in subst (λ (z : ℤ). is_in_range z ≡ true) (sym is) (next_range y h i)

pub next_key : (ps : Pairs) (z : ℤ) → PairsHaveValues ps → key_after (largest_key ps) ≡ Some z → is_in_range z ≡ true
next_key ps z h e = after_range (largest_key ps) z (largest_range None ps tt h) e

push_value_at : (ps : Pairs) (o : Option ℤ) (new u : Plain) → HasPairs ps → ((z : ℤ) → o ≡ Some z → is_in_range z ≡ true) → IsValue new → push_at ps o new ≡ Ok u → IsValue u
push_value_at ps None new u h i g e = cc
push_value_at ps (Some z) new u h i g e = within_value (put_pair ps (int_key z) new) u (put_has ps (int_key z) new h (i z refl) g.parts) e

pub push_value : (v new u : Plain) → IsValue v → IsValue new → push v new ≡ Ok u → IsValue u
push_value null new u h g e = push_value_at empty (key_after (largest_key empty)) new u no_pairs (λ z. next_key empty z tt) g e
push_value (flag b) new u h g e = cc
push_value (int z) new u h g e = cc
push_value (text t) new u h g e = cc
push_value (array ps) new u h g e = push_value_at ps (key_after (largest_key ps)) new u (record { distinct = (h.parts).0; pairs = (h.parts).1 }) (λ z. next_key ps z (h.parts).1) g e

-- array literals
pub item_value_is : (made : Plain) (key : Option Plain) (new u : Plain) → IsValue made → IsMaybeValue key → IsValue new → add_item made key new ≡ Ok u → IsValue u
item_value_is made None new u h k g e = push_value made new u h g e
item_value_is made (Some key) new u h k g e = by (key_of key) refl e
  where
    by : (r : Result PlainKey Fault) → key_of key ≡ r → go_on r (λ k. put made k new) ≡ Ok u → IsValue u
    by (Err f) i g' = cc
    by (Ok j) i g' = put_value made j new u h (key_is key j k.parts i) g g'

items_value : (items : List (Option Plain × Plain)) (made u : Plain) → IsValue made → All IsItem items → add_items items made ≡ Ok u → IsValue u
items_value [] made u h g e = let is : u ≡ made = cc in subst IsValue (sym is) h
items_value (item ∷ items) made u h g e = by (λ next hn en. items_value items next u hn (All-tail IsItem item items g) en) (add_item made item.0 item.1) refl e
  where
    by : ((next : Plain) → IsValue next → add_items items next ≡ Ok u → IsValue u) → (r : Result Plain Fault) → add_item made item.0 item.1 ≡ r → go_on r (add_items items) ≡ Ok u → IsValue u
    by rest (Err f) i g' = cc
    by rest (Ok next) i g' = let is : IsItem item = All-head IsItem item items g in rest next (item_value_is made item.0 item.1 next h is.key is.value i) g'

pub literal_value : (items : List (Option Plain × Plain)) (u : Plain) → All IsItem items → literal_of items ≡ Ok u → IsValue u
literal_value items u g e = items_value items (array empty) u (record { parts = (refl, tt); shallow = omega arith }) g e

-- writes at the end of a path
abbrev pub IsStep : Step → Type 0
IsStep None = ⊤
IsStep (Some k) = IsKey k

pub step_is : (s : Option Plain) (t : Step) → IsMaybeValue s → step_of s ≡ Ok t → IsStep t
step_is None t h e = let is : t ≡ None = cc in subst IsStep (sym is) tt
step_is (Some v) t h e = by (key_of v) refl e
  where
    by : (r : Result PlainKey Fault) → key_of v ≡ r → go_on r (λ k. Ok (Some k)) ≡ Ok t → IsStep t
    by (Err f) i g = cc
    by (Ok k) i g = let is : t ≡ Some k = cc in subst IsStep (sym is) (key_is v k h.parts i)

pub path_steps : (ks : List (Option Plain)) (path : List Step) → All IsMaybeValue ks → path_of ks ≡ Ok path → All IsStep path
path_steps [] path h e = let is : path ≡ [] = cc in subst (All IsStep) (sym is) (All-nil IsStep)
path_steps (s ∷ ss) path h e = by (λ rest. path_steps ss rest (All-tail IsMaybeValue s ss h)) (step_of s) refl e
  where
    by_rest : ((rest : List Step) → path_of ss ≡ Ok rest → All IsStep rest) → (t : Step) → IsStep t → (r : Result (List Step) Fault) → path_of ss ≡ r → go_on r (λ rest. Ok (t ∷ rest)) ≡ Ok path → All IsStep path
    by_rest more t it (Err f) i g = cc
    by_rest more t it (Ok rest) i g = let is : path ≡ t ∷ rest = cc in subst (All IsStep) (sym is) (All-cons IsStep t rest it (more rest i))

    by : ((rest : List Step) → path_of ss ≡ Ok rest → All IsStep rest) → (r : Result Step Fault) → step_of s ≡ r → go_on r (λ first. go_on (path_of ss) (λ rest. Ok (first ∷ rest))) ≡ Ok path → All IsStep path
    by more (Err f) i g = cc
    by more (Ok t) i g = by_rest more t (step_is s t (All-head IsMaybeValue s ss h) i) (path_of ss) refl g

pub named_is : (ps : Pairs) (s : Step) (k : PlainKey) → IsStep s → PairsHaveValues ps → named_key s (key_after (largest_key ps)) ≡ Some k → IsKey k
named_is ps (Some j) k h g e = let is : k ≡ j = cc in subst IsKey (sym is) h
named_is ps None k h g e = by (key_after (largest_key ps)) refl e
  where
    by : (o : Option ℤ) → key_after (largest_key ps) ≡ o → named_key None o ≡ Some k → IsKey k
    by None i g' = cc
    by (Some z) i g' = let is : k ≡ int_key z = cc in subst IsKey (sym is) (next_key ps z g i)

changed_has : (change : Plain → Result Plain Fault) (ps : Pairs) (k : PlainKey) (u : Plain) → HasPairs ps → IsKey k → ((v w : Plain) → HasValues v → change v ≡ Ok w → HasValues w) → change_member change ps (Some k) ≡ Ok u → HasValues u
changed_has change ps k u hs j each e = by (change (member ps k)) refl e
  where
    by : (r : Result Plain Fault) → change (member ps k) ≡ r → put_back ps k r ≡ Ok u → HasValues u
    by (Err f) q g = cc
    by (Ok v) q g =
        let is : u ≡ array (put_pair ps k v) = cc in
        let has = put_has ps k v hs j (each (member ps k) v (member_has ps k hs.pairs) q) in
        subst HasValues (sym is) (has.distinct, has.pairs)

change_has : (change : Plain → Result Plain Fault) (s : Step) (ps : Pairs) (u : Plain) → IsStep s → HasPairs ps → ((v w : Plain) → HasValues v → change v ≡ Ok w → HasValues w) → change_in change s (Ok ps) ≡ Ok u → HasValues u
change_has change s ps u hk hs each e = by (named_key s (key_after (largest_key ps))) refl e
  where
    by : (o : Option PlainKey) → named_key s (key_after (largest_key ps)) ≡ o → change_member change ps o ≡ Ok u → HasValues u
    by None q g = cc
    by (Some k) q g = changed_has change ps k u hs (named_is ps s k hk hs.pairs q) each g

-- the parts of a value, whatever its depth
written_has : (path : List Step) (new old u : Plain) → All IsStep path → HasValues new → HasValues old → put_in path new old ≡ Ok u → HasValues u
written_has [] new old u h g i e = let is : u ≡ new = cc in subst HasValues (sym is) g
written_has (s ∷ ss) new old u h g i e =
    by (λ v w hv ev. written_has ss new v w (All-tail IsStep s ss h) g hv ev) old i e
  where
    by : ((v w : Plain) → HasValues v → put_in ss new v ≡ Ok w → HasValues w) → (old : Plain) → HasValues old → change_in (put_in ss new) s (container old) ≡ Ok u → HasValues u
    by each null i g' = change_has (put_in ss new) s empty u (All-head IsStep s ss h) no_pairs each g'
    by each (flag b) i g' = cc
    by each (int z) i g' = cc
    by each (text t) i g' = cc
    by each (array ps) i g' = change_has (put_in ss new) s ps u (All-head IsStep s ss h) (record { distinct = i.0; pairs = i.1 }) each g'

pub write_value : (path : List Step) (new old u : Plain) → All IsStep path → HasValues new → HasValues old → write path new old ≡ Ok u → IsValue u
write_value path new old u h g i e = by (put_in path new old) refl e
  where
    by : (r : Result Plain Fault) → put_in path new old ≡ r → no_deeper r ≡ Ok u → IsValue u
    by (Err f) q g' = cc
    by (Ok v) q g' = by_depth (nat_le (depth v) 1000) refl g'
      where
        by_depth : (b : Bool) → nat_le (depth v) 1000 ≡ b → (if b then Ok v else Err Long) ≡ Ok u → IsValue u
        by_depth true l g'' = let is : u ≡ v = cc in subst IsValue (sym is) (record { parts = written_has path new old v h g i q; shallow = leb-true (depth v) 1000 l })
        by_depth false l g'' = cc
