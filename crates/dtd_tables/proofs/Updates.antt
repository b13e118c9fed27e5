-- Attribute lists that are put to their rules one after another make the rules of all.
use Rattle.std.proofs.Common.{rules, ◌≡◌, ◌∙◌, ℕ, zero, suc, ◌+◌, ◌<◌, ◌≤◌, Bool, true, false, ◌||◌, if◌then◌else◌, List, [], ◌∷◌, ◌++◌, length, get_or, set, Some, None, refl, sym, ap, subst, arith, add-one}
use Rattle.std.specs.Prelude.{bytes_eq, nat_lt, cond}
use Rattle.std.specs.List.{position, position_or_len}
use Rattle.std.proofs.Math.Nat.{add_comm}
use Rattle.dtd_model.specs.Lawful.{is_distinct}
use Rattle.dtd_model.specs.Table.{Holding, Declared, Rule}
use Rattle.dtd_texts.specs.Heads.{same}
use Rattle.dtd_texts.specs.Reading.{is_among}
use Rattle.dtd_texts.specs.Tables.{Said, element, attributes, attributes_for, is_declared, with_others, rules_of}
use Rattle.dtd_tables.specs.Updates.{with_one, with_attributes, updated, lists_in, rule_names, HasFew, HaveFew}
use Rattle.dtd_tables.specs.Views.{updated_by}
use Rattle.dtd_tables.proofs.Lists.{append_nil, append_same}

pub others_more : (ds xs ys : List Declared) → with_others ds (xs ++ ys) ≡ with_others (with_others ds xs) ys
unfolding with_others
others_more ds [] ys = refl
others_more ds (x ∷ xs) ys = others_more (with_one ds x) xs ys

pub others_one : (ds xs : List Declared) (x : Declared) → with_others ds (xs ++ x ∷ []) ≡ with_one (with_others ds xs) x
unfolding with_others
others_one ds xs x = others_more ds xs (x ∷ [])

-- attributes never grow fewer
one_longer : (b : Bool) (ds : List Declared) (d : Declared) → length ds ≤ length (if b then ds else ds ++ d ∷ [])
one_longer true ds d = omega arith
one_longer false ds d = push_longer ds d
  where
    push_longer : (ds : List Declared) (d : Declared) → length ds ≤ length (ds ++ d ∷ [])
    push_longer [] d = omega arith
    push_longer (e ∷ es) d = let h = push_longer es d in omega (arith, h)

pub others_longer : (ds xs : List Declared) → length ds ≤ length (with_others ds xs)
unfolding with_others
others_longer ds [] = omega arith
others_longer ds (x ∷ xs) = let h = one_longer (is_declared ds x.name) ds x in let k = others_longer (with_one ds x) xs in omega (arith, h, k)

pub for_more : (m : List ℕ) (xs ys : List Said) → attributes_for m (xs ++ ys) ≡ attributes_for m xs ++ attributes_for m ys
for_more m [] ys = refl
for_more m (element n h ∷ xs) ys = for_more m xs ys
for_more m (attributes n ds ∷ xs) ys = by (same n m) (for_more m xs ys)
  where
    by : (b : Bool) → attributes_for m (xs ++ ys) ≡ attributes_for m xs ++ attributes_for m ys
        → (if b then ds ++ attributes_for m (xs ++ ys) else attributes_for m (xs ++ ys)) ≡ (if b then ds ++ attributes_for m xs else attributes_for m xs) ++ attributes_for m ys
    by true e = ap (λ (zs : List Declared). ds ++ zs) e ∙ sym (append_same ds (attributes_for m xs) (attributes_for m ys))
    by false e = e

pub for_lists : (m : List ℕ) (xs : List Said) → attributes_for m (lists_in xs) ≡ attributes_for m xs
for_lists m [] = refl
for_lists m (element n h ∷ xs) = for_lists m xs
for_lists m (attributes n ds ∷ xs) = by (same n m) (for_lists m xs)
  where
    by : (b : Bool) → attributes_for m (lists_in xs) ≡ attributes_for m xs → (if b then ds ++ attributes_for m (lists_in xs) else attributes_for m (lists_in xs)) ≡ (if b then ds ++ attributes_for m xs else attributes_for m xs)
    by true e = ap (λ (zs : List Declared). ds ++ zs) e
    by false e = e

abbrev rule : List ℕ → Holding → List Declared → Rule
rule n h ds = record { name = n; holding = h; attributes = ds }

-- rules depend on the attributes for each name alone
pub rules_by : (xs ys says : List Said) → ((m : List ℕ) → attributes_for m xs ≡ attributes_for m ys) → rules_of xs says ≡ rules_of ys says
rules_by xs ys [] e = refl
rules_by xs ys (element n h ∷ says) e = ap (λ ds. rule n h (with_others [] ds) ∷ rules_of xs says) (e n) ∙ ap (λ (rs : List Rule). rule n h (with_others [] (attributes_for n ys)) ∷ rs) (rules_by xs ys says e)
rules_by xs ys (attributes n ds ∷ says) e = rules_by xs ys says e

rule_updated : (n m : List ℕ) (h : Holding) (ds : List Declared) (xs : List Said)
    → rule m h (with_others [] (attributes_for m (xs ++ attributes n ds ∷ []))) ≡ (if same n m then with_attributes (rule m h (with_others [] (attributes_for m xs))) ds else rule m h (with_others [] (attributes_for m xs)))
rule_updated n m h ds xs = by (same n m) refl
  where
    by : (b : Bool) → same n m ≡ b
        → rule m h (with_others [] (attributes_for m (xs ++ attributes n ds ∷ []))) ≡ (if b then with_attributes (rule m h (with_others [] (attributes_for m xs))) ds else rule m h (with_others [] (attributes_for m xs)))
    by true e =
        let one : attributes_for m (attributes n ds ∷ []) ≡ ds = rw e (append_nil ds) in
        ap (λ es. rule m h (with_others [] es)) (for_more m xs (attributes n ds ∷ []) ∙ ap (λ (es : List Declared). attributes_for m xs ++ es) one) ∙ ap (rule m h) (others_more [] (attributes_for m xs) ds)
    by false e =
        let one : attributes_for m (attributes n ds ∷ []) ≡ [] = rw e refl in
        ap (λ es. rule m h (with_others [] es)) (for_more m xs (attributes n ds ∷ []) ∙ ap (λ (es : List Declared). attributes_for m xs ++ es) one ∙ append_nil (attributes_for m xs))

pub updated_is : (n : List ℕ) (ds : List Declared) (xs says : List Said) → rules_of (xs ++ attributes n ds ∷ []) says ≡ updated n ds (rules_of xs says)
updated_is n ds xs [] = refl
updated_is n ds xs (element m h ∷ says) =
    ap (λ (r : Rule). r ∷ rules_of (xs ++ attributes n ds ∷ []) says) (rule_updated n m h ds xs)
    ∙ ap (λ (rs : List Rule). (if same n m then with_attributes (rule m h (with_others [] (attributes_for m xs))) ds else rule m h (with_others [] (attributes_for m xs))) ∷ rs) (updated_is n ds xs says)
updated_is n ds xs (attributes m es ∷ says) = updated_is n ds xs says

pub updated_by_is : (ls xs says : List Said) → updated_by ls (rules_of xs says) ≡ rules_of (xs ++ ls) says
updated_by_is [] xs says = ap (λ ys. rules_of ys says) (sym (append_nil xs))
updated_by_is (element n h ∷ ls) xs says = updated_by_is ls xs says ∙ rules_by (xs ++ ls) (xs ++ element n h ∷ ls) says (λ m. for_more m xs ls ∙ sym (for_more m xs (element n h ∷ ls)))
updated_by_is (attributes n ds ∷ ls) xs says =
    ap (updated_by ls) (sym (updated_is n ds xs says)) ∙ updated_by_is ls (xs ++ attributes n ds ∷ []) says ∙ ap (λ ys. rules_of ys says) (append_same xs (attributes n ds ∷ []) ls)

pub all_updated : (says : List Said) → updated_by (lists_in says) (rules_of [] says) ≡ rules_of says says
all_updated says = updated_by_is (lists_in says) [] says ∙ rules_by (lists_in says) says says (λ m. for_lists m says)

pub updated_by_more : (xs ys : List Said) (rs : List Rule) → updated_by (xs ++ ys) rs ≡ updated_by ys (updated_by xs rs)
updated_by_more [] ys rs = refl
updated_by_more (element n h ∷ xs) ys rs = updated_by_more xs ys rs
updated_by_more (attributes n ds ∷ xs) ys rs = updated_by_more xs ys (updated n ds rs)

-- an update leaves the names
pub names_updated : (n : List ℕ) (ds : List Declared) (rs : List Rule) → rule_names (updated n ds rs) ≡ rule_names rs
names_updated n ds [] = refl
names_updated n ds (r ∷ rs) = ap (λ (m : List ℕ). m ∷ rule_names (updated n ds rs)) (by (same n r.name)) ∙ ap (λ (ms : List (List ℕ)). r.name ∷ ms) (names_updated n ds rs)
  where
    by : (b : Bool) → (let x : Rule = if b then with_attributes r ds else r in x.name) ≡ r.name
    by true = refl
    by false = refl

pub names_updated_by : (xs : List Said) (rs : List Rule) → rule_names (updated_by xs rs) ≡ rule_names rs
names_updated_by [] rs = refl
names_updated_by (element n h ∷ xs) rs = names_updated_by xs rs
names_updated_by (attributes n ds ∷ xs) rs = names_updated_by xs (updated n ds rs) ∙ names_updated n ds rs

-- An update of one place.

or_false : {a b : Bool} → (a || b) ≡ false → (a ≡ false) × (b ≡ false)
or_false e = (grind (arith, e), grind (arith, e))

pub none_updated : (n : List ℕ) (ds : List Declared) (rs : List Rule) → is_among (rule_names rs) n ≡ false → updated n ds rs ≡ rs
none_updated n ds [] e = refl
none_updated n ds (r ∷ rs) e = let h : (same n r.name ≡ false) × (is_among (rule_names rs) n ≡ false) = or_false e in rw h.0 (ap (λ (xs : List Rule). r ∷ xs) (none_updated n ds rs h.1))

place_first : (n m : List ℕ) (ms : List (List ℕ)) → bytes_eq n m ≡ true → position_or_len (bytes_eq n) (m ∷ ms) ≡ 0
place_first n m ms e = rw e refl

place_next : (n m : List ℕ) (ms : List (List ℕ)) → bytes_eq n m ≡ false → position_or_len (bytes_eq n) (m ∷ ms) ≡ 1 + position_or_len (bytes_eq n) ms
place_next n m ms e = rw e refl

set_next : {X : Type 0} (x : X) (xs : List X) (k : ℕ) (v : X) → set (x ∷ xs) (1 + k) v ≡ x ∷ set xs k v
set_next x xs k v = rw (add_comm 1 k) (rw add-one refl)

get_next : {X : Type 0} (x : X) (xs : List X) (k : ℕ) (d : X) → get_or (x ∷ xs) (1 + k) d ≡ get_or xs k d
get_next x xs k d = rw (add_comm 1 k) (rw add-one refl)

-- the rule at this place is the one of the name, and it alone is updated
record IsPut (n : List ℕ) (ds : List Declared) (rs : List Rule) (d : Rule) (k : ℕ) : Type 0 where
  there : bytes_eq n (get_or rs k d).name ≡ true
  is : updated n ds rs ≡ set rs k (with_attributes (get_or rs k d) ds)

none_of : (n m : List ℕ) (ms : List (List ℕ)) → is_distinct (m ∷ ms) ≡ true → bytes_eq n m ≡ true → is_among ms n ≡ false
none_of n m ms dist e =
    let same_name : n ≡ m = search (rules, arith, e) in
    let none : is_among ms m ≡ false = grind (arith, dist) in
    subst (λ x. is_among ms x ≡ false) (sym same_name) none

rest_distinct : (m : List ℕ) (ms : List (List ℕ)) → is_distinct (m ∷ ms) ≡ true → is_distinct ms ≡ true
rest_distinct m ms e = grind (arith, e)

put_is : (n : List ℕ) (ds : List Declared) (rs : List Rule) (d : Rule) → is_distinct (rule_names rs) ≡ true → position_or_len (bytes_eq n) (rule_names rs) < length rs
    → IsPut n ds rs d (position_or_len (bytes_eq n) (rule_names rs))
put_is n ds [] d dist few = absurd (omega (arith, few))
put_is n ds (r ∷ rs) d dist few = by (bytes_eq n r.name) refl (put_is n ds rs d (rest_distinct r.name (rule_names rs) dist))
  where
    by : (b : Bool) → bytes_eq n r.name ≡ b → (position_or_len (bytes_eq n) (rule_names rs) < length rs → IsPut n ds rs d (position_or_len (bytes_eq n) (rule_names rs)))
        → IsPut n ds (r ∷ rs) d (position_or_len (bytes_eq n) (rule_names (r ∷ rs)))
    by true e go = subst (IsPut n ds (r ∷ rs) d) (sym (place_first n r.name (rule_names rs) e)) (record {
      there = e;
      is = ap (λ (b : Bool). (if b then with_attributes r ds else r) ∷ updated n ds rs) e ∙ ap (λ (xs : List Rule). with_attributes r ds ∷ xs) (none_updated n ds rs (none_of n r.name (rule_names rs) dist e));
    })
    by false e go =
        let next = place_next n r.name (rule_names rs) e in
        let k = position_or_len (bytes_eq n) (rule_names rs) in
        let inner = go (omega (arith, few, next)) in
        let got : get_or (r ∷ rs) (1 + k) d ≡ get_or rs k d = get_next r rs k d in
        subst (IsPut n ds (r ∷ rs) d) (sym next) (record {
          there = ap (λ (x : Rule). bytes_eq n x.name) got ∙ inner.there;
          is = ap (λ (b : Bool). (if b then with_attributes r ds else r) ∷ updated n ds rs) e ∙ ap (λ (xs : List Rule). r ∷ xs) inner.is
              ∙ sym (set_next r rs k (with_attributes (get_or rs k d) ds)) ∙ ap (λ (x : Rule). set (r ∷ rs) (1 + k) (with_attributes x ds)) (sym got);
        })

some_place : (a b k : ℕ) (x : Bool) → nat_lt a b ≡ x → cond x (Some a) None ≡ Some k → (a ≡ k) × (a < b)
some_place a b k true e f = (option_same f, grind (arith, e))
  where
    option_same : Some a ≡ Some k → a ≡ k
    option_same g = cc
some_place a b k false e f = absurd (grind (arith, f))

length_names : (rs : List Rule) → length (rule_names rs) ≡ length rs
length_names [] = refl
length_names (r ∷ rs) = let h = length_names rs in omega (arith, h)

-- what is at the place of a name
pub record IsPlaced (n : List ℕ) (ds : List Declared) (rs : List Rule) (d : Rule) (k : ℕ) : Type 0 where
  pub within : k < length rs
  pub there : same n (get_or rs k d).name ≡ true
  pub is : updated n ds rs ≡ set rs k (with_attributes (get_or rs k d) ds)

pub placed : (n : List ℕ) (ds : List Declared) (rs : List Rule) (d : Rule) (k : ℕ) → is_distinct (rule_names rs) ≡ true → position (bytes_eq n) (rule_names rs) ≡ Some k → IsPlaced n ds rs d k
placed n ds rs d k dist e =
    let at = some_place (position_or_len (bytes_eq n) (rule_names rs)) (length (rule_names rs)) k _ refl e in
    let long = length_names rs in
    let less = at.1 in
    let p = put_is n ds rs d dist (omega (arith, long, less)) in
    subst (IsPlaced n ds rs d) at.0 (record { within = omega (arith, long, less); there = p.there; is = p.is })

none_place : (a b : ℕ) (x : Bool) → nat_lt a b ≡ x → cond x (Some a) None ≡ None → b ≤ a
none_place a b true e f = absurd (grind (arith, f))
none_place a b false e f = grind (arith, e)

none_among : (n : List ℕ) (ms : List (List ℕ)) → length ms ≤ position_or_len (bytes_eq n) ms → is_among ms n ≡ false
none_among n [] h = refl
none_among n (m ∷ ms) h = by (bytes_eq n m) refl (none_among n ms)
  where
    by : (b : Bool) → bytes_eq n m ≡ b → (length ms ≤ position_or_len (bytes_eq n) ms → is_among ms n ≡ false) → is_among (m ∷ ms) n ≡ false
    by true e go = let first = place_first n m ms e in absurd (omega (arith, h, first))
    by false e go = let next = place_next n m ms e in rw e (go (omega (arith, h, next)))

pub not_placed : (n : List ℕ) (ds : List Declared) (rs : List Rule) → position (bytes_eq n) (rule_names rs) ≡ None → updated n ds rs ≡ rs
not_placed n ds rs e = none_updated n ds rs (none_among n (rule_names rs) (none_place (position_or_len (bytes_eq n) (rule_names rs)) (length (rule_names rs)) _ refl e))

-- Each rule has few attributes.

pub few_at : (rs : List Rule) (k : ℕ) (d : Rule) → HaveFew rs → k < length rs → HasFew (get_or rs k d)
few_at [] k d h less = absurd (omega (arith, less))
few_at (r ∷ rs) zero d h less = h.0
few_at (r ∷ rs) (suc k) d h less = few_at rs k d h.1 (omega (arith, less))

pub few_set : (rs : List Rule) (k : ℕ) (v : Rule) → HaveFew rs → HasFew v → HaveFew (set rs k v)
few_set [] zero v h few = tt
few_set [] (suc k) v h few = tt
few_set (r ∷ rs) zero v h few = (few, h.1)
few_set (r ∷ rs) (suc k) v h few = (h.0, few_set rs k v h.1 few)
